-- Where the instances of rows stand, by their numbers.
use Rattle.std.proofs.Common.{◌≡◌, ℕ, zero, suc, ◌+◌, ◌*◌, ◌%◌, ◌≤◌, ◌<◌, ◌==◌, Bool, true, false, not, List, [], ◌∷◌, ◌++◌, map, length, slice_index, max, cond, ◌-◌, refl, sym, ap, ap₂, ◌∙◌, subst, arith}
use Rattle.std.specs.Prelude.{ℤ, pos, ◌+ℤ◌, ◌-ℤ◌, flat_map, IsPermutation, Some}
use Rattle.std.specs.Int.{int_max}
use Rattle.std.proofs.lemmas.Int.{ints, int_max_is}
use Rattle.std.proofs.lemmas.List.{map-append}
use Rattle.std.proofs.lemmas.List.Sums.{sum_by-cons}
use Rattle.std.proofs.lemmas.List.Sorted.{IsPermutation-map}
use Rattle.sym_geom.specs.declared.grid.TheConstants.{FIRST_CELL_X}
use Rattle.sym_geom.specs.declared.rect.Transform.{Transform}
use Rattle.sym_geom.specs.declared.item.Instance.{Instance}
use Rattle.cell_model.specs.Cell.{Cell, cell_height}
use Rattle.cell_model.specs.Library.{Library}
use Rattle.net_meaning.specs.Netlist.{Member}
use Rattle.ocp_rows.specs.Placement.{model_width, standing, standing_rows, turn_of, row_width, rows_width}
use Rattle.ocp_rows.specs.Length.{shown_point}
use Rattle.row_meaning.specs.Rows.{row_at, cell_at, x_of, row_of}
use Rattle.row_meaning.specs.Rows as number
use Rattle.row_meaning.specs.First.{numbers}
use Rattle.row_meaning.specs.Length.{y_at}
use Rattle.row_meaning.proofs.Counting.{lead, x_of_at}
use Rattle.row_meaning.proofs.Numbering.{row_is}
use Rattle.row_fill.proofs.Once.{at_most_once, inside}
use Rattle.ocp_place.specs.Stood.{member, named_rows, is_turned, stood, stood_all}

-- turned upside down r times
abbrev flip : ℕ → Bool → Bool
flip zero f = f
flip (suc r) f = flip r (not f)

flip_is : (r : ℕ) → flip r false ≡ is_turned r
flip_is zero = refl
flip_is (suc zero) = refl
flip_is (suc (suc r)) = flip_is r ∙ ap (λ (m : ℕ). not (m == 0)) (let e : r % 2 ≡ suc (suc r) % 2 = omega arith in e)

-- an instance of a row
abbrev placed : Transform → ℤ → ℤ → Member → Instance
placed turn x y m = record { x = x; y = y; model = m.model; name = m.name; transform = turn }

module _ (l : Library) (ms : List Member) (w : List ℕ) (f : ℕ → Instance) where
  row_stands : (turn : Transform) (y : ℤ) (x : ℕ) (row : List ℕ)
      → ((k : ℕ) → k < length row → f (slice_index row k) ≡ placed turn (pos (x + lead w row k)) y (member ms (slice_index row k)))
      → ((k : ℕ) → k < length row → model_width l (member ms (slice_index row k)).model ≡ pos (slice_index w (slice_index row k)))
      → standing l turn y (pos x) (map (member ms) row) ≡ map f row
  row_stands turn y x [] is wide = refl
  row_stands turn y x (d ∷ row) is wide =
      let first : placed turn (pos x) y (member ms d) ≡ f d =
      ap (λ (z : ℕ). placed turn (pos z) y (member ms d)) (let e : x ≡ x + 0 = omega arith in e) ∙ sym (is 0 (omega arith)) in
      let rest = row_stands turn y (x + slice_index w d) row
      (λ k m. is (suc k) (omega arith) ∙ ap (λ (z : ℕ). placed turn (pos z) y (member ms (slice_index row k)))
      (let e : x + (slice_index w d + lead w row k) ≡ (x + slice_index w d) + lead w row k = omega arith in e))
      (λ k m. wide (suc k) (omega arith)) in
      ap (λ (z : ℤ). placed turn (pos x) y (member ms d) ∷ standing l turn y (pos x +ℤ z) (map (member ms) row)) (wide 0 (omega arith))
      ∙ ap₂ (λ (i : Instance) (is : List Instance). i ∷ is) first rest

  rows_stand : (flipped : Bool) (y : ℕ) (rows : List (List ℕ))
      → ((r k : ℕ) → k < length (row_at rows r) → f (cell_at rows r k)
      ≡ placed (turn_of (flip r flipped)) (pos (FIRST_CELL_X + lead w (row_at rows r) k)) (pos (y + 5000 * r)) (member ms (cell_at rows r k)))
      → ((r k : ℕ) → k < length (row_at rows r) → model_width l (member ms (cell_at rows r k)).model ≡ pos (slice_index w (cell_at rows r k)))
      → standing_rows l flipped (pos y) (named_rows ms rows) ≡ map f (flat_map (λ row. row) rows)
  rows_stand flipped y [] is wide = refl
  rows_stand flipped y (row ∷ rows) is wide =
      let first = row_stands (turn_of flipped) (pos y) FIRST_CELL_X row
      (λ k m. is 0 k m ∙ ap (λ (z : ℕ). placed (turn_of flipped) (pos (FIRST_CELL_X + lead w row k)) (pos z) (member ms (slice_index row k)))
      (let e : y + 5000 * 0 ≡ y = omega arith in e))
      (λ k m. wide 0 k m) in
      let rest = rows_stand (not flipped) (y + 5000) rows
      (λ r k m. is (suc r) k m ∙ ap (λ (z : ℕ). placed (turn_of (flip r (not flipped))) (pos (FIRST_CELL_X + lead w (row_at rows r) k)) (pos z) (member ms (cell_at rows r k)))
      (let e : y + 5000 * suc r ≡ (y + 5000) + 5000 * r = omega arith in e))
      (λ r k m. wide (suc r) k m) in
      ap₂ (λ (a b : List Instance). a ++ b) first rest ∙ sym (map-append f row (flat_map (λ one. one) rows))

-- ---- in the netlist's order

in_order : (ms : List Member) (xs rs : List ℕ) (k : ℕ) (g : ℕ → Instance) → length xs ≡ length ms → length rs ≡ length ms
    → ((i : ℕ) → i < length ms → g (k + i) ≡ stood (member ms i) (slice_index xs i) (slice_index rs i)) → map g (numbers k (length ms)) ≡ stood_all ms xs rs
in_order [] xs rs k g a b is = refl
in_order (m ∷ ms) [] rs k g a b is = absurd (omega arith)
in_order (m ∷ ms) (x ∷ xs) [] k g a b is = absurd (omega arith)
in_order (m ∷ ms) (x ∷ xs) (r ∷ rs) k g a b is =
    let first : g k ≡ stood m x r = ap g (let e : k ≡ k + 0 = omega arith in e) ∙ is 0 (omega arith) in
    let rest = in_order ms xs rs (suc k) g (omega arith) (omega arith)
    (λ i l. ap g (let e : suc k + i ≡ k + suc i = omega arith in e) ∙ is (suc i) (omega arith)) in
    ap₂ (λ (i : Instance) (is : List Instance). i ∷ is) first rest

module _ (l : Library) (ms : List Member) (w : List ℕ) (rows : List (List ℕ)) (once : IsPermutation (flat_map (λ row. row) rows) (numbers 0 (length ms)))
    (wide : (c : ℕ) → c < length ms → model_width l (member ms c).model ≡ pos (slice_index w c)) where
  -- the instances stand in the rows, in another order
  pub all_stand : (starts row_numbers : List ℕ) → length starts ≡ length ms → length row_numbers ≡ length ms
      → ((c : ℕ) → c < length ms → slice_index starts c ≡ x_of w FIRST_CELL_X rows c 0) → ((c : ℕ) → c < length ms → slice_index row_numbers c ≡ row_of 0 rows c 0)
      → IsPermutation (standing_rows l false (pos 0) (named_rows ms rows)) (stood_all ms starts row_numbers)
  all_stand starts row_numbers many_starts many_rows starts_are rows_are =
      let f : ℕ → Instance = λ c. stood (member ms c) (slice_index starts c) (slice_index row_numbers c) in
      let is : standing_rows l false (pos 0) (named_rows ms rows) ≡ map f (flat_map (λ row. row) rows) =
      rows_stand l ms w f false 0 rows at (λ r k m. wide (cell_at rows r k) (inside rows (length ms) once r k m)) in
      let ordered : map f (numbers 0 (length ms)) ≡ stood_all ms starts row_numbers = in_order ms starts row_numbers 0 f many_starts many_rows (λ i m. ap f (let e : 0 + i ≡ i = omega arith in e)) in
      let P : List Instance → Type 0 = λ is. IsPermutation is (stood_all ms starts row_numbers) in
      let Q : List Instance → Type 0 = λ is. IsPermutation (map f (flat_map (λ row. row) rows)) is in
      subst P (sym is) (subst Q ordered (IsPermutation-map f (flat_map (λ row. row) rows) (numbers 0 (length ms)) once))
    where
      at : (r k : ℕ) → k < length (row_at rows r)
          → stood (member ms (cell_at rows r k)) (slice_index starts (cell_at rows r k)) (slice_index row_numbers (cell_at rows r k))
          ≡ placed (turn_of (flip r false)) (pos (FIRST_CELL_X + lead w (row_at rows r) k)) (pos (0 + 5000 * r)) (member ms (cell_at rows r k))
      at r k m =
          let c = cell_at rows r k in
          let low = inside rows (length ms) once r k m in
          let one = at_most_once rows (length ms) once c in
          let x : slice_index starts c ≡ FIRST_CELL_X + lead w (row_at rows r) k = starts_are c low ∙ x_of_at w FIRST_CELL_X rows r k 0 m one in
          let row : slice_index row_numbers c ≡ r = rows_are c low ∙ row_is 0 rows r k 0 m one ∙ (let e : 0 + r ≡ r = omega arith in e) in
          ap₂ (λ (a b : ℕ). stood (member ms c) a b) x row
          ∙ ap (λ (t : Bool). placed (turn_of t) (pos (FIRST_CELL_X + lead w (row_at rows r) k)) (pos (5000 * r)) (member ms c)) (sym (flip_is r))
          ∙ ap (λ (y : ℕ). placed (turn_of (flip r false)) (pos (FIRST_CELL_X + lead w (row_at rows r) k)) (pos y) (member ms c)) (let e : 5000 * r ≡ 0 + 5000 * r = omega arith in e)

  row_wide : (row : List ℕ) → ((k : ℕ) → k < length row → slice_index row k < length ms) → row_width l (map (member ms) row) ≡ pos (number.row_width w row)
  row_wide [] all = refl
  row_wide (d ∷ row) all =
      let first = wide d (all 0 (omega arith)) in
      let rest = row_wide row (λ k m. all (suc k) (omega arith)) in
      let sum = sum_by-cons (slice_index w) d row in
      ap₂ (λ (a b : ℤ). a +ℤ b) first rest ∙ ap pos (sym sum)

  rows_wide : (some : List (List ℕ)) → ((r k : ℕ) → k < length (row_at some r) → cell_at some r k < length ms) → rows_width l (named_rows ms some) ≡ pos (number.rows_width w some)
  rows_wide [] all = refl
  rows_wide (row ∷ some) all =
      let a = number.row_width w row in
      let b = number.rows_width w some in
      let most = int_max_is (pos a) (pos b) in
      ap₂ (λ (x y : ℤ). int_max x y) (row_wide row (λ k m. all 0 k m)) (rows_wide some (λ r k m. all (suc r) k m))
      ∙ (let e : int_max (pos a) (pos b) ≡ pos (max a b) = omega (arith, ints) in e)

  -- how wide the widest row is
  pub widest_is : pos (number.rows_width w rows) ≡ rows_width l (named_rows ms rows)
  widest_is = sym (rows_wide rows (λ r k m. inside rows (length ms) once r k m))

-- ---- a point

-- as an instance of a row shows it
pub shown : (c : Cell) (r x : ℕ) (m : Member) (a b : ℕ) → cell_height c ≡ pos 5000 → b ≤ 5000
    → shown_point c (stood m x r) (Some (pos a, pos b)) ≡ Some (pos (x + a), pos (y_at r b))
shown c r x m a b high l = by (r % 2 == 0) where
  by : (t : Bool) → shown_point c (placed (turn_of (not t)) (pos x) (pos (5000 * r)) m) (Some (pos a, pos b)) ≡ Some (pos (x + a), pos (cond t (5000 * r + b) (5000 * r + (5000 - b))))
  by true =
      let e : (pos a -ℤ pos 0) +ℤ pos x ≡ pos (x + a) = omega (arith, ints) in
      let f : (pos b -ℤ pos 0) +ℤ pos (5000 * r) ≡ pos (5000 * r + b) = omega (arith, ints) in
      ap₂ (λ (p q : ℤ). Some (p, q)) e f
  by false =
      let e : (pos a -ℤ pos 0) +ℤ pos x ≡ pos (x + a) = omega (arith, ints) in
      let f : (pos 5000 -ℤ (pos b +ℤ (pos 0 -ℤ pos 0))) +ℤ pos (5000 * r) ≡ pos (5000 * r + (5000 - b)) = omega (arith, ints) in
      ap₂ (λ (p q : ℤ). Some (p, q)) e (ap (λ (h : ℤ). (h -ℤ (pos b +ℤ (pos 0 -ℤ pos 0))) +ℤ pos (5000 * r)) high ∙ f)
