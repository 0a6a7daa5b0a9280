-- Rows of cells are read again from where the cells stand: by the row, and from the left to the right.
use Rattle.std.proofs.Common.{◌≡◌, ℕ, zero, suc, ◌+◌, ◌<◌, ◌≤◌, ◌==◌, ◌⊎◌, inl, inr, Bool, true, false, cond, nat_eq, List, [], ◌∷◌, map, filter, length, flat_map, slice_index, refl, sym, ap, ap₂, ◌∙◌, arith, eq-eqb, eqb-true, IsPermutation}
use Rattle.std.specs.List.{All}
use Rattle.std.specs.List.Sorted.{IsNonDecreasingBy}
use Rattle.std.proofs.lemmas.Bool.{cases_lt, eqb-false, ne_eqb}
use Rattle.std.proofs.lemmas.List.Elements.{All-head, All-tail}
use Rattle.std.proofs.lemmas.List.Sorted.{IsPermutation-map, sum_by-IsPermutation, All-permutation}
use Rattle.row_meaning.specs.Rows.{row_at, cell_at, x_of, row_of, times_in, times}
use Rattle.row_meaning.specs.First.{numbers}
use Rattle.row_meaning.proofs.Counting.{times_yes, times_no, times_rows, stands_once, lead, x_of_at}
use Rattle.row_meaning.proofs.Numbering.{row_is, found, times_flat}
use Rattle.row_fill.proofs.Once.{at_most_once, inside}
use Rattle.ocp_figure.specs.declared.stands.Stand.{Stand}
use Rattle.ocp_figure.specs.Stands.{numbers_in, AreReadRows}
use Rattle.ocp_figure.proofs.Filled.{stays}

-- ---- lists in order

-- f rises from each to those behind it
abbrev Rises : (ℕ → ℕ) → List ℕ → Type 0
Rises f [] = Unit {0}
Rises f (a ∷ rest) = ((b : ℕ) → 0 < times_in rest b → f a < f b) × Rises f rest

-- or stays
abbrev Climbs : (ℕ → ℕ) → List ℕ → Type 0
Climbs f [] = Unit {0}
Climbs f (a ∷ rest) = ((b : ℕ) → 0 < times_in rest b → f a ≤ f b) × Climbs f rest

same_behind : (x : ℕ) (xs ys : List ℕ) → ((c : ℕ) → times_in (x ∷ xs) c ≡ times_in (x ∷ ys) c) → (c : ℕ) → times_in xs c ≡ times_in ys c
same_behind x xs ys same c = by (x == c) refl where
  by : (t : Bool) → (x == c) ≡ t → times_in xs c ≡ times_in ys c
  by true e = let a = times_yes x xs c e in let b = times_yes x ys c e in let s = same c in omega arith
  by false e = let a = times_no x xs c e in let b = times_no x ys c e in let s = same c in omega arith

-- two lists of the same numbers, along one of which f rises, are one list
same_order : (f : ℕ → ℕ) (xs ys : List ℕ) → Rises f xs → Climbs f ys → ((c : ℕ) → times_in xs c ≡ times_in ys c) → xs ≡ ys
same_order f [] [] a b same = refl
same_order f [] (y ∷ ys) a b same = let e = same y in let t = times_yes y ys y (eq-eqb y y refl) in absurd (omega arith)
same_order f (x ∷ xs) [] a b same = let e = same x in let t = times_yes x xs x (eq-eqb x x refl) in absurd (omega arith)
same_order f (x ∷ xs) (y ∷ ys) a b same = by (y == x) refl (λ rest. same_order f xs ys a.1 b.1 rest) where
  by : (t : Bool) → (y == x) ≡ t → (((c : ℕ) → times_in xs c ≡ times_in ys c) → xs ≡ ys) → x ∷ xs ≡ y ∷ ys
  by true e next =
      let is : y ≡ x = eqb-true y x e in
      ap₂ (λ (z : ℕ) (zs : List ℕ). z ∷ zs) (sym is)
      (next (same_behind x xs ys (λ c. same c ∙ ap (λ (z : ℕ). times_in (z ∷ ys) c) is)))
  by false e next =
      let apart : (x == y) ≡ false = ne_eqb x y (λ g. eqb-false y x e (sym g)) in
      let p = same x in let q = times_yes x xs x (eq-eqb x x refl) in let r = times_no y ys x e in
      let s = same y in let t = times_yes y ys y (eq-eqb y y refl) in let u = times_no x xs y apart in
      let first = a.0 y (omega arith) in
      let second = b.0 x (omega arith) in
      absurd (omega arith)

-- where a number stands in a list
place_in : (row : List ℕ) (c : ℕ) → 0 < times_in row c → (k : ℕ) × (k < length row) × (slice_index row k ≡ c)
place_in [] c h = absurd (omega arith)
place_in (d ∷ row) c h = by (d == c) refl (place_in row c) where
  by : (t : Bool) → (d == c) ≡ t → (0 < times_in row c → (k : ℕ) × (k < length row) × (slice_index row k ≡ c)) → (k : ℕ) × (k < length (d ∷ row)) × (slice_index (d ∷ row) k ≡ c)
  by true e next = (0, omega arith, eqb-true d c e)
  by false e next = let r = next (let a = times_no d row c e in omega arith) in let l = r.1 in (suc r.0, omega arith, r.2)

-- cells that have a width begin one behind another
rises_row : (w : List ℕ) (f : ℕ → ℕ) (base : ℕ) (row : List ℕ) → ((k : ℕ) → k < length row → f (slice_index row k) ≡ base + lead w row k)
    → ((k : ℕ) → k < length row → 0 < slice_index w (slice_index row k)) → Rises f row
rises_row w f base [] is wide = tt
rises_row w f base (d ∷ row) is wide = (
  λ b h.
      let p = place_in row b h in
      let low = p.1 in
      let here = is 0 (omega arith) in
      let there = is (suc p.0) (omega arith) in
      let at = ap f p.2 in
      let some = wide 0 (omega arith) in
      omega arith,
  rises_row w f (base + slice_index w d) row
      (λ k l. is (suc k) (omega arith) ∙ (let e : base + (slice_index w d + lead w row k) ≡ (base + slice_index w d) + lead w row k = omega arith in e))
      (λ k l. wide (suc k) (omega arith)),
)

-- ---- instances in order

abbrev number_of : Stand → ℕ
number_of s = s.number

-- a number among those of some instances
number_back : (P : Stand → Type 0) (p : Stand → Bool) (ss : List Stand) (b : ℕ) → All P ss → 0 < times_in (map number_of (filter p ss)) b → (s : Stand) × P s × (s.number ≡ b)
number_back P p [] b all h = absurd (omega arith)
number_back P p (s ∷ rest) b all h = by (p s) h (number_back P p rest b (All-tail P s rest all)) where
  by : (t : Bool) → 0 < times_in (map number_of (cond t (s ∷ filter p rest) (filter p rest))) b
      → (0 < times_in (map number_of (filter p rest)) b → (t : Stand) × P t × (t.number ≡ b)) → (t : Stand) × P t × (t.number ≡ b)
  by false g next = next g
  by true g next = at (s.number == b) refl where
    at : (t : Bool) → (s.number == b) ≡ t → (t : Stand) × P t × (t.number ≡ b)
    at true e = (s, All-head P s rest all, eqb-true s.number b e)
    at false e = next (let a = times_no s.number (map number_of (filter p rest)) b e in omega arith)

climbs : (f : ℕ → ℕ) (p : Stand → Bool) (ss : List Stand) → IsNonDecreasingBy (λ s. s.x) ss → All (λ s. f s.number ≡ s.x) ss → Climbs f (map number_of (filter p ss))
climbs f p [] up all = tt
climbs f p (s ∷ rest) up all =
    by (p s) (climbs f p rest (λ i j d le lt. up (suc i) (suc j) d (omega arith) (omega arith)) (All-tail (λ t. f t.number ≡ t.x) s rest all)) where
      behind : All (λ t. (s.x ≤ t.x) × (f t.number ≡ t.x)) rest
      behind k d l = (up 0 (suc k) d (omega arith) (omega arith), all (suc k) d (omega arith))

      by : (t : Bool) → Climbs f (map number_of (filter p rest)) → Climbs f (map number_of (cond t (s ∷ filter p rest) (filter p rest)))
      by false next = next
      by true next = (
        λ b h.
            let r = number_back (λ t. (s.x ≤ t.x) × (f t.number ≡ t.x)) p rest b behind h in
            let one = r.1.0 in let two = r.1.1 in
            let own = All-head (λ t. f t.number ≡ t.x) s rest all in
            let at = ap f r.2 in
            omega arith,
        next,
      )

-- those that stand in a row
in_row : (row : ℕ → ℕ) (r : ℕ) (ss : List Stand) → All (λ s. row s.number ≡ s.row) ss → (c : ℕ) → row c ≡ r → times_in (numbers_in r ss) c ≡ times_in (map number_of ss) c
in_row row r [] all c e = refl
in_row row r (s ∷ rest) all c e = by (nat_eq s.row r) refl (in_row row r rest (All-tail (λ t. row t.number ≡ t.row) s rest all) c e) where
  by : (t : Bool) → nat_eq s.row r ≡ t → times_in (numbers_in r rest) c ≡ times_in (map number_of rest) c
      → times_in (map number_of (cond t (s ∷ filter (stays r) rest) (filter (stays r) rest))) c ≡ times_in (s.number ∷ map number_of rest) c
  by true g next = at (s.number == c) refl where
    at : (t : Bool) → (s.number == c) ≡ t → times_in (s.number ∷ numbers_in r rest) c ≡ times_in (s.number ∷ map number_of rest) c
    at true h = let a = times_yes s.number (numbers_in r rest) c h in let b = times_yes s.number (map number_of rest) c h in omega arith
    at false h = let a = times_no s.number (numbers_in r rest) c h in let b = times_no s.number (map number_of rest) c h in omega arith
  by false g next =
      let apart : (s.number == c) ≡ false = ne_eqb s.number c (λ h.
      eqb-false s.row r g (sym (All-head (λ t. row t.number ≡ t.row) s rest all) ∙ ap row h ∙ e)) in
      next ∙ sym (times_no s.number (map number_of rest) c apart)

not_in_row : (row : ℕ → ℕ) (r : ℕ) (ss : List Stand) → All (λ s. row s.number ≡ s.row) ss → (c : ℕ) → (row c ≡ r → ⊥) → times_in (numbers_in r ss) c ≡ 0
not_in_row row r [] all c no_row = refl
not_in_row row r (s ∷ rest) all c no_row = by (nat_eq s.row r) refl (not_in_row row r rest (All-tail (λ t. row t.number ≡ t.row) s rest all) c no_row) where
  by : (t : Bool) → nat_eq s.row r ≡ t → times_in (numbers_in r rest) c ≡ 0 → times_in (map number_of (cond t (s ∷ filter (stays r) rest) (filter (stays r) rest))) c ≡ 0
  by false g next = next
  by true g next =
      let apart : (s.number == c) ≡ false = ne_eqb s.number c (λ h.
      no_row (sym (ap row h) ∙ All-head (λ t. row t.number ≡ t.row) s rest all ∙ eqb-true s.row r g)) in
      times_no s.number (numbers_in r rest) c apart ∙ next

-- lists of rows
same_rows : (xs ys : List (List ℕ)) → length xs ≡ length ys → ((r : ℕ) → r < length xs → row_at xs r ≡ row_at ys r) → xs ≡ ys
same_rows [] [] e each = refl
same_rows [] (y ∷ ys) e each = absurd (omega arith)
same_rows (x ∷ xs) [] e each = absurd (omega arith)
same_rows (x ∷ xs) (y ∷ ys) e each =
    ap₂ (λ (z : List ℕ) (zs : List (List ℕ)). z ∷ zs) (each 0 (omega arith)) (same_rows xs ys (omega arith) (λ r l. each (suc r) (omega arith)))

row_fewer : (rows : List (List ℕ)) (r c : ℕ) → times_in (row_at rows r) c ≤ times rows c
row_fewer [] r c = omega arith
row_fewer (row ∷ rows) zero c = let a = times_rows row rows c in omega arith
row_fewer (row ∷ rows) (suc r) c = let a = times_rows row rows c in let b = row_fewer rows r c in omega arith

-- ---- the rows that are read

module _ (w : List ℕ) (left n : ℕ) (rows : List (List ℕ)) (once : IsPermutation (flat_map (λ row. row) rows) (numbers 0 n)) (wide : (c : ℕ) → c < n → 0 < slice_index w c) where
  abbrev begin : ℕ → ℕ
  begin c = x_of w left rows c 0

  abbrev row : ℕ → ℕ
  row c = row_of 0 rows c 0

  rises : (r : ℕ) → Rises begin (row_at rows r)
  rises r =
      rises_row w begin left (row_at rows r)
      (λ k l. x_of_at w left rows r k 0 l (at_most_once rows n once (cell_at rows r k)))
      (λ k l. wide (cell_at rows r k) (inside rows n once r k l))

  stands_at : (r k : ℕ) → k < length (row_at rows r) → row (cell_at rows r k) ≡ r
  stands_at r k l = row_is 0 rows r k 0 l (at_most_once rows n once (cell_at rows r k)) ∙ (let e : 0 + r ≡ r = omega arith in e)

  all_there : (r c : ℕ) → row c ≡ r → times_in (row_at rows r) c ≡ times rows c
  all_there r c e = by (cases_lt 0 (times rows c)) where
    by : (0 < times rows c) ⊎ (times rows c ≤ 0) → times_in (row_at rows r) c ≡ times rows c
    by (inr l) = let a = row_fewer rows r c in omega arith
    by (inl l) =
        let at = found rows c l in
        let here : at.row ≡ r = sym (stands_at at.row at.place at.inside) ∙ ap row at.is ∙ e in
        let some : 0 < times_in (row_at rows at.row) (cell_at rows at.row at.place) = stands_once (row_at rows at.row) at.place at.inside in
        let same : times_in (row_at rows at.row) (cell_at rows at.row at.place) ≡ times_in (row_at rows r) c =
        ap₂ (λ (s d : ℕ). times_in (row_at rows s) d) here at.is in
        let a = row_fewer rows r c in
        let b = at_most_once rows n once c in
        omega arith

  none_there : (r c : ℕ) → (row c ≡ r → ⊥) → times_in (row_at rows r) c ≡ 0
  none_there r c other = by (cases_lt 0 (times_in (row_at rows r) c)) where
    by : (0 < times_in (row_at rows r) c) ⊎ (times_in (row_at rows r) c ≤ 0) → times_in (row_at rows r) c ≡ 0
    by (inr l) = omega arith
    by (inl l) = let p = place_in (row_at rows r) c l in absurd (other (sym (ap row p.2) ∙ stands_at r p.0 p.1))

  module _ (stands : List Stand) (listed : map number_of stands ≡ numbers 0 n) (at_x : All (λ s. begin s.number ≡ s.x) stands) (at_row : All (λ s. row s.number ≡ s.row) stands)
      (made : List (List ℕ)) (are : AreReadRows (length rows) stands made) where
    sorted_rows : All (λ s. row s.number ≡ s.row) are.sorted
    sorted_rows = All-permutation (λ s. row s.number ≡ s.row) stands are.sorted are.same at_row

    times_sorted : (c : ℕ) → times_in (map number_of are.sorted) c ≡ times rows c
    times_sorted c =
        let a = sum_by-IsPermutation (λ (d : ℕ). cond (d == c) 1 0) (map number_of stands) (map number_of are.sorted) (IsPermutation-map number_of stands are.sorted are.same) in
        let b = ap (λ (ns : List ℕ). times_in ns c) listed in
        let d = times_flat rows c in
        let e = sum_by-IsPermutation (λ (d : ℕ). cond (d == c) 1 0) (flat_map (λ row. row) rows) (numbers 0 n) once in
        omega arith

    same_times : (r c : ℕ) → times_in (row_at rows r) c ≡ times_in (numbers_in r are.sorted) c
    same_times r c = by (row c == r) refl where
      by : (t : Bool) → (row c == r) ≡ t → times_in (row_at rows r) c ≡ times_in (numbers_in r are.sorted) c
      by true e = let g = eqb-true (row c) r e in all_there r c g ∙ sym (times_sorted c) ∙ sym (in_row row r are.sorted sorted_rows c g)
      by false e = let g = eqb-false (row c) r e in none_there r c g ∙ sym (not_in_row row r are.sorted sorted_rows c g)

    row_again : (r : ℕ) → row_at rows r ≡ numbers_in r are.sorted
    row_again r =
        same_order begin (row_at rows r) (numbers_in r are.sorted) (rises r)
        (climbs begin (stays r) are.sorted are.rising (All-permutation (λ s. begin s.number ≡ s.x) stands are.sorted are.same at_x))
        (same_times r)

    -- what is read are these rows
    pub read_again : made ≡ rows
    read_again = let many = are.many in same_rows made rows are.many (λ r l. are.each r (omega arith) ∙ sym (row_again r))
