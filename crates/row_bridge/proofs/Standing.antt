-- The points of pins of instances in rows, by their numbers.
use Rattle.std.proofs.Common.{◌≡◌, ℕ, zero, suc, ◌+◌, ◌<◌, Bool, true, false, List, [], ◌∷◌, ◌++◌, map, length, slice_index, Some, None, refl, sym, ap, ap₂, subst, ◌∙◌, arith}
use Rattle.std.specs.Prelude.{pos, slice_get, IsPermutation, Contains}
use Rattle.std.proofs.lemmas.Bool.{cond-true, cond-false}
use Rattle.std.proofs.lemmas.List.{length-map}
use Rattle.std.proofs.lemmas.List.Sorted.{IsPermutation-sym, Contains-permutation}
use Rattle.std.proofs.lemmas.Option.{slice_get_within, get_or_from_slice_get}
use Rattle.vlsi_base.specs.declared.name.Name.{Name}
use Rattle.vlsi_base.specs.Member.{In, here, there}
use Rattle.sym_geom.specs.declared.grid.TheConstants.{FIRST_CELL_X}
use Rattle.sym_geom.specs.declared.item.Instance.{Instance}
use Rattle.machine_core.specs.Named.{is_same_text}
use Rattle.cell_model.specs.Library.{Library, cell_of}
use Rattle.cell_model.proofs.Texts.{text_same, text_itself}
use Rattle.net_meaning.specs.Netlist.{Member, AbstractNetlist}
use Rattle.net_drawing.proofs.Coding.{In_get, get_In, get_there}
use Rattle.row_meaning.specs.Rows.{x_of, row_of}
use Rattle.row_meaning.specs.First.{numbers}
use Rattle.row_fill.proofs.Once.{how_many}
use Rattle.ocp_rows.specs.Placement.{standing_rows}
use Rattle.ocp_rows.specs.Length.{pin_point, instance_point}
use Rattle.ocp_place.specs.Orderly.{IsOrderly}
use Rattle.ocp_place.specs.Stood.{member, named_rows, stood, stood_all, instance_widths}
use Rattle.ocp_place.proofs.RowSited.{as_member, stood_back, stood_one}
use Rattle.ocp_place.proofs.Turned.{all_stand}
use Rattle.row_bridge.specs.Law.{HoldEachOnce}
use Rattle.row_bridge.specs.Numbered.{number_of}
use Rattle.row_bridge.proofs.Cells.{width_at}
use Rattle.row_bridge.proofs.Names.{number_none}

-- ---- lists

permuted_in : {A : Type 0} (xs ys : List A) (x : A) → IsPermutation xs ys → In x ys → In x xs
permuted_in xs ys x p h = contained (Contains-permutation ys xs x (IsPermutation-sym xs ys p) (containing (get_In ys x h))) where
  containing : (k : ℕ) × (slice_get ys k ≡ Some x) → Contains ys x
  containing r = (r.0, slice_get_within ys r.0 x r.1, get_or_from_slice_get ys r.0 x x r.1)

  contained : Contains xs x → In x xs
  contained c =
      let r = get_there xs c.0 c.1 in
      let f : r.0 ≡ x = sym (get_or_from_slice_get xs c.0 r.0 x r.1) ∙ c.2 in
      subst (λ v. In v xs) f (In_get xs c.0 r.0 r.1)

-- values of a function by number
abbrev by_number : (ℕ → ℕ) → ℕ → List ℕ
by_number f n = map f (numbers 0 n)

many_by : (f : ℕ → ℕ) (n : ℕ) → length (by_number f n) ≡ n
many_by f n = length-map (numbers 0 n) f ∙ how_many 0 n

value_by : (f : ℕ → ℕ) (n i : ℕ) → i < n → slice_index (by_number f n) i ≡ f i
value_by f n i low = at 0 n i low ∙ ap f (let e : 0 + i ≡ i = omega arith in e) where
  at : (k m j : ℕ) → j < m → slice_index (map f (numbers k m)) j ≡ f (k + j)
  at k zero j l = absurd (omega arith)
  at k (suc m) zero l = ap f (let e : k ≡ k + 0 = omega arith in e)
  at k (suc m) (suc j) l = at (suc k) m j (omega arith) ∙ ap f (let e : suc k + j ≡ k + suc j = omega arith in e)

-- ---- instances

stood_at : (ms : List Member) (xs rs : List ℕ) (i : ℕ) → length xs ≡ length ms → length rs ≡ length ms → i < length ms
    → In (stood (member ms i) (slice_index xs i) (slice_index rs i)) (stood_all ms xs rs)
stood_at [] xs rs i a b low = absurd (omega arith)
stood_at (m ∷ ms) [] rs i a b low = absurd (omega arith)
stood_at (m ∷ ms) (x ∷ xs) [] i a b low = absurd (omega arith)
stood_at (m ∷ ms) (x ∷ xs) (r ∷ rs) zero a b low = here
stood_at (m ∷ ms) (x ∷ xs) (r ∷ rs) (suc i) a b low = there (stood_at ms xs rs i (omega arith) (omega arith) (omega arith))

-- the pin of the one instance of a name
point_found : (l : Library) (all : List Instance) (i : Instance) (pin : Name) → ((j : Instance) → In j all → j.name ≡ i.name → j ≡ i) → In i all
    → pin_point l all i.name pin ≡ instance_point (cell_of l i.model) i pin
point_found l [] i pin one h = elim h [ ]
point_found l (j ∷ rest) i pin one h = by (is_same_text j.name i.name) refl h (λ g. point_found l rest i pin (λ k m. one k (there m)) g) where
  later : (k : Instance) → In k (j ∷ rest) → is_same_text j.name k.name ≡ false → In k rest
  later k here e = let t : true ≡ false = sym (text_itself k.name) ∙ e in absurd (cc t)
  later k (there g) e = g

  by : (b : Bool) → is_same_text j.name i.name ≡ b → In i (j ∷ rest) → (In i rest → pin_point l rest i.name pin ≡ instance_point (cell_of l i.model) i pin)
      → pin_point l (j ∷ rest) i.name pin ≡ instance_point (cell_of l i.model) i pin
  by true e g next =
      let same : j ≡ i = one j here (text_same j.name i.name e) in
      cond-true (is_same_text j.name i.name) (instance_point (cell_of l j.model) j pin) (pin_point l rest i.name pin) e
      ∙ ap (λ (k : Instance). instance_point (cell_of l k.model) k pin) same
  by false e g next =
      cond-false (is_same_text j.name i.name) (instance_point (cell_of l j.model) j pin) (pin_point l rest i.name pin) e
      ∙ next (later i g e)

point_none : (l : Library) (all : List Instance) (owner : List ℕ) (pin : Name) → ((j : Instance) → In j all → is_same_text j.name owner ≡ false) → pin_point l all owner pin ≡ None
point_none l [] owner pin none = refl
point_none l (j ∷ rest) owner pin none =
    cond-false (is_same_text j.name owner) (instance_point (cell_of l j.model) j pin) (pin_point l rest owner pin) (none j here)
    ∙ point_none l rest owner pin (λ k h. none k (there h))

module _ (n : AbstractNetlist) (l : Library) (last : ℕ) (rows : List (List ℕ)) (orderly : IsOrderly n l) (once : HoldEachOnce (length n.instances) rows) where
  abbrev ms : List Member
  ms = n.instances

  abbrev w : List ℕ
  w = instance_widths l ms ++ last ∷ []

  abbrev begin : ℕ → ℕ
  begin c = x_of w FIRST_CELL_X rows c 0

  abbrev row : ℕ → ℕ
  row c = row_of 0 rows c 0

  abbrev standing : List Instance
  standing = standing_rows l false (pos 0) (named_rows ms rows)

  abbrev there_all : List Instance
  there_all = stood_all ms (by_number begin (length ms)) (by_number row (length ms))

  stand : IsPermutation standing there_all
  stand =
      all_stand l ms w rows once (λ c low. width_at n l orderly last c low) (by_number begin (length ms)) (by_number row (length ms))
      (many_by begin (length ms)) (many_by row (length ms)) (λ c low. value_by begin (length ms) c low) (λ c low. value_by row (length ms) c low)

  there_too : (j : Instance) → In j standing → In j there_all
  there_too j h = permuted_in there_all standing j (IsPermutation-sym standing there_all stand) h

  pub pin_none : (owner : List ℕ) (pin : Name) → number_of 0 ms owner ≡ None → pin_point l standing owner pin ≡ None
  pin_none owner pin e =
      point_none l standing owner pin
      (λ j h. number_none 0 ms owner e (as_member j) (stood_back ms (by_number begin (length ms)) (by_number row (length ms)) j (there_too j h)))

  pub pin_found : (i : ℕ) (pin : Name) → i < length ms
      → pin_point l standing (member ms i).name pin ≡ instance_point (cell_of l (member ms i).model) (stood (member ms i) (begin i) (row i)) pin
  pin_found i pin low =
      let xs = by_number begin (length ms) in
      let rs = by_number row (length ms) in
      let one : stood (member ms i) (slice_index xs i) (slice_index rs i) ≡ stood (member ms i) (begin i) (row i) =
      ap₂ (λ (x r : ℕ). stood (member ms i) x r) (value_by begin (length ms) i low) (value_by row (length ms) i low) in
      let here_too : In (stood (member ms i) (begin i) (row i)) there_all =
      subst (λ (j : Instance). In j there_all) one (stood_at ms xs rs i (many_by begin (length ms)) (many_by row (length ms)) low) in
      point_found l standing (stood (member ms i) (begin i) (row i)) pin
      (λ j h e. stood_one ms xs rs orderly.names j (stood (member ms i) (begin i) (row i)) (there_too j h) here_too e)
      (permuted_in standing there_all (stood (member ms i) (begin i) (row i)) stand here_too)
