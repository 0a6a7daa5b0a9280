-- Where the instances of rows stand, by columns and rows of the grid.
use Rattle.std.proofs.Common.{◌≡◌, ℕ, zero, suc, ◌+◌, ◌*◌, ◌≤◌, ◌⊎◌, inl, inr, ⊎_elim, Bool, not, List, [], ◌∷◌, map, Some, refl, sym, ap, ◌∙◌, subst, arith, max}
use Rattle.std.specs.Prelude.{ℤ, pos, ◌+ℤ◌, slice_get, flat_map, IsPermutation, Contains}
use Rattle.std.proofs.lemmas.Int.{ints, int_max_is}
use Rattle.std.proofs.lemmas.Option.{slice_get_within, get_or_from_slice_get}
use Rattle.std.proofs.lemmas.List.Sorted.{IsPermutation-sym, Contains-permutation}
use Rattle.vlsi_base.specs.Member.{In, here, there}
use Rattle.sym_geom.specs.declared.rect.Transform.{Transform}
use Rattle.sym_geom.specs.declared.item.Instance.{Instance}
use Rattle.cell_model.specs.Library.{Library}
use Rattle.net_meaning.specs.Netlist.{Member}
use Rattle.ocp_rows.specs.Placement.{standing, standing_rows, turn_of, model_width, row_width, rows_width}
use Rattle.block_geom.specs.Figure.{Supply, Vss, Vdd}
use Rattle.block_geom.specs.Block.{at_x, supply_at, other, is_vdd, flip_of}
use Rattle.grid_core.proofs.Lists.{In_either}
use Rattle.net_drawing.proofs.Coding.{In_get, get_In, get_there}
use Rattle.net_drawing.proofs.Cells.{In_first, In_last}
use Rattle.net_drawing.proofs.Numbers.{IsModel, columns_wide, all_columns, wide_is}

-- ---- lists
pub In_contains : {A : Type 0} (xs : List A) (x : A) → In x xs → Contains xs x
In_contains xs x h = let r = get_In xs x h in (r.0, slice_get_within xs r.0 x r.1, get_or_from_slice_get xs r.0 x x r.1)

pub contains_In : {A : Type 0} (xs : List A) (x : A) → Contains xs x → In x xs
contains_In xs x (k, lt, e) =
    let r = get_there xs k lt in
    let f : r.0 ≡ x = sym (get_or_from_slice_get xs k r.0 x r.1) ∙ e in
    subst (λ v. In v xs) f (In_get xs k r.0 r.1)

pub permuted_in : {A : Type 0} (xs ys : List A) (x : A) → IsPermutation xs ys → In x ys → In x xs
permuted_in xs ys x p h = contains_In xs x (Contains-permutation ys xs x (IsPermutation-sym xs ys p) (In_contains ys x h))

pub In_flat : {A B : Type 0} (f : A → List B) (xs : List A) (x : A) (y : B) → In x xs → In y (f x) → In y (flat_map f xs)
In_flat f [] x y h g = elim h [ ]
In_flat f (z ∷ xs) x y here g = In_first (f x) (flat_map f xs) y g
In_flat f (z ∷ xs) x y (there h) g = In_last (f z) (flat_map f xs) y (In_flat f xs x y h g)

pub get_map : {A B : Type 0} (f : A → B) (xs : List A) (i : ℕ) (x : A) → slice_get xs i ≡ Some x → slice_get (map f xs) i ≡ Some (f x)
get_map f [] i x e = absurd (cc e)
get_map f (y ∷ xs) zero x e = let g : y ≡ x = cc in ap (λ v. Some (f v)) g
get_map f (y ∷ xs) (suc i) x e = get_map f xs i x e

same_at : (c d : ℕ) (x : ℤ) → x ≡ at_x c → x ≡ at_x d → c ≡ d
same_at c d x e f = omega (arith, ints)

-- ---- one row
abbrev pub member_of : Instance → Member
member_of i = record { name = i.name; model = i.model }

pub record IsInRow (l : Library) (turn : Transform) (y : ℤ) (from : ℕ) (ms : List Member) (one : Instance) : Type 0 where
  pub column : ℕ
  pub x : one.x ≡ at_x column
  pub start : from ≤ column
  pub end : column + columns_wide l (member_of one) ≤ from + all_columns l ms
  pub y_is : one.y ≡ y
  pub turned : one.transform ≡ turn
  pub member : In (member_of one) ms

pub in_row : (l : Library) (turn : Transform) (y : ℤ) (ms : List Member) (x : ℤ) (k : ℕ) → x ≡ at_x k → ((m : Member) → In m ms → IsModel l m)
    → (one : Instance) → In one (standing l turn y x ms) → IsInRow l turn y k ms one
in_row l turn y [] x k e all one h = elim h [ ]
in_row l turn y (m ∷ rest) x k e all one here = record { column = k; x = e; start = omega arith; end = omega arith; y_is = refl; turned = refl; member = here }
in_row l turn y (m ∷ rest) x k e all one (there h) =
    let w = wide_is l m (all m here) in
    let r = in_row l turn y rest (x +ℤ model_width l m.model) (k + columns_wide l m) (omega (arith, ints)) (λ v g. all v (there g)) one h in
    let a = r.start in let b = r.end in
    record { column = r.column; x = r.x; start = omega arith; end = omega arith; y_is = r.y_is; turned = r.turned; member = there r.member }

-- two of one row are the same or stand beside one another
pub beside : (l : Library) (turn : Transform) (y : ℤ) (ms : List Member) (x : ℤ) (k : ℕ) → x ≡ at_x k → ((m : Member) → In m ms → IsModel l m)
    → (a b : Instance) (c d : ℕ) → In a (standing l turn y x ms) → In b (standing l turn y x ms) → a.x ≡ at_x c → b.x ≡ at_x d
    → (a ≡ b) ⊎ (c + columns_wide l (member_of a) ≤ d) ⊎ (d + columns_wide l (member_of b) ≤ c)
beside l turn y [] x k e all a b c d ha hb ea eb = elim ha [ ]
beside l turn y (m ∷ rest) x k e all a b c d here here ea eb = inl refl
beside l turn y (m ∷ rest) x k e all a b c d here (there hb) ea eb =
    let w = wide_is l m (all m here) in
    let r = in_row l turn y rest (x +ℤ model_width l m.model) (k + columns_wide l m) (omega (arith, ints)) (λ v g. all v (there g)) b hb in
    let p = same_at k c x e ea in let q = same_at d r.column b.x eb r.x in let s = r.start in
    inr (inl (omega arith))
beside l turn y (m ∷ rest) x k e all a b c d (there ha) here ea eb =
    let w = wide_is l m (all m here) in
    let r = in_row l turn y rest (x +ℤ model_width l m.model) (k + columns_wide l m) (omega (arith, ints)) (λ v g. all v (there g)) a ha in
    let p = same_at k d x e eb in let q = same_at c r.column a.x ea r.x in let s = r.start in
    inr (inr (omega arith))
beside l turn y (m ∷ rest) x k e all a b c d (there ha) (there hb) ea eb =
    let w = wide_is l m (all m here) in
    beside l turn y rest (x +ℤ model_width l m.model) (k + columns_wide l m) (omega (arith, ints)) (λ v g. all v (there g)) a b c d ha hb ea eb

-- ---- rows
other_flip : (s : Supply) → not (is_vdd s) ≡ is_vdd (other s)
other_flip Vss = refl
other_flip Vdd = refl

pub next_flip : (j : ℕ) → not (flip_of j) ≡ flip_of (suc j)
next_flip j = other_flip (supply_at j)

pub record IsInRows (l : Library) (rows : List (List Member)) (first : ℕ) (one : Instance) : Type 0 where
  pub row : ℕ
  pub members : List Member
  pub listed : slice_get rows row ≡ Some members
  pub within : In one (standing l (turn_of (flip_of (first + row))) (pos (5000 * (first + row))) (pos 1500) members)

pub in_rows : (l : Library) (rows : List (List Member)) (j : ℕ) (f : Bool) (y : ℤ) → f ≡ flip_of j → y ≡ pos (5000 * j)
    → (one : Instance) → In one (standing_rows l f y rows) → IsInRows l rows j one
in_rows l [] j f y ef ey one h = elim h [ ]
in_rows l (row ∷ rows) j f y ef ey one h =
    ⊎_elim
    (λ g. let a : j ≡ j + 0 = omega arith in
    let g1 : In one (standing l (turn_of (flip_of j)) y (pos 1500) row) = subst (λ v. In one (standing l (turn_of v) y (pos 1500) row)) ef g in
    let g2 : In one (standing l (turn_of (flip_of j)) (pos (5000 * j)) (pos 1500) row) = subst (λ v. In one (standing l (turn_of (flip_of j)) v (pos 1500) row)) ey g1 in
    record { row = 0; members = row; listed = refl; within = subst (λ v. In one (standing l (turn_of (flip_of v)) (pos (5000 * v)) (pos 1500) row)) a g2 })
    (λ g. let r = in_rows l rows (suc j) (not f) (y +ℤ pos 5000) (ap not ef ∙ next_flip j) (omega (arith, ints)) one g in
    let a : suc j + r.row ≡ j + suc r.row = omega arith in
    record { row = suc r.row; members = r.members; listed = r.listed; within = subst (λ v. In one (standing l (turn_of (flip_of v)) (pos (5000 * v)) (pos 1500) r.members)) a r.within })
    (In_either (standing l (turn_of f) y (pos 1500) row) (standing_rows l (not f) (y +ℤ pos 5000) rows) one h)

-- ---- widths
pub row_end : (l : Library) (ms : List Member) → ((m : Member) → In m ms → IsModel l m) → row_width l ms ≡ pos (500 * all_columns l ms)
row_end l [] all = refl
row_end l (one ∷ rest) all = let w = wide_is l one (all one here) in let r = row_end l rest (λ y h. all y (there h)) in omega (arith, ints)

abbrev pub widest : Library → List (List Member) → ℕ
widest l [] = 0
widest l (row ∷ rows) = max (all_columns l row) (widest l rows)

pub widest_is : (l : Library) (rows : List (List Member)) → ((row : List Member) → In row rows → (m : Member) → In m row → IsModel l m) → rows_width l rows ≡ pos (500 * widest l rows)
widest_is l [] all = refl
widest_is l (row ∷ rows) all =
    let a = row_end l row (all row here) in
    let b = widest_is l rows (λ r h. all r (there h)) in
    let c = int_max_is (row_width l row) (rows_width l rows) in
    omega (arith, ints)

pub widest_holds : (l : Library) (rows : List (List Member)) (row : List Member) → In row rows → all_columns l row ≤ widest l rows
widest_holds l [] row h = elim h [ ]
widest_holds l (x ∷ rows) row here = omega arith
widest_holds l (x ∷ rows) row (there h) = let a = widest_holds l rows row h in omega arith
