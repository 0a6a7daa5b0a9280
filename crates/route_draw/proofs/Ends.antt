-- The points of a net: that of its port, then those of its pins; and how far they reach.
use Rattle.std.proofs.Common.{◌≡◌, ℕ, zero, suc, ◌+◌, Bool, false, cond, nat_eq, List, [], ◌∷◌, ◌++◌, Some, None, refl, sym, ap, subst, ◌∙◌, arith}
use Rattle.std.specs.Prelude.{ℤ, pos, slice_get}
use Rattle.std.specs.Int.{int_min, int_max}
use Rattle.std.proofs.lemmas.Int.{ints, int_min_is, int_max_is}
use Rattle.std.proofs.lemmas.Bool.{eq-eqb, false_from_ne_true, eqb-true}
use Rattle.std.proofs.lemmas.Option.{same_Some}
use Rattle.vlsi_base.specs.Member.{In, here, there, AllDifferent}
use Rattle.sym_geom.specs.declared.grid.TheConstants.{FIRST_CELL_X}
use Rattle.cell_model.specs.Access.{Point}
use Rattle.net_drawing.proofs.Coding.{In_get}
use Rattle.ocp_rows.specs.Placement.{track_y}
use Rattle.ocp_rows.specs.Length.{least, greatest}
use Rattle.ocp_place.specs.Sites.{port_sites, points_in}

-- ---- ports

none_in : (k class : ℕ) (classes : List ℕ) → (In class classes → ⊥) → points_in class (port_sites k classes) ≡ []
none_in k class [] none = refl
none_in k class (c ∷ cs) none =
    let differ : nat_eq c class ≡ false = false_from_ne_true (nat_eq c class) (λ t. none (subst (λ (x : ℕ). In x (c ∷ cs)) (eqb-true c class t) here)) in
    ap (λ (b : Bool). cond b ((pos FIRST_CELL_X, track_y k) ∷ []) [] ++ points_in class (port_sites (suc k) cs)) differ
    ∙ none_in (suc k) class cs (λ i. none (there i))

pub no_port : (class : ℕ) (classes : List ℕ) → (In class classes → ⊥) → points_in class (port_sites 0 classes) ≡ []
no_port class classes none = none_in 0 class classes none

-- the port whose class stands at a place is the only one
one_in : (k j class : ℕ) (classes : List ℕ) → AllDifferent classes → slice_get classes j ≡ Some class
    → points_in class (port_sites k classes) ≡ (pos FIRST_CELL_X, track_y (k + j)) ∷ []
one_in k j class [] d at = let n : None ≡ Some class = at in absurd (cc n)
one_in k zero class (c ∷ cs) d at =
    let is : c ≡ class = same_Some c class at in
    let n : k ≡ k + zero = omega arith in
    ap (λ (b : Bool). cond b ((pos FIRST_CELL_X, track_y k) ∷ []) [] ++ points_in class (port_sites (suc k) cs)) (eq-eqb c class is)
    ∙ ap (λ (qs : List Point). (pos FIRST_CELL_X, track_y k) ∷ qs) (none_in (suc k) class cs (λ i. d.0 (subst (λ (x : ℕ). In x cs) (sym is) i)))
    ∙ ap (λ (x : ℕ). (pos FIRST_CELL_X, track_y x) ∷ []) n
one_in k (suc j) class (c ∷ cs) d at =
    let differ : nat_eq c class ≡ false = false_from_ne_true (nat_eq c class) (λ t. d.0 (subst (λ (x : ℕ). In x cs) (sym (eqb-true c class t)) (In_get cs j class at))) in
    let n : suc k + j ≡ k + suc j = omega arith in
    ap (λ (b : Bool). cond b ((pos FIRST_CELL_X, track_y k) ∷ []) [] ++ points_in class (port_sites (suc k) cs)) differ
    ∙ one_in (suc k) j class cs d.1 at
    ∙ ap (λ (x : ℕ). (pos FIRST_CELL_X, track_y x) ∷ []) n

pub its_port : (j class : ℕ) (classes : List ℕ) → AllDifferent classes → slice_get classes j ≡ Some class
    → points_in class (port_sites 0 classes) ≡ (pos FIRST_CELL_X, track_y j) ∷ []
its_port j class classes d at =
    let z : 0 + j ≡ j = omega arith in
    one_in 0 j class classes d at ∙ ap (λ (x : ℕ). (pos FIRST_CELL_X, track_y x) ∷ []) z

-- ---- the least and the greatest, in another order

min_turned : (x y : ℤ) → int_min x y ≡ int_min y x
min_turned x y = let a = int_min_is x y in let b = int_min_is y x in omega (arith, ints)

max_turned : (x y : ℤ) → int_max x y ≡ int_max y x
max_turned x y = let a = int_max_is x y in let b = int_max_is y x in omega (arith, ints)

min_moved : (x y z : ℤ) → int_min (int_min x y) z ≡ int_min x (int_min y z)
min_moved x y z =
    let a = int_min_is x y in let b = int_min_is (int_min x y) z in let c = int_min_is y z in let d = int_min_is x (int_min y z) in omega (arith, ints)

max_moved : (x y z : ℤ) → int_max (int_max x y) z ≡ int_max x (int_max y z)
max_moved x y z =
    let a = int_max_is x y in let b = int_max_is (int_max x y) z in let c = int_max_is y z in let d = int_max_is x (int_max y z) in omega (arith, ints)

least_first : (p x : ℤ) (xs : List ℤ) → least (int_min p x) xs ≡ int_min p (least x xs)
least_first p x [] = refl
least_first p x (y ∷ ys) = ap (λ (z : ℤ). least z ys) (min_moved p x y) ∙ least_first p (int_min x y) ys

greatest_first : (p x : ℤ) (xs : List ℤ) → greatest (int_max p x) xs ≡ int_max p (greatest x xs)
greatest_first p x [] = refl
greatest_first p x (y ∷ ys) = ap (λ (z : ℤ). greatest z ys) (max_moved p x y) ∙ greatest_first p (int_max x y) ys

least_last : (x p : ℤ) (xs : List ℤ) → least x (xs ++ p ∷ []) ≡ int_min (least x xs) p
least_last x p [] = refl
least_last x p (y ∷ ys) = least_last (int_min x y) p ys

greatest_last : (x p : ℤ) (xs : List ℤ) → greatest x (xs ++ p ∷ []) ≡ int_max (greatest x xs) p
greatest_last x p [] = refl
greatest_last x p (y ∷ ys) = greatest_last (int_max x y) p ys

-- a port first is as good as a port last
pub least_turned : (p x : ℤ) (xs : List ℤ) → least p (x ∷ xs) ≡ least x (xs ++ p ∷ [])
least_turned p x xs = least_first p x xs ∙ min_turned p (least x xs) ∙ sym (least_last x p xs)

pub greatest_turned : (p x : ℤ) (xs : List ℤ) → greatest p (x ∷ xs) ≡ greatest x (xs ++ p ∷ [])
greatest_turned p x xs = greatest_first p x xs ∙ max_turned p (greatest x xs) ∙ sym (greatest_last x p xs)
