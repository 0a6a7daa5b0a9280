-- The first cells that can be buffers.
use Rattle.std.proofs.Common.{◌≡◌, ◌↔◌, ℕ, zero, suc, ◌<◌, ◌≤◌, Bool, List, [], ◌∷◌, length, get_or, Some, sym, ap, subst, arith}
use Rattle.std.specs.Prelude.{IsTrue, slice_get}
use Rattle.vlsi_base.specs.Member.{In}
use Rattle.bool_expr.specs.Expression.{Expression, val}
use Rattle.cell_model.specs.Function.{Function, gate}
use Rattle.cell_model.specs.Cell.{Cell, cell_inputs}
use Rattle.cell_model.proofs.Members.{place-In}
use Rattle.cell_model.proofs.KindLemmas.{inputs_among, inputs_counted}
use Rattle.loon_wiring.specs.Repeaters.{GivesItsInput, IsFirst}

-- the first that a loop met
pub first_met : {A : Type 0} (P : A → Type 0) (xs : List A) (k : ℕ) (x : A) → k < length xs → x ≡ get_or xs k x → P x
    → ((j : ℕ) (d : A) → j < k → P (get_or xs j d) → ⊥) → IsFirst P xs x
first_met {A} P xs k x low is holds before = record {
  place = k;
  stands = at xs k x low is;
  holds = holds;
  first = λ j y earlier stands has. before j y earlier (subst P (sym (got xs j y stands)) has);
} where
  at : (ys : List A) (i : ℕ) (y : A) → i < length ys → y ≡ get_or ys i y → slice_get ys i ≡ Some y
  at [] i y l e = absurd (omega (arith, l))
  at (z ∷ ys) zero y l e = ap Some (sym e)
  at (z ∷ ys) (suc i) y l e = at ys i y (omega (arith, l)) e

  got : (ys : List A) (i : ℕ) (y : A) → slice_get ys i ≡ Some y → get_or ys i y ≡ y
  got [] i y e = absurd cc
  got (z ∷ ys) zero y e = cc
  got (z ∷ ys) (suc i) y e = got ys i y e

-- none where the loop met none
pub none_met : {A : Type 0} (P : A → Type 0) (xs : List A) (k : ℕ) → length xs ≤ k → ((j : ℕ) (d : A) → j < k → P (get_or xs j d) → ⊥) → (x : A) → In x xs → P x → ⊥
none_met P xs k over before x h has =
    let r = place-In x xs h in
    before r.0 x (let low = r.1 in omega (arith, low, over)) (subst P (sym (r.2 x)) has)

-- a gate that gives its one input
pub buffer_gate : (c : Cell) (e : Expression) (n : ℕ) → n ≡ inputs_among c.pins → c.function ≡ gate e
    → (r : Bool) → (IsTrue r ↔ ((n ≡ 1) × ((a : Bool) → val e (a ∷ []) ≡ a))) → IsTrue r ↔ GivesItsInput c.function (length (cell_inputs c))
buffer_gate c e n counted is r same =
    let many = inputs_counted c n counted in
    subst (λ (f : Function). IsTrue r ↔ GivesItsInput f (length (cell_inputs c))) (sym is)
    (subst (λ (m : ℕ). IsTrue r ↔ ((m ≡ 1) × ((a : Bool) → val e (a ∷ []) ≡ a))) (sym many) same)
