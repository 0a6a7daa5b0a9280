-- Functions that are one bit everywhere.
use Rattle.std.proofs.Common.{◌≡◌, ℕ, zero, suc, Bool, true, false, List, [], ◌∷◌, length, refl, sym, ap, subst, ◌∙◌, arith}
use mathlib.Core.Bool.{beq}
use Rattle.std.specs.Prelude.{Option, None, Some, IfSome, IfNone, is_some}
use Rattle.bdd_core.specs.Truths.{Truths, constant}
use Rattle.bdd_core.specs.Branching.{truth_at, held, IsBranch}
use Rattle.bdd_core.specs.Nodes.{raised}
use Rattle.boom_choose.specs.Pick.{IsEverywhere}
use Rattle.boom_choose.proofs.Parts.{held_raised, same_raised}

pub value_everywhere : (n : ℕ) (b : Bool) (w : List Bool) → length w ≡ n → truth_at (raised n (constant b)) w ≡ b
value_everywhere zero b w e = refl
value_everywhere (suc n) b [] e = absurd (omega arith)
value_everywhere (suc n) b (true ∷ w) e = value_everywhere n b w (omega arith)
value_everywhere (suc n) b (false ∷ w) e = value_everywhere n b w (omega arith)

-- a constant function that is 1 somewhere is 1
pub one_somewhere : (n : ℕ) (f : Truths) (w : List Bool) → (b : Bool) × IsEverywhere n f b → length w ≡ n → truth_at f w ≡ true → IsEverywhere n f true
one_somewhere n f w c e one =
    let is : c.0 ≡ true = sym (value_everywhere n c.0 w e) ∙ ap (λ (t : Truths). truth_at t w) (sym c.1) ∙ one in
    subst (IsEverywhere n f) is c.1

-- whether bits are found on which a constant function is 1 says which one it is
pub found_or_not : {X : Type 0} (look : X → List Bool) (n : ℕ) (f : Truths) (o : Option X) → (b : Bool) × IsEverywhere n f b
    → IfSome o (λ x. length (look x) ≡ n) → IfSome o (λ x. truth_at f (look x) ≡ true) → IfNone o (f ≡ raised n (constant false)) → IsEverywhere n f (is_some o)
found_or_not look n f None c long one none = none
found_or_not look n f (Some x) c long one none = one_somewhere n f (look x) c long one

-- a function that depends on a variable is no constant
pub branch_apart : (n v : ℕ) (f low high : Truths) (b : Bool) → IsBranch n f v low high → IsEverywhere n f b → ⊥
branch_apart n v f low high b branch is =
    let idle : (x : Bool) → held v x f ≡ raised n (constant b) = λ x. ap (λ (t : Truths). held v x t) is ∙ held_raised v n x (constant b) branch.within in
    branch.depends (idle false ∙ sym (idle true))

one_bit : (n : ℕ) (f : Truths) (a b : Bool) → IsEverywhere n f a → IsEverywhere n f b → a ≡ b
one_bit n f a b p q = let e = same_raised n (constant a) (constant b) (sym p ∙ q) in cc e

pub same_bit : (n : ℕ) (f : Truths) (a b : Bool) → IsEverywhere n f a → beq a b ≡ true → IsEverywhere n f b
same_bit n f true true p e = p
same_bit n f false false p e = p
same_bit n f true false p e = absurd (cc e)
same_bit n f false true p e = absurd (cc e)

pub other_bit : (n : ℕ) (f : Truths) (a b : Bool) → IsEverywhere n f a → beq a b ≡ false → IsEverywhere n f b → ⊥
other_bit n f true true p e q = (cc e)
other_bit n f false false p e q = (cc e)
other_bit n f true false p e q = let s = one_bit n f true false p q in (cc s)
other_bit n f false true p e q = let s = one_bit n f false true p q in (cc s)
