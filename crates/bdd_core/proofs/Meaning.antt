-- What an expression's truth list is, by its values.
use Rattle.std.proofs.Common.{◌≡◌, ℕ, zero, suc, ◌<◌, Bool, true, false, not, ◌&&◌, List, [], ◌∷◌, length, map, refl, sym, ◌∙◌, arith}
use Rattle.bool_expr.specs.declared.expr.Gate.TheVariants.{Nand}
use Rattle.bool_expr.specs.Expression.{Expression, constant, variable, inverse, pair, choice, val, bit, IsOver}
use Rattle.bdd_core.specs.declared.operators.Operator.{Operator}
use Rattle.bdd_core.specs.declared.operators.Operator.TheVariants.{Pair, Choice}
use Rattle.bdd_core.specs.Truths.{halves, truths}
use Rattle.bdd_core.specs.Nodes.{place}
use Rattle.bdd_core.specs.Combined.{operator_value, combined}
use Rattle.bdd_core.specs.Asked.{denoted}
use Rattle.bdd_core.proofs.Single.{even}

pub combined_is : (o : Operator) (n : ℕ) (f g h : List Bool → Bool) → combined o (truths n f) (truths n g) (truths n h) ≡ truths n (λ w. operator_value o (f w) (g w) (h w))
combined_is o zero f g h = refl
combined_is o (suc n) f g h =
    let low = combined_is o n (λ w. f (false ∷ w)) (λ w. g (false ∷ w)) (λ w. h (false ∷ w)) in
    let high = combined_is o n (λ w. f (true ∷ w)) (λ w. g (true ∷ w)) (λ w. h (true ∷ w)) in
    λ j. halves (low j) (high j)

not_both : (b : Bool) → not (b && b) ≡ not b
not_both true = refl
not_both false = refl

bound_is : (n : ℕ) (fs : List (List Bool → Bool)) (k : ℕ) → k < length fs → place (map (λ f. truths n f) fs) k ≡ truths n (λ w. bit (map (λ f. f w) fs) k)
bound_is n [] k w = absurd (omega arith)
bound_is n (f ∷ fs) zero w = refl
bound_is n (f ∷ fs) (suc k) w = bound_is n fs k (omega arith)

pub denoted_is : (n : ℕ) (fs : List (List Bool → Bool)) (e : Expression) → IsOver e (length fs) → denoted n (map (λ f. truths n f) fs) e ≡ truths n (λ w. val e (map (λ f. f w) fs))
denoted_is n fs (constant b) over = sym (even n b)
denoted_is n fs (variable k) over = bound_is n fs k over
denoted_is n fs (inverse e) over =
    let i = denoted_is n fs e over in
    (λ j. combined (Pair Nand) (i j) (i j) (i j)) ∙ combined_is (Pair Nand) n _ _ _ ∙ (λ j. truths n (λ w. not_both (val e (map (λ f. f w) fs)) j))
denoted_is n fs (pair g a b) over =
    let x = denoted_is n fs a over.0 in
    let y = denoted_is n fs b over.1 in
    (λ j. combined (Pair g) (x j) (y j) (x j)) ∙ combined_is (Pair g) n _ _ _
denoted_is n fs (choice c a b) over =
    let x = denoted_is n fs c over.0 in
    let y = denoted_is n fs a over.1.0 in
    let z = denoted_is n fs b over.1.1 in
    (λ j. combined Choice (x j) (y j) (z j)) ∙ combined_is Choice n _ _ _
