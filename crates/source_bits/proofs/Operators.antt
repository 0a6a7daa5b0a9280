-- Operators on formulas over names are those on formulas over numbers.
use Rattle.std.proofs.Common.{◌≡◌, ℕ, zero, suc, ◌+◌, ◌/◌, List, [], ◌∷◌, map, length, take, drop, refl, sym, ap, ◌∙◌}
use Rattle.std.proofs.lemmas.List.{take-map, drop-map, map-append, length-map}
use Rattle.vlsi_base.specs.declared.name.Name.{Name}
use Rattle.vlsi_base.specs.declared.expression.Operator.{Operator}
use Rattle.vlsi_base.specs.declared.expression.Operator.TheVariants as operator
use Rattle.bool_expr.specs.declared.expr.Gate.{Gate}
use Rattle.bool_expr.specs.declared.expr.Gate.TheVariants as gate
use Rattle.bool_expr.specs.Expression.{Expression, pair, choice, inverse}
use Rattle.source_checks.specs.Formula.{Formula, numbered, joined, chosen, opposite, each_pair, equal_within, equal_bits, unequal_bits, operator_bits}
use Rattle.source_bits.specs.Vectors.{each_two, all_within, equal_of, unequal_of, operator_of}

pub numbered_pairs : (vars : List Name) (g : Gate) (xs ys : List Formula) → map (numbered vars) (each_pair (joined g) xs ys) ≡ each_two (pair g) (map (numbered vars) xs) (map (numbered vars) ys)
numbered_pairs vars g [] ys = refl
numbered_pairs vars g (x ∷ xs) [] = refl
numbered_pairs vars g (x ∷ xs) (y ∷ ys) = ap (λ (es : List Expression). pair g (numbered vars x) (numbered vars y) ∷ es) (numbered_pairs vars g xs ys)

pub numbered_choices : (vars : List Name) (c : Formula) (xs ys : List Formula) → map (numbered vars) (each_pair (chosen c) xs ys) ≡ each_two (choice (numbered vars c)) (map (numbered vars) xs) (map (numbered vars) ys)
numbered_choices vars c [] ys = refl
numbered_choices vars c (x ∷ xs) [] = refl
numbered_choices vars c (x ∷ xs) (y ∷ ys) = ap (λ (es : List Expression). choice (numbered vars c) (numbered vars x) (numbered vars y) ∷ es) (numbered_choices vars c xs ys)

pub numbered_opposites : (vars : List Name) (xs : List Formula) → map (numbered vars) (map opposite xs) ≡ map inverse (map (numbered vars) xs)
numbered_opposites vars [] = refl
numbered_opposites vars (x ∷ xs) = ap (λ (es : List Expression). inverse (numbered vars x) ∷ es) (numbered_opposites vars xs)

numbered_all : (vars : List Name) (bound : ℕ) (xs : List Formula) → numbered vars (equal_within bound xs) ≡ all_within bound (map (numbered vars) xs)
numbered_all vars bound [] = refl
numbered_all vars bound (x ∷ []) = refl
numbered_all vars zero (x ∷ y ∷ rest) = refl
numbered_all vars (suc bound) (x ∷ y ∷ rest) =
    let all = x ∷ y ∷ rest in
    let half = (length all + 1) / 2 in
    let numbers = map (numbered vars) all in
    let same : half ≡ (length numbers + 1) / 2 = ap (λ n. (n + 1) / 2) (sym (length-map all (numbered vars))) in
    ap (λ (e : Expression). pair gate.And e (numbered vars (equal_within bound (drop half all)))) (numbered_all vars bound (take half all) ∙ ap (all_within bound) (sym (take-map (numbered vars) half all)) ∙ ap (λ k. all_within bound (take k numbers)) same)
    ∙ ap (pair gate.And (all_within bound (take ((length numbers + 1) / 2) numbers))) (numbered_all vars bound (drop half all) ∙ ap (all_within bound) (sym (drop-map (numbered vars) half all)) ∙ ap (λ k. all_within bound (drop k numbers)) same)

numbered_equal : (vars : List Name) (xs ys : List Formula) → numbered vars (equal_bits xs ys) ≡ equal_of (map (numbered vars) xs) (map (numbered vars) ys)
numbered_equal vars xs ys =
    numbered_all vars (length xs) (each_pair (joined gate.Xnor) xs ys) ∙ ap (all_within (length xs)) (numbered_pairs vars gate.Xnor xs ys)
    ∙ ap (λ n. all_within n (each_two (pair gate.Xnor) (map (numbered vars) xs) (map (numbered vars) ys))) (sym (length-map xs (numbered vars)))

numbered_unequal : (vars : List Name) (xs ys : List Formula) → numbered vars (unequal_bits xs ys) ≡ unequal_of (map (numbered vars) xs) (map (numbered vars) ys)
numbered_unequal vars [] ys = ap inverse (numbered_equal vars [] ys)
numbered_unequal vars (x ∷ []) [] = ap inverse (numbered_equal vars (x ∷ []) [])
numbered_unequal vars (x ∷ []) (y ∷ []) = refl
numbered_unequal vars (x ∷ []) (y ∷ y' ∷ ys) = ap inverse (numbered_equal vars (x ∷ []) (y ∷ y' ∷ ys))
numbered_unequal vars (x ∷ x' ∷ xs) ys = ap inverse (numbered_equal vars (x ∷ x' ∷ xs) ys)

pub numbered_operator : (vars : List Name) (op : Operator) (xs ys : List Formula) → map (numbered vars) (operator_bits op xs ys) ≡ operator_of op (map (numbered vars) xs) (map (numbered vars) ys)
numbered_operator vars operator.And xs ys = numbered_pairs vars gate.And xs ys
numbered_operator vars operator.Or xs ys = numbered_pairs vars gate.Or xs ys
numbered_operator vars operator.Xor xs ys = numbered_pairs vars gate.Xor xs ys
numbered_operator vars operator.Xnor xs ys = numbered_pairs vars gate.Xnor xs ys
numbered_operator vars operator.Nand xs ys = numbered_pairs vars gate.Nand xs ys
numbered_operator vars operator.Nor xs ys = numbered_pairs vars gate.Nor xs ys
numbered_operator vars operator.Join xs ys = map-append (numbered vars) xs ys
numbered_operator vars operator.Equal xs ys = ap (λ (e : Expression). e ∷ []) (numbered_equal vars xs ys)
numbered_operator vars operator.Unequal xs ys = ap (λ (e : Expression). e ∷ []) (numbered_unequal vars xs ys)
