-- Operators on vectors of expressions over numbers, as they are on those of formulas over names.
use Rattle.std.specs.Prelude.{ℕ, zero, suc, ◌+◌, ◌/◌, true, List, [], ◌∷◌, ◌++◌, length, take, drop}
use Rattle.vlsi_base.specs.declared.expression.Operator.{Operator}
use Rattle.vlsi_base.specs.declared.expression.Operator.TheVariants as operator
use Rattle.bool_expr.specs.declared.expr.Gate.TheVariants as gate
use Rattle.bool_expr.specs.Expression.{Expression, constant, inverse, pair}

abbrev pub each_two : (Expression → Expression → Expression) → List Expression → List Expression → List Expression
each_two f [] ys = []
each_two f (x ∷ xs) [] = []
each_two f (x ∷ xs) (y ∷ ys) = f x y ∷ each_two f xs ys

-- the And of bits by halves, the left one rounded up; the number bounds the halvings
abbrev pub all_within : ℕ → List Expression → Expression
all_within bound [] = constant true
all_within bound (x ∷ []) = x
all_within zero (x ∷ y ∷ rest) = x
all_within (suc bound) (x ∷ y ∷ rest) =
    let all = x ∷ y ∷ rest in let half = (length all + 1) / 2 in
    pair gate.And (all_within bound (take half all)) (all_within bound (drop half all))

abbrev pub equal_of : List Expression → List Expression → Expression
equal_of xs ys = all_within (length xs) (each_two (pair gate.Xnor) xs ys)

abbrev pub unequal_of : List Expression → List Expression → Expression
unequal_of (x ∷ []) (y ∷ []) = pair gate.Xor x y
unequal_of xs ys = inverse (equal_of xs ys)

abbrev pub operator_of : Operator → List Expression → List Expression → List Expression
operator_of operator.And xs ys = each_two (pair gate.And) xs ys
operator_of operator.Or xs ys = each_two (pair gate.Or) xs ys
operator_of operator.Xor xs ys = each_two (pair gate.Xor) xs ys
operator_of operator.Xnor xs ys = each_two (pair gate.Xnor) xs ys
operator_of operator.Nand xs ys = each_two (pair gate.Nand) xs ys
operator_of operator.Nor xs ys = each_two (pair gate.Nor) xs ys
operator_of operator.Join xs ys = xs ++ ys
operator_of operator.Equal xs ys = equal_of xs ys ∷ []
operator_of operator.Unequal xs ys = unequal_of xs ys ∷ []
