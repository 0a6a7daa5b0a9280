-- Formulas over the numbers of declared bits.
use Rattle.std.specs.Prelude.{ℕ, true, false, List, [], ◌∷◌, map, Option, bytes_eq, codes, if◌then◌else◌}
use Rattle.vlsi_base.specs.declared.name.Name.{Name}
use Rattle.vlsi_base.specs.declared.expression.ParsedExpr.{ParsedExpr}
use Rattle.vlsi_base.specs.declared.expression.Operator.{Operator}
use Rattle.vlsi_base.specs.Tree.{Tree, view}
use Rattle.bool_expr.specs.declared.expr.Gate.TheVariants as gate
use Rattle.bool_expr.specs.Expression.{Expression, constant, variable, pair, choice}
use Rattle.source_checks.specs.declared.statement.Guarded.{Guarded}
use Rattle.source_checks.specs.declared.symbol_table.Symbol.{Symbol}
use Rattle.source_checks.specs.Symbols.{all_names}
use Rattle.source_checks.specs.Formula.{formulas, numbered}
use Rattle.source_bits.specs.declared.ranges.Declared.{Declared}
use Rattle.source_bits.specs.Numbering.{number_in}
use Rattle.source_bits.specs.Vectors.{each_two, operator_of}

-- a bit of a name that is declared so: a supply is a constant
abbrev pub leaf_in : ℕ → Option Declared → Name → Expression
leaf_in total declared n =
    if bytes_eq n.text (codes "vdd") then constant true else if bytes_eq n.text (codes "vss") then constant false else variable (number_in total declared n)

-- the bits of an expression, from the left
abbrev pub bits_of : List Symbol → Tree → List Expression
bits_of known e = map (numbered (all_names known)) (formulas known e)

-- operands that are grouped from the left
abbrev pub folded_bits : List Symbol → Operator → List Expression → List (ℕ × ParsedExpr) → List Expression
folded_bits known op xs [] = xs
folded_bits known op xs (e ∷ others) = folded_bits known op (operator_of op xs (bits_of known (view e.1))) others

-- the first bit of a vector that has one
abbrev pub first_of : List Expression → Expression
first_of [] = constant false
first_of (x ∷ _) = x

abbrev pub alternatives_of : List Symbol → List Guarded → List Expression → List Expression
alternatives_of known [] otherwise = otherwise
alternatives_of known (g ∷ rest) otherwise =
    each_two (choice (first_of (bits_of known (view g.condition)))) (bits_of known (view g.value)) (alternatives_of known rest otherwise)

-- the And of bits, grouped from the left
abbrev pub grouped_of : Expression → List Expression → Expression
grouped_of left [] = left
grouped_of left (x ∷ more) = grouped_of (pair gate.And left x) more

-- the first bit of each expression
abbrev pub condition_of : List Symbol → Tree → Expression
condition_of known e = first_of (bits_of known e)

-- 1 where there is none
abbrev pub all_in : List Expression → Expression
all_in [] = constant true
all_in (x ∷ rest) = grouped_of x rest
