-- How wide an expression is, together with its first fault.
use Rattle.std.specs.Prelude.{◌≡◌, ℕ, ◌+◌, ◌*◌, ◌^◌, ◌<◌, not, ◌&&◌, List, map, Option, None, Some}
use Rattle.std.specs.Option.{ForSome}
use Rattle.vlsi_base.specs.declared.expression.ParsedExpr.{ParsedExpr}
use Rattle.vlsi_base.specs.declared.expression.Operator.{Operator}
use Rattle.vlsi_base.specs.Tree.{Tree, folded, operand_of}
use Rattle.source_checks.specs.declared.symbol_table.Symbol.{Symbol}
use Rattle.source_checks.specs.declared.widths.Measure.{Measure}
use Rattle.source_checks.specs.Lines.{first_line}
use Rattle.source_checks.specs.Operators.{operators}
use Rattle.source_checks.specs.Widths.{width, width_faults, joined_width, needs_equal, differ, if_not}

abbrev pub measure_of : List Symbol → Tree → Measure
measure_of known e = record { width = width known e; fault = first_line (width_faults known e) }

-- the first of two, if there is one
abbrev pub or_line : Option ℕ → Option ℕ → Option ℕ
or_line None o = o
or_line (Some line) o = Some line

-- that of an operator, from those of its operands
abbrev pub joined_measure : Operator → ℕ → Measure → Measure → Measure
joined_measure op line a b = record {
  width = joined_width op a.width b.width;
  fault = or_line a.fault (or_line (first_line (if_not (not (needs_equal op && differ a.width b.width)) line)) b.fault);
}

-- a width that n operators can give: each of their operands has fewer than 2 ^ 66 bits
abbrev pub IsNarrow : ℕ → Option ℕ → Type 0
IsNarrow n width = ForSome width (λ bits. bits < (n + 1) * 2 ^ 66)

-- operands that are grouped from the left: the tree of those that are measured, which is joined with the rest to the whole
pub record MeasuredSoFar (known : List Symbol) (op : Operator) (whole : Tree) (all : Measure) (rest : List (ℕ × ParsedExpr)) : Type 0 where
  pub tree : Tree
  pub joins : folded op tree (map operand_of rest) ≡ whole
  pub is : all ≡ measure_of known tree
  pub narrow : IsNarrow (operators tree) all.width
