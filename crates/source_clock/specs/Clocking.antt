-- The clock in names, among a guard's parts and in a block.
use Rattle.std.specs.Prelude.{ℕ, bytes_eq, List, [], ◌∷◌, ◌++◌, Option, None, Some, if◌then◌else◌}
use Rattle.vlsi_base.specs.Tree.{view}
use Rattle.source_checks.specs.declared.statement.BlockStatement.{BlockStatement}
use Rattle.source_checks.specs.declared.symbol_table.Symbol.{Symbol}
use Rattle.source_checks.specs.Places.{in_assignments}
use Rattle.source_checks.specs.Widths.{if_not}
use Rattle.source_checks.specs.Clock.{clock_of, is_same_clock, assignment_clock_lines}

-- the line of a name that is the clock
abbrev pub clock_lines_of_name : Option (List ℕ) → List ℕ → ℕ → List ℕ
clock_lines_of_name None text line = []
clock_lines_of_name (Some clock) text line = if bytes_eq clock text then line ∷ [] else []

-- the text of a list that has just one
abbrev pub only_text : List (List ℕ) → Option (List ℕ)
only_text [] = None
only_text (text ∷ []) = Some text
only_text (text ∷ other ∷ rest) = None

-- the lines at fault in a block
abbrev pub block_clock_lines : List Symbol → Option (List ℕ) → BlockStatement → List ℕ
block_clock_lines known ck b =
    if_not (is_same_clock ck (clock_of known (view b.guard))) b.line ++ in_assignments (assignment_clock_lines ck) b.assignments
