-- How many operators an expression has. One that is read has at most as many as a text may have in one expression.
use Rattle.std.specs.Prelude.{ℕ, ◌+◌, ◌≤◌, List, [], ◌∷◌}
use Rattle.vlsi_base.specs.Tree.{Tree, bit, literal, name, index, slice, stable, inverse, binary, view}
use Rattle.grammar_theory.specs.declared.limits.TheConstants.{CHAIN}
use Rattle.source_checks.specs.declared.statement.Guarded.{Guarded}
use Rattle.source_checks.specs.declared.statement.Choice.{Choice}
use Rattle.source_checks.specs.declared.statement.Assignment.{Assignment}
use Rattle.source_checks.specs.declared.statement.Statement.{Statement}
use Rattle.source_checks.specs.declared.statement.Statement.TheVariants as statement
use Rattle.source_checks.specs.declared.statement.DesignFile.{DesignFile}

abbrev pub operators : Tree → ℕ
operators (bit b line) = 0
operators (literal r digits line) = 0
operators (name text line) = 0
operators (index text line k) = 0
operators (slice text line range) = 0
operators (stable text line) = 0
operators (inverse line e) = 1 + operators e
operators (binary op line left right) = 1 + operators left + operators right

abbrev pub IsShort : Tree → Type 0
IsShort e = operators e ≤ CHAIN

-- each value and each condition is short
abbrev pub ShortAlternatives : List Guarded → Type 0
ShortAlternatives [] = Unit {0}
ShortAlternatives (g ∷ rest) = (IsShort (view g.value) × IsShort (view g.condition)) × ShortAlternatives rest

abbrev pub ShortChoice : Choice → Type 0
ShortChoice c = ShortAlternatives c.alternatives × IsShort (view c.otherwise)

abbrev pub ShortAssignments : List Assignment → Type 0
ShortAssignments [] = Unit {0}
ShortAssignments (a ∷ rest) = ShortChoice a.choice × ShortAssignments rest

abbrev pub ShortStatement : Statement → Type 0
ShortStatement (statement.Assert e) = IsShort (view e)
ShortStatement (statement.Assign a) = ShortChoice a.choice
ShortStatement (statement.Block b) = IsShort (view b.guard) × ShortAssignments b.assignments

abbrev pub ShortStatements : List Statement → Type 0
ShortStatements [] = Unit {0}
ShortStatements (s ∷ rest) = ShortStatement s × ShortStatements rest

-- each expression of a text is short
abbrev pub HasShortExpressions : DesignFile → Type 0
HasShortExpressions design = ShortStatements design.statements
