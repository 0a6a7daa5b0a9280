-- A data-flow text as its grammar has it: its expressions are trees, wherever they lie in memory.
use Rattle.std.specs.Prelude.{ℕ, List, map}
use Rattle.vlsi_base.specs.Tree.{Tree, view}
use Rattle.vlsi_base.specs.declared.entity.Entity.{Entity}
use Rattle.vlsi_base.specs.declared.entity.Declarations.{Declarations}
use Rattle.source_checks.specs.declared.statement.Target.{Target}
use Rattle.source_checks.specs.declared.statement.Guarded.{Guarded}
use Rattle.source_checks.specs.declared.statement.Choice.{Choice}
use Rattle.source_checks.specs.declared.statement.Assignment.{Assignment}
use Rattle.source_checks.specs.declared.statement.BlockStatement.{BlockStatement}
use Rattle.source_checks.specs.declared.statement.Statement.{Statement}
use Rattle.source_checks.specs.declared.statement.Statement.TheVariants as statement
use Rattle.source_checks.specs.declared.statement.DesignFile.{DesignFile}
use Rattle.vbe_text.specs.declared.choice.Further.{Further}

-- a value, the condition under which it is taken, and the line of the condition's first token
pub record GuardedTree : Type 0 where
  pub value : Tree
  pub condition : Tree
  pub line : ℕ

-- a further alternative: a condition, the line of its first token, and the value behind its `else`
pub record FurtherTree : Type 0 where
  pub condition : Tree
  pub line : ℕ
  pub value : Tree

-- the alternatives in their order, and the value where none is taken
pub record ChoiceTree : Type 0 where
  pub alternatives : List GuardedTree
  pub otherwise : Tree

pub record AssignmentTree : Type 0 where
  pub target : Target
  pub choice : ChoiceTree

-- the guard, the line of its first token, and the guarded assignments
pub record BlockTree : Type 0 where
  pub guard : Tree
  pub line : ℕ
  pub assignments : List AssignmentTree

pub data StatementTree : Type 0 where
  asserted : Tree → StatementTree
  assigned : AssignmentTree → StatementTree
  blocked : BlockTree → StatementTree

pub record SourceTree : Type 0 where
  pub entity : Entity
  pub declarations : Declarations
  pub statements : List StatementTree

-- ---- what lies in memory

abbrev pub guarded_view : Guarded → GuardedTree
guarded_view g = record { value = view g.value; condition = view g.condition; line = g.line }

abbrev pub further_view : Further → FurtherTree
further_view f = record { condition = view f.condition; line = f.line; value = view f.value }

abbrev pub choice_view : Choice → ChoiceTree
choice_view c = record { alternatives = map guarded_view c.alternatives; otherwise = view c.otherwise }

abbrev pub assignment_view : Assignment → AssignmentTree
assignment_view a = record { target = a.target; choice = choice_view a.choice }

abbrev pub block_view : BlockStatement → BlockTree
block_view b = record { guard = view b.guard; line = b.line; assignments = map assignment_view b.assignments }

abbrev pub statement_view : Statement → StatementTree
statement_view (statement.Assert e) = asserted (view e)
statement_view (statement.Assign a) = assigned (assignment_view a)
statement_view (statement.Block b) = blocked (block_view b)

abbrev pub source_view : DesignFile → SourceTree
source_view design = record { entity = design.entity; declarations = design.declarations; statements = map statement_view design.statements }
