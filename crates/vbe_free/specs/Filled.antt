-- A source with a bit in place of each that it leaves free.
use Rattle.std.specs.Prelude.{ℕ, Bool, false, true, not, ◌&&◌, ◌||◌, ◌==◌, bytes_eq, nat_le, List, [], ◌∷◌, ◌++◌, map, Option, None, Some, if◌then◌else◌}
use Rattle.vlsi_base.specs.declared.name.Name.{Name}
use Rattle.vlsi_base.specs.Tree.{Tree, bit, literal, name, index, slice, stable, inverse, binary}
use Rattle.machine_core.specs.Named.{is_same_name}
use Rattle.source_checks.specs.declared.symbol_table.Role.{Role}
use Rattle.source_checks.specs.declared.symbol_table.Role.TheVariants as role
use Rattle.source_checks.specs.declared.symbol_table.Symbol.{Symbol}
use Rattle.source_checks.specs.declared.statement.Target.{Target}
use Rattle.source_checks.specs.Symbols.{find, names_in, bit_name, symbol_names}
use Rattle.source_checks.specs.Formula.{names_of_found}
use Rattle.source_checks.specs.Drivers.{is_among, target_names}
use Rattle.vbe_text.specs.Source.{GuardedTree, ChoiceTree, AssignmentTree, StatementTree, asserted, assigned, blocked, SourceTree}
use Rattle.vbe_free.specs.Tokens.{free_name}

abbrev pub filled_value : Bool → Tree → Tree
filled_value b (name text line) = if bytes_eq text free_name then bit b line else name text line
filled_value b e = e

abbrev pub filled_guarded : Bool → GuardedTree → GuardedTree
filled_guarded b g = record g { value = filled_value b g.value }

abbrev pub filled_choice : Bool → ChoiceTree → ChoiceTree
filled_choice b c = record { alternatives = map (filled_guarded b) c.alternatives; otherwise = filled_value b c.otherwise }

abbrev pub filled_assignment : Bool → AssignmentTree → AssignmentTree
filled_assignment b a = record a { choice = filled_choice b a.choice }

abbrev pub filled_statement : Bool → StatementTree → StatementTree
filled_statement b (asserted e) = asserted e
filled_statement b (assigned a) = assigned (filled_assignment b a)
filled_statement b (blocked s) = blocked (record s { assignments = map (filled_assignment b) s.assignments })

abbrev pub filled : Bool → SourceTree → SourceTree
filled b source = record source { statements = map (filled_statement b) source.statements }

-- ---- where a free bit may stand

-- the line of a free bit
abbrev pub free_lines : Tree → List ℕ
free_lines (name text line) = if bytes_eq text free_name then line ∷ [] else []
free_lines e = []

abbrev pub alternatives_free : List GuardedTree → List ℕ
alternatives_free [] = []
alternatives_free (g ∷ rest) = free_lines g.value ++ alternatives_free rest

-- the lines of the free bits of a choice, in file order
abbrev pub choice_free : ChoiceTree → List ℕ
choice_free c = alternatives_free c.alternatives ++ free_lines c.otherwise

-- the lines of the free bits of a block
abbrev pub block_free : List AssignmentTree → List ℕ
block_free [] = []
block_free (a ∷ rest) = choice_free a.choice ++ block_free rest

-- the bits that an expression reads
abbrev pub bits_read : List Symbol → Tree → List Name
bits_read known (bit b line) = []
bits_read known (literal r digits line) = []
bits_read known (name text line) = names_of_found (find known text)
bits_read known (index text line k) = bit_name text k ∷ []
bits_read known (slice text line range) = names_in text (Some range)
bits_read known (stable text line) = []
bits_read known (inverse line e) = bits_read known e
bits_read known (binary op line left right) = bits_read known left ++ bits_read known right

-- those that operands read, each with a line
abbrev pub operands_read : List Symbol → List (ℕ × Tree) → List Name
operands_read known [] = []
operands_read known (e ∷ rest) = bits_read known e.1 ++ operands_read known rest

abbrev pub alternatives_read : List Symbol → List GuardedTree → List Name
alternatives_read known [] = []
alternatives_read known (g ∷ rest) = bits_read known g.value ++ (bits_read known g.condition ++ alternatives_read known rest)

abbrev pub assignment_reads : List Symbol → AssignmentTree → List Name
assignment_reads known a = alternatives_read known a.choice.alternatives ++ bits_read known a.choice.otherwise

abbrev pub each_reads : List Symbol → List AssignmentTree → List Name
each_reads known [] = []
each_reads known (a ∷ rest) = assignment_reads known a ++ each_reads known rest

abbrev pub statement_reads : List Symbol → StatementTree → List Name
statement_reads known (asserted e) = bits_read known e
statement_reads known (assigned a) = assignment_reads known a
statement_reads known (blocked s) = bits_read known s.guard ++ each_reads known s.assignments

-- the bits that some expression of the source reads
abbrev pub source_reads : List Symbol → List StatementTree → List Name
source_reads known [] = []
source_reads known (s ∷ rest) = statement_reads known s ++ source_reads known rest

abbrev pub is_output : Option Symbol → Bool
is_output None = false
is_output (Some s) = by s.role where
  by : Role → Bool
  by role.Input = false
  by role.Output = true
  by role.Both = false
  by role.Inner = false
  by role.Register = false

-- the target is an output bit that none of these is
abbrev pub is_one_unread : List Name → List Name → Bool
is_one_unread read (n ∷ []) = not (is_among read n)
is_one_unread read names = false

abbrev pub may_be_free : List Symbol → List Name → Target → Bool
may_be_free known read t = is_output (find known t.name) && is_one_unread read (target_names known t)

-- the lines of free bits outside of blocks whose target isn't an output bit that no expression reads; in a block no target is one
abbrev pub misplaced : List Symbol → List Name → StatementTree → List ℕ
misplaced known read (asserted e) = []
misplaced known read (assigned a) = if may_be_free known read a.target then [] else choice_free a.choice
misplaced known read (blocked s) = block_free s.assignments

abbrev pub each_misplaced : List Symbol → List Name → List StatementTree → List ℕ
each_misplaced known read [] = []
each_misplaced known read (s ∷ rest) = misplaced known read s ++ each_misplaced known read rest

-- the lines of free bits that stand where none may, in file order
abbrev pub free_forms : List Symbol → SourceTree → List ℕ
free_forms known source = each_misplaced known (source_reads known source.statements) source.statements
