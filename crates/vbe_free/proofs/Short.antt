-- A source with bits in place of free ones has as short expressions as before.
use Rattle.std.proofs.Common.{◌≡◌, ℕ, ◌≤◌, ◌+◌, Bool, true, false, cond, List, [], ◌∷◌, map, refl, sym, ap, subst, bytes_eq, arith}
use Rattle.vlsi_base.specs.Tree.{Tree, bit, literal, name, index, slice, stable, inverse, binary, view}
use Rattle.source_checks.specs.declared.statement.Guarded.{Guarded}
use Rattle.source_checks.specs.declared.statement.Assignment.{Assignment}
use Rattle.source_checks.specs.declared.statement.Statement.{Statement}
use Rattle.source_checks.specs.declared.statement.Statement.TheVariants as statement
use Rattle.source_checks.specs.declared.statement.DesignFile.{DesignFile}
use Rattle.source_checks.specs.Operators.{operators, IsShort, ShortAlternatives, ShortChoice, ShortAssignments, ShortStatement, ShortStatements, HasShortExpressions}
use Rattle.vbe_text.specs.Source.{GuardedTree, ChoiceTree, AssignmentTree, BlockTree, StatementTree, asserted, assigned, blocked, SourceTree, guarded_view, choice_view, assignment_view, statement_view, source_view}
use Rattle.vbe_free.specs.Tokens.{free_name}
use Rattle.vbe_free.specs.Filled.{filled_value, filled_guarded, filled_choice, filled_assignment, filled_statement, filled}

abbrev TreeAlternatives : List GuardedTree → Type 0
TreeAlternatives [] = Unit {0}
TreeAlternatives (g ∷ rest) = (IsShort g.value × IsShort g.condition) × TreeAlternatives rest

abbrev TreeChoice : ChoiceTree → Type 0
TreeChoice c = TreeAlternatives c.alternatives × IsShort c.otherwise

abbrev TreeAssignments : List AssignmentTree → Type 0
TreeAssignments [] = Unit {0}
TreeAssignments (a ∷ rest) = TreeChoice a.choice × TreeAssignments rest

abbrev TreeStatement : StatementTree → Type 0
TreeStatement (asserted e) = IsShort e
TreeStatement (assigned a) = TreeChoice a.choice
TreeStatement (blocked b) = IsShort b.guard × TreeAssignments b.assignments

abbrev TreeStatements : List StatementTree → Type 0
TreeStatements [] = Unit {0}
TreeStatements (s ∷ rest) = TreeStatement s × TreeStatements rest

-- ---- of what lies in memory

alternatives_to : (gs : List Guarded) → ShortAlternatives gs → TreeAlternatives (map guarded_view gs)
alternatives_to [] h = tt
alternatives_to (g ∷ gs) h = (h.0, alternatives_to gs h.1)

alternatives_from : (gs : List Guarded) → TreeAlternatives (map guarded_view gs) → ShortAlternatives gs
alternatives_from [] h = tt
alternatives_from (g ∷ gs) h = (h.0, alternatives_from gs h.1)

assignments_to : (xs : List Assignment) → ShortAssignments xs → TreeAssignments (map assignment_view xs)
assignments_to [] h = tt
assignments_to (a ∷ xs) h = ((alternatives_to a.choice.alternatives h.0.0, h.0.1), assignments_to xs h.1)

assignments_from : (xs : List Assignment) → TreeAssignments (map assignment_view xs) → ShortAssignments xs
assignments_from [] h = tt
assignments_from (a ∷ xs) h = ((alternatives_from a.choice.alternatives h.0.0, h.0.1), assignments_from xs h.1)

statement_to : (s : Statement) → ShortStatement s → TreeStatement (statement_view s)
statement_to (statement.Assert e) h = h
statement_to (statement.Assign a) h = (alternatives_to a.choice.alternatives h.0, h.1)
statement_to (statement.Block b) h = (h.0, assignments_to b.assignments h.1)

statement_from : (s : Statement) → TreeStatement (statement_view s) → ShortStatement s
statement_from (statement.Assert e) h = h
statement_from (statement.Assign a) h = (alternatives_from a.choice.alternatives h.0, h.1)
statement_from (statement.Block b) h = (h.0, assignments_from b.assignments h.1)

statements_to : (ss : List Statement) → ShortStatements ss → TreeStatements (map statement_view ss)
statements_to [] h = tt
statements_to (s ∷ ss) h = (statement_to s h.0, statements_to ss h.1)

statements_from : (ss : List Statement) → TreeStatements (map statement_view ss) → ShortStatements ss
statements_from [] h = tt
statements_from (s ∷ ss) h = (statement_from s h.0, statements_from ss h.1)

-- ---- with bits

value_short : (b : Bool) (e : Tree) → IsShort e → IsShort (filled_value b e)
value_short b (bit c line) h = h
value_short b (literal r digits line) h = h
value_short b (name text line) h = by (bytes_eq text free_name) where
  by : (c : Bool) → IsShort (cond c (bit b line) (name text line))
  by true = h
  by false = h
value_short b (index text line k) h = h
value_short b (slice text line range) h = h
value_short b (stable text line) h = h
value_short b (inverse line e) h = h
value_short b (binary op line left right) h = h

alternatives_short : (b : Bool) (gs : List GuardedTree) → TreeAlternatives gs → TreeAlternatives (map (filled_guarded b) gs)
alternatives_short b [] h = tt
alternatives_short b (g ∷ gs) h = ((value_short b g.value h.0.0, h.0.1), alternatives_short b gs h.1)

choice_short : (b : Bool) (c : ChoiceTree) → TreeChoice c → TreeChoice (filled_choice b c)
choice_short b c h = (alternatives_short b c.alternatives h.0, value_short b c.otherwise h.1)

assignments_short : (b : Bool) (xs : List AssignmentTree) → TreeAssignments xs → TreeAssignments (map (filled_assignment b) xs)
assignments_short b [] h = tt
assignments_short b (a ∷ xs) h = (choice_short b a.choice h.0, assignments_short b xs h.1)

statement_short : (b : Bool) (s : StatementTree) → TreeStatement s → TreeStatement (filled_statement b s)
statement_short b (asserted e) h = h
statement_short b (assigned a) h = choice_short b a.choice h
statement_short b (blocked s) h = (h.0, assignments_short b s.assignments h.1)

statements_short : (b : Bool) (ss : List StatementTree) → TreeStatements ss → TreeStatements (map (filled_statement b) ss)
statements_short b [] h = tt
statements_short b (s ∷ ss) h = (statement_short b s h.0, statements_short b ss h.1)

pub filled_short : (b : Bool) (text made : DesignFile) → source_view made ≡ filled b (source_view text) → HasShortExpressions text → HasShortExpressions made
filled_short b text made same h =
    statements_from made.statements
    (subst (λ (t : SourceTree). TreeStatements t.statements) (sym same) (statements_short b (map statement_view text.statements) (statements_to text.statements h)))
