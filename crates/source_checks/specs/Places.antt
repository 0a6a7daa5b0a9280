-- What stands where in a text: names that are read or driven, and what a check finds, in file order.
use Rattle.std.specs.Prelude.{ℕ, List, [], ◌∷◌, ◌++◌, Option, None, Some, is_none, if◌then◌else◌}
use Rattle.vlsi_base.specs.Tree.{Tree, bit, literal, name, index, slice, stable, inverse, binary, view}
use Rattle.source_checks.specs.declared.statement.Guarded.{Guarded}
use Rattle.source_checks.specs.declared.statement.Choice.{Choice}
use Rattle.source_checks.specs.declared.statement.Assignment.{Assignment}
use Rattle.source_checks.specs.declared.statement.Statement.{Statement}
use Rattle.source_checks.specs.declared.statement.Statement.TheVariants as statement
use Rattle.source_checks.specs.Symbols.{find}
use Rattle.source_checks.specs.declared.symbol_table.Symbol.{Symbol}

-- a name and the line on which it stands
pub record Use : Type 0 where
  pub text : List ℕ
  pub line : ℕ

-- the names that an expression reads, from the left
abbrev pub reads : Tree → List Use
reads (bit b line) = []
reads (literal radix digits line) = []
reads (name text line) = record { text = text; line = line } ∷ []
reads (index text line k) = record { text = text; line = line } ∷ []
reads (slice text line range) = record { text = text; line = line } ∷ []
reads (stable text line) = record { text = text; line = line } ∷ []
reads (inverse line e) = reads e
reads (binary op line left right) = reads left ++ reads right

-- What some look at expressions finds in a choice, in file order: each value, then its condition.
abbrev pub in_alternatives : {A : Type 0} → (Tree → List A) → (ℕ → Tree → List A) → List Guarded → List A
in_alternatives value condition [] = []
in_alternatives value condition (g ∷ rest) = value (view g.value) ++ (condition g.line (view g.condition) ++ in_alternatives value condition rest)

abbrev pub in_choice : {A : Type 0} → (Tree → List A) → (ℕ → Tree → List A) → Choice → List A
in_choice value condition c = in_alternatives value condition c.alternatives ++ value (view c.otherwise)

abbrev pub reads_in_choice : Choice → List Use
reads_in_choice c = in_choice reads (λ line e. reads e) c

-- the names of an assignment, its target first
abbrev pub assignment_uses : Assignment → List Use
assignment_uses a = record { text = a.target.name; line = a.target.line } ∷ reads_in_choice a.choice

-- what some look at assignments finds in all of them
abbrev pub in_assignments : {A : Type 0} → (Assignment → List A) → List Assignment → List A
in_assignments look [] = []
in_assignments look (a ∷ rest) = look a ++ in_assignments look rest

abbrev pub statement_uses : Statement → List Use
statement_uses (statement.Assert e) = reads (view e)
statement_uses (statement.Assign a) = assignment_uses a
statement_uses (statement.Block b) = reads (view b.guard) ++ in_assignments assignment_uses b.assignments

-- what some look at statements finds in all of them
abbrev pub in_statements : {A : Type 0} → (Statement → List A) → List Statement → List A
in_statements look [] = []
in_statements look (s ∷ rest) = look s ++ in_statements look rest

-- the first name that isn't declared
abbrev pub first_unknown : List Symbol → List Use → Option Use
first_unknown known [] = None
first_unknown known (u ∷ rest) = if is_none (find known u.text) then Some u else first_unknown known rest
