-- Where widths don't fit, in file order: the lines of the tokens at fault.
use Rattle.std.specs.Prelude.{ℕ, ◌+◌, ◌*◌, Bool, true, false, not, ◌&&◌, ◌||◌, nat_eq, List, [], ◌∷◌, ◌++◌, length, Option, None, Some, if◌then◌else◌}
use Rattle.vlsi_base.specs.declared.expression.Operator.{Operator}
use Rattle.vlsi_base.specs.declared.expression.Operator.TheVariants as operator
use Rattle.vlsi_base.specs.declared.range.Range.{Range}
use Rattle.vlsi_base.specs.declared.entity.PortGroup.{PortGroup}
use Rattle.vlsi_base.specs.declared.entity.SignalGroup.{SignalGroup}
use Rattle.vlsi_base.specs.Tree.{Tree, bit, literal, name, index, slice, stable, inverse, binary, view}
use Rattle.source_checks.specs.declared.statement.Selection.{Selection}
use Rattle.source_checks.specs.declared.statement.Selection.TheVariants as selection
use Rattle.source_checks.specs.declared.statement.Target.{Target}
use Rattle.source_checks.specs.declared.statement.Guarded.{Guarded}
use Rattle.source_checks.specs.declared.statement.Assignment.{Assignment}
use Rattle.source_checks.specs.declared.statement.Statement.{Statement}
use Rattle.source_checks.specs.declared.statement.Statement.TheVariants as statement
use Rattle.source_checks.specs.declared.statement.DesignFile.{DesignFile}
use Rattle.vlsi_base.specs.Range.{is_ordered, range_width}
use Rattle.source_checks.specs.Symbols.{symbols, find, has_bit}
use Rattle.source_checks.specs.declared.symbol_table.Symbol.{Symbol}
use Rattle.vlsi_base.specs.Radix.{digit_width}
use Rattle.source_checks.specs.Places.{in_choice, in_assignments, in_statements}

-- how many bits a name has that is declared so
abbrev pub declared_width : Option Range → ℕ
declared_width None = 1
declared_width (Some r) = range_width r

abbrev pub found_width : Option Symbol → ℕ
found_width None = 0
found_width (Some s) = declared_width s.range

-- whether the operands of an operator have to be equally wide
abbrev pub needs_equal : Operator → Bool
needs_equal operator.Join = false
needs_equal _ = true

abbrev pub operator_width : Operator → ℕ → ℕ → ℕ
operator_width operator.Join a b = a + b
operator_width operator.Equal a b = 1
operator_width operator.Unequal a b = 1
operator_width _ a b = a

-- The width of what an operator gives: one bit of a relation, whatever its operands are; of other operators none where an operand
-- has none, or where they should be equal and aren't.
abbrev pub joined_width : Operator → Option ℕ → Option ℕ → Option ℕ
joined_width operator.Equal a b = Some 1
joined_width operator.Unequal a b = Some 1
joined_width op (Some a) (Some b) = if not (needs_equal op) || nat_eq a b then Some (operator_width op a b) else None
joined_width op _ _ = None

abbrev pub ordered_width : Range → Option ℕ
ordered_width r = if is_ordered r then Some (range_width r) else None

-- How many bits an expression has: none where operands that have to be equally wide aren't, but for a relation, or where a range
-- stands in the wrong order, so that one fault makes no other.
abbrev pub width : List Symbol → Tree → Option ℕ
width known (bit b line) = Some 1
width known (literal r digits line) = Some (digit_width r * length digits)
width known (name text line) = Some (found_width (find known text))
width known (index text line k) = Some 1
width known (slice text line range) = ordered_width range
width known (stable text line) = Some 1
width known (inverse line e) = width known e
width known (binary op line left right) = joined_width op (width known left) (width known right)

-- two widths are known, and they differ
abbrev pub differ : Option ℕ → Option ℕ → Bool
differ (Some a) (Some b) = not (nat_eq a b)
differ _ _ = false

-- a bit of a name lies in its declaration; a scalar has none
abbrev pub index_fits : Option Symbol → ℕ → Bool
index_fits None k = true
index_fits (Some s) k = fits s.range where
  fits : Option Range → Bool
  fits None = false
  fits (Some declared) = has_bit declared k

-- a range of a name has the word of the declaration, its bounds in their order, and lies in it
abbrev pub range_fits : Option Symbol → Range → Bool
range_fits None r = true
range_fits (Some s) r = fits s.range where
  fits : Option Range → Bool
  fits None = false
  fits (Some declared) = (if r.falls then declared.falls else not declared.falls) && is_ordered r && has_bit declared r.left && has_bit declared r.right

abbrev pub if_not : Bool → ℕ → List ℕ
if_not true line = []
if_not false line = line ∷ []

-- the lines at fault in an expression: an operator's where its operands differ, a name's where its index doesn't fit, the
-- parenthesis of a range that doesn't fit
abbrev pub width_faults : List Symbol → Tree → List ℕ
width_faults known (bit b line) = []
width_faults known (literal r digits line) = []
width_faults known (name text line) = []
width_faults known (index text line k) = if_not (index_fits (find known text) k) line
width_faults known (slice text line range) = if_not (range_fits (find known text) range) range.line
width_faults known (stable text line) = []
width_faults known (inverse line e) = width_faults known e
width_faults known (binary op line left right) =
    width_faults known left
    ++ (if_not (not (needs_equal op && differ (width known left) (width known right))) line ++ width_faults known right)

-- a condition is one bit wide, else its first token is at fault
abbrev pub condition_faults : List Symbol → ℕ → Tree → List ℕ
condition_faults known line e = if_not (not (differ (width known e) (Some 1))) line ++ width_faults known e

abbrev pub target_width : List Symbol → Target → Option ℕ
target_width known t = by t.selection where
  by : Selection → Option ℕ
  by selection.Whole = Some (found_width (find known t.name))
  by (selection.Bit k) = Some 1
  by (selection.Bits r) = ordered_width r

abbrev pub target_faults : List Symbol → Target → List ℕ
target_faults known t = by t.selection where
  by : Selection → List ℕ
  by selection.Whole = []
  by (selection.Bit k) = if_not (index_fits (find known t.name) k) t.line
  by (selection.Bits r) = if_not (range_fits (find known t.name) r) r.line

-- each value that is assigned is as wide as the target
abbrev pub all_wide : List Symbol → Option ℕ → List Guarded → Tree → Bool
all_wide known n [] otherwise = not (differ (width known otherwise) n)
all_wide known n (g ∷ rest) otherwise = not (differ (width known (view g.value)) n) && all_wide known n rest otherwise

-- a target's own faults and that of what is assigned to it stand at the target, before those of the choice
abbrev pub assignment_faults : List Symbol → Assignment → List ℕ
assignment_faults known a =
    if_not (all_wide known (target_width known a.target) a.choice.alternatives (view a.choice.otherwise)) a.target.line
    ++ (target_faults known a.target ++ in_choice (width_faults known) (condition_faults known) a.choice)

abbrev pub statement_faults : List Symbol → Statement → List ℕ
statement_faults known (statement.Assert e) = width_faults known (view e)
statement_faults known (statement.Assign a) = assignment_faults known a
statement_faults known (statement.Block b) = width_faults known (view b.guard) ++ in_assignments (assignment_faults known) b.assignments

-- a range of a declaration whose bounds don't stand in the order of its word is at fault at its parenthesis
abbrev pub declared_faults : Option Range → List ℕ
declared_faults None = []
declared_faults (Some r) = if_not (is_ordered r) r.line

abbrev pub port_faults : List PortGroup → List ℕ
port_faults [] = []
port_faults (g ∷ groups) = declared_faults g.kind.range ++ port_faults groups

abbrev pub signal_faults : List SignalGroup → List ℕ
signal_faults [] = []
signal_faults (g ∷ groups) = declared_faults g.kind.range ++ signal_faults groups

-- all of them, in file order
abbrev pub all_width_faults : DesignFile → List ℕ
all_width_faults design =
    port_faults design.entity.ports ++ (signal_faults design.declarations.signals ++ in_statements (statement_faults (symbols design)) design.statements)
