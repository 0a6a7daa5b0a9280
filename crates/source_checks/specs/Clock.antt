-- Guards of blocks, the clock that they name, and where it stands elsewhere.
use Rattle.std.specs.Prelude.{ℕ, Bool, true, false, not, ◌&&◌, ◌||◌, bytes_eq, List, [], ◌∷◌, ◌++◌, Option, None, Some, is_none, if◌then◌else◌}
use Rattle.vlsi_base.specs.declared.expression.Operator.TheVariants as operator
use Rattle.vlsi_base.specs.Tree.{Tree, bit, literal, name, index, slice, stable, inverse, binary, view}
use Rattle.bool_expr.specs.declared.expr.Gate.TheVariants as gate
use Rattle.source_checks.specs.declared.statement.Assignment.{Assignment}
use Rattle.source_checks.specs.declared.statement.Statement.{Statement}
use Rattle.source_checks.specs.declared.statement.Statement.TheVariants as statement
use Rattle.source_checks.specs.declared.statement.DesignFile.{DesignFile}
use Rattle.vlsi_base.specs.Name.{is_supply}
use Rattle.source_checks.specs.Symbols.{symbols, find}
use Rattle.source_checks.specs.declared.symbol_table.Symbol.{Symbol}
use Rattle.source_checks.specs.Formula.{Formula, fixed, joined, formulas, first_bit}
use Rattle.source_checks.specs.Places.{in_choice, in_assignments, in_statements}
use Rattle.source_checks.specs.Widths.{if_not}
use Rattle.source_checks.specs.declared.symbol_table.Role.{Role}
use Rattle.source_checks.specs.declared.symbol_table.Role.TheVariants as role

-- Guards: the `and`, through parentheses, of one clock, one `not clock'stable` and further conditions. All guards of a text
-- name one clock, which is read nowhere else. A guard whose further conditions read the clock names none.

-- `e = '1'` is e
abbrev pub without_one : Tree → Tree
without_one (binary operator.Equal line e (bit true one)) = e
without_one e = e

-- a clock's relation with '1' is the clock, on whichever side the '1' stands
abbrev pub clock_alone : Tree → Tree
clock_alone (binary operator.Equal line (bit true one) e) = e
clock_alone e = without_one e

-- what is joined by `and`, through parentheses, from the left
abbrev pub conjuncts : Tree → List Tree
conjuncts (binary operator.And line left right) = conjuncts left ++ conjuncts right
conjuncts e = e ∷ []

-- an input of one bit that is no supply
abbrev pub may_clock : Option Symbol → Bool
may_clock None = false
may_clock (Some s) = by s.role && (is_none s.range && not (is_supply s.text)) where
  by : Role → Bool
  by role.Input = true
  by role.Output = false
  by role.Both = false
  by role.Inner = false
  by role.Register = false

-- the name whose `stable` is turned round, if that is what stands here
abbrev pub steady_name : Tree → Option (List ℕ)
steady_name (inverse line (stable text there)) = Some text
steady_name _ = None

abbrev pub plain_name : Tree → Option (List ℕ)
plain_name (name text line) = Some text
plain_name _ = None

-- the names whose `stable` are turned round among the parts
abbrev pub steady_names : List Tree → List (List ℕ)
steady_names [] = []
steady_names (e ∷ rest) = add (steady_name e) (steady_names rest) where
  add : Option (List ℕ) → List (List ℕ) → List (List ℕ)
  add None names = names
  add (Some text) names = text ∷ names

-- the part is this clock itself, perhaps in a relation with '1'
abbrev pub is_name : List ℕ → Tree → Bool
is_name text e = by (plain_name (clock_alone e)) where
  by : Option (List ℕ) → Bool
  by None = false
  by (Some other) = bytes_eq other text

-- the parts that are neither the clock nor turn a `stable` round
abbrev pub conditions_among : List ℕ → List Tree → List Tree
conditions_among text [] = []
conditions_among text (e ∷ rest) =
    if is_name text e || not (is_none (steady_name e)) then conditions_among text rest else e ∷ conditions_among text rest

-- the parts that are the clock
abbrev pub clocks_among : List ℕ → List Tree → List Tree
clocks_among text [] = []
clocks_among text (e ∷ rest) = if is_name text e then e ∷ clocks_among text rest else clocks_among text rest

abbrev pub is_single : {A : Type 0} → List A → Bool
is_single [] = false
is_single (x ∷ []) = true
is_single (x ∷ y ∷ rest) = false

-- the lines on which an expression reads the clock, or has a `stable`
abbrev pub clock_lines : Option (List ℕ) → Tree → List ℕ
clock_lines ck (bit b line) = []
clock_lines ck (literal r digits line) = []
clock_lines ck (name text line) = if_not (not (is_clock_text ck text)) line where
  is_clock_text : Option (List ℕ) → List ℕ → Bool
  is_clock_text None text = false
  is_clock_text (Some c) text = bytes_eq c text
clock_lines ck (index text line k) = []
clock_lines ck (slice text line range) = []
clock_lines ck (stable text line) = line ∷ []
clock_lines ck (inverse line e) = clock_lines ck e
clock_lines ck (binary op line left right) = clock_lines ck left ++ clock_lines ck right

abbrev pub none_reads : Option (List ℕ) → List Tree → Bool
none_reads ck [] = true
none_reads ck (e ∷ rest) = is_empty (clock_lines ck e) && none_reads ck rest where
  is_empty : List ℕ → Bool
  is_empty [] = true
  is_empty (_ ∷ _) = false

-- a guard's clock: exactly one part is the clock, exactly one turns its `stable` round, and no further condition reads
-- it or has a `stable`
abbrev pub clock_of_parts : List Symbol → List Tree → List (List ℕ) → Option (List ℕ)
clock_of_parts known parts [] = None
clock_of_parts known parts (text ∷ more) =
    if is_single (text ∷ more) && (may_clock (find known text) && (is_single (clocks_among text parts) && none_reads (Some text) (conditions_among text parts)))
    then Some text else None

abbrev pub parts_of : Tree → List Tree
parts_of guard = conjuncts (without_one guard)

abbrev pub clock_of : List Symbol → Tree → Option (List ℕ)
clock_of known guard = clock_of_parts known (parts_of guard) (steady_names (parts_of guard))

-- formulas of one bit joined by And, grouped from the left; 1 where there is none
abbrev pub all_of : List Formula → Formula
all_of [] = fixed true
all_of (x ∷ rest) = grouped x rest where
  grouped : Formula → List Formula → Formula
  grouped left [] = left
  grouped left (y ∷ more) = grouped (joined gate.And left y) more

abbrev pub condition_bits : List Symbol → List Tree → List Formula
condition_bits known [] = []
condition_bits known (e ∷ rest) = first_bit (formulas known e) ∷ condition_bits known rest

-- what a guard adds to its clock's rise: the And of its further conditions
abbrev pub enable_of : List Symbol → List ℕ → Tree → Formula
enable_of known text guard = all_of (condition_bits known (conditions_among text (parts_of guard)))

-- the clock of a text: that of its first guard which has one
abbrev pub statement_clocks : List Symbol → Statement → List (List ℕ)
statement_clocks known (statement.Assert e) = []
statement_clocks known (statement.Assign a) = []
statement_clocks known (statement.Block b) = add (clock_of known (view b.guard)) where
  add : Option (List ℕ) → List (List ℕ)
  add None = []
  add (Some text) = text ∷ []

abbrev pub first_text : List (List ℕ) → Option (List ℕ)
first_text [] = None
first_text (text ∷ _) = Some text

abbrev pub clock_text : DesignFile → Option (List ℕ)
clock_text design = first_text (in_statements (statement_clocks (symbols design)) design.statements)

abbrev pub is_same_clock : Option (List ℕ) → Option (List ℕ) → Bool
is_same_clock (Some a) (Some b) = bytes_eq a b
is_same_clock _ _ = false

-- the lines at fault: a guard that has no clock, or another than the text's, at its first token; elsewhere each read of
-- the clock and each `stable`
abbrev pub assignment_clock_lines : Option (List ℕ) → Assignment → List ℕ
assignment_clock_lines ck a = in_choice (clock_lines ck) (λ line e. clock_lines ck e) a.choice

abbrev pub statement_clock_lines : List Symbol → Option (List ℕ) → Statement → List ℕ
statement_clock_lines known ck (statement.Assert e) = clock_lines ck (view e)
statement_clock_lines known ck (statement.Assign a) = assignment_clock_lines ck a
statement_clock_lines known ck (statement.Block b) =
    if_not (is_same_clock ck (clock_of known (view b.guard))) b.line ++ in_assignments (assignment_clock_lines ck) b.assignments

-- all of them, in file order
abbrev pub all_clock_lines : DesignFile → List ℕ
all_clock_lines design = in_statements (statement_clock_lines (symbols design) (clock_text design)) design.statements
