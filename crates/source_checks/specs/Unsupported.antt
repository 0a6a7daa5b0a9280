-- Forms of the language that are left out, in file order: the lines of the tokens at fault.
use Rattle.std.specs.Prelude.{ℕ, Bool, true, false, not, ◌&&◌, ◌||◌, nat_le, List, [], ◌∷◌, ◌++◌, length, ◌*◌, Option, None, Some}
use Rattle.vlsi_base.specs.declared.entity.NewName.{NewName}
use Rattle.vlsi_base.specs.declared.entity.Mode.{Mode}
use Rattle.vlsi_base.specs.declared.entity.Mode.TheVariants as mode
use Rattle.vlsi_base.specs.declared.entity.TypeWord.{TypeWord}
use Rattle.vlsi_base.specs.declared.entity.TypeWord.TheVariants as word
use Rattle.vlsi_base.specs.declared.entity.PortGroup.{PortGroup}
use Rattle.vlsi_base.specs.declared.entity.SignalGroup.{SignalGroup}
use Rattle.vlsi_base.specs.Tree.{Tree, bit, literal, name, index, slice, stable, inverse, binary, view}
use Rattle.source_checks.specs.declared.statement.Assignment.{Assignment}
use Rattle.source_checks.specs.declared.statement.Statement.{Statement}
use Rattle.source_checks.specs.declared.statement.Statement.TheVariants as statement
use Rattle.source_checks.specs.declared.statement.DesignFile.{DesignFile}
use Rattle.vlsi_base.specs.Name.{is_supply}
use Rattle.source_checks.specs.Symbols.{symbols, find}
use Rattle.source_checks.specs.declared.symbol_table.Symbol.{Symbol}
use Rattle.vlsi_base.specs.Radix.{digit_width}
use Rattle.source_checks.specs.Places.{in_choice, in_assignments, in_statements}
use Rattle.source_checks.specs.Widths.{if_not}
use Rattle.source_checks.specs.declared.symbol_table.Role.{Role}
use Rattle.source_checks.specs.declared.symbol_table.Role.TheVariants as role

-- a text of bits has 1 to 128 of them
abbrev pub literal_faults : Tree → List ℕ
literal_faults (bit b line) = []
literal_faults (literal r digits line) = if_not (nat_le 1 (length digits) && nat_le (digit_width r * length digits) 128) line
literal_faults (name text line) = []
literal_faults (index text line k) = []
literal_faults (slice text line range) = []
literal_faults (stable text line) = []
literal_faults (inverse line e) = literal_faults e
literal_faults (binary op line left right) = literal_faults left ++ literal_faults right

-- a supply's name stands for an input of one bit alone
abbrev pub supply_faults : Bool → List NewName → List ℕ
supply_faults fits [] = []
supply_faults fits (n ∷ names) = if_not (fits || not (is_supply n.text)) n.line ++ supply_faults fits names

abbrev pub is_in_mode : Mode → Bool
is_in_mode mode.In = true
is_in_mode mode.Out = false
is_in_mode mode.Inout = false

abbrev pub is_inout : Mode → Bool
is_inout mode.Inout = true
is_inout mode.In = false
is_inout mode.Out = false

abbrev pub is_bit_word : TypeWord → Bool
is_bit_word word.Bit = true
is_bit_word _ = false

-- the types mux and wor are left out
abbrev pub is_resolved : TypeWord → Bool
is_resolved word.MuxBit = true
is_resolved word.MuxVector = true
is_resolved word.WorBit = true
is_resolved word.WorVector = true
is_resolved _ = false

abbrev pub port_form : PortGroup → List ℕ
port_form g =
    supply_faults (is_in_mode g.mode && is_bit_word g.kind.word) g.names
    ++ (if_not (not (is_inout g.mode)) g.mode_line ++ if_not (not (is_resolved g.kind.word)) g.kind.line)

abbrev pub port_forms : List PortGroup → List ℕ
port_forms [] = []
port_forms (g ∷ groups) = port_form g ++ port_forms groups

abbrev pub signal_form : SignalGroup → List ℕ
signal_form g = supply_faults false g.names ++ if_not (not (is_resolved g.kind.word)) g.kind.line

abbrev pub signal_forms : List SignalGroup → List ℕ
signal_forms [] = []
signal_forms (g ∷ groups) = signal_form g ++ signal_forms groups

-- registers are driven in blocks alone, outputs and inner signals outside of them, and inputs nowhere
abbrev pub may_drive : Bool → Option Symbol → Bool
may_drive in_block None = true
may_drive in_block (Some s) = by s.role where
  by : Role → Bool
  by role.Input = false
  by role.Output = not in_block
  by role.Both = not in_block
  by role.Inner = not in_block
  by role.Register = in_block

abbrev pub assignment_forms : List Symbol → Bool → Assignment → List ℕ
assignment_forms known in_block a =
    if_not (may_drive in_block (find known a.target.name)) a.target.line ++ in_choice literal_faults (λ line e. literal_faults e) a.choice

abbrev pub statement_forms : List Symbol → Statement → List ℕ
statement_forms known (statement.Assert e) = literal_faults (view e)
statement_forms known (statement.Assign a) = assignment_forms known false a
statement_forms known (statement.Block b) = literal_faults (view b.guard) ++ in_assignments (assignment_forms known true) b.assignments

-- all of them, in file order
abbrev pub all_unsupported : DesignFile → List ℕ
all_unsupported design =
    port_forms design.entity.ports ++ (signal_forms design.declarations.signals ++ in_statements (statement_forms (symbols design)) design.statements)
