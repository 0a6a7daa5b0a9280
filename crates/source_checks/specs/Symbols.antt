-- What a data-flow text declares: its ports and signals, in file order.
use Rattle.std.specs.Prelude.{ℕ, Bool, true, false, ◌&&◌, nat_le, bytes_eq, List, [], ◌∷◌, ◌++◌, map, Option, None, Some, if◌then◌else◌}
use Rattle.vlsi_base.specs.declared.name.Name.{Name}
use Rattle.vlsi_base.specs.declared.range.Range.{Range}
use Rattle.vlsi_base.specs.Range.{range_bits}
use Rattle.vlsi_base.specs.declared.entity.NewName.{NewName}
use Rattle.vlsi_base.specs.declared.entity.Mode.{Mode}
use Rattle.vlsi_base.specs.declared.entity.Mode.TheVariants as mode
use Rattle.vlsi_base.specs.declared.entity.TypeWord.{TypeWord}
use Rattle.vlsi_base.specs.declared.entity.TypeWord.TheVariants as word
use Rattle.vlsi_base.specs.declared.entity.PortGroup.{PortGroup}
use Rattle.vlsi_base.specs.declared.entity.SignalGroup.{SignalGroup}
use Rattle.source_checks.specs.declared.statement.DesignFile.{DesignFile}
use Rattle.source_checks.specs.declared.symbol_table.Role.{Role}
use Rattle.source_checks.specs.declared.symbol_table.Role.TheVariants as role
use Rattle.source_checks.specs.declared.symbol_table.Symbol.{Symbol}

abbrev pub role_of_mode : Mode → Role
role_of_mode mode.In = role.Input
role_of_mode mode.Out = role.Output
role_of_mode mode.Inout = role.Both

-- signals of the three words for registers are registers
abbrev pub role_of_word : TypeWord → Role
role_of_word word.RegBit = role.Register
role_of_word word.RegVector = role.Register
role_of_word word.RegBitVector = role.Register
role_of_word _ = role.Inner

abbrev pub symbols_named : Role → Option Range → ℕ → List NewName → List Symbol
symbols_named role range line [] = []
symbols_named role range line (n ∷ names) = record { text = n.text; role = role; range = range; line = line } ∷ symbols_named role range line names

abbrev pub port_symbols : List PortGroup → List Symbol
port_symbols [] = []
port_symbols (g ∷ groups) = symbols_named (role_of_mode g.mode) g.kind.range g.line g.names ++ port_symbols groups

abbrev pub signal_symbols : List SignalGroup → List Symbol
signal_symbols [] = []
signal_symbols (g ∷ groups) = symbols_named (role_of_word g.kind.word) g.kind.range g.line g.names ++ signal_symbols groups

abbrev pub symbols : DesignFile → List Symbol
symbols design = port_symbols design.entity.ports ++ signal_symbols design.declarations.signals

-- the symbol of a name
abbrev pub find : List Symbol → List ℕ → Option Symbol
find [] text = None
find (s ∷ rest) text = if bytes_eq s.text text then Some s else find rest text

-- the bounds of a range of a declaration hold this number
abbrev pub has_bit : Range → ℕ → Bool
has_bit r k = if r.falls then nat_le r.right k && nat_le k r.left else nat_le r.left k && nat_le k r.right

abbrev pub scalar : List ℕ → Name
scalar text = record { text = text; bit = None }

abbrev pub bit_name : List ℕ → ℕ → Name
bit_name text k = record { text = text; bit = Some k }

abbrev pub names_in : List ℕ → Option Range → List Name
names_in text None = scalar text ∷ []
names_in text (Some r) = map (bit_name text) (range_bits r)

-- the bits of a symbol, from the left
abbrev pub symbol_names : Symbol → List Name
symbol_names s = names_in s.text s.range

-- all bits that are declared, in file order
abbrev pub all_names : List Symbol → List Name
all_names [] = []
all_names (s ∷ rest) = symbol_names s ++ all_names rest

abbrev pub is_port : Role → Bool
is_port role.Input = true
is_port role.Output = true
is_port role.Both = true
is_port role.Inner = false
is_port role.Register = false
