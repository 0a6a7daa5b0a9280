-- When the names of a netlist can be written in a text of VHDL.
use Rattle.std.specs.Prelude.{ℕ, ◌^◌, ◌<◌, ◌≤◌, List, length, map, IfSome}
use Rattle.std.specs.List.{All}
use Rattle.vlsi_base.specs.declared.name.Port.{Port}
pub use Rattle.text_names.specs.Words.{is_word, IsIdentifier, is_next_bit, GoesOn, CanBePorts}
use Rattle.net_core.specs.declared.pins.ModelPin.{ModelPin}
use Rattle.net_core.specs.declared.pins.ModelPins.{ModelPins}
use Rattle.net_core.specs.Netlist.{Instance, Netlist}

-- an instance's name and the name of its model are identifiers
abbrev pub CanBeAnInstance : Instance → Type 0
CanBeAnInstance i = IsIdentifier i.name × IsIdentifier i.model

-- The names of a netlist can be written: those of the netlist, of its instances and of their models are identifiers, and its ports
-- can be declared.
pub record CanBeNamed (n : Netlist) : Type 0 where
  pub name : IsIdentifier n.name
  pub ports : CanBePorts n.ports
  pub instances : All CanBeAnInstance n.instances

-- The netlist has no port; or the bits of a port have a hole; or a text is both a scalar and a vector; or bits of one text have
-- different directions; or a name isn't an identifier.
abbrev pub IsBadMap : Netlist → Type 0
IsBadMap n = CanBeNamed n → ⊥

-- a name of at most 64 bytes
abbrev pub IsShort : List ℕ → Type 0
IsShort text = length text ≤ 64

-- The names of a netlist are within the limits of texts: they have at most 64 bytes, and the numbers of bits 32 bits.
pub record HasShortNames (n : Netlist) : Type 0 where
  pub name : IsShort n.name
  pub ports : All (λ p. IsShort p.name.text × IfSome p.name.bit (λ k. k < 2 ^ 32)) n.ports
  pub instances : All (λ i. IsShort i.name × IsShort i.model) n.instances

-- a pin as the port of its model
abbrev pub port_of : ModelPin → Port
port_of p = record { name = p.name; dir = p.dir }

-- the pins of each model can be declared as its ports
abbrev pub PinsCanBeWritten : List ModelPins → Type 0
PinsCanBeWritten table = All (λ m. CanBePorts (map port_of m.pins)) table
