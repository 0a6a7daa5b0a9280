-- Bits by their numbers, what settles among them, and their machine.
use Rattle.std.specs.Prelude.{◌≡◌, ℕ, ◌<◌, Bool, List, [], ◌++◌, map, length, Option, None, Some, if◌then◌else◌}
use Rattle.vlsi_base.specs.declared.name.Name.{Name}
use Rattle.vlsi_base.specs.declared.name.Port.{Port}
use Rattle.vlsi_base.specs.declared.name.Dir.TheVariants as dir
use Rattle.bool_expr.specs.Expression.{variables, IsOver, bit, val}
use Rattle.machine_core.specs.Named.{values_at}
use Rattle.machine_core.specs.Machine.{Machine, names_of, register_names}
use Rattle.machine_core.specs.Cycles.{Settles, next}
use Rattle.machine_core.specs.Order.{In, AllDifferent}
use Rattle.machine_core.specs.Checked.{AreInOrder, IsNoSupply, IsChecked}
use Rattle.source_bits.specs.Driven.{Numbered, NumberedStorage, driven_view, stored_view}
use Rattle.vlsi_model.specs.Numbered.{name_at}
use Rattle.vlsi_model.specs.Laid.{inputs_of}
use Rattle.bit_machine.specs.declared.system.BitSystem.{BitSystem}

pub record System : Type 0 where
  -- the name of each bit
  pub names : List Name
  -- the inputs but the clock
  pub inputs : List ℕ
  pub stored : List NumberedStorage
  pub driven : List Numbered

-- the bits without where their expressions lie
abbrev pub system_of : BitSystem → System
system_of s = record {
  names = s.names;
  inputs = s.inputs.items;
  stored = map stored_view s.stored.items;
  driven = map driven_view s.driven.items;
}

abbrev pub stored_bits : System → List ℕ
stored_bits s = map (λ r. r.bit) s.stored

abbrev pub driven_bits : System → List ℕ
driven_bits s = map (λ d. d.bit) s.driven

abbrev pub held_bits : System → List ℕ
held_bits s = s.inputs ++ stored_bits s

abbrev pub all_bits : System → List ℕ
all_bits s = held_bits s ++ driven_bits s

-- Each bit is an input, is held, or is driven, and no two of these; names differ; and expressions read the bits.
pub record IsSystem (s : System) : Type 0 where
  pub names : AllDifferent s.names
  pub once : AllDifferent (all_bits s)
  pub inside : (k : ℕ) → In k (all_bits s) → k < length s.names
  pub complete : (k : ℕ) → k < length s.names → In k (all_bits s)
  pub over : (d : Numbered) → In d s.driven → IsOver d.expr (length s.names)
  pub loads : (r : NumberedStorage) → In r s.stored → IsOver r.next (length s.names) × IsOver r.enable (length s.names)

-- no driven bit depends on itself: a number falls from each to those that it reads
pub record Falls (driven : List Numbered) : Type 0 where
  pub measure : ℕ → ℕ
  pub falls : (d e : Numbered) → In d driven → In e driven → In e.bit (variables d.expr) → measure e.bit < measure d.bit

-- The bits fit the ports and the clock of a machine: inputs but the clock are inputs, outputs are driven, names stand in their
-- order and are no supplies, and the clock is one bit that is none of these.
pub record FitsPorts (ports : List Port) (clock : Option Name) (s : System) : Type 0 where
  pub order : AreInOrder (names_of ports)
  pub registers : AreInOrder (map (name_at s.names) (stored_bits s))
  pub signals : (name : Name) → In name (names_of ports ++ s.names) → IsNoSupply name
  pub outputs : (p : Port) → In p ports → p.dir ≡ dir.Out → In p.name (map (name_at s.names) (driven_bits s))
  pub inputs : map (name_at s.names) s.inputs ≡ inputs_of clock ports
  pub listed : (name : Name) → clock ≡ Some name → In (record { name = name; dir = dir.In }) ports
  pub apart : (name : Name) → clock ≡ Some name → In name s.names → ⊥
  pub clocked : clock ≡ None → s.stored ≡ []

-- y has the bits of all, from these contents and under this vector
pub record BitsSettle (s : System) (held i y : List Bool) : Type 0 where
  pub each : length y ≡ length s.names
  pub inputs : map (bit y) s.inputs ≡ i
  pub stored : map (bit y) (stored_bits s) ≡ held
  pub driven : (d : Numbered) → In d s.driven → bit y d.bit ≡ val d.expr y

-- what the stored bits are after the clock's rise
abbrev pub bits_next : System → List Bool → List Bool
bits_next s y = map (λ r. if val r.enable y then val r.next y else bit y r.bit) s.stored

-- a valuation of the machine gives the bits by their names
abbrev pub bits_shown : System → Machine → List Bool → List Bool
bits_shown s m x = values_at m.vars x s.names

-- The machine has this name, these ports and this clock, a register for each stored bit, by its name, and settles as the bits do.
pub record IsMachineOfBits (name : List ℕ) (ports : List Port) (clock : Option Name) (s : System) (m : Machine) : Type 0 where
  pub text : m.name ≡ name
  pub ports_are : m.ports ≡ ports
  pub clock_is : m.clock ≡ clock
  pub checked : IsChecked m
  pub registers : length m.registers ≡ length s.stored
  pub named : register_names m ≡ map (name_at s.names) (stored_bits s)
  pub forth : (held i x : List Bool) → Settles m held i x → BitsSettle s held i (bits_shown s m x)
  pub back : (held i y : List Bool) → BitsSettle s held i y → (x : List Bool) × Settles m held i x × (bits_shown s m x ≡ y)
  pub loads : (held i x : List Bool) → Settles m held i x → next m x ≡ bits_next s (bits_shown s m x)
