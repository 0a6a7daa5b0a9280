-- Machines that an entity of a text can declare.
use Rattle.std.specs.Prelude.{◌^◌, ◌<◌, ◌≤◌, length, IfSome}
use Rattle.vlsi_base.specs.declared.name.Port.{Port}
use Rattle.vlsi_base.specs.Member.{In}
use Rattle.machine_core.specs.Machine.{Machine}
use Rattle.text_names.specs.Words.{IsIdentifier, CanBePorts}
use Rattle.source_checks.specs.Checks.{most_ports}
use Rattle.vbe_writable.specs.Laws.{with_supplies}

-- A machine whose name and ports, with the supplies, an entity of a text can declare: they are identifiers of at most 64 bytes, the
-- numbers of bits have 32 bits, and there are few enough ports.
pub record CanBeDeclared (m : Machine) : Type 0 where
  pub name : IsIdentifier m.name
  pub ports : CanBePorts (with_supplies m.ports)
  pub short_name : length m.name ≤ 64
  pub short_ports : (p : Port) → In p m.ports → (length p.name.text ≤ 64) × IfSome p.name.bit (λ k. k < 2 ^ 32)
  pub few_ports : length m.ports ≤ most_ports
