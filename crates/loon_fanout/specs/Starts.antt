-- What the stages start from.
use Rattle.std.specs.Prelude.{◌≡◌, ℕ, ◌<◌, List, [], length, Some, slice_get}
use Rattle.std.specs.Global.{Vec}
use Rattle.vlsi_base.specs.Names.{vdd, vss}
use Rattle.net_core.specs.Netlist.{Netlist as InMemory, port, HasClass}
use Rattle.loon_wiring.specs.declared.wiring.Wiring.{Wiring}

-- a class has more sinks than that
abbrev pub HasLongLoad : ℕ → List (Vec ℕ) → Type 0
HasLongLoad limit loads = (class : ℕ) × (sinks : Vec ℕ) × (slice_get loads class ≡ Some sinks) × (limit < length sinks.items)

-- a netlist's classes, with no gates put in
pub record IsStart (n : InMemory) (v : Wiring) : Type 0 where
  pub classes : v.classes.items ≡ n.classes
  pub first : v.first ≡ n.count
  pub high : HasClass n (port vdd) v.high
  pub low : HasClass n (port vss) v.low
  pub reads : v.reads.items ≡ []
