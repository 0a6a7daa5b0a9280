-- How small a netlist is that is read from a text.
use Rattle.std.specs.Prelude.{◌≡◌, ℕ, ◌+◌, ◌^◌, ◌<◌, ◌≤◌, List, length, None}
use Rattle.vlsi_base.specs.declared.name.Name.{Name}
use Rattle.vlsi_base.specs.Member.{In}
use Rattle.source_checks.specs.Checks.{most_ports}
use Rattle.net_core.specs.declared.pins.ModelPins.{ModelPins}
use Rattle.net_core.specs.Netlist.{Instance, Netlist, terminals}
use Rattle.net_right.specs.Condition.{MeetsCondition}
use Rattle.vst_io.specs.Text.{IsVst}

-- no pin of an instance is a bit of a vector
abbrev pub HasScalarPins : Netlist → Type 0
HasScalarPins n = (i : Instance) (pin : Name) → In i n.instances → In pin i.pins → pin.bit ≡ None

-- so many instances of a text that is read
abbrev pub HasFewInstances : Type 0
HasFewInstances = (bytes : List ℕ) (table : List ModelPins) (n : Netlist) → IsVst bytes table n → length n.instances < 2 ^ 27

-- so many ports, of which two at most are supplies
abbrev pub HasFewPorts : Type 0
HasFewPorts =
    (bytes : List ℕ) (table : List ModelPins) (n : Netlist) → IsVst bytes table n → MeetsCondition table n → length n.ports ≤ most_ports + 2

-- so many ports and pins, where each pin is mapped by itself
abbrev pub HasFewPins : Type 0
HasFewPins =
    (bytes : List ℕ) (table : List ModelPins) (n : Netlist) → IsVst bytes table n → MeetsCondition table n → HasScalarPins n
    → length (terminals n) < 2 ^ 27
