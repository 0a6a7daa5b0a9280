-- Machines that can't be told apart from outside.
use Rattle.std.specs.Prelude.{◌≡◌, Bool, List, length}
use Rattle.machine_core.specs.Machine.{Machine, register_names}
use Rattle.machine_core.specs.Cycles.{Settles, outs, next, RunOf, AreVectors}
use Rattle.machine_core.specs.Order.{IsOrdered}

-- The machines have the same name, ports, clock and registers; and from the same contents and under the same vector they show the
-- same outputs and load the same. Of their inner signals nothing is said.
pub record IsAlike (m o : Machine) : Type 0 where
  pub name : o.name ≡ m.name
  pub ports : o.ports ≡ m.ports
  pub clock : o.clock ≡ m.clock
  pub registers : register_names o ≡ register_names m
  pub shows : (s i w v : List Bool) → Settles m s i w → Settles o s i v → outs o v ≡ outs m w
  pub loads : (s i w v : List Bool) → Settles m s i w → Settles o s i v → next o v ≡ next m w

-- So from the same contents they have the same runs.
abbrev pub AlikeRun : Type 0
AlikeRun =
    (m o : Machine) (s : List Bool) (v y : List (List Bool)) → IsOrdered m → IsOrdered o → IsAlike m o → length s ≡ length m.registers
    → AreVectors m v → RunOf m s v y → RunOf o s v y

-- What is alike one way is alike the other way, and a machine is alike itself.
abbrev pub AlikeBothWays : Type 0
AlikeBothWays = (m o : Machine) → IsAlike m o → IsAlike o m

abbrev pub AlikeItself : Type 0
AlikeItself = (m : Machine) → IsOrdered m → IsAlike m m
