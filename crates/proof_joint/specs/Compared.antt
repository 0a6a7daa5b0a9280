-- What a machine does as it is compared: the same as it does itself, whatever the clock's bit.
use Rattle.std.specs.Prelude.{◌≡◌, ◌↔◌, Bool, List, length, map}
use Rattle.machine_core.specs.Named.{values_at}
use Rattle.machine_core.specs.Machine.{Machine, inputs, register_names}
use Rattle.machine_core.specs.Cycles.{Settles, outs, next, RunOf, AreVectors}
use Rattle.machine_core.specs.Checked.{IsChecked}
use Rattle.proof_joint.specs.Clock.{as_compared}

-- the bits of the first machine's inputs in a vector for the second, by name
abbrev pub own_bits : Machine → Machine → List Bool → List Bool
own_bits m o i = values_at (inputs o) i (inputs m)

-- The second machine has the name, the ports and the registers of the first, and perhaps more inputs: each vector for the first is a
-- part of one for the second. From the same contents and under such vectors they show the same outputs and load the same, whatever bits
-- the further inputs have.
pub record BehavesAlike (m o : Machine) : Type 0 where
  pub name : o.name ≡ m.name
  pub ports : o.ports ≡ m.ports
  pub registers : register_names o ≡ register_names m
  pub covers : (i : List Bool) → length i ≡ length (inputs m) → (j : List Bool) × (length j ≡ length (inputs o)) × (own_bits m o j ≡ i)
  pub shows : (s i w v : List Bool) → Settles m s (own_bits m o i) w → Settles o s i v → outs o v ≡ outs m w
  pub loads : (s i w v : List Bool) → Settles m s (own_bits m o i) w → Settles o s i v → next o v ≡ next m w

-- a checked machine, and the same as it is compared
abbrev pub ComparedBehavesAlike : Type 0
ComparedBehavesAlike = (m : Machine) → IsChecked m → BehavesAlike m (as_compared m)

-- So from the same contents they have the same runs.
abbrev pub ComparedRunsAlike : Type 0
ComparedRunsAlike =
    (m : Machine) (s : List Bool) (v y : List (List Bool)) → IsChecked m → AreVectors (as_compared m) v
    → RunOf (as_compared m) s v y ↔ RunOf m s (map (own_bits m (as_compared m)) v) y
