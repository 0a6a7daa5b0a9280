-- The names of two machines, and those that have a role in one of them alone.
use Rattle.std.specs.Prelude.{◌≡◌, ◌⊎◌, ◌<◌, List, length, option_to_list}
use Rattle.std.specs.declared.cmp.Ordering.TheVariants.{Less}
use Rattle.vlsi_base.specs.declared.name.Name.{Name}
use Rattle.vlsi_base.specs.Name.{name_cmp}
use Rattle.vlsi_base.specs.Member.{In}
use Rattle.machine_core.specs.Machine.{Machine, input_ports, outputs, register_names}
use Rattle.proof_joint.specs.declared.naming.Role.{Role}
use Rattle.proof_joint.specs.declared.naming.Role.TheVariants.{Input, Output, Clock, Register}

-- the names that have a role in a machine, in their order; the clock is an input port too
abbrev pub names_with : Machine → Role → List Name
names_with m Input = input_ports m
names_with m Output = outputs m
names_with m Clock = option_to_list m.clock
names_with m Register = register_names m

-- each role has the same names in both
abbrev pub HaveSameNames : Machine → Machine → Type 0
HaveSameNames a b = (role : Role) → names_with b role ≡ names_with a role

-- a name that stands in one of the lists alone
abbrev pub IsApart : List Name → List Name → Name → Type 0
IsApart xs ys name = (In name xs × (In name ys → ⊥)) ⊎ (In name ys × (In name xs → ⊥))

-- Names are compared as inputs, outputs and registers; as clocks only where both machines have registers, since a clock that loads
-- nothing is an input like the others.
abbrev pub IsCompared : Machine → Machine → Role → Type 0
IsCompared a b Input = Unit {0}
IsCompared a b Output = Unit {0}
IsCompared a b Clock = (0 < length a.registers) × (0 < length b.registers)
IsCompared a b Register = Unit {0}

-- each role in which names are compared has the same names in both
abbrev pub AgreeByName : Machine → Machine → Type 0
AgreeByName a b = (role : Role) → IsCompared a b role → names_with b role ≡ names_with a role

-- a name that has such a role in one of the machines alone
abbrev pub IsOneSided : Machine → Machine → Name → Type 0
IsOneSided a b name = (role : Role) × IsCompared a b role × IsApart (names_with a role) (names_with b role) name

-- the least such name
pub record IsLeastOneSided (a b : Machine) (name : Name) : Type 0 where
  pub one_sided : IsOneSided a b name
  pub least : (other : Name) → IsOneSided a b other → name_cmp other name ≡ Less → ⊥
