-- When two netlists in memory are the same by the names in them, and what differs first where they aren't.
use Rattle.std.specs.Prelude.{◌≡◌, ◌⊎◌, ◌↔◌, ℕ, false, List, map, None}
use Rattle.vlsi_base.specs.declared.name.Name.{Name}
use Rattle.vlsi_base.specs.declared.name.Terminal.{Terminal}
use Rattle.vlsi_base.specs.Names.{comes_before}
use Rattle.net_core.specs.Places.{IsThere}
use Rattle.net_core.specs.Netlist.{Netlist, port, pin_of}
use Rattle.net_right.specs.Same.{HasInstance, AreJoined}

-- the netlist has a port of this name, in whatever direction
abbrev pub HasPort : Netlist → Name → Type 0
HasPort n name = IsThere (map (λ p. p.name) n.ports) name

-- The two have ports of the same names, instances of the same names and models, and the same terminals in one class. A terminal that
-- is there is in one class with itself, so the terminals of each are those of the other. Directions of ports, the order of
-- instances and the numbers of classes don't matter.
pub record AreSame (a b : Netlist) : Type 0 where
  pub ports : (name : Name) → HasPort a name ↔ HasPort b name
  pub instances : (name model : List ℕ) → HasInstance a name model ↔ HasInstance b name model
  pub classes : (s t : Terminal) → AreJoined a s t ↔ AreJoined b s t

-- exactly one of the two holds
abbrev pub OnlyOne : Type 0 → Type 0 → Type 0
OnlyOne P Q = (P × (Q → ⊥)) ⊎ (Q × (P → ⊥))

-- The terminals in one class with this one aren't the same in both netlists. One that is missing has none, not even itself.
abbrev pub HasOtherMembers : Netlist → Netlist → Terminal → Type 0
HasOtherMembers a b t = (s : Terminal) × OnlyOne (AreJoined a t s) (AreJoined b t s)

-- a port that one netlist lacks, or whose class has other members in the other
pub data DiffersAtPort (a b : Netlist) (name : Name) : Type 0 where
  lacking : OnlyOne (HasPort a name) (HasPort b name) → DiffersAtPort a b name
  members : HasOtherMembers a b (port name) → DiffersAtPort a b name

-- an instance that one netlist lacks, whose model differs, or one of whose terminals is missing or has a class with other members in
-- the other netlist
pub data DiffersAtInstance (a b : Netlist) (name : List ℕ) : Type 0 where
  modelled : (model : List ℕ) → OnlyOne (HasInstance a name model) (HasInstance b name model) → DiffersAtInstance a b name
  joined : (pin : Name) → HasOtherMembers a b (pin_of name pin) → DiffersAtInstance a b name

-- an instance's name has no bit
pub record IsInstanceAtFault (a b : Netlist) (name : Name) : Type 0 where
  pub scalar : name.bit ≡ None
  pub differs : DiffersAtInstance a b name.text

-- this is the least name for which P holds
pub record IsLeast (P : Name → Type 0) (name : Name) : Type 0 where
  pub holds : P name
  pub least : (other : Name) → P other → comes_before other name ≡ false

-- The name that is told where netlists differ: the least of a port, and if there is none, the least of an instance.
pub data IsDifference (a b : Netlist) (name : Name) : Type 0 where
  at_port : IsLeast (DiffersAtPort a b) name → IsDifference a b name
  at_instance : ((other : Name) → DiffersAtPort a b other → ⊥) → IsLeast (IsInstanceAtFault a b) name → IsDifference a b name
