-- Netlists in memory that are the same by the names in them.
use Rattle.std.specs.Prelude.{◌≡◌, ◌↔◌, ℕ, List}
use Rattle.vlsi_base.specs.declared.name.Port.{Port}
use Rattle.vlsi_base.specs.declared.name.Terminal.{Terminal}
use Rattle.net_core.specs.Places.{IsThere}
use Rattle.net_core.specs.Netlist.{Instance, Netlist, HasClass}

-- the netlist has an instance of this name and this model
pub record HasInstance (n : Netlist) (name model : List ℕ) : Type 0 where
  pub instance : Instance
  pub listed : IsThere n.instances instance
  pub named : instance.name ≡ name
  pub modelled : instance.model ≡ model

-- two terminals are there, in one class
pub record AreJoined (n : Netlist) (a b : Terminal) : Type 0 where
  pub class : ℕ
  pub first : HasClass n a class
  pub second : HasClass n b class

-- Their ports have the same names and directions, their instances the same names and models, and the same terminals are in one
-- class: those of each are those of the other, since each is in one class with itself. In what order instances stand and how
-- classes are numbered doesn't matter.
pub record AreSameByName (n k : Netlist) : Type 0 where
  pub ports : (p : Port) → IsThere n.ports p ↔ IsThere k.ports p
  pub instances : (name model : List ℕ) → HasInstance n name model ↔ HasInstance k name model
  pub classes : (a b : Terminal) → AreJoined n a b ↔ AreJoined k a b

-- this is an equivalence
pub record IsEquivalence (R : Netlist → Netlist → Type 0) : Type 0 where
  pub itself : (n : Netlist) → R n n
  pub turned : (n k : Netlist) → R n k → R k n
  pub through : (n k j : Netlist) → R n k → R k j → R n j

abbrev pub SameByNameIsEquivalence : Type 0
SameByNameIsEquivalence = IsEquivalence AreSameByName
