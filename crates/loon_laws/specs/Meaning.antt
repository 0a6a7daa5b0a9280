-- When two netlists behave alike.
use Rattle.std.specs.Prelude.{◌≡◌, ℕ, Bool, List, [], ◌∷◌, Option, Some}
use Rattle.vlsi_base.specs.Member.{In}
use Rattle.vlsi_base.specs.declared.name.Name.{Name}
use Rattle.vlsi_base.specs.declared.name.Terminal.{Terminal}
use Rattle.machine_core.specs.Runs.{Run}
use Rattle.cell_model.specs.Library.{Library}
use Rattle.net_meaning.specs.Netlist.{AbstractNetlist, IsTerminal}
use Rattle.net_meaning.specs.Behaviour.{Contents, Valuation, bit_of, NetSettles, net_next}

-- each terminal of the first netlist has one bit in both
abbrev pub HaveSameBits : Library → AbstractNetlist → AbstractNetlist → List Bool → List Bool → Type 0
HaveSameBits l n k w v = (t : Terminal) → IsTerminal n l t → bit_of n w t ≡ bit_of k v t

-- Two valuations show the same: the bits of the first netlist's terminals are the same in both, and after the clock's rise each owner
-- holds the same.
pub record ShowsSame (l : Library) (n k : AbstractNetlist) (w v : Valuation) : Type 0 where
  pub bits : HaveSameBits l n k w.classes v.classes
  pub held : (owner : List ℕ) → net_next n l w owner ≡ net_next k l v owner

-- inputs and a clock among the ports
pub record ArePorts (n : AbstractNetlist) (input_names : List Name) (clock_name : Option Name) : Type 0 where
  pub inputs : (name : Name) → In name input_names → In name n.ports
  pub clock : (name : Name) → clock_name ≡ Some name → In name n.ports

-- Two netlists behave alike: they have the same ports, and whichever of these are inputs and the clock, from all contents and under
-- all vectors, each valuation of one has a valuation of the other that shows the same.
pub record BehavesAs (l : Library) (n k : AbstractNetlist) : Type 0 where
  pub ports : k.ports ≡ n.ports
  pub forth : (inputs : List Name) (clock : Option Name) (t : Contents) (i : List Bool) (w : Valuation) → ArePorts n inputs clock
      → NetSettles n l inputs clock t i w → (v : Valuation) × NetSettles k l inputs clock t i v × ShowsSame l n k w v
  pub back : (inputs : List Name) (clock : Option Name) (t : Contents) (i : List Bool) (v : Valuation) → ArePorts n inputs clock
      → NetSettles k l inputs clock t i v → (w : Valuation) × NetSettles n l inputs clock t i w × ShowsSame l n k w v

-- ---- runs

-- The bits of the classes in each of the cycles, from the contents t and under the vectors v. With a machine's inputs and clock these
-- are its traces in a netlist.
abbrev pub IsRun : Library → AbstractNetlist → List Name → Option Name → Contents → List (List Bool) → List (List Bool) → Type 0
IsRun l n inputs clock t v ws = Run (NetSettles n l inputs clock) (λ w. w.classes) (net_next n l) t v ws

-- cycle by cycle, the bits of the first netlist's terminals are the same
abbrev pub RunSame : Library → AbstractNetlist → AbstractNetlist → List (List Bool) → List (List Bool) → Type 0
RunSame l n k [] [] = Unit {0}
RunSame l n k (w ∷ ws) (v ∷ vs) = HaveSameBits l n k w v × RunSame l n k ws vs
RunSame l n k [] (v ∷ vs) = ⊥
RunSame l n k (w ∷ ws) [] = ⊥

-- From the same contents and under the same vectors, each run of one netlist has a run of the other with the same bits in each cycle.
pub record RunsAs (l : Library) (n k : AbstractNetlist) : Type 0 where
  pub ports : k.ports ≡ n.ports
  pub forth : (inputs : List Name) (clock : Option Name) (t : Contents) (v ws : List (List Bool)) → ArePorts n inputs clock
      → IsRun l n inputs clock t v ws → (vs : List (List Bool)) × IsRun l k inputs clock t v vs × RunSame l n k ws vs
  pub back : (inputs : List Name) (clock : Option Name) (t : Contents) (v vs : List (List Bool)) → ArePorts n inputs clock
      → IsRun l k inputs clock t v vs → (ws : List (List Bool)) × IsRun l n inputs clock t v ws × RunSame l n k ws vs
