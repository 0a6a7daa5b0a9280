-- Netlists in memory: ports, instances, their terminals, and the classes of these.
use Rattle.std.specs.Prelude.{◌≡◌, AllPairs, IsTrue, ℕ, ◌+◌, ◌<◌, List, [], ◌∷◌, ◌++◌, map, length, Option, None, Some, slice_set}
use Rattle.std.specs.List.{All, flat_map}
use Rattle.vlsi_base.specs.declared.name.Name.{Name}
use Rattle.vlsi_base.specs.declared.name.Port.{Port}
use Rattle.vlsi_base.specs.declared.name.Terminal.{Terminal}
use Rattle.vlsi_base.specs.Names.{comes_before}
use Rattle.net_core.specs.Places.{Stands, IsThere, NoneTwice, Begins, AddsOnly}

pub record Instance : Type 0 where
  pub name : List ℕ
  -- the name of its model
  pub model : List ℕ
  -- in the order of names
  pub pins : List Name

pub record Netlist : Type 0 where
  pub name : List ℕ
  -- in the order of names
  pub ports : List Port
  -- the models that instances can be given, each once
  pub models : List (List ℕ)
  pub instances : List Instance
  -- the class of each terminal, in the order of terminals
  pub classes : List ℕ
  -- how many classes there are
  pub count : ℕ

-- a port of the netlist, and a pin of an instance
abbrev pub port : Name → Terminal
port name = record { instance = None; pin = name }

abbrev pub pin_of : List ℕ → Name → Terminal
pin_of owner name = record { instance = Some owner; pin = name }

abbrev pub pins_of : Instance → List Terminal
pins_of i = map (pin_of i.name) i.pins

-- all terminals in their order: ports by name, then instances in order with their pins by name
abbrev pub terminals_of : List Port → List Instance → List Terminal
terminals_of ports instances = map (λ p. port p.name) ports ++ flat_map pins_of instances

abbrev pub terminals : Netlist → List Terminal
terminals n = terminals_of n.ports n.instances

-- each name stands before the later ones in the order of names, so none stands twice
abbrev pub AreInOrder : List Name → Type 0
AreInOrder names = AllPairs (λ a b. IsTrue (comes_before a b)) names

-- Classes in the order of their terminals, where so many have been met: each is one of these, or it is met now and has the
-- next number.
pub data InTurn : ℕ → List ℕ → ℕ → Type 0 where
  ended : {met : ℕ} → InTurn met [] met
  again : {met count k : ℕ} {rest : List ℕ} → k < met → InTurn met rest count → InTurn met (k ∷ rest) count
  first : {met count : ℕ} {rest : List ℕ} → InTurn (met + 1) rest count → InTurn met (met ∷ rest) count

-- What is known of each netlist: ports and the pins of an instance stand in the order of names, names of instances differ, and
-- classes are numbered from 0 on without a gap, in the order of their least terminals.
pub record IsNetlist (n : Netlist) : Type 0 where
  pub ports : AreInOrder (map (λ p. p.name) n.ports)
  pub names : NoneTwice (map (λ i. i.name) n.instances)
  pub pins : All (λ i. AreInOrder i.pins) n.instances
  pub models : All (λ i. IsThere n.models i.model) n.instances
  pub different : NoneTwice n.models
  pub each : length n.classes ≡ length (terminals n)
  pub turns : InTurn 0 n.classes n.count

-- the terminal stands in the netlist, in this class
abbrev pub HasClass : Netlist → Terminal → ℕ → Type 0
HasClass n t class = (k : ℕ) × Stands (terminals n) k t × Stands n.classes k class

-- the netlist as a function from terminals to classes, and what that function has to give
pub record IsClassFunction (n : Netlist) (class : Terminal → ℕ) : Type 0 where
  pub each : (t : Terminal) (k : ℕ) → HasClass n t k → class t ≡ k

-- why a terminal has no class: it isn't there
abbrev pub IsClassOf : Netlist → Terminal → Option ℕ → Type 0
IsClassOf n t None = IsThere (terminals n) t → ⊥
IsClassOf n t (Some class) = HasClass n t class

-- the same netlist but for the model of one instance
pub record SetsModel (old new : Netlist) (place : ℕ) (model : List ℕ) : Type 0 where
  pub was : Instance
  pub stood : Stands old.instances place was
  pub now : new ≡ record old { instances = slice_set old.instances place (record was { model = model }) }

-- the same netlist but for more models behind those that can be given, so that each of these names is among them
pub record ReservesModels (old new : Netlist) (names : List (List ℕ)) : Type 0 where
  pub now : new ≡ record old { models = new.models }
  pub kept : Begins old.models new.models
  pub added : All (IsThere new.models) names
  pub only : AddsOnly old.models new.models names
