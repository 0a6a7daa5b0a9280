-- A netlist whose terminals aren't joined yet.
use Rattle.std.specs.Prelude.{◌≡◌, ℕ, ◌+◌, ◌<◌, ◌^◌, Option, None, Some, List, [], ◌∷◌, ◌++◌, map, length, slice_index_or, slice_set, take}
use Rattle.std.specs.List.{All, flat_map}
use Rattle.vlsi_base.specs.declared.name.Name.{Name}
use Rattle.vlsi_base.specs.declared.name.Port.{Port}
use Rattle.vlsi_base.specs.declared.name.Terminal.{Terminal}
use Rattle.net_core.specs.declared.frame.Node.{Node}
use Rattle.net_core.specs.declared.error.BuildError.{BuildError}
use Rattle.net_core.specs.declared.error.BuildError.TheVariants as error
use Rattle.net_core.specs.Places.{Stands, IsThere, NoneTwice, Begins, AddsOnly, Learned}
use Rattle.net_core.specs.Netlist.{Instance, Netlist, pin_of, terminals_of, AreInOrder}

pub record Frame : Type 0 where
  pub ports : List Port
  pub models : List (List ℕ)
  pub instances : List Instance

-- an instance whose model is given by its place
abbrev pub instance_of : List (List ℕ) → Node → Instance
instance_of models i = record { name = i.name; model = slice_index_or models i.model []; pins = i.pins }

abbrev pub frame_of : List Port → List (List ℕ) → List Node → Frame
frame_of ports models nodes = record { ports = ports; models = models; instances = map (instance_of models) nodes }

abbrev pub node_pins : Node → List Terminal
node_pins i = map (pin_of i.name) i.pins

abbrev pub frame_terminals : Frame → List Terminal
frame_terminals f = terminals_of f.ports f.instances

-- the number of an instance's first pin is that of the terminals before it
abbrev pub AreNumbered : List Port → List Node → Type 0
AreNumbered ports nodes =
    (k : ℕ) (d : Node) → k < length nodes → (slice_index_or nodes k d).first ≡ length ports + length (flat_map node_pins (take k nodes))

-- what is known of the parts of a frame
pub record IsFrame (ports : List Port) (models : List (List ℕ)) (nodes : List Node) (names : List (List ℕ)) (count : ℕ) : Type 0 where
  pub sorted : AreInOrder (map (λ p. p.name) ports)
  pub listed : names ≡ map (λ i. i.name) nodes
  pub once : NoneTwice names
  pub pins : All (λ i. AreInOrder i.pins) nodes
  pub known : All (λ i. i.model < length models) nodes
  pub firsts : AreNumbered ports nodes
  pub counted : count ≡ length ports + length (flat_map node_pins nodes)
  pub few : count < 2 ^ 32

-- one more instance behind the others, whose model is then one that instances can be given
pub record AddsInstance (old new : Frame) (i : Instance) : Type 0 where
  pub ports : new.ports ≡ old.ports
  pub models : Learned old.models new.models i.model
  pub instances : new.instances ≡ old.instances ++ i ∷ []

-- each model that instances can be given is that of an instance
abbrev pub IsUsed : Frame → Type 0
IsUsed f = (model : List ℕ) → IsThere f.models model → IsThere (map (λ i. i.model) f.instances) model

-- why an instance of this name isn't added, if memory hasn't run out
abbrev pub IsNoPlaceFor : List Instance → List ℕ → BuildError → Type 0
IsNoPlaceFor instances name error.Memory = Unit {0}
IsNoPlaceFor instances name error.Twice = IsThere (map (λ i. i.name) instances) name
IsNoPlaceFor instances name error.Unknown = ⊥

-- the number of an instance's pin of this name; none exactly where it has none
abbrev pub IsPinPlace : Node → Name → Option ℕ → Type 0
IsPinPlace i pin None = IsThere i.pins pin → ⊥
IsPinPlace i pin (Some k) = (j : ℕ) × Stands i.pins j pin × (k ≡ i.first + j)

-- what is known of each frame
pub record IsSound (f : Frame) : Type 0 where
  pub ports : AreInOrder (map (λ p. p.name) f.ports)
  pub names : NoneTwice (map (λ i. i.name) f.instances)
  pub pins : All (λ i. AreInOrder i.pins) f.instances
  pub models : All (λ i. IsThere f.models i.model) f.instances
  pub different : NoneTwice f.models

abbrev pub netlist_of : List ℕ → Frame → List ℕ → ℕ → Netlist
netlist_of name frame classes count = record {
  name = name;
  ports = frame.ports;
  models = frame.models;
  instances = frame.instances;
  classes = classes;
  count = count;
}

-- the same frame but for the model of one instance
pub record SetsModelAt (old new : Frame) (place : ℕ) (model : List ℕ) : Type 0 where
  pub was : Instance
  pub stood : Stands old.instances place was
  pub now : new ≡ record old { instances = slice_set old.instances place (record was { model = model }) }

-- the same frame but for more models behind those that instances can be given, so that each of these names is among them
pub record ReservesNames (old new : Frame) (names : List (List ℕ)) : Type 0 where
  pub ports : new.ports ≡ old.ports
  pub instances : new.instances ≡ old.instances
  pub grown : Begins old.models new.models
  pub there : All (IsThere new.models) names
  pub only : AddsOnly old.models new.models names
