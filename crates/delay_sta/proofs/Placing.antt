-- Pins by their places among an instance's, and their classes.
use Rattle.std.proofs.Common.{◌≡◌, ◌⊎◌, inl, inr, ℕ, ◌+◌, ◌<◌, ◌≤◌, List, ◌++◌, map, length, get_or, take, Option, Some, None, refl, sym, ap, ◌∙◌, subst, arith}
use Rattle.std.specs.List.{flat_map}
use Rattle.std.proofs.lemmas.List.{length-map}
use Rattle.std.proofs.lemmas.Bool.{cases_lt}
use Rattle.std.proofs.lemmas.Option.{slice_get_within, slice_get-get_or, slice_get_read, get_or_from_slice_get}
use Rattle.vlsi_base.specs.declared.name.Name.{Name}
use Rattle.vlsi_base.specs.declared.name.Port.{Port}
use Rattle.vlsi_base.specs.declared.name.Terminal.{Terminal}
use Rattle.net_core.specs.declared.frame.Node.{Node}
use Rattle.net_core.specs.Places.{Stands, IsThere, IsPlaceOf, NoneTwice}
use Rattle.net_core.specs.Netlist.{Instance, Netlist, IsNetlist, AreInOrder, port, pin_of, pins_of, terminals, terminals_of, HasClass}
use Rattle.net_core.specs.Frame.{instance_of, node_pins, AreNumbered}
use Rattle.net_core.proofs.Frames.{mapped, unmapped, port_terminals, terminals_are, pin_found, flat_split}
use Rattle.net_core.proofs.Searching.{order_none_twice}
use Rattle.net_core.proofs.Standing.{Split, left, right, split, stands_same}

-- a netlist as its instances are kept
pub record AreNodesOf (n : Netlist) (nodes : List Node) : Type 0 where
  pub seen : map (instance_of n.models) nodes ≡ n.instances
  pub numbered : AreNumbered n.ports nodes

pub nodes_many : (n : Netlist) (nodes : List Node) → AreNodesOf n nodes → length nodes ≡ length n.instances
nodes_many n nodes are = sym (length-map nodes (instance_of n.models)) ∙ ap length are.seen

-- an instance and its node
pub node_instance : (n : Netlist) (nodes : List Node) → AreNodesOf n nodes → (k : ℕ) (node : Node) (i : Instance) → Stands nodes k node → Stands n.instances k i → i ≡ instance_of n.models node
node_instance n nodes are k node i s t =
    let m : Stands n.instances k (instance_of n.models node) = subst (λ (is : List Instance). Stands is k (instance_of n.models node)) are.seen (mapped (instance_of n.models) nodes k node s) in
    stands_same n.instances k i (instance_of n.models node) t m

-- the pin of an instance stands among the terminals
pub pin_stands : (n : Netlist) (nodes : List Node) → AreNodesOf n nodes → (k : ℕ) (node : Node) → Stands nodes k node → (j : ℕ) (pin : Name) → Stands node.pins j pin
    → Stands (terminals n) (node.first + j) (pin_of node.name pin)
pin_stands n nodes are k node s j pin t =
    let first : node.first ≡ length n.ports + length (flat_map node_pins (take k nodes)) =
    subst (λ (x : Node). x.first ≡ length n.ports + length (flat_map node_pins (take k nodes))) (get_or_from_slice_get nodes k node node s) (are.numbered k node (slice_get_within nodes k node s)) in
    let e : length n.ports + (length (flat_map node_pins (take k nodes)) + j) ≡ node.first + j = omega (arith, first) in
    let all : terminals n ≡ port_terminals n.ports ++ flat_map node_pins nodes = ap (λ (xs : List Instance). terminals_of n.ports xs) (sym are.seen) ∙ terminals_are n.ports n.models nodes in
    subst (λ (ts : List Terminal). Stands ts (node.first + j) (pin_of node.name pin)) (sym all)
    (subst (λ i. Stands (port_terminals n.ports ++ flat_map node_pins nodes) i (pin_of node.name pin)) e (pin_found n.ports nodes k j node pin s t))

-- its class stands at that place
pub place_low : (n : Netlist) → IsNetlist n → (nodes : List Node) → AreNodesOf n nodes → (k : ℕ) (node : Node) → Stands nodes k node → (j : ℕ) (pin : Name) → Stands node.pins j pin
    → node.first + j < length n.classes
place_low n sound nodes are k node s j pin t =
    let w = slice_get_within (terminals n) (node.first + j) (pin_of node.name pin) (pin_stands n nodes are k node s j pin t) in
    let e = sound.each in
    omega (arith, w, e)

pub class_at_place : (n : Netlist) → IsNetlist n → (nodes : List Node) → AreNodesOf n nodes → (k : ℕ) (node : Node) → Stands nodes k node → (j : ℕ) (pin : Name) → Stands node.pins j pin
    → HasClass n (pin_of node.name pin) (get_or n.classes (node.first + j) 0)
class_at_place n sound nodes are k node s j pin t =
    (node.first + j, pin_stands n nodes are k node s j pin t, slice_get-get_or n.classes (node.first + j) 0 (place_low n sound nodes are k node s j pin t))

-- the same of the pins of the instance
pub instance_place_low : (n : Netlist) → IsNetlist n → (nodes : List Node) → AreNodesOf n nodes → (k : ℕ) (node : Node) → Stands nodes k node → (i : Instance) (j : ℕ) (pin : Name) → Stands n.instances k i → Stands i.pins j pin
    → node.first + j < length n.classes
instance_place_low n sound nodes are k node s i j pin at t =
    let same = node_instance n nodes are k node i s at in
    place_low n sound nodes are k node s j pin (subst (λ (x : Instance). Stands x.pins j pin) same t)

pub instance_class : (n : Netlist) → IsNetlist n → (nodes : List Node) → AreNodesOf n nodes → (k : ℕ) (node : Node) → Stands nodes k node → (i : Instance) (j : ℕ) (pin : Name) → Stands n.instances k i → Stands i.pins j pin
    → HasClass n (pin_of i.name pin) (get_or n.classes (node.first + j) 0)
instance_class n sound nodes are k node s i j pin at t =
    let same = node_instance n nodes are k node i s at in
    subst (λ (x : Instance). HasClass n (pin_of x.name pin) (get_or n.classes (node.first + j) 0)) (sym same)
    (class_at_place n sound nodes are k node s j pin (subst (λ (x : Instance). Stands x.pins j pin) same t))

-- no pin of an instance stands at two places
pub pins_once : (n : Netlist) → IsNetlist n → (k : ℕ) (i : Instance) → Stands n.instances k i → NoneTwice i.pins
pins_once n sound k i s =
    order_none_twice i.pins (subst (λ (x : Instance). AreInOrder x.pins) (get_or_from_slice_get n.instances k i i s) (sound.pins k i (slice_get_within n.instances k i s)))

-- a pin that has a class is among its instance's
pub pin_of_class : (n : Netlist) → IsNetlist n → (k : ℕ) (i : Instance) → Stands n.instances k i → (pin : Name) (class : ℕ) → HasClass n (pin_of i.name pin) class → IsThere i.pins pin
pin_of_class n sound k i s pin class h = by (split (port_terminals n.ports) (flat_map pins_of n.instances) h.0 (pin_of i.name pin) h.1) where
  by : Split (port_terminals n.ports) (flat_map pins_of n.instances) h.0 (pin_of i.name pin) → IsThere i.pins pin
  by (left here) =
      let u = unmapped (λ (p : Port). port p.name) n.ports h.0 (pin_of i.name pin) here in
      let no : None ≡ Some i.name = ap (λ (t : Terminal). t.instance) u.2 in absurd cc
  by (right j e there) =
      let w = flat_split pins_of n.instances j (pin_of i.name pin) there in
      let u = unmapped (pin_of w.item.name) w.item.pins w.inner (pin_of i.name pin) w.inside in
      let owners : Some w.item.name ≡ Some i.name = ap (λ (t : Terminal). t.instance) u.2 in
      let named : w.item.name ≡ i.name = cc in
      let one = mapped (λ (x : Instance). x.name) n.instances k i s in
      let other = subst (λ (t : List ℕ). Stands (map (λ (x : Instance). x.name) n.instances) w.place t) named (mapped (λ (x : Instance). x.name) n.instances w.place w.item w.stands) in
      let at : w.place ≡ k = sound.names w.place k i.name other one in
      let same : w.item ≡ i = stands_same n.instances k w.item i (subst (λ m. Stands n.instances m w.item) at w.stands) s in
      let is : u.0 ≡ pin = ap (λ (t : Terminal). t.pin) u.2 in
      (w.inner, subst (λ (x : Instance). Stands x.pins w.inner pin) same (subst (λ (m : Name). Stands w.item.pins w.inner m) is u.1))

-- ---- the place of a name among names

-- the name isn't among the first k
abbrev pub LacksName : List Name → Name → ℕ → Type 0
LacksName names name k = (j : ℕ) → j < k → Stands names j name → ⊥

pub name_passed : (names : List Name) (name : Name) (k : ℕ) (at : Name) → Stands names k at → LacksName names name k → (at ≡ name → ⊥) → LacksName names name (k + 1)
name_passed names name k at s before apart j l t = by (cases_lt j k) where
  by : (j < k) ⊎ (k ≤ j) → ⊥
  by (inl less) = before j less t
  by (inr more) =
      let e : j ≡ k = omega (arith, l, more) in
      apart (stands_same names k at name s (subst (λ m. Stands names m name) e t))

pub name_absent : (names : List Name) (name : Name) (k : ℕ) → length names ≤ k → LacksName names name k → IsThere names name → ⊥
name_absent names name k all before t = let w = slice_get_within names t.0 name t.1 in before t.0 (omega (arith, w, all)) t.1

-- ---- a pin's class, as it is read

-- what is asked of an instance's number and a pin's place
abbrev pub HasPinAt : Netlist → ℕ → ℕ → Type 0
HasPinAt n owner place = (i : Instance) × (pin : Name) × Stands n.instances owner i × Stands i.pins place pin

pub node_read : (n : Netlist) (nodes : List Node) (owner : ℕ) (node : Node) → AreNodesOf n nodes → owner < length n.instances → node ≡ get_or nodes owner node → Stands nodes owner node
node_read n nodes owner node are low at = let m = nodes_many n nodes are in slice_get_read nodes (length nodes) owner node refl (omega (arith, low, m)) at

pub read_low : (n : Netlist) (nodes : List Node) (classes : List ℕ) (owner place : ℕ) (node : Node) → IsNetlist n → AreNodesOf n nodes → classes ≡ n.classes → HasPinAt n owner place → node ≡ get_or nodes owner node
    → node.first + place < length classes
read_low n nodes classes owner place node sound are same has at =
    let w = slice_get_within n.instances owner has.0 has.2 in
    let s = node_read n nodes owner node are w at in
    let l = instance_place_low n sound nodes are owner node s has.0 place has.1 has.2 has.3 in
    let e = ap length same in
    omega (arith, l, e)

pub read_class : (n : Netlist) (nodes : List Node) (classes : List ℕ) (owner place : ℕ) (node : Node) → IsNetlist n → AreNodesOf n nodes → classes ≡ n.classes → node ≡ get_or nodes owner node
    → (i : Instance) (pin : Name) → Stands n.instances owner i → Stands i.pins place pin → HasClass n (pin_of i.name pin) (get_or classes (node.first + place) 0)
read_class n nodes classes owner place node sound are same at i pin s t =
    let w = slice_get_within n.instances owner i s in
    let r = node_read n nodes owner node are w at in
    subst (λ (cs : List ℕ). HasClass n (pin_of i.name pin) (get_or cs (node.first + place) 0)) (sym same) (instance_class n sound nodes are owner node r i place pin s t)

-- the instance of a node, as it is read
pub instance_read : (n : Netlist) (nodes : List Node) (owner : ℕ) (node : Node) → AreNodesOf n nodes → owner < length n.instances → node ≡ get_or nodes owner node → Stands n.instances owner (instance_of n.models node)
instance_read n nodes owner node are low at =
    let s = node_read n nodes owner node are low at in
    subst (λ (is : List Instance). Stands is owner (instance_of n.models node)) are.seen (mapped (instance_of n.models) nodes owner node s)

-- a place that is found
pub placed : (pins names : List Name) (name : Name) (o : Option ℕ) (k : ℕ) → names ≡ pins → IsPlaceOf names name o → o ≡ Some k → Stands pins k name
placed pins names name o k same is found =
    subst (λ (xs : List Name). Stands xs k name) same (subst (λ (p : Option ℕ). IsPlaceOf names name p) found is)
