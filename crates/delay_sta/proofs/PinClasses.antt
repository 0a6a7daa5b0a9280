-- The classes of an instance's pins among those of all terminals.
use Rattle.std.proofs.Common.{◌≡◌, ℕ, zero, suc, ◌+◌, ◌<◌, ◌≤◌, List, [], ◌∷◌, ◌++◌, map, length, get_or, take, drop, refl, sym, ap, ◌∙◌, subst, arith}
use Rattle.std.specs.List.{All, flat_map}
use Rattle.std.proofs.lemmas.List.{length-map, length-append, length-take, length-drop, take-append-drop}
use Rattle.std.proofs.lemmas.List.Concat.{flat_map-append}
use Rattle.std.proofs.lemmas.Option.{slice_get_read, slice_get-get_or, slice_get_within, get_or_from_slice_get}
use Rattle.vlsi_base.specs.declared.name.Port.{Port}
use Rattle.net_core.specs.declared.frame.Node.{Node}
use Rattle.net_core.specs.Places.{Stands}
use Rattle.net_core.specs.Frame.{instance_of, AreNumbered}
use Rattle.net_core.specs.Netlist.{Instance, Netlist, IsNetlist, port, pin_of, pins_of, terminals_of}
use Rattle.net_core.proofs.Frames.{mapped, terminals_count}
use Rattle.net_core.proofs.Namings.{turn_below}
use Rattle.net_core.proofs.Standing.{stands_left, stands_right}
use Rattle.delay_sta.specs.Changes.{ArePinClasses}
use Rattle.delay_sta.proofs.Reloading.{whole_by}

map_take : {X Y : Type 0} (f : X → Y) (xs : List X) (k : ℕ) → map f (take k xs) ≡ take k (map f xs)
map_take f [] zero = refl
map_take f [] (suc k) = refl
map_take f (x ∷ xs) zero = refl
map_take {X} {Y} f (x ∷ xs) (suc k) = ap (λ (ys : List Y). f x ∷ ys) (map_take f xs k)

-- where the pins of a node stand
pub record NodePins (n : Netlist) (k : ℕ) (node : Node) : Type 0 where
  pub owner : Instance
  pub stands : Stands n.instances k owner
  pub pins : owner.pins ≡ node.pins
  pub first : node.first ≡ length (terminals_of n.ports (take k n.instances))
  pub last : node.first + length node.pins ≤ length n.classes

pub node_pins_at : (n : Netlist) (nodes : List Node) (k : ℕ) (node : Node) → IsNetlist n → map (instance_of n.models) nodes ≡ n.instances → AreNumbered n.ports nodes → k < length nodes → node ≡ get_or nodes k node
    → NodePins n k node
node_pins_at n nodes k node sound seen numbered low at = record { owner = instance_of n.models node; stands = stands; pins = refl; first = first; last = last } where
  stands : Stands n.instances k (instance_of n.models node)
  stands = subst (λ (is : List Instance). Stands is k (instance_of n.models node)) seen (mapped (instance_of n.models) nodes k node (slice_get_read nodes (length nodes) k node refl low at))

  first : node.first ≡ length (terminals_of n.ports (take k n.instances))
  first =
      ap (λ (d : Node). d.first) at ∙ numbered k node low ∙ sym (terminals_count n.ports n.models (take k nodes))
      ∙ ap (λ (is : List Instance). length (terminals_of n.ports is)) (map_take (instance_of n.models) nodes k ∙ ap (take k) seen)

  last : node.first + length node.pins ≤ length n.classes
  last =
      let f = first in
      let e = sound.each in
      let a = length-append (map (λ (p : Port). port p.name) n.ports) (flat_map pins_of (take k n.instances)) in
      let b = length-append (map (λ (p : Port). port p.name) n.ports) (flat_map pins_of n.instances) in
      let c : length (flat_map pins_of n.instances) ≡ length (flat_map pins_of (take k n.instances) ++ flat_map pins_of (instance_of n.models node ∷ drop (suc k) n.instances)) =
      ap (λ (is : List Instance). length (flat_map pins_of is)) (whole_by n.instances k (instance_of n.models node) stands)
      ∙ ap length (flat_map-append pins_of (take k n.instances) (instance_of n.models node ∷ drop (suc k) n.instances)) in
      let d = length-append (flat_map pins_of (take k n.instances)) (flat_map pins_of (instance_of n.models node ∷ drop (suc k) n.instances)) in
      let g = length-append (pins_of (instance_of n.models node)) (flat_map pins_of (drop (suc k) n.instances)) in
      let h = length-map node.pins (pin_of node.name) in
      omega (arith, f, e, a, b, c, d, g, h)

pub classes_at : (n : Netlist) (k : ℕ) (node : Node) (classes : List ℕ) → NodePins n k node → classes ≡ take (length node.pins) (drop node.first n.classes) → ArePinClasses n k classes
classes_at n k node classes h is = record {
  owner = h.owner;
  stands = h.stands;
  many = many;
  front = take node.first n.classes;
  back = drop (length node.pins) (drop node.first n.classes);
  whole =
      sym (take-append-drop node.first n.classes)
      ∙ ap (λ (cs : List ℕ). take node.first n.classes ++ cs) (sym (take-append-drop (length node.pins) (drop node.first n.classes)) ∙ ap (λ (cs : List ℕ). cs ++ drop (length node.pins) (drop node.first n.classes)) (sym is));
  before = (let t = length-take node.first n.classes in let l = h.last in let s : length (take node.first n.classes) ≡ node.first = omega (arith, t, l) in s) ∙ h.first;
} where
  many : length classes ≡ length h.owner.pins
  many =
      let t = length-take (length node.pins) (drop node.first n.classes) in
      let d = length-drop node.first n.classes in
      let l = h.last in
      let e : length classes ≡ length node.pins = ap length is ∙ (let s : length (take (length node.pins) (drop node.first n.classes)) ≡ length node.pins = omega (arith, t, d, l) in s) in
      e ∙ ap length (sym h.pins)

pub inside_of : (n : Netlist) → IsNetlist n → (number : ℕ) (classes : List ℕ) → ArePinClasses n number classes → All (λ class. class < n.count) classes
inside_of n sound number classes c k d l =
    let s : Stands classes k (get_or classes k d) = slice_get-get_or classes k d l in
    let t = stands_right c.front (classes ++ c.back) k (get_or classes k d) (stands_left classes c.back k (get_or classes k d) s) in
    let u : Stands n.classes (length c.front + k) (get_or classes k d) = subst (λ (cs : List ℕ). Stands cs (length c.front + k) (get_or classes k d)) (sym c.whole) t in
    subst (λ v. v < n.count) (get_or_from_slice_get n.classes (length c.front + k) (get_or classes k d) (get_or classes k d) u)
    (turn_below 0 n.count n.classes sound.turns (length c.front + k) (get_or classes k d) (slice_get_within n.classes (length c.front + k) (get_or classes k d) u))

pub number_low : (n : Netlist) (nodes : List Node) (k : ℕ) → map (instance_of n.models) nodes ≡ n.instances → k < length n.instances → k < length nodes
number_low n nodes k seen low =
    let e = ap length seen in
    let m = length-map nodes (instance_of n.models) in
    omega (arith, e, m, low)
