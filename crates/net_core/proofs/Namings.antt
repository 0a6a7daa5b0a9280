-- The names of terminals by their places.
use Rattle.std.proofs.Common.{◌≡◌, ℕ, zero, suc, ◌+◌, ◌-◌, ◌<◌, ◌≤◌, ◌⊎◌, inl, inr, List, [], ◌∷◌, ◌++◌, length, take, Some, Result, Ok, Err, sym, ap, subst, ◌∙◌, arith}
use Rattle.std.specs.List.{All, flat_map}
use Rattle.std.specs.Prelude.{IfOk}
use Rattle.std.proofs.lemmas.Bool.{cases_lt}
use Rattle.std.proofs.lemmas.List.{length-map}
use Rattle.vlsi_base.specs.declared.name.Name.{Name}
use Rattle.vlsi_base.specs.declared.name.Port.{Port}
use Rattle.vlsi_base.specs.declared.name.Terminal.{Terminal}
use Rattle.vlsi_base.specs.Names.{scalar}
use Rattle.net_core.specs.declared.frame.Node.{Node}
use Rattle.net_core.specs.Places.{Stands, IsThere, IsFirstPlace}
use Rattle.net_core.specs.Netlist.{Netlist, port, pin_of, InTurn, ended, again, first, terminals}
use Rattle.net_core.specs.Frame.{Frame, frame_of, node_pins, frame_terminals}
use Rattle.net_core.specs.Named.{terminal_names, HasNamesAt}
use Rattle.net_core.specs.Checks.{HasNamesOfLeast}
use Rattle.net_core.proofs.Standing.{stands_left, stands_right}
use Rattle.net_core.proofs.Frames.{mapped, flat_join, port_terminals, terminals_are, terminals_count}

pub pin_named : (nodes : List Node) (i rest place : ℕ) (node : Node) (pin : Name) (names : List Name) → Stands nodes i node → Stands node.pins rest pin → place ≡ length (flat_map node_pins (take i nodes)) + rest
    → names ≡ scalar node.name ∷ pin ∷ [] → HasNamesAt (flat_map node_pins nodes) place names
pin_named nodes i rest place node pin names s p e named = record {
  terminal = pin_of node.name pin;
  stands = subst (λ k. Stands (flat_map node_pins nodes) k (pin_of node.name pin)) (sym e) (flat_join node_pins nodes i rest node (pin_of node.name pin) s (mapped (pin_of node.name) node.pins rest pin p));
  named = named;
}

pub port_at : (ports : List Port) (models : List (List ℕ)) (nodes : List Node) (f : Frame) (k : ℕ) (p : Port) (names : List Name) → frame_of ports models nodes ≡ f → Stands ports k p → names ≡ terminal_names (port p.name) → HasNamesAt (frame_terminals f) k names
port_at ports models nodes f k p names view s named = subst (λ (g : Frame). HasNamesAt (frame_terminals g) k names) view (record {
  terminal = port p.name;
  stands = subst (λ (ts : List Terminal). Stands ts k (port p.name)) (sym (terminals_are ports models nodes)) (stands_left (port_terminals ports) (flat_map node_pins nodes) k (port p.name) (mapped (λ (x : Port). port x.name) ports k p s));
  named = named;
})

pub pin_at : (ports : List Port) (models : List (List ℕ)) (nodes : List Node) (f : Frame) (k : ℕ) (names : List Name) → frame_of ports models nodes ≡ f → length ports ≤ k → HasNamesAt (flat_map node_pins nodes) (k - length ports) names → HasNamesAt (frame_terminals f) k names
pin_at ports models nodes f k names view more h = subst (λ (g : Frame). HasNamesAt (frame_terminals g) k names) view (record {
  terminal = h.terminal;
  stands = subst (λ (ts : List Terminal). Stands ts k h.terminal) (sym (terminals_are ports models nodes))
      (let n = length-map ports (λ (p : Port). port p.name) in let e : length (port_terminals ports) + (k - length ports) ≡ k = omega (arith, more, n) in
      subst (λ j. Stands (port_terminals ports ++ flat_map node_pins nodes) j h.terminal) e (stands_right (port_terminals ports) (flat_map node_pins nodes) (k - length ports) h.terminal h.stands));
  named = h.named;
})

pub pins_left : (ports : List Port) (models : List (List ℕ)) (nodes : List Node) (f : Frame) (k : ℕ) → frame_of ports models nodes ≡ f → length ports ≤ k → k < length (frame_terminals f) → k - length ports < length (flat_map node_pins nodes)
pins_left ports models nodes f k view more less =
    let n = terminals_count ports models nodes in
    let e : length (frame_terminals f) ≡ length (frame_terminals (frame_of ports models nodes)) = ap (λ (g : Frame). length (frame_terminals g)) (sym view) in
    omega (arith, n, e, more, less)

-- each number that was met stands at a place, and all are below their count
pub turn_reached : (met count k : ℕ) (ks : List ℕ) → InTurn met ks count → met ≤ k → k < count → IsThere ks k
turn_reached met count k [] ended more less = absurd (omega (arith, more, less))
turn_reached met count k (x ∷ ks) (again l t) more less = let r = turn_reached met count k ks t more less in (suc r.0, r.1)
turn_reached met count k (x ∷ ks) (first t) more less = by (turn_reached (met + 1) count k ks t) (cases_lt met k) where
  by : (met + 1 ≤ k → k < count → IsThere ks k) → (met < k) ⊎ (k ≤ met) → IsThere (met ∷ ks) k
  by rest (inl l) = let r = rest (omega (arith, l)) less in (suc r.0, r.1)
  by rest (inr m) = let e : met ≡ k = omega (arith, m, more) in (0, ap Some e)

pub turn_grows : (met count : ℕ) (ks : List ℕ) → InTurn met ks count → met ≤ count
turn_grows met count [] ended = omega arith
turn_grows met count (x ∷ ks) (again l t) = turn_grows met count ks t
turn_grows met count (x ∷ ks) (first t) = let g = turn_grows (met + 1) count ks t in omega (arith, g)

pub turn_below : (met count : ℕ) (ks : List ℕ) → InTurn met ks count → All (λ k. k < count) ks
turn_below met count [] ended k d l = absurd (omega (arith, l))
turn_below met count (x ∷ ks) (again less t) zero d l = let g = turn_grows met count ks t in omega (arith, less, g)
turn_below met count (x ∷ ks) (again less t) (suc k) d l = turn_below met count ks t k d (omega (arith, l))
turn_below met count (x ∷ ks) (first t) zero d l = let g = turn_grows (met + 1) count ks t in omega (arith, g)
turn_below met count (x ∷ ks) (first t) (suc k) d l = turn_below (met + 1) count ks t k d (omega (arith, l))

pub least_named : (n : Netlist) (class place : ℕ) (names : List Name) → IsFirstPlace n.classes class (Some place) → HasNamesAt (terminals n) place names → HasNamesOfLeast n class names
least_named n class place names at h = record {
  terminal = h.terminal;
  least = record { place = place; stands = h.stands; here = at.0; first = at.1 };
  named = h.named;
}

pub two_names : (one two three : List Name) (p q a b : Name) → three ≡ two ++ q ∷ [] → two ≡ one ++ p ∷ [] → one ≡ [] → p ≡ a → q ≡ b → three ≡ a ∷ b ∷ []
two_names one two three p q a b e f g h i =
    e ∙ ap (λ (xs : List Name). xs ++ q ∷ []) (f ∙ ap (λ (xs : List Name). xs ++ p ∷ []) g) ∙ ap (λ (x : Name). x ∷ q ∷ []) h ∙ ap (λ (x : Name). a ∷ x ∷ []) i

pub if_ok : {T E : Type 0} (P Q : T → Type 0) (r : Result T E) → ((x : T) → P x → Q x) → IfOk r P → IfOk r Q
if_ok P Q (Ok x) f p = f x p
if_ok P Q (Err e) f p = tt
