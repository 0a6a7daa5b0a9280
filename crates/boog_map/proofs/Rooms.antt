-- How many numbers a graph has.
use Rattle.std.proofs.Common.{◌≡◌, inl, inr, ℕ, ◌+◌, ◌^◌, ◌<◌, ◌≤◌, Bool, not, List, length, filter, refl, ap, subst, arith, length-append}
use Rattle.std.proofs.lemmas.List.Filters.{length-filter_both}
use Rattle.vlsi_base.specs.declared.name.Port.{Port}
use Rattle.machine_core.specs.Machine.{Machine, inputs, outputs, input_ports, is_input, is_clock}
use Rattle.machine_core.specs.Size.{machine_size}
use Rattle.net_theory.proofs.Basics.{length-map}
use Rattle.graph_theory.specs.Graph.{Graph, held_count}
use Rattle.subject_table.proofs.Shared.{all_kinds}
use Rattle.subject_graph.specs.Subject.{IsSubjectGraph}
use Rattle.cell_match.specs.Places.{times}
use Rattle.boog_map.specs.Netlist.{HasRoomForCells}
use Rattle.boog_map.specs.Mapped.{root_numbers}
use Rattle.boog_map.proofs.Marks.{root_cases}

filter_most : {A : Type 0} (p : A → Bool) (xs : List A) → length (filter p xs) ≤ length xs
filter_most p xs = let h = length-filter_both p (λ x. not (p x)) (λ x. refl) xs in omega (arith, h)

pub few_nodes : (m : Machine) (g : Graph) → IsSubjectGraph m g → length g.nodes ≤ machine_size m + 2
few_nodes m g sub = let all = all_kinds g.nodes in let a = sub.small.logic in let b = sub.small.zero in let c = sub.small.one in omega (arith, all, a, b, c)

pub few_inputs : (m : Machine) → length (inputs m) ≤ length m.ports
few_inputs m =
    let a = filter_most (λ name. not (is_clock m.clock name)) (input_ports m) in
    let b = length-map (λ (p : Port). p.name) (filter (λ p. is_input p.dir) m.ports) in
    let c = filter_most (λ (p : Port). is_input p.dir) m.ports in
    omega (arith, a, b, c)

pub numbers_fit : (m : Machine) (g : Graph) → IsSubjectGraph m g → HasRoomForCells m → held_count m + length g.nodes < 2 ^ 32
numbers_fit m g sub room = let a = few_nodes m g sub in let b = few_inputs m in omega (arith, room, a, b)

few_outputs : (m : Machine) → length (outputs m) ≤ length m.ports
few_outputs m =
    let b = length-map (λ (p : Port). p.name) (filter (λ p. not (is_input p.dir)) m.ports) in
    let c = filter_most (λ (p : Port). not (is_input p.dir)) m.ports in
    omega (arith, b, c)

pub roots_fit : (m : Machine) (g : Graph) → IsSubjectGraph m g → HasRoomForCells m → (held : ℕ) (roots : List ℕ) → held ≡ held_count m → roots ≡ root_numbers g
    → held + length g.nodes + length roots < 2 ^ 32
roots_fit m g sub room held roots is_held is_roots =
    let a = few_nodes m g sub in
    let b = few_inputs m in
    let c = few_outputs m in
    let d = ap length is_roots in
    let e = length-append g.outputs g.loads in
    let f = sub.apart.count in
    let h = sub.roots.each in
    omega (arith, room, a, b, c, d, e, f, h, is_held)

pub roots_below : (m : Machine) (g : Graph) → IsSubjectGraph m g → (held : ℕ) (roots : List ℕ) → held ≡ held_count m → roots ≡ root_numbers g
    → (x : ℕ) → 0 < times x roots → x < held + length g.nodes
roots_below m g sub held roots is_held is_roots x h =
    let low : x < held_count m + length g.nodes = elim (root_cases g x (subst (λ (xs : List ℕ). 0 < times x xs) is_roots h)) [
      | inl o ↦ sub.roots.shown x o
      | inr l ↦ sub.roots.loaded x l
    ] in
    omega (arith, low, is_held)
