-- The plan of a machine's instances.
use Rattle.std.proofs.Common.{◌≡◌, ℕ, zero, suc, List, [], ◌∷◌, ◌++◌, length, map, take, Option, refl, ◌∙◌, ap, arith, length-append, append_assoc}
use Rattle.vlsi_base.specs.declared.name.Name.{Name}
use Rattle.vlsi_base.specs.declared.name.Terminal.{Terminal}
use Rattle.machine_core.specs.Machine.{Machine, inputs, register_names}
use Rattle.machine_core.specs.Checked.{IsChecked}
use Rattle.machine_core.specs.Order.{equation_names}
use Rattle.net_core.specs.Netlist.{port}
use Rattle.net_theory.proofs.Basics.{length-map}
use Rattle.graph_theory.specs.Graph.{Graph, held_count}
use Rattle.cell_match.specs.declared.gate.Gate.{Gate}
use Rattle.subject_graph.specs.Subject.{IsSubjectGraph}
use Rattle.boog_map.specs.declared.choice.Parts.{Parts}
use Rattle.boog_map.specs.declared.place.Spot.{Spot}
use Rattle.boog_map.specs.Draft.{output_terminal, register_spots, gate_spots, gate_drivers}
use Rattle.boog_map.specs.Mapped.{node_gates, spots_of, drivers_of}
use Rattle.boog_map.proofs.Spots.{register_count}

take_front : {A : Type 0} (xs ys : List A) (n : ℕ) → n ≡ length xs → take n (xs ++ ys) ≡ xs
take_front [] ys zero is = refl
take_front [] ys (suc n) is = absurd (omega (arith, is))
take_front (x ∷ xs) ys zero is = absurd (omega (arith, is))
take_front {A} (x ∷ xs) ys (suc n) is = ap (λ (zs : List A). x ∷ zs) (take_front xs ys n (omega (arith, is)))

-- the first names of a machine are its inputs
pub inputs_first : (m : Machine) (names : List Name) (n : ℕ) → IsChecked m → names ≡ m.vars → n ≡ length (inputs m) → take n names ≡ inputs m
inputs_first m names n checked is count =
    ap (take n) (is ∙ checked.ordered.vars ∙ append_assoc (inputs m) (register_names m) (equation_names m)) ∙ take_front (inputs m) (register_names m ++ equation_names m) n count

module _ (m : Machine) (g : Graph) (sub : IsSubjectGraph m g) (ps : Parts) (gs : List (Option Gate)) (s0 s1 s2 : List Spot) (d0 d1 d2 : List Terminal) (loads : List ℕ)
    (some : List (Option Gate)) (no_spots : s0 ≡ []) (ports_first : d0 ≡ map port (inputs m)) (is_loads : loads ≡ g.loads) (is_some : some ≡ node_gates m gs)
    (spots_1 : s1 ≡ s0 ++ register_spots (length d0) 0 loads) (drivers_1 : d1 ≡ d0 ++ map (output_terminal ps) (register_spots (length d0) 0 loads)) where
  first_count : length d0 ≡ length (inputs m)
  first_count = ap length ports_first ∙ length-map port (inputs m)

  registers_are : register_spots (length d0) 0 loads ≡ register_spots (length (inputs m)) 0 g.loads
  registers_are = ap (λ (n : ℕ). register_spots n 0 loads) first_count ∙ ap (register_spots (length (inputs m)) 0) is_loads

  pub held_drivers : length d1 ≡ held_count m
  held_drivers =
      let a = ap length drivers_1 in
      let b = length-append d0 (map (output_terminal ps) (register_spots (length d0) 0 loads)) in
      let c = length-map (output_terminal ps) (register_spots (length d0) 0 loads) in
      let d = register_count (length d0) 0 loads in
      let e = ap length is_loads in
      let f = sub.roots.each in
      let h = first_count in
      omega (arith, a, b, c, d, e, f, h)

  gates_are : gate_spots (length d1) 0 some ≡ gate_spots (held_count m) 0 (node_gates m gs)
  gates_are = ap (λ (n : ℕ). gate_spots n 0 some) held_drivers ∙ ap (gate_spots (held_count m) 0) is_some

  gate_drivers_are : gate_drivers ps (length d1) 0 some ≡ gate_drivers ps (held_count m) 0 (node_gates m gs)
  gate_drivers_are = ap (λ (n : ℕ). gate_drivers ps n 0 some) held_drivers ∙ ap (gate_drivers ps (held_count m) 0) is_some

  pub spots_are : s2 ≡ s1 ++ gate_spots (length d1) 0 some → s2 ≡ spots_of m g gs
  spots_are spots_2 =
      spots_2 ∙ ap (λ (xs : List Spot). s1 ++ xs) gates_are
      ∙ ap (λ (xs : List Spot). xs ++ gate_spots (held_count m) 0 (node_gates m gs))
      (spots_1 ∙ ap (λ (xs : List Spot). xs ++ register_spots (length d0) 0 loads) no_spots ∙ registers_are)

  pub drivers_are : d2 ≡ d1 ++ gate_drivers ps (length d1) 0 some → d2 ≡ drivers_of m g ps gs
  drivers_are drivers_2 =
      drivers_2 ∙ ap (λ (xs : List Terminal). d1 ++ xs) gate_drivers_are
      ∙ ap (λ (xs : List Terminal). xs ++ gate_drivers ps (held_count m) 0 (node_gates m gs))
      (drivers_1 ∙ ap (λ (xs : List Spot). d0 ++ map (output_terminal ps) xs) registers_are)
      ∙ append_assoc d0 (map (output_terminal ps) (register_spots (length (inputs m)) 0 g.loads)) (gate_drivers ps (held_count m) 0 (node_gates m gs))
      ∙ ap (λ (xs : List Terminal). xs ++ (map (output_terminal ps) (register_spots (length (inputs m)) 0 g.loads) ++ gate_drivers ps (held_count m) 0 (node_gates m gs))) ports_first
