-- One more node of a plan.
use Rattle.std.proofs.Common.{◌≡◌, ℕ, ◌+◌, ◌<◌, ◌≤◌, List, [], ◌∷◌, ◌++◌, length, drop, get_or, Option, None, Some, sym, ◌∙◌, ap, arith, length-append}
use Rattle.vlsi_base.specs.declared.name.Terminal.{Terminal}
use Rattle.vlsi_base.specs.Names.{vss}
use Rattle.net_core.specs.Netlist.{port}
use Rattle.cell_match.specs.declared.gate.Gate.{Gate}
use Rattle.boog_map.specs.declared.choice.Parts.{Parts}
use Rattle.boog_map.specs.declared.place.Spot.{Spot}
use Rattle.boog_map.specs.Draft.{gate_spot, gate_spots, gate_drivers, output_terminal}
use Rattle.boog_map.proofs.Steps.{push_step, spots_some, spots_none, drivers_some, drivers_none}

-- what was placed of the nodes so far
pub record NodesAt (ps : Parts) (gs : List (Option Gate)) (s0 : List Spot) (d0 : List Terminal) (i count : ℕ) (s : List Spot) (d : List Terminal) : Type 0 where
  pub spots : s ++ gate_spots (length d) count (drop i gs) ≡ s0 ++ gate_spots (length d0) 0 gs
  pub drivers : d ++ gate_drivers ps (length d) count (drop i gs) ≡ d0 ++ gate_drivers ps (length d0) 0 gs
  pub number : length d ≡ length d0 + i
  pub few : count ≤ i

module _ (ps : Parts) (gs : List (Option Gate)) (s0 : List Spot) (d0 : List Terminal) (i count : ℕ) (s : List Spot) (d : List Terminal)
    (so_far : NodesAt ps gs s0 d0 i count s d) (o : Option Gate) (low : i < length gs) (is : o ≡ get_or gs i o) (s1 : List Spot) (d1 : List Terminal) (more : ℕ) where
  abbrev rest : List (Option Gate)
  rest = drop (i + 1) gs

  one_longer : (t : Terminal) → d1 ≡ d ++ t ∷ [] → length d1 ≡ length d + 1
  one_longer t e = let a = ap length e in let b = length-append d (t ∷ []) in omega (arith, a, b)

  pub node_some : (x : Gate) → o ≡ Some x → s1 ≡ s ++ gate_spot count (length d) x ∷ [] → d1 ≡ d ++ output_terminal ps (gate_spot count (length d) x) ∷ []
      → more ≡ count + 1 → NodesAt ps gs s0 d0 (i + 1) more s1 d1
  node_some x some put driven counted =
      let g = gate_spot count (length d) x in
      let size = one_longer (output_terminal ps g) driven in
      let number = so_far.number in
      let few = so_far.few in
      record {
        spots =
            ap (λ (xs : List Spot). xs ++ gate_spots (length d1) more rest) put ∙ ap (λ (n : ℕ). (s ++ g ∷ []) ++ gate_spots n more rest) size
            ∙ ap (λ (k : ℕ). (s ++ g ∷ []) ++ gate_spots (length d + 1) k rest) counted
            ∙ push_step s (gate_spots (length d) count (drop i gs)) (gate_spots (length d + 1) (count + 1) rest)
            (s0 ++ gate_spots (length d0) 0 gs) g (spots_some ps (length d) count gs i o low is x some) so_far.spots;
        drivers =
            ap (λ (n : ℕ). d1 ++ gate_drivers ps n more rest) size ∙ ap (λ (xs : List Terminal). xs ++ gate_drivers ps (length d + 1) more rest) driven
            ∙ ap (λ (k : ℕ). (d ++ output_terminal ps g ∷ []) ++ gate_drivers ps (length d + 1) k rest) counted
            ∙ push_step d (gate_drivers ps (length d) count (drop i gs)) (gate_drivers ps (length d + 1) (count + 1) rest)
            (d0 ++ gate_drivers ps (length d0) 0 gs) (output_terminal ps g) (drivers_some ps (length d) count gs i o low is x some) so_far.drivers;
        number = omega (arith, size, number);
        few = omega (arith, few, counted);
      }

  pub node_none : o ≡ None → s1 ≡ s → d1 ≡ d ++ port vss ∷ [] → more ≡ count → NodesAt ps gs s0 d0 (i + 1) more s1 d1
  node_none none put driven counted =
      let size = one_longer (port vss) driven in
      let number = so_far.number in
      let few = so_far.few in
      record {
        spots =
            ap (λ (xs : List Spot). xs ++ gate_spots (length d1) more rest) put ∙ ap (λ (n : ℕ). s ++ gate_spots n more rest) size
            ∙ ap (λ (k : ℕ). s ++ gate_spots (length d + 1) k rest) counted
            ∙ ap (λ (xs : List Spot). s ++ xs) (sym (spots_none ps (length d) count gs i o low is none)) ∙ so_far.spots;
        drivers =
            ap (λ (n : ℕ). d1 ++ gate_drivers ps n more rest) size ∙ ap (λ (xs : List Terminal). xs ++ gate_drivers ps (length d + 1) more rest) driven
            ∙ ap (λ (k : ℕ). (d ++ port vss ∷ []) ++ gate_drivers ps (length d + 1) k rest) counted
            ∙ push_step d (gate_drivers ps (length d) count (drop i gs)) (gate_drivers ps (length d + 1) count rest)
            (d0 ++ gate_drivers ps (length d0) 0 gs) (port vss) (drivers_none ps (length d) count gs i o low is none) so_far.drivers;
        number = omega (arith, size, number);
        few = omega (arith, few, counted);
      }
