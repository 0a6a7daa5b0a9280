-- The gates of a cover in each cycle of a machine.
use Rattle.std.proofs.Common.{◌≡◌, ℕ, ◌+◌, ◌<◌, Bool, List, [], ◌∷◌, ◌++◌, map, length, ap, refl, sym, subst, ◌∙◌, arith, length-append}
use Rattle.std.proofs.lemmas.List.{length-map}
use Rattle.vlsi_base.specs.Member.{In, here, there}
use Rattle.bool_expr.specs.Expression.{bit}
use Rattle.machine_core.specs.Machine.{Machine}
use Rattle.net_theory.specs.Sources.{AreHeld}
use Rattle.graph_theory.specs.Graph.{Node, fixed, inv, nand, Graph, node_bit, grown, graph_values, EachReadsEarlier, held_count, IsGraphOf}
use Rattle.graph_theory.proofs.Values.{grown_at}
use Rattle.cell_match.specs.Places.{times}
use Rattle.cell_match.proofs.Numbers.{one_same}
use Rattle.boog_cuts.specs.Cuts.{node_value, AreValues}
use Rattle.boog_cover.specs.Laws.{CoveredIsCut}

in_times : (x : ℕ) (xs : List ℕ) → In x xs → 0 < times x xs
in_times x [] h = elim h [ ]
in_times x (y ∷ xs) here = let o = one_same x in omega arith
in_times x (y ∷ xs) (there h) = let e = in_times x xs h in omega arith

same_value : (kind : Node) (w : List Bool) → node_bit kind w ≡ node_value kind (λ k. bit w k)
same_value (fixed b) w = refl
same_value (inv a) w = refl
same_value (nand a b) w = refl

-- the bits of a graph's nodes are its values
pub graph_has_values : (m : Machine) (g : Graph) (i s : List Bool) → IsGraphOf m g → AreHeld m i s → AreValues (held_count m) g.nodes (graph_values g i s)
graph_has_values m g i s is held j kind at =
    let long = length-append i s in
    let by_i = held.for_inputs in
    let by_s = held.for_registers in
    let count : length (i ++ s) ≡ held_count m = omega arith in
    ap (λ (n : ℕ). graph_values g i s (n + j)) (sym count)
    ∙ grown_at (i ++ s) g.nodes j kind (subst (λ (n : ℕ). EachReadsEarlier n g.nodes) (sym count) is.earlier) at
    ∙ same_value kind (grown (i ++ s) g.nodes)

pub covered_is_cut : CoveredIsCut
covered_is_cut m g cells roots gates a x e is covered at same = record {
  earlier = λ y there_y. (covered.cover.gate a x at).earlier y (in_times y x.leaves.items there_y);
  value = λ i s held.
      covered.value (graph_values g i s) (graph_has_values m g i s is held) a x at
      ∙ sym (same (map (graph_values g i s) x.leaves.items) (length-map x.leaves.items (graph_values g i s)));
}
