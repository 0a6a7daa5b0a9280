use Rattle.std.proofs.Common.{ℕ, subst, sym, arith}
use Rattle.graph_theory.specs.Graph.{EachReadsEarlier}
use Rattle.boog_part.specs.Part.{IsNeededPart}
use Rattle.area_run.proofs.Sizes.{roots_below}
use Rattle.area_run.proofs.measure.needed_part.Goals as goal

pub of_graph-requires-clause-earlier : goal.of_graph-requires-clause-earlier
of_graph-requires-clause-earlier c =
    subst (λ (n : ℕ). EachReadsEarlier n c.in_ok-graph.graph.nodes) (sym c.held_count.ensures) c.in_ok-graph.ensures.graph.earlier

pub of_graph-requires-clause-roots : goal.of_graph-requires-clause-roots
of_graph-requires-clause-roots c = λ x some.
    let low = roots_below c.args.machine.now c.in_ok-graph.graph c.in_ok-graph.ensures x some in
    let same = c.held_count.ensures in
    omega (arith, low, same)

pub returns-clause-part : goal.returns-clause-part
returns-clause-part c = record {
  graph = c.in_ok-graph.graph;
  subject = c.in_ok-graph.ensures;
  needed = subst (λ (n : ℕ). IsNeededPart n c.in_ok-graph.graph c.in_ok-part.part) c.held_count.ensures c.in_ok-part.ensures.part;
}

pub returns-clause-earlier : goal.returns-clause-earlier
returns-clause-earlier c = subst (λ (n : ℕ). EachReadsEarlier n c.in_ok-part.part.nodes) c.held_count.ensures c.in_ok-part.ensures.earlier
