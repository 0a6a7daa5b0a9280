use Rattle.std.proofs.Common.{◌↔◌, ◌<◌, ◌+◌, ℕ, List, length, map, ap, sym, subst, ◌∙◌, arith}
use Rattle.graph_theory.specs.Graph.{Node, EachReadsEarlier}
use Rattle.subject_table.specs.View.{node_view}
use Rattle.boog_cuts.proofs.Whole.{map_long}
use Rattle.boog_part.specs.Part.{IsNeeded, IsMarked, roots_of}
use Rattle.boog_part.proofs.Marking.{roots_marked, shown_below, loaded_below}
use Rattle.boog_part.proofs.marks.mark_needed.Goals as goal

pub mark-requires : goal.mark-requires
mark-requires c = λ x some.
    let low = shown_below c.args.graph.now (c.args.held + length c.args.graph.now.nodes) c.outputs.result.now c.outputs.ensures c.requires.roots x some in
    omega (arith, low, c.requires.long)

pub mark-requires-2 : goal.mark-requires-2
mark-requires-2 c = λ x some.
    let low = loaded_below c.args.graph.now (c.args.held + length c.args.graph.now.nodes) c.loads.result.now c.loads.ensures c.requires.roots x some in
    omega (arith, low, c.requires.long, c.mark.auto.marks)

pub mark_down-requires-clause-long : goal.mark_down-requires-clause-long
mark_down-requires-clause-long c =
    let view = ap (λ (ns : List Node). length ns) c.nodes.ensures in
    let long = map_long node_view c.nodes.result.now in
    omega (arith, view, long, c.requires.long, c.mark.auto.marks, c.mark-2.auto.marks)

pub mark_down-requires-clause-earlier : goal.mark_down-requires-clause-earlier
mark_down-requires-clause-earlier c = subst (λ (ns : List Node). EachReadsEarlier c.args.held ns) (sym c.nodes.ensures) c.requires.earlier

pub returns : goal.returns
returns c = λ x.
    subst (λ (ns : List Node). IsMarked c.mark_down.new.marks x ↔ IsNeeded c.args.held ns (roots_of c.args.graph.now) x) c.nodes.ensures
    (c.mark_down.ensures (roots_of c.args.graph.now)
    (roots_marked c.args.graph.now c.outputs.result.now c.loads.result.now c.args.marks.now c.mark.new.marks c.mark-2.new.marks c.outputs.ensures c.loads.ensures
    c.requires.clear c.mark.ensures c.mark-2.ensures) x)
