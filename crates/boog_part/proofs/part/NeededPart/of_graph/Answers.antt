use Rattle.std.proofs.Common.{◌≡◌, ◌+◌, Bool, List, length, map, ap, sym, subst, ◌∙◌, arith}
use Rattle.graph_theory.specs.Graph.{Node}
use Rattle.subject_table.specs.View.{node_view}
use Rattle.boog_cuts.proofs.Whole.{map_long}
use Rattle.boog_part.specs.Part.{AreKept}
use Rattle.boog_part.proofs.Keeping.{part_is, kept_earlier}
use Rattle.boog_part.proofs.part.NeededPart.of_graph.Goals as goal

pub kept_nodes-requires : goal.kept_nodes-requires
kept_nodes-requires c =
    let many = c.in_ok-marks.ensures.many in
    let same = ap (λ (l : List Bool). length l) c.deref.ensures.value in
    let view = ap (λ (l : List Node). length l) c.nodes.ensures in
    let long = map_long node_view c.nodes.result.now in
    omega (arith, many, same, view, long)

pub returns-clause-part : goal.returns-clause-part
returns-clause-part c =
    part_is c.args.held c.args.graph.now _ c.in_ok-marks.marks.items c.in_ok-marks.ensures
    (subst (λ (marks : List Bool). AreKept c.args.held marks c.args.graph.now.nodes (map node_view c.in_ok-nodes.nodes.items)) c.deref.ensures.value
    (subst (λ (ns : List Node). AreKept c.args.held c.deref.result.now ns (map node_view c.in_ok-nodes.nodes.items)) c.nodes.ensures c.in_ok-nodes.ensures))
    (c.in_ok-copied.ensures ∙ c.outputs.ensures) (c.in_ok-copied-2.ensures ∙ c.loads.ensures)

pub returns-clause-earlier : goal.returns-clause-earlier
returns-clause-earlier c =
    kept_earlier c.args.held c.deref.result.now c.args.graph.now.nodes (map node_view c.in_ok-nodes.nodes.items)
    (subst (λ (ns : List Node). AreKept c.args.held c.deref.result.now ns (map node_view c.in_ok-nodes.nodes.items)) c.nodes.ensures c.in_ok-nodes.ensures) c.requires.earlier
