use Rattle.std.proofs.Common.{inl, inr, List, length, ap, sym, subst, arith}
use Rattle.graph_theory.specs.Graph.{Node, EachReadsEarlier}
use Rattle.subject_table.specs.View.{node_view}
use Rattle.boog_cuts.proofs.Whole.{map_long}
use Rattle.boog_cover.specs.Covered.{root}
use Rattle.boog_cover.specs.Lesser.{AllNeeded}
use Rattle.boog_cover.proofs.lesser.mark_needed.Goals as goal

pub mark-requires : goal.mark-requires
mark-requires c = λ x some. let low = c.requires.roots x some in omega (arith, low, c.requires.long)

pub mark_down-requires-clause-long : goal.mark_down-requires-clause-long
mark_down-requires-clause-long c =
    let view = ap (λ (ns : List Node). length ns) c.nodes.ensures in
    let long = map_long node_view c.nodes.result.now in
    omega (arith, view, long, c.requires.long, c.mark.auto.marks)

pub mark_down-requires-clause-earlier : goal.mark_down-requires-clause-earlier
mark_down-requires-clause-earlier c = subst (λ (ns : List Node). EachReadsEarlier c.args.held ns) (sym c.nodes.ensures) c.requires.earlier

pub returns : goal.returns
returns c =
    subst (λ (ns : List Node). AllNeeded c.args.held ns c.args.roots.now c.mark_down.new.marks) c.nodes.ensures
    (c.mark_down.ensures c.args.roots.now (λ x h. elim ((c.mark.ensures x).0 h) [
      | inl was ↦ absurd (c.requires.clear x was)
      | inr by ↦ root by
    ]))
