use Rattle.std.proofs.Common.{◌≡◌, Bool, List, length, ap, sym, subst, arith}
use Rattle.graph_theory.specs.Graph.{Node}
use Rattle.subject_table.specs.View.{node_view}
use Rattle.boog_cuts.proofs.Whole.{map_long}
use Rattle.boog_cover.specs.Lesser.{AllNeeded}
use Rattle.boog_cover.proofs.Counting.{written}
use Rattle.boog_cover.proofs.lesser.needed_marks.Goals as goal

pub mark_needed-requires-clause-long : goal.mark_needed-requires-clause-long
mark_needed-requires-clause-long c =
    let same = ap (λ (l : List Bool). length l) c.deref_mut.ensures.value in
    let many = ap (λ (l : List Node). length l) c.nodes.ensures in
    let long = map_long node_view c.nodes.result.now in
    omega (arith, same, many, long, c.in_ok-marks.ensures.len)

pub returns : goal.returns
returns c =
    let same = ap (λ (l : List Bool). length l) c.deref_mut.ensures.value in
    let new = c.mark_needed.new.marks in
    let len : length new ≡ c.in_ok-marks.marks.len = omega (arith, same, c.in_ok-marks.ensures.len, c.in_ok-marks.marks.ok, c.mark_needed.auto.marks) in
    subst (λ (marks : List Bool). AllNeeded c.args.held c.args.graph.now.nodes c.args.roots.now marks) (sym (written new c.in_ok-marks.marks.items c.in_ok-marks.marks.len len))
    c.mark_needed.ensures
