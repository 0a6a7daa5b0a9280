use Rattle.std.proofs.Common.{◌<◌, ◌-◌, List, length, sym, ◌∙◌, subst}
use Rattle.fmi_refine.specs.declared.round.Partition.{Partition}
use Rattle.fmi_refine.specs.Refined.{AreLevels, last_level}
use Rattle.fmi_refine.proofs.Stacked.{part, next_level, more_classes, are_stable, read_last, from_last, same_count, other_count, fewer_left}
use Rattle.fmi_refine.proofs.refining.levels.Goals as goal

pub returns-then-as_slice-clause-stable : goal.returns-then-as_slice-clause-stable
returns-then-as_slice-clause-stable c =
    let rows = c.args.rows.now in
    let levels = c.loop-levels.levels.items in
    let q = c.index-last.result.now in
    let p = part c.in_ok-next.next.state_of c.in_ok-next.next.kept in
    let last = read_last levels q c.len.result c.loop-levels.invariant.some (c.len.ensures ∙ c.loop-levels.levels.ok.0) c.index-last.ensures in
    let new = from_last rows levels q p c.as_slice.result.now last c.as_slice.ensures c.in_ok-next.ensures in
    are_stable rows levels p c.loop-levels.invariant new
    (same_count levels q p c.as_slice-in-loop-levels.result.now c.as_slice-in-loop-levels-2.result.now last c.as_slice-in-loop-levels.ensures
    c.as_slice-in-loop-levels-2.ensures c.if-as_slice.true)

pub loop-levels-smaller : goal.loop-levels-smaller
loop-levels-smaller c =
    let rows = c.args.rows.now in
    let levels = c.loop-levels.levels.items in
    let q = c.index-last.result.now in
    let p = part c.in_ok-next.next.state_of c.in_ok-next.next.kept in
    let last = read_last levels q c.len.result c.loop-levels.invariant.some (c.len.ensures ∙ c.loop-levels.levels.ok.0) c.index-last.ensures in
    let new = from_last rows levels q p c.as_slice.result.now last c.as_slice.ensures c.in_ok-next.ensures in
    let more = more_classes rows levels p c.loop-levels.invariant new
    (other_count levels q p c.as_slice-in-loop-levels.result.now c.as_slice-in-loop-levels-2.result.now last c.as_slice-in-loop-levels.ensures
    c.as_slice-in-loop-levels-2.ensures c.if-as_slice.false) in
    subst (λ (ls : List Partition). length rows - length (last_level ls).kept < length rows - length (last_level levels).kept)
    (sym c.in_ok-push-2.ensures.items)
    (fewer_left rows levels p (next_level rows levels p c.loop-levels.invariant new more) more)

pub loop-levels-preserved : goal.loop-levels-preserved
loop-levels-preserved c =
    let rows = c.args.rows.now in
    let levels = c.loop-levels.levels.items in
    let q = c.index-last.result.now in
    let p = part c.in_ok-next.next.state_of c.in_ok-next.next.kept in
    let last = read_last levels q c.len.result c.loop-levels.invariant.some (c.len.ensures ∙ c.loop-levels.levels.ok.0) c.index-last.ensures in
    let new = from_last rows levels q p c.as_slice.result.now last c.as_slice.ensures c.in_ok-next.ensures in
    let more = more_classes rows levels p c.loop-levels.invariant new
    (other_count levels q p c.as_slice-in-loop-levels.result.now c.as_slice-in-loop-levels-2.result.now last c.as_slice-in-loop-levels.ensures
    c.as_slice-in-loop-levels-2.ensures c.if-as_slice.false) in
    subst (λ (ls : List Partition). AreLevels rows ls) (sym c.in_ok-push-2.ensures.items) (next_level rows levels p c.loop-levels.invariant new more)
