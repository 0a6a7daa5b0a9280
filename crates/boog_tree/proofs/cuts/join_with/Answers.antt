use Rattle.std.proofs.Common.{◌+◌, take, ap, sym, subst, ◌∙◌}
use Rattle.boog_cuts.proofs.Growing.{is_number}
use Rattle.boog_tree.specs.Joined.{IsGrownBy}
use Rattle.boog_tree.proofs.Joining.{grown_more, grown_same}
use Rattle.boog_tree.proofs.cuts.join_with.Goals as goal
use Rattle.boog_tree.proofs.cuts.join_with.Goals.{in-Some+in_ok-push, in_default}

pub loop-second-preserved : goal.loop-second-preserved
loop-second-preserved g c =
    let old = c.args.cuts.now.items in
    let a = c.args.first.now in
    let seconds = c.args.seconds.now in
    let now = c.loop-second.cuts.items in
    let i = c.loop-second.second-index in
    let b = c.second-item.result in
    let at = is_number seconds i b c.loop-second-test.true c.second-item.is in
    elim c.match-merged.branch [
      | in-Some+in_ok-push w ↦
          grown_more old a seconds now i b c.loop-second.invariant at c.match-merged.cuts.items w.in-Some.cut (ap (λ v. v.items) w.cuts-is ∙ w.in_ok-push.ensures.items)
          (record { leaves = w.in-Some.ensures.leaves; value = w.in-Some.ensures.value })
      | in_default w ↦
          subst (λ v. IsGrownBy old a (take (i + 1) seconds) v.items) (sym w.cuts-is) (grown_same old a seconds now i b c.loop-second.invariant at w.in_default.ensures.wide)
    ]
