use Rattle.std.proofs.Common.{◌+◌, take, slice_index, sym, subst}
use Rattle.bool_expr.specs.Expression.{bit}
use Rattle.boog_cuts.proofs.Growing.{is_number}
use Rattle.boog_tree.specs.Alike.{IsKeptFrom}
use Rattle.boog_tree.proofs.Keeping.{kept_from_more, kept_from_same}
use Rattle.boog_tree.proofs.enough.keep_with.Goals as goal
use Rattle.boog_tree.proofs.enough.keep_with.Goals.{in-Some+in_ok-keep, in_default}

pub loop-second-preserved : goal.loop-second-preserved
loop-second-preserved c =
    let inner = bit c.args.inner.now in
    let b = slice_index c.args.bounds.now in
    let old = c.args.cuts.now.items in
    let first = c.args.first.now in
    let seconds = c.args.seconds.now in
    let now = c.loop-second.cuts.items in
    let i = c.loop-second.second-index in
    let second = c.second-item.result in
    let at = is_number seconds i second c.loop-second-test.true c.second-item.is in
    elim c.match-merged_in_order.branch [
      | in-Some+in_ok-keep w ↦
          subst (λ v. IsKeptFrom inner b old first (take (i + 1) seconds) v.items) (sym w.cuts-is)
          (kept_from_more inner b old first seconds now i second c.loop-second.invariant at w.keep.new.cuts.items w.in-Some.cut w.in-Some.ensures.some
          w.in_ok-keep.ensures)
      | in_default w ↦
          subst (λ v. IsKeptFrom inner b old first (take (i + 1) seconds) v.items) (sym w.cuts-is)
          (kept_from_same inner b old first seconds now i second c.loop-second.invariant at w.in_default.ensures.wide)
    ]
