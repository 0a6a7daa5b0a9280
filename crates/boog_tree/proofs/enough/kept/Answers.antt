use Rattle.std.proofs.Common.{slice_index}
use Rattle.bool_expr.specs.Expression.{bit}
use Rattle.boog_cuts.proofs.Growing.{is_number}
use Rattle.boog_tree.proofs.Keeping.{are_kept_more}
use Rattle.boog_tree.proofs.enough.kept.Goals as goal

pub keep_with-requires : goal.keep_with-requires
keep_with-requires c =
    let at = is_number c.args.firsts.now c.loop-first.first-index c.first-item.result c.loop-first-test.true c.first-item.is in
    c.requires c.loop-first.first-index c.first-item.result at

pub loop-first-preserved : goal.loop-first-preserved
loop-first-preserved c =
    let at = is_number c.args.firsts.now c.loop-first.first-index c.first-item.result c.loop-first-test.true c.first-item.is in
    are_kept_more (bit c.args.inner.now) (slice_index c.args.bounds.now) c.args.firsts.now c.args.seconds.now c.loop-first.cuts.items c.keep_with.new.cuts.items
    c.loop-first.first-index c.first-item.result c.loop-first.invariant at c.in_ok-keep_with.ensures
