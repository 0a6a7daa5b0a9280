use Rattle.std.proofs.Common.{slice_index}
use Rattle.bool_expr.specs.Expression.{bit}
use Rattle.boog_tree.proofs.Keeping.{kept_new}
use Rattle.boog_tree.proofs.enough.keep.Goals as goal

pub returns-in_ok-push-in-None : goal.returns-in_ok-push-in-None
returns-in_ok-push-in-None c =
    kept_new (bit c.args.inner.now) (slice_index c.args.bounds.now) c.args.cuts.now.items c.push.new.self.items c.args.cut c.in_ok-push-in-None.ensures.items
