use Rattle.std.proofs.Common.{rules, ◌≤◌, length, min}
use Rattle.pat_io.specs.Digits.{values_for}
use Rattle.pat_io.proofs.Turns.{made_all}
use Rattle.pat_io.proofs.build.values.Goals as goal

pub returns : goal.returns
returns c =
    let past : min (length c.args.columns.now) (length c.args.list.now) ≤ c.loop-k.k = search rules in
    made_all c.args.columns.now c.args.list.now c.loop-k.k c.loop-k.values.items (values_for c.args.columns.now c.args.list.now) past c.loop-k.invariant
