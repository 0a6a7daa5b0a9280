use Rattle.std.proofs.Common.{refl, get_or}
use Rattle.loon_fanout.proofs.Tying.{heads_step, heads_end}
use Rattle.scan_build.proofs.sketch.heads.Goals as goal

pub loop-place-preserved : goal.loop-place-preserved
loop-place-preserved c =
    heads_step c.args.classes.now c.loop-place.heads.items c.args.count c.loop-place.place (get_or c.args.classes.now c.loop-place.place 0) c.loop-place-test.true refl
    (c.requires c.loop-place.place 0 c.loop-place-test.true) c.loop-place.invariant

pub returns : goal.returns
returns c = heads_end c.args.classes.now c.loop-place.heads.items c.args.count c.loop-place.place c.requires c.loop-place-test.false c.loop-place.invariant
