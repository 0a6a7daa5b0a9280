use Rattle.std.proofs.Common.{false}
use Rattle.loon_loads.proofs.Loading.{load_start, load_step, load_end}
use Rattle.loon_loads.proofs.loads.marked_loads.Goals as goal

pub loop-place-init : goal.loop-place-init
loop-place-init c = load_start c.args.marks.now c.args.classes.now c.args.count c.in_ok-loads.loads.items c.in_ok-loads.ensures

pub loop-place-preserved : goal.loop-place-preserved
loop-place-preserved c =
    load_step c.args.marks.now c.args.classes.now c.args.count c.loop-place.place c.loop-place.loads.items c.add_load.new.loads.items false 0 c.loop-place-test.true c.requires.each
    c.loop-place.invariant c.in_ok-add_load.ensures

pub returns : goal.returns
returns c = load_end c.args.marks.now c.args.classes.now c.args.count c.loop-place.place c.loop-place.loads.items c.requires.each c.loop-place-test.false c.loop-place.invariant
