use Rattle.loon_fanout.proofs.Tying.{join_memory, joined_now, joined_all}
use Rattle.scan_build.proofs.sketch.join_all.Goals as goal

pub only_memory-requires : goal.only_memory-requires
only_memory-requires c =
    join_memory c.args.builder.now c.loop-place.builder c.args.terminals.now c.args.classes.now c.args.heads.now c.loop-place.place c.index-terminals-place.result c.index-terminals-head.result
    c.requires.terminals c.requires.each c.requires.heads c.loop-place.invariant c.loop-place-test.true c.index-terminals-place.is c.index-terminals-head.is c.in-Err.error c.in-Err.ensures.refused

pub loop-place-preserved : goal.loop-place-preserved
loop-place-preserved c =
    joined_now c.args.builder.now c.loop-place.builder c.args.terminals.now c.args.classes.now c.args.heads.now c.loop-place.place c.index-terminals-place.result c.index-terminals-head.result
    c.requires.terminals c.requires.each c.requires.heads c.loop-place.invariant c.loop-place-test.true c.index-terminals-place.is c.index-terminals-head.is c.join.new.self c.in-Ok.ensures.joined

pub returns : goal.returns
returns c =
    joined_all c.args.builder.now c.loop-place.builder c.args.terminals.now c.args.classes.now c.args.heads.now c.loop-place.place c.requires.each c.loop-place-test.false c.loop-place.invariant
