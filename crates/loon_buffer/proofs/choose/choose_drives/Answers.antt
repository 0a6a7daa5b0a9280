use Rattle.std.proofs.Common.{sym, subst}
use Rattle.net_core.specs.Netlist.{Netlist}
use Rattle.loon_buffer.specs.Drives.{OnlyExchanges}
use Rattle.loon_buffer.specs.Choices.{IsNoLonger}
use Rattle.loon_buffer.proofs.Passing.{choosing_start, choosing_step, falls}
use Rattle.loon_buffer.proofs.choose.choose_drives.Goals as goal

pub loop-init : goal.loop-init
loop-init c = choosing_start c.args.library.now c.args.netlist.now c.args.delays.now
    (record { sound = c.requires.sound; timed = c.requires.timed; models = c.requires.models; delays = c.requires.delays })

pub pass-requires-clause-table : goal.pass-requires-clause-table
pass-requires-clause-table c = c.requires.table

pub pass-requires-clause-ready : goal.pass-requires-clause-ready
pass-requires-clause-ready c = c.loop.invariant.ready

pub loop-smaller : goal.loop-smaller
loop-smaller c =
    falls c.args.library.now c.loop.netlist c.pass.new.netlist c.loop.delays c.pass.new.delays c.loop.invariant.ready c.pass.ensures.ready (c.pass.ensures.shorter c.loop-test.true)

pub loop-preserved : goal.loop-preserved
loop-preserved c =
    choosing_step c.args.library.now c.args.netlist.now c.loop.netlist c.pass.new.netlist c.loop.delays c.pass.new.delays c.loop.invariant c.pass.ensures.ready c.pass.ensures.chosen
    (c.pass.ensures.shorter c.loop-test.true)

pub returns-clause-sound : goal.returns-clause-sound
returns-clause-sound c = c.pass.ensures.ready.sound

pub returns-clause-chosen : goal.returns-clause-chosen
returns-clause-chosen c = subst (λ (n : Netlist). OnlyExchanges c.args.library.now c.args.netlist.now n) (sym (c.pass.ensures.kept c.loop-test.false)) c.loop.invariant.chosen

pub returns-clause-timed : goal.returns-clause-timed
returns-clause-timed c = c.pass.ensures.ready.timed

pub returns-clause-delays : goal.returns-clause-delays
returns-clause-delays c = c.pass.ensures.ready.delays

pub returns-clause-worst : goal.returns-clause-worst
returns-clause-worst c = subst (λ (n : Netlist). IsNoLonger c.args.library.now c.args.netlist.now n) (sym (c.pass.ensures.kept c.loop-test.false)) c.loop.invariant.no_longer

pub returns-clause-driven : goal.returns-clause-driven
returns-clause-driven c = c.pass.ensures.driven c.loop-test.false
