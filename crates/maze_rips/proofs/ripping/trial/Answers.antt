use Rattle.std.proofs.Common.{arith}
use Rattle.maze_rips.proofs.Shown.{ripped_shown}
use Rattle.maze_rips.proofs.ripping.trial.Goals as goal

pub returns-in_ok-end_work-in-None-clause-routed : goal.returns-in_ok-end_work-in-None-clause-routed
returns-in_ok-end_work-in-None-clause-routed c =
    let e = c.in_ok-stuck.ensures in
    let whole = (let h = e.whole in rw c.in-None.is at h) in
    let few = e.few in
    let least = c.min.ensures in
    let r = c.in_ok-end_work-in-None.ensures in
    ripped_shown c.args.task.now c.requires.task c.rip_up.new.work c.args.allowed c.in_ok-end_work-in-None.field-0 r.trees r.rips e.under_way (omega (arith, few, least)) whole
