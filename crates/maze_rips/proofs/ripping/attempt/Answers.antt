use Rattle.maze_rips.proofs.Shown.{ripped_shown, stuck_shown}
use Rattle.maze_rips.proofs.ripping.attempt.Goals as goal

pub returns-in-None-clause-routed : goal.returns-in-None-clause-routed
returns-in-None-clause-routed c =
    let e = c.in_ok-stuck.ensures in
    let whole = (let h = e.whole in rw c.in-None.is at h) in
    let r = c.in_ok-ripped.ensures in
    ripped_shown c.args.task.now c.requires.task c.rip_up.new.work c.args.allowed c.in_ok-ripped.ripped r.trees r.rips e.under_way e.few whole

pub returns-in-Some-clause-refused : goal.returns-in-Some-clause-refused
returns-in-Some-clause-refused c =
    let e = c.in_ok-stuck.ensures in
    let spent = (let h = e.spent in rw c.in-Some.is at h) in
    let r = c.in_ok-ripped.ensures in
    stuck_shown c.args.task.now c.requires.task c.rip_up.new.work c.args.allowed c.in_ok-ripped.ripped r.trees r.rips e.under_way e.few c.in-Some.stuck.net c.in-Some.stuck.point spent
