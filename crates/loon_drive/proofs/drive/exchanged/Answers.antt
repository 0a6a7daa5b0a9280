use Rattle.loon_drive.proofs.drive.exchanged.Goals as goal

pub returns-clause-worst : goal.returns-clause-worst
returns-clause-worst c =
    c.worst-delay.ensures c.choose_drives.new.netlist c.args.library.now c.choose_drives.ensures.sound c.choose_drives.ensures.delays

pub returns-clause-no_slower : goal.returns-clause-no_slower
returns-clause-no_slower c before was =
    c.choose_drives.ensures.worst before c.worst-delay.result was
    (c.worst-delay.ensures c.choose_drives.new.netlist c.args.library.now c.choose_drives.ensures.sound c.choose_drives.ensures.delays)
