use Rattle.state_free.proofs.machine.free_machine_of.Goals as goal

pub returns-clause-free : goal.returns-clause-free
returns-clause-free c =
    let machine = c.args.machine.now in
    c.machines_are_free.ensures machine.low machine.high c.args.codes.now c.in_ok-low.low c.in_ok-high.high c.name.ensures.checked c.requires.codes c.requires.free
    c.in_ok-low.ensures.made c.in_ok-high.ensures.made
