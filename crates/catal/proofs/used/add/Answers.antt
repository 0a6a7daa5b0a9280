use Rattle.catal.proofs.Using.{adds}
use Rattle.catal.proofs.used.add.Goals as goal

pub returns : goal.returns
returns c = λ names holds.
    adds c.args.used.now c.insert.new.self c.in_ok-key.key c.in_ok-added.added c.args.name.now names c.in_ok-key.ensures.items c.in_ok-added.ensures.added c.in_ok-added.ensures.updates.0 holds
