use Rattle.bdd_core.proofs.Settling.{parted_is}
use Rattle.bdd_core.proofs.operators.cofactors.Goals as goal

pub returns : goal.returns
returns c = parted_is c.args.table.now.vars c.args.table.now.lists c.args.variable c.args.key
    (record { x = c.halves-x0.result.0; y = c.halves-y0.result.0; z = c.halves-z0.result.0 })
    (record { x = c.halves-x0.result.1; y = c.halves-y0.result.1; z = c.halves-z0.result.1 })
    (record { low = c.halves-x0.ensures.low; high = c.halves-x0.ensures.high; is = c.halves-x0.ensures.joined })
    (record { low = c.halves-y0.ensures.low; high = c.halves-y0.ensures.high; is = c.halves-y0.ensures.joined })
    (record { low = c.halves-z0.ensures.low; high = c.halves-z0.ensures.high; is = c.halves-z0.ensures.joined })
