use Rattle.std.proofs.Common.{Bool, ap, ◌∙◌}
use Rattle.bdd_core.specs.Truths.{constant}
use Rattle.bdd_core.proofs.Settling.{settled_is}
use Rattle.bdd_core.proofs.operators.settled.Goals as goal

pub returns : goal.returns
returns c =
    settled_is c.args.table.now.vars c.args.table.now.lists c.args.from c.args.operator c.args.key _ _ _ c.constant.result c.requires.from c.requires.key
    c.bit.ensures c.bit-2.ensures c.bit-3.ensures c.constant.ensures.within (c.constant.ensures.place ∙ ap (λ (b : Bool). constant b) c.operator_value-bit.ensures)
