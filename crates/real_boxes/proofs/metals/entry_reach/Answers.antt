use Rattle.std.proofs.Common.{refl}
use Rattle.real_boxes.proofs.Beside.{grown_of}
use Rattle.real_boxes.proofs.metals.entry_reach.Goals as goal

pub returns-clause-within : goal.returns-clause-within
returns-clause-within c =
    grown_of c.args.entry.now c.in-Rule.rule c.size.result c.size-2.result c.size-3.result c.size-4.result _ c.in-Rule.is refl c.size.ensures.low c.size.ensures.high
    c.size-2.ensures.low c.size-2.ensures.high c.size-3.ensures.low c.size-3.ensures.high c.size-4.ensures.low c.size-4.ensures.high
