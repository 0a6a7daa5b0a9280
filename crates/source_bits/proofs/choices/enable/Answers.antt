use Rattle.vlsi_base.specs.Tree.{view as tree}
use Rattle.bool_expr.specs.View.{view}
use Rattle.source_bits.proofs.Choosing.{enables}
use Rattle.source_bits.proofs.choices.enable.Goals as goal

pub returns : goal.returns
returns c =
    enables c.args.numbers.now c.args.clock.now (tree c.args.guard.now) c.in_ok-conditions.conditions.items c.deref.result.now (view c.in_ok-all.all) c.in_ok-conditions.ensures c.deref.ensures.value c.in_ok-all.ensures
