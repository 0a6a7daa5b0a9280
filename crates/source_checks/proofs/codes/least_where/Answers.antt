use Rattle.std.proofs.Common.{refl}
use Rattle.source_checks.specs.Codes.{same_bool}
use Rattle.source_checks.specs.Marks.{has}
use Rattle.source_checks.proofs.Least.{least_turn}
use Rattle.source_checks.proofs.codes.least_where.Goals as goal

pub loop-code-preserved : goal.loop-code-preserved
loop-code-preserved c =
    least_turn (λ code. same_bool c.args.marked (has c.args.marks.now (c.args.place, code))) c.args.codes.now c.loop-code.code-index _ c.loop-code.least c.least_with-least.result _ c.loop-code-test.true refl c.least_with-least.ensures c.loop-code.invariant
