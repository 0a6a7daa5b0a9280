use Rattle.std.proofs.Common.{arith}
use Rattle.boom_check.proofs.InnerSizes.{shown_at}
use Rattle.boom_check.proofs.weighing.is_output.Goals as goal

pub returns-in-Ok : goal.returns-in-Ok
returns-in-Ok c = λ same.
    let h = c.is_named_output.ensures same in
    let inside = c.in-Ok.ensures.bound in
    shown_at c.args.ports.now c.in-Ok.place c.index-ports-place.result c.args.name.now (omega (arith, inside)) c.index-ports-place.is h.0 h.1
