use Rattle.std.proofs.Common.{Some, None, sym, ◌∙◌}
use Rattle.fsm_code.specs.View.{body_view}
use Rattle.fsm_io.specs.Assigned.{left_out_at}
use Rattle.fsm_io.proofs.Steps.{symbol_step}
use Rattle.fsm_io.proofs.assigned.first_left_out.Goals as goal

pub returns-in-Some : goal.returns-in-Some
returns-in-Some c =
    symbol_step (left_out_at c.args.count (body_view c.args.body.now)) c.args.symbols.now c.loop-symbol.symbol-index c.symbol-item.result _ c.loop-symbol-test.true c.symbol-item.is c.loop-symbol.invariant (Some c.in-Some.fault) (sym c.in-Some.is ∙ c.in_ok-found.ensures)

pub loop-symbol-preserved : goal.loop-symbol-preserved
loop-symbol-preserved c =
    symbol_step (left_out_at c.args.count (body_view c.args.body.now)) c.args.symbols.now c.loop-symbol.symbol-index c.symbol-item.result _ c.loop-symbol-test.true c.symbol-item.is c.loop-symbol.invariant None (sym c.in_default.is ∙ c.in_ok-found.ensures)
