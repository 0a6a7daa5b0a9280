use Rattle.std.proofs.Common.{Some, None, sym, ◌∙◌}
use Rattle.source_checks.specs.Symbols.{all_names}
use Rattle.source_checks.specs.Formula.{place}
use Rattle.fsm_io.specs.Drivers.{unassigned_at}
use Rattle.fsm_io.specs.Pieces.{is_marked}
use Rattle.fsm_io.proofs.Steps.{symbol_step}
use Rattle.fsm_io.proofs.drivers.first_unmarked.Goals as goal

pub returns-in-Some : goal.returns-in-Some
returns-in-Some c =
    symbol_step (unassigned_at (λ n. is_marked c.args.marks.now (place (all_names c.args.numbers.now) n))) c.args.symbols.now c.loop-symbol.symbol-index c.symbol-item.result _ c.loop-symbol-test.true c.symbol-item.is c.loop-symbol.invariant (Some c.in-Some.fault) (sym c.in-Some.is ∙ c.in_ok-found.ensures)

pub loop-symbol-preserved : goal.loop-symbol-preserved
loop-symbol-preserved c =
    symbol_step (unassigned_at (λ n. is_marked c.args.marks.now (place (all_names c.args.numbers.now) n))) c.args.symbols.now c.loop-symbol.symbol-index c.symbol-item.result _ c.loop-symbol-test.true c.symbol-item.is c.loop-symbol.invariant None (sym c.in_default.is ∙ c.in_ok-found.ensures)
