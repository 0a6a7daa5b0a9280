use Rattle.std.proofs.Common.{Some}
use Rattle.source_checks.specs.Clock.{statement_clock_lines}
use Rattle.source_bits.proofs.Clocked.{nothing_in}
use Rattle.source_bits.proofs.driven.stored_under.Goals as goal

pub store_in-requires-clause-clocked : goal.store_in-requires-clause-clocked
store_in-requires-clause-clocked c =
    nothing_in (statement_clock_lines c.args.numbers.now (Some c.args.clock.now)) c.args.statements.now c.loop-statement.statement-index c.statement-item.result c.requires.clocked c.loop-statement-test.true c.statement-item.is
