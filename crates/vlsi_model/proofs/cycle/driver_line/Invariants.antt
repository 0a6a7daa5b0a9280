use Rattle.vlsi_model.proofs.Turning.{NoneDrives}
use Rattle.vlsi_model.proofs.cycle.driver_line.Given as goal

abbrev pub invariant-loop-statement : goal.invariant-loop-statement
invariant-loop-statement l = NoneDrives l.source.numbers l.statements l.number l.statement-index
