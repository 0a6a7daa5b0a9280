use Rattle.std.proofs.Common.{sym}
use Rattle.source_checks.proofs.Driving.{counts_is, undeclared_none}
use Rattle.source_checks.proofs.Knowing.{not_found}
use Rattle.source_checks.proofs.drivers.counted.Goals as goal

pub returns-in-Some-place : goal.returns-in-Some-place
returns-in-Some-place c =
    counts_is c.args.table.now c.args.text.now c.in-Some.symbol.now c.in-Some-place.place (sym c.in-Some.ensures) (sym c.in-Some-place.ensures) (sym c.if-not-needs_driver.ensures)

pub returns-in-None : goal.returns-in-None
returns-in-None c = undeclared_none c.args.table.now c.args.text.now (not_found c.args.table.now c.args.text.now (sym c.in-None.ensures))
