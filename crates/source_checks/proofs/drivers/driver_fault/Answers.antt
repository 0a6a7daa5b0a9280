use Rattle.std.proofs.Common.{sym, ap, ◌∙◌, subst, List, [], Some, Option}
use Rattle.source_checks.specs.declared.symbol_table.Symbol.{Symbol}
use Rattle.source_checks.specs.declared.statement.Statement.{Statement}
use Rattle.source_checks.specs.declared.drivers.NameFault.{NameFault}
use Rattle.source_checks.specs.Symbols.{symbols}
use Rattle.source_checks.specs.Drivers.{first_second_driver, statement_drivers}
use Rattle.source_checks.specs.Driving.{Drives}
use Rattle.source_checks.specs.Places.{in_statements}
use Rattle.source_checks.proofs.Undriven.{tied_empty, some_second, missing_is}
use Rattle.source_checks.proofs.drivers.driver_fault.Goals as goal

pub returns-in-Some : goal.returns-in-Some
returns-in-Some c =
    let known = c.args.table.now in
    let empty = tied_empty known c.new-marks.result c.new-marks.ensures.empty in
    let drives : Drives known c.new-marks.result c.second_driver.new.marks (in_statements (statement_drivers known) c.as_slice.result.now) (Some c.in-Some.fault) = subst (λ (o : Option NameFault). Drives known c.new-marks.result c.second_driver.new.marks (in_statements (statement_drivers known) c.as_slice.result.now) o) c.in-Some.is c.in_ok-again.ensures in
    let found = some_second known c.new-marks.result c.second_driver.new.marks (in_statements (statement_drivers known) c.as_slice.result.now) c.in-Some.fault empty drives in
    ap (λ (ss : List Statement). first_second_driver [] (in_statements (statement_drivers (symbols c.args.design.now)) ss)) (sym c.as_slice.ensures)
    ∙ ap (λ (k : List Symbol). first_second_driver [] (in_statements (statement_drivers k) c.as_slice.result.now)) (sym c.requires) ∙ found

pub returns-in-Some-missing : goal.returns-in-Some-missing
returns-in-Some-missing c =
    let known = c.args.table.now in
    let both = missing_is known c.args.design.now c.new-marks.result c.second_driver.new.marks c.as_slice.result.now c.in_ok-missing.missing c.requires c.as_slice.ensures c.new-marks.ensures.empty
    (subst (λ (o : Option NameFault). Drives known c.new-marks.result c.second_driver.new.marks (in_statements (statement_drivers known) c.as_slice.result.now) o) c.in_default.is c.in_ok-again.ensures) c.in_ok-missing.ensures in
    (both.0, both.1 ∙ c.in-Some-missing.is)

pub returns : goal.returns
returns c =
    let known = c.args.table.now in
    let both = missing_is known c.args.design.now c.new-marks.result c.second_driver.new.marks c.as_slice.result.now c.in_ok-missing.missing c.requires c.as_slice.ensures c.new-marks.ensures.empty
    (subst (λ (o : Option NameFault). Drives known c.new-marks.result c.second_driver.new.marks (in_statements (statement_drivers known) c.as_slice.result.now) o) c.in_default.is c.in_ok-again.ensures) c.in_ok-missing.ensures in
    (both.0, both.1 ∙ c.in-None.is)
