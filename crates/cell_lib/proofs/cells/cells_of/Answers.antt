use Rattle.cell_lib.specs.Cells.{sources}
use Rattle.cell_lib.specs.Library.{IsCell, IsCellRefusal}
use Rattle.cell_lib.proofs.Making.{nothing_made, one_more_made, first_refused}
use Rattle.cell_lib.proofs.cells.cells_of.Goals as goal

pub loop-name-init : goal.loop-name-init
loop-name-init c = nothing_made (IsCell c.args.tracks) (sources c.args.names.now c.args.files.now) c.new-cells.result.items c.new-cells.ensures.items

pub returns-in-Err-clause-err : goal.returns-in-Err-clause-err
returns-in-Err-clause-err c =
    first_refused (IsCell c.args.tracks) (IsCellRefusal c.args.tracks) (sources c.args.names.now c.args.files.now) c.args.names.now
    c.loop-name.rest.now c.loop-name.name-index c.name-item.result c.name-item.result c.bytes_at.result.now c.bytes_at-in-loop-name.result.now c.loop-name.cells.items
    c.in-Err.e c.loop-name.invariant c.loop-name-test.true c.name-item.is c.bytes_at.ensures c.bytes_at-in-loop-name.ensures c.in-Err.ensures.err

pub loop-name-preserved : goal.loop-name-preserved
loop-name-preserved c =
    one_more_made (IsCell c.args.tracks) (sources c.args.names.now c.args.files.now) c.args.names.now c.loop-name.rest.now c.behind_two-rest.result.now
    c.loop-name.name-index c.name-item.result c.name-item.result c.bytes_at.result.now c.bytes_at-in-loop-name.result.now c.loop-name.cells.items c.push.new.self.items
    c.in-Ok.cell c.loop-name.invariant c.loop-name-test.true c.name-item.is c.bytes_at.ensures c.bytes_at-in-loop-name.ensures c.in-Ok.ensures.ok
    c.in_ok-push-in-Ok.ensures.items c.behind_two-rest.ensures
