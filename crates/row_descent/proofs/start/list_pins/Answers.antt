use Rattle.std.proofs.Common.{arith}
use Rattle.std.proofs.lemmas.List.{length-map}
use Rattle.row_meaning.specs.declared.Pin.{Pin}
use Rattle.row_descent.specs.Tables.{rows_of}
use Rattle.row_descent.proofs.Views.{items}
use Rattle.row_descent.proofs.Starting.{lists_more}
use Rattle.row_descent.proofs.start.list_pins.Goals as goal

pub loop-pin-preserved : goal.loop-pin-preserved
loop-pin-preserved c =
    let none : Pin = record { cell = 0; x = 0; y = 0 } in
    let i = c.loop-pin.pin-index in
    let within = c.requires i none c.loop-pin-test.true in
    let same = c.loop-pin.auto.lists in
    let many = length-map c.loop-pin.lists items in
    lists_more c.args.net c.args.pins.now i none (rows_of c.args.lists.now) (rows_of c.loop-pin.lists) (rows_of c.list_net.new.lists) c.loop-pin-test.true
    (omega arith) c.loop-pin.invariant c.in_ok-list_net.ensures.lists
