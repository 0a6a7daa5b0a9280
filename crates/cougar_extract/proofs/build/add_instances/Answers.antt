use Rattle.std.proofs.Common.{arith}
use Rattle.cell_checks.specs.Checked.{library_of}
use Rattle.cougar_extract.proofs.Adding.{added_line, instances_none, new_line, few_placed, known_line, added_all}
use Rattle.cougar_extract.proofs.PinCounts.{room_left}
use Rattle.cougar_extract.proofs.Steps.{read_stands}
use Rattle.cougar_extract.proofs.build.add_instances.Goals as goal

pub loop-item-init : goal.loop-item-init
loop-item-init c = instances_none c.args.builder.now

pub add_item-requires-clause-known : goal.add_item-requires-clause-known
add_item-requires-clause-known c =
    known_line c.args.items.now (library_of c.args.cells.now) c.loop-item.item-index c.item-item.result
    (read_stands c.args.items.now c.loop-item.item-index c.item-item.result c.loop-item-test.true c.item-item.is) c.requires.known

pub add_item-requires-clause-fresh : goal.add_item-requires-clause-fresh
add_item-requires-clause-fresh c =
    new_line c.args.builder.now c.loop-item.builder c.args.items.now (library_of c.args.cells.now) c.loop-item.item-index c.item-item.result
    (read_stands c.args.items.now c.loop-item.item-index c.item-item.result c.loop-item-test.true c.item-item.is) c.requires.none c.requires.once c.loop-item.invariant

pub add_item-requires-clause-few : goal.add_item-requires-clause-few
add_item-requires-clause-few c =
    few_placed c.args.builder.now c.loop-item.builder c.args.items.now (library_of c.args.cells.now) c.loop-item.item-index c.requires.none c.requires.few c.loop-item.invariant

pub add_item-requires-clause-room : goal.add_item-requires-clause-room
add_item-requires-clause-room c =
    room_left c.args.builder.now c.loop-item.builder c.args.items.now (library_of c.args.cells.now) c.loop-item.item-index c.item-item.result
    (read_stands c.args.items.now c.loop-item.item-index c.item-item.result c.loop-item-test.true c.item-item.is) c.requires.none c.requires.room c.loop-item.invariant

pub loop-item-preserved : goal.loop-item-preserved
loop-item-preserved c =
    added_line c.args.builder.now c.loop-item.builder c.add_item.new.builder (library_of c.args.cells.now) c.args.items.now c.loop-item.item-index c.item-item.result
    (read_stands c.args.items.now c.loop-item.item-index c.item-item.result c.loop-item-test.true c.item-item.is) c.loop-item.invariant c.in_ok-add_item.ensures

pub returns : goal.returns
returns c =
    added_all c.args.builder.now c.loop-item.builder (library_of c.args.cells.now) c.args.items.now c.loop-item.item-index (omega (arith, c.loop-item-test.false)) c.loop-item.invariant
