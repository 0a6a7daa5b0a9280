use Rattle.std.proofs.Common.{List, get_or, sym, subst, take, ◌+◌}
use Rattle.boog_map.specs.declared.part.Part.{Part}
use Rattle.boog_map.specs.Tied.{AreGateParts}
use Rattle.boog_map.proofs.Lists.{read_same}
use Rattle.boog_map.proofs.PartsAt.{place_below, read_usable, parts_next, parts_done}
use Rattle.boog_map.proofs.choice.parts_at.Goals as goal

pub bounds-cells-place : goal.bounds-cells-place
bounds-cells-place c =
    let i = c.loop-place.place-index in
    let places = c.args.places.now in
    let place = get_or places i 0 in
    place_below c.args.cells.now places i place c.loop-place-test.true (read_same places i 0 place c.loop-place-test.true) c.requires

pub part_of_cell-requires : goal.part_of_cell-requires
part_of_cell-requires c =
    let i = c.loop-place.place-index in
    let places = c.args.places.now in
    let place = get_or places i 0 in
    read_usable c.args.cells.now places i place c.loop-place-test.true (read_same places i 0 place c.loop-place-test.true) c.requires c.index-cells-place.result c.index-cells-place.is

pub loop-place-preserved : goal.loop-place-preserved
loop-place-preserved c =
    let cells = c.args.cells.now in
    let i = c.loop-place.place-index in
    let places = c.args.places.now in
    let place = get_or places i 0 in
    subst (λ (ps : List Part). AreGateParts cells (take (i + 1) places) ps) (sym c.in_ok-push.ensures.items)
    (parts_next cells places i place c.loop-place-test.true (read_same places i 0 place c.loop-place-test.true) c.requires c.loop-place.parts.items
    c.index-cells-place.result c.in_ok-part_of_cell.field-0 c.loop-place.invariant c.index-cells-place.is c.in_ok-part_of_cell.ensures)

pub returns : goal.returns
returns c = parts_done c.args.cells.now c.args.places.now c.loop-place.place-index c.loop-place.parts.items c.loop-place-test.false c.loop-place.invariant
