use Rattle.std.proofs.Common.{false, ℕ, List, ap, arith, length, subst, sym}
use Rattle.std.proofs.lemmas.List.{length-map}
use Rattle.row_meaning.specs.Length.{block_of}
use Rattle.row_descent.specs.Tables.{rows_of}
use Rattle.row_descent.proofs.Views.{items}
use Rattle.ocp_place.specs.Nets.{signal_ports}
use Rattle.ocp_place.specs.Placed.{rows_of as placement_of}
use Rattle.ocp_place.specs.Stood.{named_rows}
use Rattle.ocp_place.proofs.Classes.{known, known_seen}
use Rattle.row_bridge.specs.Improved.{IsBetter}
use Rattle.ocp_anneal.proofs.Placing.{ready, once_again, as_many, better_now}
use Rattle.ocp_anneal.proofs.shorter.improve.Goals as goal

pub shortened-requires-clause-some : goal.shortened-requires-clause-some
shortened-requires-clause-some c =
    let n = c.args.netlist.now in
    let are = c.requires.placed.rows (known n) (known_seen n c.requires.placed.drawable.sound) in
    let some = are.some in
    let same = ap length c.rows.ensures in
    let many = length-map c.rows.result.now items in
    omega (arith, some, same, many)

pub shortened-requires-clause-block : goal.shortened-requires-clause-block
shortened-requires-clause-block c =
    let p = c.args.placement.now in
    let wide = c.width.ensures.width in
    let narrow = c.width.ensures.narrow in
    let count = c.count.ensures in
    (ready c.args.library.now c.args.netlist.now p c.requires.placed (block_of c.in_ok-cells.cells) c.in_ok-cells.ensures (rows_of c.rows.result.now) c.rows.ensures
    c.nets_are_alike.ensures c.placed_can_be_improved.ensures c.alike_can_be_improved.ensures (omega (arith, wide, narrow)) (omega (arith, count, c.count.type_inv))).block

pub shortened-requires-clause-rows : goal.shortened-requires-clause-rows
shortened-requires-clause-rows c =
    let p = c.args.placement.now in
    let wide = c.width.ensures.width in
    let narrow = c.width.ensures.narrow in
    let count = c.count.ensures in
    (ready c.args.library.now c.args.netlist.now p c.requires.placed (block_of c.in_ok-cells.cells) c.in_ok-cells.ensures (rows_of c.rows.result.now) c.rows.ensures
    c.nets_are_alike.ensures c.placed_can_be_improved.ensures c.alike_can_be_improved.ensures (omega (arith, wide, narrow)) (omega (arith, count, c.count.type_inv))).rows_are

pub shortened-requires-clause-narrow : goal.shortened-requires-clause-narrow
shortened-requires-clause-narrow c =
    let p = c.args.placement.now in
    let wide = c.width.ensures.width in
    let narrow = c.width.ensures.narrow in
    let count = c.count.ensures in
    (ready c.args.library.now c.args.netlist.now p c.requires.placed (block_of c.in_ok-cells.cells) c.in_ok-cells.ensures (rows_of c.rows.result.now) c.rows.ensures
    c.nets_are_alike.ensures c.placed_can_be_improved.ensures c.alike_can_be_improved.ensures (omega (arith, wide, narrow)) (omega (arith, count, c.count.type_inv))).narrow

pub place_in_rows-requires-clause-once : goal.place_in_rows-requires-clause-once
place_in_rows-requires-clause-once c =
    once_again c.args.library.now c.args.netlist.now c.args.placement.now c.requires.placed (block_of c.in_ok-cells.cells) c.in_ok-cells.ensures (rows_of c.rows.result.now) c.rows.ensures
    c.improved_hold_each_once.ensures c.args.moves.seed c.args.moves.many (rows_of c.in_ok-rows.rows.items) c.in_ok-rows.ensures

pub place_in_rows-requires-clause-some : goal.place_in_rows-requires-clause-some
place_in_rows-requires-clause-some c =
    let r = as_many c.args.library.now c.args.netlist.now c.args.placement.now c.requires.placed (block_of c.in_ok-cells.cells) c.in_ok-cells.ensures (rows_of c.rows.result.now) c.rows.ensures
    c.args.moves.seed c.args.moves.many (rows_of c.in_ok-rows.rows.items) c.in_ok-rows.ensures in
    let some = r.0 in
    let many = length-map c.in_ok-rows.rows.items items in
    omega (arith, some, many)

pub place_in_rows-requires-clause-few : goal.place_in_rows-requires-clause-few
place_in_rows-requires-clause-few c =
    let r = as_many c.args.library.now c.args.netlist.now c.args.placement.now c.requires.placed (block_of c.in_ok-cells.cells) c.in_ok-cells.ensures (rows_of c.rows.result.now) c.rows.ensures
    c.args.moves.seed c.args.moves.many (rows_of c.in_ok-rows.rows.items) c.in_ok-rows.ensures in
    let few = r.1 in
    let many = length-map c.in_ok-rows.rows.items items in
    omega (arith, few, many)

pub returns-clause-improved : goal.returns-clause-improved
returns-clause-improved c = λ k seen.
    let p = c.args.placement.now in
    subst (λ (rows : List (List ℕ)). IsBetter k c.args.library.now c.args.moves.seed c.args.moves.many (placement_of k p)
    (record { rows = named_rows k.instances rows; ports = signal_ports k; tracks = false }))
    (sym c.in_ok-improved.ensures.rows)
    (better_now c.args.library.now c.args.netlist.now p c.requires.placed (block_of c.in_ok-cells.cells) c.in_ok-cells.ensures (rows_of c.rows.result.now) c.rows.ensures
    c.nets_are_alike.ensures c.improved_alike.ensures c.improved_above.ensures c.args.moves.seed c.args.moves.many (rows_of c.in_ok-rows.rows.items) c.in_ok-rows.ensures k seen)
