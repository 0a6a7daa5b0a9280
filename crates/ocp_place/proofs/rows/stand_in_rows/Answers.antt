use Rattle.std.proofs.Common.{◌≡◌, ℕ, List, All, ◌<◌, ◌≤◌, ◌^◌, length, map, sym, subst, ap, ◌∙◌}
use Rattle.row_meaning.specs.Rows.{row_width, rows_width}
use Rattle.row_fill.proofs.Filling.{items}
use Rattle.row_fill.proofs.Once.{all_inside}
use Rattle.ocp_place.specs.Standing.{AreSpots, IsStanding}
use Rattle.ocp_place.proofs.Standing.{widths_near, once_wide, stands}
use Rattle.ocp_place.proofs.rows.stand_in_rows.Goals as goal

pub rows_width-width-requires-clause-cells : goal.rows_width-width-requires-clause-cells
rows_width-width-requires-clause-cells c =
    let once = once_wide c.args.library.now c.args.netlist.now c.requires.library c.requires.netlist c.args.cells.now c.requires.cells c.args.rows.now c.requires.once in
    subst (λ (ws : List ℕ). All (λ row. All (λ d. d < length ws) row.items) c.args.rows.now) (sym c.deref-2.ensures.value)
    (all_inside c.args.rows.now (length c.args.cells.now.widths.items) once)

pub rows_width-width-requires-clause-narrow : goal.rows_width-width-requires-clause-narrow
rows_width-width-requires-clause-narrow c =
    let once = once_wide c.args.library.now c.args.netlist.now c.requires.library c.requires.netlist c.args.cells.now c.requires.cells c.args.rows.now c.requires.once in
    subst (λ (ws : List ℕ). All (λ row. row_width ws row.items ≤ 2 ^ 62) c.args.rows.now) (sym c.deref-2.ensures.value)
    (widths_near c.args.cells.now.widths.items c.args.rows.now once c.requires.cells.few c.requires.cells.narrow)

pub returns : goal.returns
returns c = λ k seen.
    let l = c.args.library.now in
    let width : c.rows_width-width.result ≡ rows_width c.args.cells.now.widths.items (map items c.args.rows.now) =
    c.rows_width-width.ensures ∙ ap (λ (ws : List ℕ). rows_width ws (map items c.args.rows.now)) c.deref-2.ensures.value in
    let spots : AreSpots c.args.cells.now.widths.items (map items c.args.rows.now) c.in_ok-spots.spots =
    subst (λ (ws : List ℕ). AreSpots ws (map items c.args.rows.now) c.in_ok-spots.spots) c.deref.ensures.value c.in_ok-spots.ensures in
    subst (λ (x : ℕ). IsStanding k l (map items c.args.rows.now) (record { spots = c.in_ok-spots.spots; sites = c.in_ok-pins.pins.sites; drivers = c.in_ok-pins.pins.drivers; width = x })) (sym width)
    (stands l c.args.netlist.now c.requires.library c.requires.netlist c.args.cells.now c.requires.cells c.args.rows.now c.requires.once c.in_ok-spots.spots spots c.in_ok-pins.pins c.in_ok-pins.ensures k seen)
