use Rattle.std.proofs.Common.{◌≡◌, ◌+◌, ◌*◌, ℕ, List, length, sym, ap, ◌∙◌, arith}
use Rattle.std.specs.Prelude.{pos}
use Rattle.std.proofs.lemmas.List.{length-map}
use Rattle.vlsi_base.specs.Names.{scalar}
use Rattle.route_draw.proofs.Gridded.{starts_many, row_numbers_many, rows_few, names_wide}
use Rattle.route_draw.proofs.Bare.{drawn_placed}
use Rattle.route_draw.proofs.grid.draw_placed.Goals as goal

pub placed_lines-requires-clause-starts : goal.placed_lines-requires-clause-starts
placed_lines-requires-clause-starts c = starts_many c.args.library.now c.args.netlist.now c.args.placement.now c.requires.placed

pub placed_lines-requires-clause-row_numbers : goal.placed_lines-requires-clause-row_numbers
placed_lines-requires-clause-row_numbers c = row_numbers_many c.args.library.now c.args.netlist.now c.args.placement.now c.requires.placed

pub placed_lines-requires-clause-wide : goal.placed_lines-requires-clause-wide
placed_lines-requires-clause-wide c = names_wide c.args.library.now c.args.netlist.now c.args.placement.now c.requires.placed

pub placed_lines-requires-clause-rows : goal.placed_lines-requires-clause-rows
placed_lines-requires-clause-rows c = rows_few c.args.library.now c.args.netlist.now c.args.placement.now c.requires.placed

pub grid_box-requires-clause-rows : goal.grid_box-requires-clause-rows
grid_box-requires-clause-rows c =
    let few = rows_few c.args.library.now c.args.netlist.now c.args.placement.now c.requires.placed in
    let same : length c.rows.result.now ≡ length c.args.placement.now.rows = sym (length-map c.rows.result.now _) ∙ ap length c.rows.ensures in
    omega (arith, few, same)

pub returns : goal.returns
returns c =
    let n = c.args.netlist.now in
    let p = c.args.placement.now in
    let same : length c.rows.result.now ≡ length p.rows = sym (length-map c.rows.result.now _) ∙ ap length c.rows.ensures in
    drawn_placed c.args.library.now n p c.requires.placed c.placements_are_in_rows.ensures c.routes_keep_nets.ensures
    c.scalar.result c.grid_box.result c.in_ok-items.items
    (c.scalar.ensures ∙ ap (λ (text : List ℕ). scalar text) (c.in_ok-name.ensures ∙ c.name.ensures))
    c.grid_box.ensures.left c.grid_box.ensures.low (c.grid_box.ensures.right ∙ ap (λ (w : ℕ). pos (1500 + 500 + w)) c.width.ensures.width)
    (c.grid_box.ensures.high ∙ ap (λ (r : ℕ). pos (5000 * r + 2 * 500)) same)
    c.in_ok-items.ensures
