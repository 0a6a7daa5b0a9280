use Rattle.std.proofs.Common.{◌≡◌, ℕ, ◌++◌, length, sym, ap, ◌∙◌}
use Rattle.std.specs.Prelude.{◌/◌}
use Rattle.std.proofs.lemmas.List.{length-map}
use Rattle.sym_geom.specs.declared.grid.TheConstants.{PITCH}
use Rattle.ocp_rows.specs.Placement.{supply_ports, grid_ports, port_column}
use Rattle.route_draw.specs.GridPieces.{stood_lines, supplies_over}
use Rattle.route_draw.proofs.Lists.{joined_four}
use Rattle.route_draw.proofs.grid.bare_lines.Goals as goal

pub returns : goal.returns
returns c =
    let n = c.args.netlist.now in
    let p = c.args.placement.now in
    let all = c.args.names.now in
    let first = c.push_supply_ports.new.items in
    let second = c.push_grid_ports.new.items in
    let third = c.push_stood.new.items in
    let width = c.width.result in
    let pitch = c.from.result in
    let many = length c.rows-rows.result.now in
    let columns : width / pitch ≡ p.width / PITCH = ap (λ (w : ℕ). w / pitch) c.width.ensures.width ∙ ap (λ (d : ℕ). p.width / d) c.from.ensures in
    let rows : many ≡ length p.rows = sym (length-map c.rows-rows.result.now _) ∙ ap length c.rows-rows.ensures in
    joined_four c.new.result.items c.new-items.result first second third c.push_supplies.new.items supply_ports
    (grid_ports (port_column (length all) (p.width / PITCH)) (length p.rows) 0 all)
    (stood_lines n.instances p.starts p.row_numbers) (supplies_over p.width (length p.rows))
    c.new.ensures.items
    c.new-items.ensures
    c.in_ok-push_supply_ports.ensures
    (c.in_ok-push_grid_ports.ensures
    ∙ ap (λ (k : ℕ). first ++ grid_ports (port_column (length all) k) many 0 all) columns
    ∙ ap (λ (k : ℕ). first ++ grid_ports (port_column (length all) (p.width / PITCH)) k 0 all) rows)
    c.in_ok-push_stood.ensures
    (c.in_ok-push_supplies.ensures ∙ ap (λ (w : ℕ). third ++ supplies_over w many) c.width-2.ensures.width ∙ ap (λ (k : ℕ). third ++ supplies_over p.width k) rows)
