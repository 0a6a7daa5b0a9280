use Rattle.std.proofs.Common.{rules}
use Rattle.vlsi_base.specs.Names.{vdd, vss}
use Rattle.sym_geom.specs.declared.grid.TheConstants.{RAIL_WIDTH, VDD_STRIP_Y, ROW_HEIGHT}
use Rattle.cell_model.proofs.KindLemmas.{told, denied}
use Rattle.cell_checks.specs.Checks.{HasRail}
use Rattle.cell_checks.proofs.Layouts.{first_wanted, second_wanted, rail_by, by_rail}
use Rattle.cell_checks.proofs.layout.has_rails.Goals as goal

pub returns-then-not-has_rail : goal.returns-then-not-has_rail
returns-then-not-has_rail c =
    let n = second_wanted c.args.cell.now c.args.names.now c.index-names-1.result c.requires.names c.index-names-1.is in (
      λ h. absurd (search (rules, h)),
      λ k. absurd (denied c.has_rail.result c.has_rail.ensures (search rules)
          (by_rail c.args.cell.now c.args.shapes.now vss c.index-names-1.result 0 RAIL_WIDTH c.rail.result c.requires.shapes n c.rail.ensures k.low)),
    )

pub returns : goal.returns
returns c =
    let n = second_wanted c.args.cell.now c.args.names.now c.index-names-1.result c.requires.names c.index-names-1.is in
    let m = first_wanted c.args.cell.now c.args.names.now c.index-names-0.result c.requires.names c.index-names-0.is in
    let low : HasRail c.args.cell.now vss 0 RAIL_WIDTH =
    rail_by c.args.cell.now c.args.shapes.now vss c.index-names-1.result 0 RAIL_WIDTH c.rail.result c.requires.shapes n c.rail.ensures
    (told c.has_rail.result c.has_rail.ensures (search rules)) in (
      λ h. record {
        low = low;
        high = rail_by c.args.cell.now c.args.shapes.now vdd c.index-names-0.result VDD_STRIP_Y ROW_HEIGHT c.rail-2.result c.requires.shapes m c.rail-2.ensures (c.has_rail-2.ensures.0 h);
      },
      λ k. c.has_rail-2.ensures.1 (by_rail c.args.cell.now c.args.shapes.now vdd c.index-names-0.result VDD_STRIP_Y ROW_HEIGHT c.rail-2.result c.requires.shapes m c.rail-2.ensures k.high),
    )
