use Rattle.std.proofs.Common.{rules}
use Rattle.vlsi_base.specs.Names.{vdd, vss}
use Rattle.cell_model.proofs.KindLemmas.{told, denied}
use Rattle.cell_checks.specs.Checks.{KeepsFromRail, vss_strip, vdd_strip}
use Rattle.cell_checks.proofs.Layouts.{first_wanted, second_wanted, kept_off, keeping_off}
use Rattle.cell_checks.proofs.layout.keeps_from_rails.Goals as goal

pub returns-then-not-keep_off : goal.returns-then-not-keep_off
returns-then-not-keep_off c =
    let n = second_wanted c.args.cell.now c.args.names.now c.index-names-1.result c.requires.names c.index-names-1.is in (
      λ h. absurd (search (rules, h)),
      λ k. absurd (denied c.keep_off.result c.keep_off.ensures (search rules)
          (keeping_off c.args.cell.now c.args.shapes.now vss c.index-names-1.result c.strip.result (vss_strip c.args.cell.now) c.requires.shapes n c.strip.ensures k.low)),
    )

pub returns : goal.returns
returns c =
    let n = second_wanted c.args.cell.now c.args.names.now c.index-names-1.result c.requires.names c.index-names-1.is in
    let m = first_wanted c.args.cell.now c.args.names.now c.index-names-0.result c.requires.names c.index-names-0.is in
    let low : KeepsFromRail c.args.cell.now vss (vss_strip c.args.cell.now) =
    kept_off c.args.cell.now c.args.shapes.now vss c.index-names-1.result c.strip.result (vss_strip c.args.cell.now) c.requires.shapes n c.strip.ensures
    (told c.keep_off.result c.keep_off.ensures (search rules)) in (
      λ h. record {
        low = low;
        high = kept_off c.args.cell.now c.args.shapes.now vdd c.index-names-0.result c.strip-2.result (vdd_strip c.args.cell.now) c.requires.shapes m c.strip-2.ensures (c.keep_off-2.ensures.0 h);
      },
      λ k. c.keep_off-2.ensures.1 (keeping_off c.args.cell.now c.args.shapes.now vdd c.index-names-0.result c.strip-2.result (vdd_strip c.args.cell.now) c.requires.shapes m c.strip-2.ensures k.high),
    )
