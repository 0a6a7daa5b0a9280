use Rattle.std.proofs.Common.{◌≡◌, arith, w64, to_z, of_z}
use Rattle.std.proofs.lemmas.Int.{ints}
use Rattle.cell_model.specs.Cell.{cell_width}
use Rattle.cell_checks.proofs.Layouts.{kept_in, keeping_in}
use Rattle.cell_checks.proofs.layout.keeps_to_box.Goals as goal

pub returns : goal.returns
returns c =
    let w : to_z w64 (of_z w64 c.width_of-width.result) ≡ cell_width c.args.cell.now = omega (arith, ints) in (
      λ h. kept_in c.args.cell.now c.args.shapes.now c.strip-low.result c.strip-high.result (to_z w64 (of_z w64 c.width_of-width.result)) c.requires.shapes c.strip-low.ensures c.strip-high.ensures w
          (c.all_keep_in.ensures.0 h),
      λ k. c.all_keep_in.ensures.1
          (keeping_in c.args.cell.now c.args.shapes.now c.strip-low.result c.strip-high.result (to_z w64 (of_z w64 c.width_of-width.result)) c.requires.shapes c.strip-low.ensures c.strip-high.ensures w k),
    )
