use Rattle.std.proofs.Common.{◌≡◌, ◌∙◌}
use Rattle.s2r_cif.specs.Real.{box_at}
use Rattle.s2r_cif.specs.declared.layout.RealBox.{RealBox}
use Rattle.s2r_cif.proofs.Lines.{boxes_more, on_level, off_level}
use Rattle.s2r_cif.proofs.cif.box_lines.Goals.{then-one-level+in_ok-box_line, else-one-level}
use Rattle.s2r_cif.proofs.cif.box_lines.Goals as goal

pub loop-one-preserved : goal.loop-one-preserved
loop-one-preserved c =
    let k = c.loop-one.one-index in
    let one : RealBox = box_at c.args.boxes.now k in
    boxes_more c.args.level c.args.boxes.now k c.args.out.now c.loop-one.out c.if-one-level.out c.loop-one-test.true c.loop-one.invariant
    (elim c.if-one-level.branch [
      | then-one-level+in_ok-box_line w ↦ on_level c.args.level one c.loop-one.out c.if-one-level.out w.if-one-level.true (w.out-is ∙ w.in_ok-box_line.ensures)
      | else-one-level w ↦ off_level c.args.level one c.loop-one.out c.if-one-level.out w.if-one-level.false w.out-is
    ])
