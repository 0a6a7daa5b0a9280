use Rattle.s2r_cif.proofs.Lines.{layers_more}
use Rattle.s2r_cif.proofs.cif.layers.Goals as goal

pub loop-level-preserved : goal.loop-level-preserved
loop-level-preserved c =
    layers_more c.args.letter c.args.levels.now c.args.boxes.now c.loop-level.level-index c.args.out.now c.loop-level.out c.layer.new.out c.loop-level-test.true c.loop-level.invariant
    c.in_ok-layer.ensures
