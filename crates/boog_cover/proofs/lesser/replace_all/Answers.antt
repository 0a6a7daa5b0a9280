use Rattle.boog_cover.proofs.Narrowing.{whole_kept}
use Rattle.boog_cover.proofs.lesser.replace_all.Goals as goal

pub loop-step-preserved : goal.loop-step-preserved
loop-step-preserved c = λ nodes old.
    whole_kept c.args.cells.now c.args.held nodes c.loop-step.gates c.replace-is_taken.new.gates c.replace-is_taken.auto.gates c.replace-is_taken.ensures.same c.replace-is_taken.ensures.cover
    (c.loop-step.invariant nodes old)
