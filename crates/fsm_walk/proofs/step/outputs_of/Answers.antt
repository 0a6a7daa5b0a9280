use Rattle.std.proofs.Common.{◌∙◌, arith}
use Rattle.fsm_walk.proofs.Giving.{given_all}
use Rattle.fsm_walk.proofs.step.outputs_of.Goals as goal

pub returns : goal.returns
returns c =
    let past = c.loop-assignment-test.false in
    let low = c.loop-assignment.auto.assignment-index-end in
    c.new.ensures ∙ given_all c.args.bits.now c.args.outputs.now c.args.trail.now c.loop-assignment.assignment-index c.loop-assignment.outs.items (omega arith) c.loop-assignment.invariant
