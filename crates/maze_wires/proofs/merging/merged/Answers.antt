use Rattle.std.proofs.Common.{arith}
use Rattle.grid_core.specs.declared.grid.Node.{Node}
use Rattle.maze_wires.proofs.Tests.{longer_fits}
use Rattle.maze_wires.proofs.merging.merged.Goals as goal

abbrev nowhere : Node
nowhere = record { metal = 0; column = 0; row = 0 }

pub overflow_add-wire : goal.overflow_add-wire
overflow_add-wire c =
    let w = c.loop-step.wire in
    let fits = longer_fits c.args.steps.now c.in-Some.rest.now c.in-Some.first.now w.from w.steps c.loop-step.step-index nowhere c.is_ahead.result
    c.in-Some.ensures.cases.0 c.requires.ends c.loop-step-test.true c.is_ahead.ensures.value c.if-is_ahead.true in
    omega (arith, fits)
