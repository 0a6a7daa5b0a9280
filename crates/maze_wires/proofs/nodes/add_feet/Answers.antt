use Rattle.grid_core.specs.declared.grid.Node.{Node}
use Rattle.maze_wires.proofs.Foots.{feet_more}
use Rattle.maze_wires.proofs.nodes.add_feet.Goals as goal

abbrev nowhere : Node
nowhere = record { metal = 0; column = 0; row = 0 }

pub loop-terminal-preserved : goal.loop-terminal-preserved
loop-terminal-preserved c =
    feet_more c.args.nodes.now c.args.terminals.now _ c.loop-terminal.vias.items _ c.loop-terminal.terminal-index nowhere c.loop-terminal-test.true c.loop-terminal.invariant c.in_ok-add_foot.ensures
