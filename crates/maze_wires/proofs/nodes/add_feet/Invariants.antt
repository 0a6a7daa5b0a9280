use Rattle.std.proofs.Common.{◌⊎◌, take}
use Rattle.std.specs.Prelude.{◌↔◌}
use Rattle.vlsi_base.specs.Member.{In}
use Rattle.grid_core.specs.declared.grid.Node.{Node}
use Rattle.maze_wires.specs.Feet.{IsFoot}
use Rattle.maze_wires.proofs.nodes.add_feet.Given as goal

abbrev pub invariant-loop-terminal : goal.invariant-loop-terminal
invariant-loop-terminal l = (v : Node) → In v l.vias.items ↔ (In v l.initial.vias.items ⊎ IsFoot l.nodes (take l.terminal-index l.terminals) v)
