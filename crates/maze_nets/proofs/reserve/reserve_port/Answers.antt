use Rattle.std.proofs.Common.{sym, subst}
use Rattle.vlsi_base.specs.Member.{In, here}
use Rattle.grid_core.specs.Owners.{IsTaken}
use Rattle.maze_nets.specs.Nets.{port_node}
use Rattle.maze_nets.proofs.Reserving.{taken_none}
use Rattle.maze_nets.proofs.reserve.reserve_port.Goals as goal

pub block-requires-clause-within : goal.block-requires-clause-within
block-requires-clause-within c = c.requires.within c.in-Some.node (subst (λ o. In c.in-Some.node (port_node o)) (sym c.in-Some.is) here)

pub returns-in_default : goal.returns-in_default
returns-in_default c =
    subst (λ o. IsTaken c.args.occupied.now c.args.net (port_node o) c.args.occupied.now) (sym c.in_default.is) (taken_none c.args.occupied.now c.args.net)
