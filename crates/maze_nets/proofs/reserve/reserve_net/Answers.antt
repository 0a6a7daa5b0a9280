use Rattle.std.proofs.Common.{◌<◌, ◌∷◌, [], ◌++◌, List, length, get_or, take, sym, subst}
use Rattle.grid_core.specs.declared.grid.Grid.{Grid}
use Rattle.grid_core.specs.declared.grid.Node.{Node}
use Rattle.grid_core.specs.Grid.{IsInGrid, above}
use Rattle.grid_core.specs.Owners.{IsTaken}
use Rattle.maze_nets.specs.Nets.{port_node}
use Rattle.maze_nets.proofs.Reserving.{terminal_nodes, taken_then, port_within, part_within, terminal_within, terminals_more}
use Rattle.maze_nets.proofs.reserve.reserve_net.Goals as goal

pub reserve_port-requires-clause-within : goal.reserve_port-requires-clause-within
reserve_port-requires-clause-within c = port_within c.args.occupied.now.grid c.args.points.now c.requires.within

pub reserve_terminal-requires-clause-node : goal.reserve_terminal-requires-clause-node
reserve_terminal-requires-clause-node c =
    let n = c.args.points.now in
    let i = c.loop-node.node-index in
    let d : Node = record { metal = 0; column = 0; row = 0 } in
    let items = c.deref-node-items.ensures.value in
    let lt : i < length n.terminals.items = subst (λ (xs : List Node). i < length xs) items c.loop-node-test.true in
    let here_is = (terminal_within c.args.occupied.now.grid n i d lt c.requires.within).0 in
    subst (λ (xs : List Node). IsInGrid c.loop-node.occupied.grid (get_or xs i d)) (sym items)
    (subst (λ (g : Grid). IsInGrid g (get_or n.terminals.items i d)) (sym c.loop-node.invariant.grid) here_is)

pub reserve_terminal-requires-clause-above : goal.reserve_terminal-requires-clause-above
reserve_terminal-requires-clause-above c =
    let n = c.args.points.now in
    let i = c.loop-node.node-index in
    let d : Node = record { metal = 0; column = 0; row = 0 } in
    let items = c.deref-node-items.ensures.value in
    let lt : i < length n.terminals.items = subst (λ (xs : List Node). i < length xs) items c.loop-node-test.true in
    let above_is = (terminal_within c.args.occupied.now.grid n i d lt c.requires.within).1 in
    subst (λ (xs : List Node). IsInGrid c.loop-node.occupied.grid (above (get_or xs i d))) (sym items)
    (subst (λ (g : Grid). IsInGrid g (above (get_or n.terminals.items i d))) (sym c.loop-node.invariant.grid) above_is)

pub loop-node-preserved : goal.loop-node-preserved
loop-node-preserved c =
    let n = c.args.points.now in
    let i = c.loop-node.node-index in
    let d : Node = record { metal = 0; column = 0; row = 0 } in
    let items = c.deref-node-items.ensures.value in
    let lt : i < length n.terminals.items = subst (λ (xs : List Node). i < length xs) items c.loop-node-test.true in
    let taken : IsTaken c.loop-node.occupied c.args.net (get_or n.terminals.items i d ∷ above (get_or n.terminals.items i d) ∷ []) c.reserve_terminal.new.occupied =
    subst (λ (xs : List Node). IsTaken c.loop-node.occupied c.args.net (get_or xs i d ∷ above (get_or xs i d) ∷ []) c.reserve_terminal.new.occupied) items c.reserve_terminal.ensures in
    subst (λ (xs : List Node). IsTaken c.args.occupied.now c.args.net xs c.reserve_terminal.new.occupied) (sym (terminals_more (port_node n.port) n.terminals.items i d lt))
    (taken_then c.args.occupied.now c.loop-node.occupied c.reserve_terminal.new.occupied c.args.net (port_node n.port ++ terminal_nodes (take i n.terminals.items))
    (get_or n.terminals.items i d ∷ above (get_or n.terminals.items i d) ∷ []) (part_within c.args.occupied.now.grid n i c.requires.within) c.loop-node.invariant taken)
