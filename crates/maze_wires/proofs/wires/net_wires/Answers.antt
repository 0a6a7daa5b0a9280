use Rattle.std.proofs.Common.{Some, sym, subst}
use Rattle.std.specs.Option.{option_copied, option_map}
use Rattle.grid_core.specs.Shown.{shown_tree}
use Rattle.maze_drawing.specs.Wiring.{IsWiringOf}
use Rattle.maze_wires.specs.declared.wires.NetWires.{NetWires}
use Rattle.maze_wires.specs.Shown.{shown_net}
use Rattle.maze_wires.proofs.Whole.{wiring_is}
use Rattle.maze_wires.proofs.wires.net_wires.Goals as goal

pub returns : goal.returns
returns c =
    let net : NetWires = record { wires = c.in_ok-wires.wires; vias = c.in_ok-vias.vias } in
    subst (λ t. IsWiringOf (option_map shown_tree (option_copied t)) c.args.terminals.now (shown_net net)) (sym c.in-Some.is)
    (wiring_is (Some (shown_tree c.in-Some.tree.now)) c.args.terminals.now net c.in_ok-wires.ensures.runs c.in_ok-wires.ensures.whole c.in_ok-wires.ensures.ordered
    c.in_ok-vias.ensures.vias c.in_ok-vias.ensures.ordered)
