use Rattle.std.proofs.Common.{Some, sym, subst}
use Rattle.std.specs.Prelude.{◌↔◌}
use Rattle.vlsi_base.specs.Member.{In}
use Rattle.grid_core.specs.declared.grid.Node.{Node}
use Rattle.grid_core.specs.Grid.{above}
use Rattle.grid_core.specs.Routes.{tree_nodes}
use Rattle.grid_core.specs.Shown.{shown_tree}
use Rattle.maze_drawing.specs.Wiring.{AreNeighbours}
use Rattle.maze_wires.specs.declared.links.Next.TheVariants.{Above}
use Rattle.maze_wires.proofs.Neighbours.{links_are}
use Rattle.maze_wires.proofs.Whole.{vias_are}
use Rattle.maze_wires.proofs.wires.vias_of.Goals as goal

pub returns-clause-vias : goal.returns-clause-vias
returns-clause-vias c =
    let tree = c.args.tree.now in
    vias_are (Some (shown_tree tree)) c.args.terminals.now c.in_ok-vias.vias.items c.deref.result.now c.add_feet.new.vias.items c.sort_vias.new.vias.items
    (subst (λ xs. (p : Node) → In p xs ↔ AreNeighbours (Some (shown_tree tree)) p (above p)) (sym c.in_ok-vias.ensures.is) (links_are Above tree))
    (subst (λ xs. (p : Node) → In p xs ↔ In p (tree_nodes (Some (shown_tree tree)))) (sym c.deref.ensures.value) c.in_ok-nodes.ensures.same)
    c.in_ok-add_feet.ensures c.in_ok-sort_vias.ensures.same
