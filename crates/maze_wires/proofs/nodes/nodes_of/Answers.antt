use Rattle.std.proofs.Common.{◌∷◌, ◌∙◌, ap, subst}
use Rattle.std.specs.Prelude.{◌↔◌}
use Rattle.vlsi_base.specs.Member.{In}
use Rattle.maze_wires.proofs.Foots.{flat_back}
use Rattle.maze_wires.proofs.nodes.nodes_of.Goals as goal

pub returns-clause-same : goal.returns-clause-same
returns-clause-same c =
    let tree = c.args.tree.now in
    λ p. subst (λ xs. In p c.sort_vias.new.vias.items ↔ In p xs)
    (c.in_ok-nodes.ensures ∙ ap (λ v. tree.start ∷ v) (flat_back (λ path. path.items) tree.paths.items))
    (c.in_ok-sort_vias.ensures.same p)
