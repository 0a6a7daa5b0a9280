use Rattle.std.proofs.Common.{◌≡◌, ◌∷◌, [], ◌⊎◌, true, sym, subst}
use Rattle.std.specs.Prelude.{◌↔◌}
use Rattle.vlsi_base.specs.Member.{In}
use Rattle.maze_wires.specs.Feet.{IsFoot}
use Rattle.maze_wires.proofs.Foots.{no_feet, not_low, not_there, one_foot}
use Rattle.maze_wires.proofs.nodes.add_foot.Goals as goal

pub returns-then-terminal-ne2 : goal.returns-then-terminal-ne2
returns-then-terminal-ne2 c =
    let q = c.args.terminal.now in
    no_feet c.args.vias.now.items c.args.nodes.now (q ∷ []) (not_low c.args.nodes.now q c.if-terminal-ne2.true)

pub returns-then-not-has_node : goal.returns-then-not-has_node
returns-then-not-has_node c =
    let q = c.args.terminal.now in
    no_feet c.args.vias.now.items c.args.nodes.now (q ∷ [])
    (not_there c.args.nodes.now q (λ i. let t : c.has_node.result ≡ true = c.has_node.ensures.1 i in let f = c.if-not-has_node.true in cc))

pub returns : goal.returns
returns c =
    let q = c.args.terminal.now in
    let olds = c.args.vias.now.items in
    λ v. subst (λ xs. In v xs ↔ (In v olds ⊎ IsFoot c.args.nodes.now (q ∷ []) v)) (sym c.in_ok-push.ensures.items)
    (one_foot olds c.args.nodes.now q c.if-terminal-ne2.false (c.has_node.ensures.0 c.if-not-has_node.false) v)
