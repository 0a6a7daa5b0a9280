use Rattle.std.proofs.Common.{◌<◌, ap, sym, subst, arith}
use Rattle.graph_theory.specs.Graph.{Node}
use Rattle.subject_table.specs.View.{node_view}
use Rattle.cell_match.specs.Places.{times}
use Rattle.cell_match.proofs.Numbers.{one_same}
use Rattle.boog_tree.specs.Trees.{pins}
use Rattle.boog_tree.proofs.inner.raise_pins.Goals as goal

pub raise-requires : goal.raise-requires
raise-requires c =
    let o = one_same c.in-Inv.a in
    c.requires c.in-Inv.a (subst (λ (n : Node). 0 < times c.in-Inv.a (pins n)) (sym (ap node_view c.in-Inv.is)) (omega (arith, o)))

pub raise-requires-in-Nand : goal.raise-requires-in-Nand
raise-requires-in-Nand c =
    let o = one_same c.in-Nand.a in
    c.requires c.in-Nand.a (subst (λ (n : Node). 0 < times c.in-Nand.a (pins n)) (sym (ap node_view c.in-Nand.is)) (omega (arith, o)))

pub raise-requires-in-Nand-2 : goal.raise-requires-in-Nand-2
raise-requires-in-Nand-2 c =
    let o = one_same c.in-Nand.b in
    let long = c.raise-in-Nand.ensures.long in
    let inside = c.requires c.in-Nand.b (subst (λ (n : Node). 0 < times c.in-Nand.b (pins n)) (sym (ap node_view c.in-Nand.is)) (omega (arith, o))) in
    omega (arith, long, inside)
