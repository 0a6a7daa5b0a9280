use Rattle.std.proofs.Common.{List, length, sym, subst}
use Rattle.graph_theory.specs.Graph.{inv, nand}
use Rattle.subject_table.specs.declared.table.Node.TheVariants as kind
use Rattle.cell_match.specs.declared.cut.Cut.{Cut}
use Rattle.boog_cuts.proofs.Growing.{list_at}
use Rattle.boog_cuts.proofs.Sizes.{cut_fits}
use Rattle.boog_tree.specs.Cuts.{AreTreeCuts, AreOnce}
use Rattle.boog_tree.specs.Joined.{AreInverses, AreJoined}
use Rattle.boog_tree.proofs.Within.{reads_below}
use Rattle.boog_tree.proofs.Making.{fixed_has_none, inverses_are_cuts, joined_are_cuts, parts_once}
use Rattle.boog_tree.proofs.Placing.{node_at, ok_by}
use Rattle.boog_tree.proofs.cuts.next_cuts.Goals as goal

pub bounds-parts-a : goal.bounds-parts-a
bounds-parts-a g c =
    let x = length c.args.parts.now in
    let node = node_at c.args.held c.args.graph.now c.nodes.result.now x (kind.Inv c.in-Inv.a) _ c.nodes.ensures c.if-parts-first.false c.requires.there c.in-Inv.is in
    reads_below c.args.held c.args.graph.now c.requires.earlier x (inv c.in-Inv.a) node

pub bounds-parts-a-in-Nand : goal.bounds-parts-a-in-Nand
bounds-parts-a-in-Nand g c =
    let x = length c.args.parts.now in
    let node = node_at c.args.held c.args.graph.now c.nodes.result.now x (kind.Nand c.in-Nand.a c.in-Nand.b) _ c.nodes.ensures c.if-parts-first.false c.requires.there c.in-Nand.is in
    (reads_below c.args.held c.args.graph.now c.requires.earlier x (nand c.in-Nand.a c.in-Nand.b) node).0

pub bounds-parts-b : goal.bounds-parts-b
bounds-parts-b g c =
    let x = length c.args.parts.now in
    let node = node_at c.args.held c.args.graph.now c.nodes.result.now x (kind.Nand c.in-Nand.a c.in-Nand.b) _ c.nodes.ensures c.if-parts-first.false c.requires.there c.in-Nand.is in
    (reads_below c.args.held c.args.graph.now c.requires.earlier x (nand c.in-Nand.a c.in-Nand.b) node).1

pub joined-requires : goal.joined-requires
joined-requires g c =
    let x = length c.args.parts.now in
    let node = node_at c.args.held c.args.graph.now c.nodes.result.now x (kind.Nand c.in-Nand.a c.in-Nand.b) _ c.nodes.ensures c.if-parts-first.false c.requires.there c.in-Nand.is in
    let low = (reads_below c.args.held c.args.graph.now c.requires.earlier x (nand c.in-Nand.a c.in-Nand.b) node).0 in
    let at = list_at (λ v. v.items) c.args.parts.now c.in-Nand.a c.index-parts-a-in-Nand.result low c.index-parts-a-in-Nand.is in (
      cut_fits g.row.K c.requires.few,
      (
        c.requires.few,
        subst (λ (l : List (Cut g.row.K)). AreOnce l) (sym c.as_slice-in-Nand.ensures.value)
            (parts_once c.args.held c.args.graph.now c.in-Nand.a c.index-parts-a-in-Nand.result.items (c.requires.parts c.in-Nand.a c.index-parts-a-in-Nand.result.items at)),
      ),
    )

pub inverses-requires : goal.inverses-requires
inverses-requires g c = (cut_fits g.row.K c.requires.few, c.requires.few)

pub returns-in-Fixed : goal.returns-in-Fixed
returns-in-Fixed g c =
    let x = length c.args.parts.now in
    let node = node_at c.args.held c.args.graph.now c.nodes.result.now x (kind.Fixed c.in-Fixed.field-0) _ c.nodes.ensures c.if-parts-first.false c.requires.there c.in-Fixed.is in
    fixed_has_none c.args.held c.args.graph.now x c.new-in-Fixed.result.items c.in-Fixed.field-0 node c.new-in-Fixed.ensures.items

pub returns-in-Inv : goal.returns-in-Inv
returns-in-Inv g c =
    let x = length c.args.parts.now in
    let node = node_at c.args.held c.args.graph.now c.nodes.result.now x (kind.Inv c.in-Inv.a) _ c.nodes.ensures c.if-parts-first.false c.requires.there c.in-Inv.is in
    let low = reads_below c.args.held c.args.graph.now c.requires.earlier x (inv c.in-Inv.a) node in
    let at = list_at (λ v. v.items) c.args.parts.now c.in-Inv.a c.index-parts-a.result low c.index-parts-a.is in
    ok_by (λ cuts. AreInverses c.as_slice.result.now cuts.items) (λ cuts. AreTreeCuts c.args.held c.args.graph.now x cuts.items) c.inverses.result
    (λ cuts made.
    inverses_are_cuts c.args.held c.args.graph.now x cuts.items c.in-Inv.a c.index-parts-a.result.items node (c.requires.parts c.in-Inv.a c.index-parts-a.result.items at)
    (subst (λ (l : List (Cut g.row.K)). AreInverses l cuts.items) c.as_slice.ensures.value made))
    c.inverses.ensures

pub returns-in-Nand : goal.returns-in-Nand
returns-in-Nand g c =
    let x = length c.args.parts.now in
    let node = node_at c.args.held c.args.graph.now c.nodes.result.now x (kind.Nand c.in-Nand.a c.in-Nand.b) _ c.nodes.ensures c.if-parts-first.false c.requires.there c.in-Nand.is in
    let low = reads_below c.args.held c.args.graph.now c.requires.earlier x (nand c.in-Nand.a c.in-Nand.b) node in
    let first = c.index-parts-a-in-Nand.result.items in
    let second = c.index-parts-b.result.items in
    let at = list_at (λ v. v.items) c.args.parts.now c.in-Nand.a c.index-parts-a-in-Nand.result low.0 c.index-parts-a-in-Nand.is in
    let at_too = list_at (λ v. v.items) c.args.parts.now c.in-Nand.b c.index-parts-b.result low.1 c.index-parts-b.is in
    ok_by (λ cuts. AreJoined c.as_slice-in-Nand.result.now c.as_slice-in-Nand-2.result.now cuts.items) (λ cuts. AreTreeCuts c.args.held c.args.graph.now x cuts.items) c.joined.result
    (λ cuts made.
    joined_are_cuts c.args.held c.args.graph.now x cuts.items c.in-Nand.a c.in-Nand.b first second node (c.requires.parts c.in-Nand.a first at) (c.requires.parts c.in-Nand.b second at_too)
    (subst (λ (l : List (Cut g.row.K)). AreJoined first l cuts.items) c.as_slice-in-Nand-2.ensures.value
    (subst (λ (l : List (Cut g.row.K)). AreJoined l c.as_slice-in-Nand-2.result.now cuts.items) c.as_slice-in-Nand.ensures.value made)))
    c.joined.ensures
