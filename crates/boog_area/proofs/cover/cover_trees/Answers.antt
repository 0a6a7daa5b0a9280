use Rattle.std.proofs.Common.{◌≤◌, ℕ, List, subst, sym}
use Rattle.cell_match.specs.declared.gate.CellWord.{CellWord}
use Rattle.cell_match.specs.Cells.{inputs_of}
use Rattle.boog_tree.specs.Picked.{AreRising}
use Rattle.boog_tree.specs.Direct.{HasGates}
use Rattle.boog_tree.specs.Bounds.{IsLeast}
use Rattle.boog_area.proofs.Standing.{narrow, rising, has_gates}
use Rattle.boog_area.proofs.Least.{tree_cover}
use Rattle.boog_area.proofs.cover.cover_trees.Goals as goal

pub least_area-requires-clause-narrow : goal.least_area-requires-clause-narrow
least_area-requires-clause-narrow c =
    subst (λ (w : List CellWord). (k : ℕ) → inputs_of w k ≤ 6) (sym c.deref.ensures.value) (narrow c.args.library.now c.in_ok-cells.cells c.in_ok-cells.ensures)

pub least_area-requires-clause-areas : goal.least_area-requires-clause-areas
least_area-requires-clause-areas c =
    subst (λ (a : List ℕ). AreRising c.deref.result.now a) (sym c.deref-2.ensures.value)
    (subst (λ (w : List CellWord). AreRising w c.in_ok-cells.cells.areas.items) (sym c.deref.ensures.value)
    (rising c.args.library.now c.in_ok-cells.cells c.in_ok-cells.ensures))

pub least_area-requires-clause-gates : goal.least_area-requires-clause-gates
least_area-requires-clause-gates c =
    subst (λ (w : List CellWord). HasGates w) (sym c.deref.ensures.value)
    (has_gates c.args.library.now c.in_ok-cells.cells c.in_ok-cells.ensures c.requires.covered)

pub returns : goal.returns
returns c =
    let cells = c.in_ok-cells.cells in
    let cover = c.in_ok-cover.cover in
    let least : IsLeast cells.words.items cells.areas.items c.args.held c.args.graph.now cover =
    subst (λ (a : List ℕ). IsLeast cells.words.items a c.args.held c.args.graph.now cover) c.deref-2.ensures.value
    (subst (λ (w : List CellWord). IsLeast w c.deref-2.result.now c.args.held c.args.graph.now cover) c.deref.ensures.value c.in_ok-cover.ensures) in
    tree_cover c.args.library.now c.args.held c.args.graph.now (record { cells = cells; cover = cover }) c.in_ok-cells.ensures least
