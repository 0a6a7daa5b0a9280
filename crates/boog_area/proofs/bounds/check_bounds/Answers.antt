use Rattle.std.proofs.Common.{◌↔◌, ◌≤◌, ℕ, List, subst, sym}
use Rattle.std.specs.Prelude.{IsTrue}
use Rattle.cell_match.specs.declared.gate.CellWord.{CellWord}
use Rattle.cell_match.specs.Cells.{inputs_of}
use Rattle.boog_tree.specs.Picked.{AreRising}
use Rattle.boog_tree.specs.Bounds.{AreBounds}
use Rattle.boog_area.proofs.Standing.{narrow, rising}
use Rattle.boog_area.proofs.Matches.{bounds_as_cells, bounds_as_words}
use Rattle.boog_area.proofs.bounds.check_bounds.Goals as goal

pub check_bounds-requires-clause-narrow : goal.check_bounds-requires-clause-narrow
check_bounds-requires-clause-narrow c =
    subst (λ (w : List CellWord). (k : ℕ) → inputs_of w k ≤ 6) (sym c.deref.ensures.value) (narrow c.args.library.now c.in_ok-cells.cells c.in_ok-cells.ensures)

pub check_bounds-requires-clause-areas : goal.check_bounds-requires-clause-areas
check_bounds-requires-clause-areas c =
    subst (λ (a : List ℕ). AreRising c.deref.result.now a) (sym c.deref-2.ensures.value)
    (subst (λ (w : List CellWord). AreRising w c.in_ok-cells.cells.areas.items) (sym c.deref.ensures.value)
    (rising c.args.library.now c.in_ok-cells.cells c.in_ok-cells.ensures))

pub returns : goal.returns
returns c =
    let l = c.args.library.now in
    let held = c.args.held in
    let g = c.args.graph.now in
    let bounds = c.args.bounds.now in
    let cells = c.in_ok-cells.cells in
    let is : IsTrue c.in_ok-yes.yes ↔ AreBounds cells.words.items cells.areas.items held g bounds =
    subst (λ (a : List ℕ). IsTrue c.in_ok-yes.yes ↔ AreBounds cells.words.items a held g bounds) c.deref-2.ensures.value
    (subst (λ (w : List CellWord). IsTrue c.in_ok-yes.yes ↔ AreBounds w c.deref-2.result.now held g bounds) c.deref.ensures.value c.in_ok-yes.ensures) in (
      λ yes. bounds_as_cells l cells c.in_ok-cells.ensures held g bounds (is.0 yes),
      λ are. is.1 (bounds_as_words l cells c.in_ok-cells.ensures held g bounds are),
    )
