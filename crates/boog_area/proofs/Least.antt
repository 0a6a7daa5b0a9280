-- Bounds are below all covers, and a cover that meets them is least.
use Rattle.std.proofs.Common.{ℕ, ◌≤◌, IsTrue, List, slice_index, refl, arith}
use Rattle.graph_theory.specs.Graph.{Graph}
use Rattle.cell_model.specs.Library.{Library}
use Rattle.gate_cells.specs.Listed.{AreGateCells}
use Rattle.boog_tree.specs.Trees.{is_gate, is_inner, is_root, tree_roots}
use Rattle.boog_tree.specs.Bounds.{IsLeast}
use Rattle.boog_tree.proofs.Totals.{inner_le, total_le}
use Rattle.boog_tree.proofs.Open.{left_true}
use Rattle.boog_area.specs.Covers.{IsCellCover, taken, AreCellBounds, CellBoundsAreLeast, IsCellPick, IsTreeCover}
use Rattle.boog_area.specs.declared.cover.TreeCover.{TreeCover}
use Rattle.boog_area.proofs.Matches.{as_cells, bounds_as_cells, cover_as_cells}
use Rattle.boog_area.proofs.Sums.{root_is}

below : (l : Library) (held : ℕ) (g : Graph) (bounds : List ℕ) → AreCellBounds l held g bounds → (x area : ℕ) → IsCellCover l held g x area
    → slice_index bounds x ≤ area
below l held g bounds are x area (taken _ c columns order parts m covers) =
    let e = are.least x c columns order m in
    let f = inner_le (is_inner held g) (slice_index bounds) parts order (λ y some inner. below l held g bounds are y (parts y) (covers y some inner)) in
    omega (arith, e, f)

pub cell_bounds_are_least : CellBoundsAreLeast
cell_bounds_are_least l held g bounds are = (
  below l held g bounds are,
  λ area whole.
      let e = total_le (slice_index bounds) whole.areas (tree_roots held g)
      (λ x some. below l held g bounds are x (whole.areas x) (whole.covers x (root_is held g x some).0)) in
      let f = whole.sum in
      omega (arith, e, f),
)

root_gate : (held : ℕ) (g : Graph) (x : ℕ) → IsTrue (is_root held g x) → IsTrue (is_gate held g.nodes x)
root_gate held g x root = left_true (is_gate held g.nodes x) _ root

module _ (l : Library) (held : ℕ) (g : Graph) (t : TreeCover) (are : AreGateCells l t.cells)
    (is : IsLeast t.cells.words.items t.cells.areas.items held g t.cover) where
  covers : (x : ℕ) → IsTrue (is_gate held g.nodes x) → IsCellCover l held g x (slice_index t.cover.bounds.items x)
  covers x some = cover_as_cells l t.cells are held g x (slice_index t.cover.bounds.items x) (is.covers x some)

  bounds : AreCellBounds l held g t.cover.bounds.items
  bounds = bounds_as_cells l t.cells are held g t.cover.bounds.items is.bounds

  pick_of : (x : ℕ) → IsTrue (is_gate held g.nodes x) → IsCellPick l held g t x
  pick_of x some =
      let p = is.picks.each x some in
      let r = as_cells l t.cells are held g x (p.0).cell (p.0).leaves.items p.2 in
      record {
        pick = p.0;
        at = p.1;
        place = (r.0).place;
        is_place = (r.0).at_place;
        cell = (r.0).cell;
        is_cell = (r.0).at;
        columns = slice_index t.cells.areas.items (p.0).cell;
        match = r.1;
        bound = p.3;
      }

  pub tree_cover : IsTreeCover l held g t
  tree_cover = record {
    cells = are;
    trees = is.trees;
    picks = pick_of;
    covers = covers;
    bounds = bounds;
    least = record {
      reached = record { areas = slice_index t.cover.bounds.items; covers = λ x root. covers x (root_gate held g x root); sum = refl };
      least = (cell_bounds_are_least l held g t.cover.bounds.items bounds).1;
    };
  }
