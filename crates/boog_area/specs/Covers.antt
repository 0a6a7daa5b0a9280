-- Covers of trees by usable cells of a library, and bounds on their area.
use Rattle.std.specs.Prelude.{◌≡◌, ◌↔◌, ℕ, ◌+◌, ◌<◌, ◌≤◌, Bool, false, IsTrue, List, map, length, slice_index, slice_get, Some}
use Rattle.vlsi_base.specs.Member.{In}
use Rattle.bool_expr.specs.Expression.{Expression, val}
use Rattle.graph_theory.specs.Graph.{Graph}
use Rattle.cell_model.specs.Cell.{gate, Cell, cell_inputs}
use Rattle.cell_model.specs.Library.{Library, IsUsable}
use Rattle.cell_checks.specs.Checks.{HasColumns}
use Rattle.cell_match.specs.Places.{times}
use Rattle.cell_match.specs.declared.gate.Gate.{Gate}
use Rattle.gate_cells.specs.Listed.{AreGateCells}
use Rattle.boog_tight.specs.Cover.{gate_at}
use Rattle.boog_tree.specs.Trees.{is_gate, is_inner, is_root, tree_roots, IsTreeCut}
use Rattle.boog_tree.specs.Sums.{total, inner_sum}
use Rattle.boog_area.specs.declared.cover.TreeCover.{TreeCover}

-- A match at gate x of a graph: a cut of it within its tree, and a usable gate cell of the library, so many columns wide, whose function is
-- that of the gate over the members of the cut where its inputs are put one to one on them, in this order.
pub record IsCellMatch (l : Library) (held : ℕ) (g : Graph) (x : ℕ) (c : Cell) (columns : ℕ) (order : List ℕ) : Type 0 where
  pub members : List ℕ
  pub value : (ℕ → Bool) → Bool
  pub cut : IsTreeCut held g x members value
  pub listed : In c l.cells
  pub usable : IsUsable c
  pub expr : Expression
  pub is_gate : c.function ≡ gate expr
  pub wide : HasColumns c columns
  pub many : length order ≡ length (cell_inputs c)
  pub once : (y : ℕ) → times y order ≤ 1
  pub each : (y : ℕ) → (0 < times y order) ↔ (0 < times y members)
  pub computes : (f : ℕ → Bool) → val expr (map f order) ≡ value f

-- A cover of the part of a tree from gate x on down, with its area in columns: a match there, and for each member of it that lies in the tree
-- a cover of the part from that on down.
pub data IsCellCover (l : Library) (held : ℕ) (g : Graph) : ℕ → ℕ → Type 0 where
  taken : (x : ℕ) (c : Cell) (columns : ℕ) (order : List ℕ) (parts : ℕ → ℕ)
      → IsCellMatch l held g x c columns order
      → ((y : ℕ) → 0 < times y order → IsTrue (is_inner held g y) → IsCellCover l held g y (parts y))
      → IsCellCover l held g x (columns + inner_sum (is_inner held g) parts order)

-- The bound of a gate is at most the width of each match's cell and the bounds of those of its members that lie in the tree. What is in no
-- tree has the bound 0.
pub record AreCellBounds (l : Library) (held : ℕ) (g : Graph) (bounds : List ℕ) : Type 0 where
  pub many : length bounds ≡ held + length g.nodes
  pub outside : (x : ℕ) → is_gate held g.nodes x ≡ false → slice_index bounds x ≡ 0
  pub least : (x : ℕ) (c : Cell) (columns : ℕ) (order : List ℕ) → IsCellMatch l held g x c columns order
      → slice_index bounds x ≤ columns + inner_sum (is_inner held g) (slice_index bounds) order

-- a cover of each tree of a graph, from its root on down, and the area of them all
pub record IsWholeCover (l : Library) (held : ℕ) (g : Graph) (area : ℕ) : Type 0 where
  pub areas : ℕ → ℕ
  pub covers : (x : ℕ) → IsTrue (is_root held g x) → IsCellCover l held g x (areas x)
  pub sum : area ≡ total areas (tree_roots held g)

-- the sum of the roots' bounds
abbrev pub root_sum : ℕ → Graph → List ℕ → ℕ
root_sum held g bounds = total (slice_index bounds) (tree_roots held g)

-- So no cover of a tree has less area than the bound of its root, and none of all trees has less than these bounds together.
abbrev pub CellBoundsAreLeast : Type 0
CellBoundsAreLeast =
    (l : Library) (held : ℕ) (g : Graph) (bounds : List ℕ) → AreCellBounds l held g bounds
    → ((x area : ℕ) → IsCellCover l held g x area → slice_index bounds x ≤ area)
    × ((area : ℕ) → IsWholeCover l held g area → root_sum held g bounds ≤ area)

-- some covers of all trees have this area, and none has less
pub record IsLeastArea (l : Library) (held : ℕ) (g : Graph) (area : ℕ) : Type 0 where
  pub reached : IsWholeCover l held g area
  pub least : (other : ℕ) → IsWholeCover l held g other → area ≤ other

-- The pick of gate x is a match by the cell at its place in the library, whose width is the gate's bound with those of its members in the tree.
pub record IsCellPick (l : Library) (held : ℕ) (g : Graph) (t : TreeCover) (x : ℕ) : Type 0 where
  pub pick : Gate
  pub at : gate_at t.cover.picks.items x ≡ Some pick
  pub place : ℕ
  pub is_place : slice_get t.cells.places.items pick.cell ≡ Some place
  pub cell : Cell
  pub is_cell : slice_get l.cells place ≡ Some cell
  pub columns : ℕ
  pub match : IsCellMatch l held g x cell columns pick.leaves.items
  pub bound : slice_index t.cover.bounds.items x ≡ columns + inner_sum (is_inner held g) (slice_index t.cover.bounds.items) pick.leaves.items

-- The roots of the trees are listed. Each gate has such a pick, which covers the part of its tree from there on down with its bound, and below
-- the bounds no cover of a tree is. So the bounds of the roots together are the least area.
pub record IsTreeCover (l : Library) (held : ℕ) (g : Graph) (t : TreeCover) : Type 0 where
  pub cells : AreGateCells l t.cells
  pub trees : t.cover.trees.items ≡ tree_roots held g
  pub picks : (x : ℕ) → IsTrue (is_gate held g.nodes x) → IsCellPick l held g t x
  pub covers : (x : ℕ) → IsTrue (is_gate held g.nodes x) → IsCellCover l held g x (slice_index t.cover.bounds.items x)
  pub bounds : AreCellBounds l held g t.cover.bounds.items
  pub least : IsLeastArea l held g (root_sum held g t.cover.bounds.items)
