-- Covers of trees, and bounds on their area.
use Rattle.std.specs.Prelude.{◌≡◌, ◌↔◌, ℕ, ◌+◌, ◌<◌, ◌≤◌, Bool, false, IsTrue, List, map, length, Option, Some, slice_index}
use Rattle.graph_theory.specs.Graph.{Graph}
use Rattle.cell_match.specs.Places.{times}
use Rattle.cell_match.specs.Cells.{inputs_of, cell_value}
use Rattle.cell_match.specs.declared.gate.CellWord.{CellWord}
use Rattle.cell_match.specs.declared.gate.Gate.{Gate}
use Rattle.boog_tight.specs.Cover.{gate_at}
use Rattle.boog_tree.specs.Trees.{is_gate, is_inner, tree_roots, IsTreeCut}
use Rattle.boog_tree.specs.Sums.{inner_sum}
use Rattle.boog_tree.specs.declared.least.LeastCover.{LeastCover}

-- A match at gate x: a cut of it within its tree, and cell k, whose function is the gate's over the members where its inputs are put one to
-- one on them, in this order.
pub record IsMatch (cells : List CellWord) (held : ℕ) (g : Graph) (x k : ℕ) (order : List ℕ) : Type 0 where
  pub members : List ℕ
  pub value : (ℕ → Bool) → Bool
  pub cut : IsTreeCut held g x members value
  pub there : k < length cells
  pub many : length order ≡ inputs_of cells k
  pub once : (y : ℕ) → times y order ≤ 1
  pub each : (y : ℕ) → (0 < times y order) ↔ (0 < times y members)
  pub computes : (f : ℕ → Bool) → cell_value cells k (map f order) ≡ value f

-- A cover of the part of a tree from gate x on down, with its area: a match there, and for each member of it that lies in the tree a cover of
-- the part from that on down.
pub data IsCoverOf (cells : List CellWord) (areas : List ℕ) (held : ℕ) (g : Graph) : ℕ → ℕ → Type 0 where
  taken : (x k : ℕ) (order : List ℕ) (parts : ℕ → ℕ)
      → IsMatch cells held g x k order
      → ((y : ℕ) → 0 < times y order → IsTrue (is_inner held g y) → IsCoverOf cells areas held g y (parts y))
      → IsCoverOf cells areas held g x (slice_index areas k + inner_sum (is_inner held g) parts order)

-- The bound of a gate is at most the area of each match's cell and the bounds of those of its members that lie in the tree. What is in no
-- tree has the bound 0.
pub record AreBounds (cells : List CellWord) (areas : List ℕ) (held : ℕ) (g : Graph) (bounds : List ℕ) : Type 0 where
  pub many : length bounds ≡ held + length g.nodes
  pub outside : (x : ℕ) → is_gate held g.nodes x ≡ false → slice_index bounds x ≡ 0
  pub least : (x k : ℕ) (order : List ℕ) → IsMatch cells held g x k order
      → slice_index bounds x ≤ slice_index areas k + inner_sum (is_inner held g) (slice_index bounds) order

-- so no cover has less area than the bound
abbrev pub BoundsAreLeast : Type 0
BoundsAreLeast =
    (cells : List CellWord) (areas : List ℕ) (held : ℕ) (g : Graph) (bounds : List ℕ) (x area : ℕ)
    → AreBounds cells areas held g bounds → IsCoverOf cells areas held g x area → slice_index bounds x ≤ area

-- Each gate has a match whose area, with the bounds of its members in the tree, is the gate's bound.
pub record ArePicks (cells : List CellWord) (areas : List ℕ) (held : ℕ) (g : Graph) (bounds : List ℕ) (picks : List (Option Gate)) : Type 0 where
  pub many : length picks ≡ held + length g.nodes
  pub each : (x : ℕ) → IsTrue (is_gate held g.nodes x) → (p : Gate) × (gate_at picks x ≡ Some p) × IsMatch cells held g x p.cell p.leaves.items
      × (slice_index bounds x ≡ slice_index areas p.cell + inner_sum (is_inner held g) (slice_index bounds) p.leaves.items)

-- a cover of each tree, of its root's bound, and bounds below which no cover of a tree is
pub record IsLeast (cells : List CellWord) (areas : List ℕ) (held : ℕ) (g : Graph) (c : LeastCover) : Type 0 where
  pub trees : c.trees.items ≡ tree_roots held g
  pub picks : ArePicks cells areas held g c.bounds.items c.picks.items
  pub bounds : AreBounds cells areas held g c.bounds.items
  pub covers : (x : ℕ) → IsTrue (is_gate held g.nodes x) → IsCoverOf cells areas held g x (slice_index c.bounds.items x)
