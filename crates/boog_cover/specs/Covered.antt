-- When gates cover a graph.
use Rattle.std.specs.Prelude.{◌≡◌, ℕ, ◌+◌, ◌*◌, ◌<◌, ◌≤◌, Bool, not, ◌&&◌, List, [], ◌∷◌, length, Option, None, Some, IsTrue}
use Rattle.net_theory.specs.Sources.{IsNumber}
use Rattle.graph_theory.specs.Graph.{Node}
use Rattle.cell_match.specs.declared.gate.CellWord.{CellWord}
use Rattle.cell_match.specs.declared.gate.Gate.{Gate}
use Rattle.cell_match.specs.Places.{times}
use Rattle.boog_tight.specs.Cover.{gate_at, uses, IsCover, AreTrue}
use Rattle.boog_tight.specs.Kept.{leaf_count}
use Rattle.cell_match.specs.Cells.{inputs_of, cell_value}
use Rattle.boog_tight.specs.Tight.{IsTight}
use Rattle.boog_cuts.specs.Reads.{reads}
use Rattle.boog_cuts.specs.Cuts.{AreValues}

-- a cell of no input, of one and of two, with these functions
pub record HasFixed (cells : List CellWord) (b : Bool) : Type 0 where
  pub cell : ℕ
  pub there : cell < length cells
  pub inputs : inputs_of cells cell ≡ 0
  pub value : cell_value cells cell [] ≡ b

pub record HasInv (cells : List CellWord) : Type 0 where
  pub cell : ℕ
  pub there : cell < length cells
  pub inputs : inputs_of cells cell ≡ 1
  pub value : (x : Bool) → cell_value cells cell (x ∷ []) ≡ not x

pub record HasNand (cells : List CellWord) : Type 0 where
  pub cell : ℕ
  pub there : cell < length cells
  pub inputs : inputs_of cells cell ≡ 2
  pub value : (x y : Bool) → cell_value cells cell (x ∷ y ∷ []) ≡ not (x && y)

-- the cells that each graph needs
pub record HasCells (cells : List CellWord) : Type 0 where
  pub has_fixed : (b : Bool) → HasFixed cells b
  pub has_inv : HasInv cells
  pub has_nand : HasNand cells

-- a root, or what a needed node of the graph reads; the first node has number `held`
pub data IsNeeded (held : ℕ) (nodes : List Node) (roots : List ℕ) : ℕ → Type 0 where
  root : {a : ℕ} → 0 < times a roots → IsNeeded held nodes roots a
  read : {a : ℕ} (j : ℕ) (kind : Node) → IsNeeded held nodes roots (held + j) → IsNumber nodes j kind → IsTrue (reads kind a)
      → IsNeeded held nodes roots a

-- At most one gate for each node of the graph, and none for an input or a register; what gates and roots read is there. Wherever
-- the nodes of the graph have their bits, so do those of the gates. No cell stands for any pair of gates. Each gate is read by
-- another or by a root, all that is read is needed in the graph, and for each node of the graph there are at most so many pins.
pub record IsCoveredWith (most : ℕ) (cells : List CellWord) (held : ℕ) (nodes : List Node) (roots : List ℕ) (gates : List (Option Gate)) : Type 0 where
  pub long : length gates ≡ held + length nodes
  pub given : (a : ℕ) → a < held → gate_at gates a ≡ None
  pub cover : IsCover cells held gates roots
  pub value : (f : ℕ → Bool) → AreValues held nodes f → AreTrue cells gates f
  pub tight : IsTight cells gates roots
  pub needed : (a : ℕ) (g : Gate) → gate_at gates a ≡ Some g → 0 < uses gates roots a
  pub below : (a : ℕ) → 0 < uses gates roots a → IsNeeded held nodes roots a
  pub few : leaf_count gates ≤ most * length nodes

-- the same with two pins
abbrev pub IsCovered : List CellWord → ℕ → List Node → List ℕ → List (Option Gate) → Type 0
IsCovered cells held nodes roots gates = IsCoveredWith 2 cells held nodes roots gates
