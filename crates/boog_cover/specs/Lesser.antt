-- Covers made narrower.
use Rattle.std.specs.Prelude.{◌≡◌, ℕ, ◌+◌, ◌<◌, Bool, List, length, Option, Some}
use Rattle.graph_theory.specs.Graph.{Node}
use Rattle.cell_match.specs.declared.gate.CellWord.{CellWord}
use Rattle.cell_match.specs.declared.gate.Gate.{Gate}
use Rattle.cell_match.specs.Places.{times}
use Rattle.cell_match.specs.Cells.{IsGate}
use Rattle.boog_tight.specs.Cover.{gate_at, leaves_of, AreTrue}
use Rattle.boog_cuts.specs.Cuts.{AreValues}
use Rattle.boog_cover.specs.Pruned.{IsMarked, IsFull}
use Rattle.boog_cover.specs.Covered.{IsNeeded}

-- Each node of the graph has a gate that may show it, and wherever the nodes have their bits, so do those of the gates.
pub record AreWhole (cells : List CellWord) (held : ℕ) (nodes : List Node) (gates : List (Option Gate)) : Type 0 where
  pub many : length gates ≡ held + length nodes
  pub full : IsFull held gates
  pub gate : (a : ℕ) (g : Gate) → gate_at gates a ≡ Some g → IsGate cells a g
  pub value : (f : ℕ → Bool) → AreValues held nodes f → AreTrue cells gates f

-- what is marked is needed
abbrev pub AllNeeded : ℕ → List Node → List ℕ → List Bool → Type 0
AllNeeded held nodes roots marks = (x : ℕ) → IsMarked marks x → IsNeeded held nodes roots x

-- what gates read is marked
abbrev pub ReadMarked : List (Option Gate) → List Bool → Type 0
ReadMarked gates marks = (a x : ℕ) → 0 < times x (leaves_of (gate_at gates a)) → IsMarked marks x
