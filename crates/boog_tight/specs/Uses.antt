-- Counts of uses, and pairs that are found.
use Rattle.std.specs.Prelude.{◌≡◌, ℕ, ◌<◌, List, length, Option, None, Some, slice_index, slice_set}
use Rattle.cell_match.specs.declared.gate.CellWord.{CellWord}
use Rattle.cell_match.specs.declared.gate.Gate.{Gate}
use Rattle.boog_tight.specs.declared.pass.Fused.{Fused}
use Rattle.cell_match.specs.Places.{times}
use Rattle.boog_tight.specs.Cover.{gate_at, leaves_of, uses}
use Rattle.cell_match.specs.Computes.{Computes}

-- the number of each node is how many pins and roots read it
pub record AreUses (gates : List (Option Gate)) (roots counts : List ℕ) : Type 0 where
  pub long : length counts ≡ length gates
  pub each : (x : ℕ) → x < length gates → slice_index counts x ≡ uses gates roots x

-- A gate stands for that of node j and the one that shows `inner`, which is counted once.
pub record IsFused (cells : List CellWord) (gates : List (Option Gate)) (counts : List ℕ) (j : ℕ) (f : Fused) : Type 0 where
  pub first : Gate
  pub second : Gate
  pub at_inner : gate_at gates f.inner ≡ Some first
  pub at_j : gate_at gates j ≡ Some second
  pub reads : 0 < times f.inner second.leaves.items
  pub alone : slice_index counts f.inner ≡ 1
  pub computes : Computes cells f.gate.cell f.gate.leaves.items first second f.inner

-- no gate stands for that of node j and one that is counted once
abbrev pub NoneFused : List CellWord → List (Option Gate) → List ℕ → ℕ → Type 0
NoneFused cells gates counts j =
    (a : ℕ) (h g : Gate) (k : ℕ) (order : List ℕ) → gate_at gates a ≡ Some h → gate_at gates j ≡ Some g → 0 < times a g.leaves.items
    → slice_index counts a ≡ 1 → Computes cells k order h g a → ⊥

-- the gates with one in place of those of nodes j and a
abbrev pub exchanged : List (Option Gate) → ℕ → ℕ → Gate → List (Option Gate)
exchanged gates a j m = slice_set (slice_set gates a None) j (Some m)

-- how many pins of the gate of node j read x
abbrev pub read_by : List (Option Gate) → ℕ → ℕ → ℕ
read_by gates j x = times x (leaves_of (gate_at gates j))
