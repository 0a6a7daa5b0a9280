-- Matches at lists of cuts.
use Rattle.std.specs.Prelude.{◌≡◌, ℕ, ◌+◌, ◌<◌, ◌≤◌, Bool, false, List, length, slice_index, Option, None, Some}
use Rattle.net_theory.specs.Sources.{IsNumber}
use Rattle.cell_match.specs.declared.gate.CellWord.{CellWord}
use Rattle.cell_match.specs.declared.cut.Cut.{Cut}
use Rattle.cell_match.specs.Computes.{ComputesCut}
use Rattle.boog_tree.specs.Sums.{inner_sum}
use Rattle.boog_tree.specs.declared.pick.Pick.{Pick}

-- an area for each cell, and none less than that of a cell before
pub record AreRising (cells : List CellWord) (areas : List ℕ) : Type 0 where
  pub many : length areas ≡ length cells
  pub rising : (j k : ℕ) → j ≤ k → k < length areas → slice_index areas j ≤ slice_index areas k

-- a match at one of the cuts, with its cost, than which none at the first n of them costs less
pub record IsBestOf (cells : List CellWord) (areas : List ℕ) (inner : ℕ → Bool) (b : ℕ → ℕ) (cuts : List (Cut 6)) (n : ℕ) (p : Pick)
    : Type 0 where
  pub place : ℕ
  pub cut : Cut 6
  pub at : IsNumber cuts place cut
  pub computes : ComputesCut cells p.gate.cell p.gate.leaves.items cut
  pub costs : p.cost ≡ slice_index areas p.gate.cell + inner_sum inner b p.gate.leaves.items
  pub least : (i : ℕ) (c : Cut 6) (k : ℕ) (order : List ℕ) → i < n → IsNumber cuts i c → ComputesCut cells k order c
      → p.cost ≤ slice_index areas k + inner_sum inner b order

-- no cell computes any of the first n
abbrev pub NoneMatches : List CellWord → List (Cut 6) → ℕ → Type 0
NoneMatches cells cuts n = (i : ℕ) (c : Cut 6) (k : ℕ) (order : List ℕ) → i < n → IsNumber cuts i c → ComputesCut cells k order c → ⊥

-- the bound is at most what the match costs, if there is one, and 0 of what is no gate
abbrev pub CostsEnough : ℕ → Option Pick → Type 0
CostsEnough bound None = Unit {0}
CostsEnough bound (Some p) = bound ≤ p.cost

abbrev pub IsWithin : Bool → ℕ → Option Pick → Type 0
IsWithin gate bound pick = (gate ≡ false → bound ≡ 0) × CostsEnough bound pick
