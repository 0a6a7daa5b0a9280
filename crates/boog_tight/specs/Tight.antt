-- Pairs of gates that one cell could stand for.
use Rattle.std.specs.Prelude.{◌≡◌, ℕ, ◌<◌, List, Some, Option}
use Rattle.cell_match.specs.declared.gate.CellWord.{CellWord}
use Rattle.cell_match.specs.declared.gate.Gate.{Gate}
use Rattle.cell_match.specs.Places.{times}
use Rattle.cell_match.specs.Computes.{Computes}
use Rattle.boog_tight.specs.Cover.{gate_at, uses}

-- gate h shows node a, which nothing reads but one pin of gate g
pub record IsPair (gates : List (Option Gate)) (roots : List ℕ) (a b : ℕ) (h g : Gate) : Type 0 where
  pub inner : gate_at gates a ≡ Some h
  pub outer : gate_at gates b ≡ Some g
  pub reads : 0 < times a g.leaves.items
  pub alone : uses gates roots a ≡ 1

-- no cell stands for a pair whose second gate shows a node below n
abbrev pub IsTightBelow : List CellWord → List (Option Gate) → List ℕ → ℕ → Type 0
IsTightBelow cells gates roots n =
    (a b : ℕ) (h g : Gate) (k : ℕ) (order : List ℕ) → b < n → IsPair gates roots a b h g → Computes cells k order h g a → ⊥

-- no cell stands for any pair
abbrev pub IsTight : List CellWord → List (Option Gate) → List ℕ → Type 0
IsTight cells gates roots =
    (a b : ℕ) (h g : Gate) (k : ℕ) (order : List ℕ) → IsPair gates roots a b h g → Computes cells k order h g a → ⊥
