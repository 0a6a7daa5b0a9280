-- Gates that may stand in a cover.
use Rattle.std.specs.Prelude.{◌≡◌, ◌⊎◌, ℕ, ◌<◌, List, None, Some, Option}
use Rattle.cell_match.specs.declared.gate.CellWord.{CellWord}
use Rattle.cell_match.specs.declared.gate.Gate.{Gate}
use Rattle.cell_match.specs.Places.{times}
use Rattle.boog_tight.specs.Cover.{gate_at, IsCover}

-- a node is one of the first, which are given, or a gate shows it
abbrev pub IsShown : ℕ → List (Option Gate) → ℕ → Type 0
IsShown given gates x = (x < given) ⊎ ((g : Gate) × (gate_at gates x ≡ Some g))

-- and so is each of these
pub record AreShown (given : ℕ) (gates : List (Option Gate)) (nodes : List ℕ) : Type 0 where
  pub each : (x : ℕ) → 0 < times x nodes → IsShown given gates x

-- the second gates are a cover where the first are, and show the nodes that these do
pub record KeepCover (cells : List CellWord) (given : ℕ) (first second : List (Option Gate)) : Type 0 where
  pub cover : (roots : List ℕ) → IsCover cells given first roots → IsCover cells given second roots
  pub fewer : (x : ℕ) → gate_at first x ≡ None → gate_at second x ≡ None
  pub more : (x : ℕ) (g : Gate) → gate_at first x ≡ Some g → (h : Gate) × (gate_at second x ≡ Some h)
