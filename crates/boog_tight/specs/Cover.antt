-- Gates by the nodes that they show.
use Rattle.std.specs.Prelude.{◌≡◌, ◌⊎◌, ℕ, ◌+◌, ◌<◌, Bool, List, [], ◌∷◌, Option, None, Some}
use Rattle.std.specs.List.{slice_index_or}
use Rattle.cell_match.specs.declared.gate.CellWord.{CellWord}
use Rattle.cell_match.specs.declared.gate.Gate.{Gate}
use Rattle.cell_match.specs.Places.{times}
use Rattle.cell_match.specs.Cells.{gate_value, IsGate}

-- the gate that shows node j, if there is one
abbrev pub gate_at : List (Option Gate) → ℕ → Option Gate
gate_at gates j = slice_index_or gates j None

abbrev pub leaves_of : Option Gate → List ℕ
leaves_of None = []
leaves_of (Some g) = g.leaves.items

-- how many pins read x
abbrev pub used : ℕ → List (Option Gate) → ℕ
used x [] = 0
used x (g ∷ gates) = times x (leaves_of g) + used x gates

-- and how many pins and roots
abbrev pub uses : List (Option Gate) → List ℕ → ℕ → ℕ
uses gates roots x = used x gates + times x roots

-- Each node that a pin or a root reads is one of the first, which are given, or a gate shows it.
pub record IsCover (cells : List CellWord) (given : ℕ) (gates : List (Option Gate)) (roots : List ℕ) : Type 0 where
  pub gate : (j : ℕ) (g : Gate) → gate_at gates j ≡ Some g → IsGate cells j g
  pub closed : (x : ℕ) → 0 < uses gates roots x → (x < given) ⊎ ((g : Gate) × (gate_at gates x ≡ Some g))

-- the gates give each node that they show the bit that it has
abbrev pub AreTrue : List CellWord → List (Option Gate) → (ℕ → Bool) → Type 0
AreTrue cells gates f = (j : ℕ) (g : Gate) → gate_at gates j ≡ Some g → f j ≡ gate_value cells g f
