-- Gates that are needed.
use Rattle.std.specs.Prelude.{◌≡◌, ◌⊎◌, ℕ, ◌<◌, ◌≤◌, Bool, true, false, List, length, Option, None, Some}
use Rattle.std.specs.List.{slice_index_or}
use Rattle.cell_match.specs.declared.gate.Gate.{Gate}
use Rattle.cell_match.specs.Places.{times}
use Rattle.boog_tight.specs.Cover.{gate_at, leaves_of, uses}
use Rattle.boog_tight.specs.Kept.{EachIsUsed}

abbrev pub IsMarked : List Bool → ℕ → Type 0
IsMarked marks x = slice_index_or marks x false ≡ true

-- each number from `held` on has a gate, which reads lower ones, and none below has
pub record IsFull (held : ℕ) (gates : List (Option Gate)) : Type 0 where
  pub given : (a : ℕ) → a < held → gate_at gates a ≡ None
  pub there : (a : ℕ) → held ≤ a → a < length gates → (g : Gate) × (gate_at gates a ≡ Some g)
  pub earlier : (a x : ℕ) → 0 < times x (leaves_of (gate_at gates a)) → x < a

-- The second gates are of the first. Each number that one of them or a root reads has its gate or is below `held`, and each that has
-- one is read.
pub record IsPruned (held : ℕ) (first second : List (Option Gate)) (roots : List ℕ) : Type 0 where
  pub long : length second ≡ length first
  pub of : (a : ℕ) → (gate_at second a ≡ gate_at first a) ⊎ (gate_at second a ≡ None)
  pub needed : EachIsUsed second roots
  pub closed : (x : ℕ) → 0 < uses second roots x → (x < held) ⊎ ((g : Gate) × (gate_at second x ≡ Some g))
