-- The values of truth lists, and the variables on which they depend.
use Rattle.std.specs.Prelude.{◌≡◌, ℕ, zero, suc, ◌<◌, Bool, false, true, List, [], ◌∷◌, if◌then◌else◌}
use Rattle.bdd_core.specs.Truths.{Truths, constant, halves}

-- the value where the variables have these bits
abbrev pub truth_at : Truths → List Bool → Bool
truth_at (constant b) w = b
truth_at (halves a b) [] = false
truth_at (halves a b) (x ∷ w) = if x then truth_at b w else truth_at a w

-- the function with variable k held at a bit
abbrev pub held : ℕ → Bool → Truths → Truths
held k x (constant b) = constant b
held zero x (halves a b) = if x then halves b b else halves a a
held (suc k) x (halves a b) = halves (held k x a) (held k x b)

-- the function doesn't depend on variable k
abbrev pub IsIdle : ℕ → Truths → Type 0
IsIdle k t = held k false t ≡ held k true t

-- the first variable on which the function depends, and the functions with that variable 0 and 1
pub record IsBranch (vars : ℕ) (function : Truths) (variable : ℕ) (low high : Truths) : Type 0 where
  pub within : variable < vars
  pub first : (k : ℕ) → k < variable → IsIdle k function
  pub depends : IsIdle variable function → ⊥
  pub low_is : low ≡ held variable false function
  pub high_is : high ≡ held variable true function
