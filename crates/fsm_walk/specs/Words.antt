-- The bits of the ports by a number, in which each port that is read has a binary digit.
use Rattle.std.specs.Prelude.{◌≡◌, ◌<◌, ◌^◌, ◌%◌, ◌/◌, ◌==◌, ℕ, Bool, true, false, List, [], ◌∷◌, length}
use Rattle.bool_expr.specs.Expression.{bit}
use Rattle.fsm_walk.specs.Reads.{count_of}

-- a marked place has the next digit of v, the lowest first; another has 0
abbrev pub word : List Bool → ℕ → List Bool
word [] v = []
word (true ∷ marks) v = (v % 2 == 1) ∷ word marks (v / 2)
word (false ∷ marks) v = false ∷ word marks v

-- two lists of bits are the same at the marked places
abbrev pub SameAt : List Bool → List Bool → List Bool → Type 0
SameAt marks w u = (k : ℕ) → bit marks k ≡ true → bit w k ≡ bit u k

-- whatever the bits are, those of some number are the same at the marked places
abbrev pub WordsAreAll : Type 0
WordsAreAll = (marks w : List Bool) → (v : ℕ) × (v < 2 ^ count_of marks) × SameAt marks w (word marks v)
