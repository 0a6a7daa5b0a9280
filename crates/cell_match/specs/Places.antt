-- Places of numbers in lists.
use Rattle.std.specs.Prelude.{◌≡◌, ◌≢◌, ◌⊎◌, ◌↔◌, ℕ, ◌+◌, ◌<◌, ◌≤◌, List, [], ◌∷◌, length, nat_eq, if◌then◌else◌}
use Prim.Native.Nat.{suc}

-- how often x stands in a list
abbrev pub times : ℕ → List ℕ → ℕ
times x [] = 0
times x (y ∷ ys) = (if nat_eq y x then 1 else 0) + times x ys

-- the first place of a number, or the list's length where it does not stand there
abbrev pub place : ℕ → List ℕ → ℕ
place x [] = 0
place x (y ∷ ys) = if nat_eq y x then 0 else suc (place x ys)

-- the same, with 0 for a
abbrev pub place_but : ℕ → List ℕ → ℕ → ℕ
place_but a nodes x = if nat_eq x a then 0 else place x nodes

-- the different nodes of the two lists but a
pub record AreRead (first second : List ℕ) (a : ℕ) (nodes : List ℕ) : Type 0 where
  pub once : (x : ℕ) → times x nodes ≤ 1
  pub members : (x : ℕ) → (0 < times x nodes) ↔ ((0 < times x first) ⊎ ((0 < times x second) × (x ≢ a)))

-- the list names each of n places once
pub record IsOrder (n : ℕ) (order : List ℕ) : Type 0 where
  pub many : length order ≡ n
  pub within : (i : ℕ) → 0 < times i order → i < n
  pub once : (i : ℕ) → times i order ≤ 1
