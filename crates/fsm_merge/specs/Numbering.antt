-- Old states that become new ones.
use Rattle.std.specs.Prelude.{◌≡◌, ℕ, ◌<◌, ◌≤◌, List, length}
use Rattle.std.specs.List.{slice_index_or}

-- number k of a list
abbrev pub nth : List ℕ → ℕ → ℕ
nth xs k = slice_index_or xs k 0

-- Each of n old states becomes a new one, `state_of` says which. Of those that become one state the least is kept; `kept` are these,
-- in the order of their declaration, and so in the order of the new states.
pub record IsNumbering (n : ℕ) (state_of kept : List ℕ) : Type 0 where
  pub each : length state_of ≡ n
  pub known : (s : ℕ) → s < n → nth state_of s < length kept
  pub own : (p : ℕ) → p < length kept → (nth kept p < n) × (nth state_of (nth kept p) ≡ p)
  pub least : (s : ℕ) → s < n → nth kept (nth state_of s) ≤ s
  pub ordered : (p q : ℕ) → p < q → q < length kept → nth kept p < nth kept q
