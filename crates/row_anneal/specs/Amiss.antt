-- Why rows are no placement of so many cells.
use Rattle.std.specs.Prelude.{◌≤◌, ℕ}

-- where this is how often each cell stands in rows: one stands there that isn't among the first n, or one stands there more than once
pub data IsAmiss (n : ℕ) (often : ℕ → ℕ) : Type 0 where
  unknown : (c : ℕ) → n ≤ c → 1 ≤ often c → IsAmiss n often
  repeated : (c : ℕ) → 2 ≤ often c → IsAmiss n often
