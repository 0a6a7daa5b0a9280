-- Codes of states.
use Rattle.std.specs.Prelude.{◌≡◌, ◌==◌, ◌<◌, ℕ, Bool, true, List, [], length, slice_index_or}
use Rattle.bool_expr.specs.Expression.{bit}

-- the codes of the states in order, bit 0 first, and whether they were made with one bit for each state
pub record Codes : Type 0 where
  pub one_hot : Bool
  pub width : ℕ
  pub codes : List (List Bool)

-- the code of state s
abbrev pub code_of : Codes → ℕ → List Bool
code_of c s = slice_index_or c.codes s []

-- n different codes of one width; with one bit for each state, state s has bit s alone
pub record AreCodes (n : ℕ) (c : Codes) : Type 0 where
  pub each : length c.codes ≡ n
  pub widths : (s : ℕ) → s < n → length (code_of c s) ≡ c.width
  pub different : (s t : ℕ) → s < n → t < n → code_of c s ≡ code_of c t → s ≡ t
  pub hot : c.one_hot ≡ true → (c.width ≡ n) × ((s k : ℕ) → s < n → k < n → bit (code_of c s) k ≡ (k == s))
