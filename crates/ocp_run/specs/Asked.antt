-- What `ocp` is asked to do.
use Rattle.std.specs.Prelude.{◌≤◌, ℕ, List, Option, IfSome}

-- a netlist's file, a library's folder, the name of the layout, how many rows where the words say so, and the random moves
pub record Asked : Type 0 where
  pub source : List ℕ
  pub library : List ℕ
  pub out : List ℕ
  pub rows : Option ℕ
  pub seed : ℕ
  pub moves : ℕ

-- 1 to 256 rows, where any are asked for
abbrev pub AreRows : Option ℕ → Type 0
AreRows rows = IfSome rows (λ r. (1 ≤ r) × (r ≤ 256))
