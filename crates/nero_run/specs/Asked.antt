-- What `nero` is asked to do.
use Rattle.std.specs.Prelude.{◌≤◌, ℕ, List}

-- a netlist's file, that of its placement, a library's folder, the name of the layout, and the highest metal of routes
pub record Asked : Type 0 where
  pub source : List ℕ
  pub placed : List ℕ
  pub library : List ℕ
  pub out : List ℕ
  pub metals : ℕ

-- metals up to the fourth, the fifth or the sixth
abbrev pub AreMetals : ℕ → Type 0
AreMetals metals = (4 ≤ metals) × (metals ≤ 6)
