-- What is chosen for two functions.
use Rattle.std.specs.Prelude.{◌≡◌, ℕ, ◌<◌, ◌≤◌, Bool, true, false, [], ◌∷◌}
use Rattle.bool_expr.specs.Expression.{Expression, constant as fixed}
use Rattle.bdd_core.specs.Truths.{Truths, constant, IsCountOf}
use Rattle.bdd_core.specs.Nodes.{raised}
use Rattle.boom_choose.specs.declared.pick.Pick.{Pick}
use Rattle.boom_choose.specs.declared.pick.Pick.TheVariants as pick

-- the function of so many variables is this bit everywhere
abbrev pub IsEverywhere : ℕ → Truths → Bool → Type 0
IsEverywhere vars f b = f ≡ raised vars (constant b)

-- the first isn't 0 everywhere, and the second isn't 1 everywhere
abbrev pub IsNeither : ℕ → Truths → Truths → Type 0
IsNeither vars f g = (IsEverywhere vars f false → ⊥) × (IsEverywhere vars g true → ⊥)

abbrev pub IsPick : ℕ → Truths → Truths → Pick → Type 0
IsPick vars f g (pick.Bit false) = IsEverywhere vars f false
IsPick vars f g (pick.Bit true) = (IsEverywhere vars f false → ⊥) × IsEverywhere vars g true
IsPick vars f g pick.Low = IsNeither vars f g × ((j k : ℕ) × IsCountOf (f ∷ []) j × IsCountOf (g ∷ []) k × (j ≤ k))
IsPick vars f g pick.High = IsNeither vars f g × ((j k : ℕ) × IsCountOf (f ∷ []) j × IsCountOf (g ∷ []) k × (k < j))

-- what is said then in place of two expressions
abbrev pub said : Expression → Expression → Pick → Expression
said low high pick.Low = low
said low high pick.High = high
said low high (pick.Bit b) = fixed b
