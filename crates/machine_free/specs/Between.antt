-- Machines that are chosen among what is left free.
use Rattle.std.specs.Prelude.{◌≡◌, ◌⊎◌, Bool, not, List, [], ◌∷◌}
use Rattle.bool_expr.specs.Expression.{Expression, constant, val}
use Rattle.machine_core.specs.Machine.{Machine, Equation}
use Rattle.machine_core.specs.Checked.{IsChecked}
use Rattle.machine_core.specs.Cycles.{Settles, RunOf}
use Rattle.machine_free.specs.Free.{IsFreeOutput, AreFree}
use Rattle.machine_free.specs.Cycles.{FreeRunOf}

-- no valuation fixes the bit b: under each that settles, one of the two expressions has the other bit
abbrev pub IsNeverFixed : Machine → Bool → Expression → Expression → Type 0
IsNeverFixed m b low high = (s i w : List Bool) → Settles m s i w → val low w ≡ b → val high w ≡ b → ⊥

-- What is chosen for two equations of one name: what the first says, or the second, or for a free output a bit whose opposite is never
-- fixed.
abbrev pub IsAmong : Machine → Equation → Equation → Expression → Type 0
IsAmong m e f x =
    (x ≡ e.expr) ⊎ ((x ≡ f.expr) ⊎ (IsFreeOutput m e f × ((b : Bool) × (x ≡ constant b) × IsNeverFixed m (not b) e.expr f.expr)))

-- each equation is chosen so
abbrev pub AreAmong : Machine → List Equation → List Equation → List Equation → Type 0
AreAmong m [] [] [] = Unit {0}
AreAmong m (e ∷ es) (f ∷ fs) (g ∷ gs) = (g.name ≡ e.name) × (IsAmong m e f g.expr × AreAmong m es fs gs)
AreAmong m [] [] (g ∷ gs) = ⊥
AreAmong m [] (f ∷ fs) gs = ⊥
AreAmong m (e ∷ es) [] gs = ⊥
AreAmong m (e ∷ es) (f ∷ fs) [] = ⊥

-- a machine of which each equation is chosen so, and which agrees with the two in all else
pub record IsBetween (low high m : Machine) : Type 0 where
  pub name : m.name ≡ low.name
  pub ports : m.ports ≡ low.ports
  pub clock : m.clock ≡ low.clock
  pub vars : m.vars ≡ low.vars
  pub registers : m.registers ≡ low.registers
  pub equations : AreAmong low low.equations high.equations m.equations

-- Whatever is chosen so, each run of it is one that is left free.
abbrev pub EachRunMay : Type 0
EachRunMay =
    (low high m : Machine) (s : List Bool) (v y : List (List Bool)) → IsChecked low → AreFree low high → IsBetween low high m
    → RunOf m s v y → FreeRunOf low high s v y
