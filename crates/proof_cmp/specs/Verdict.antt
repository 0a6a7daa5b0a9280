-- What the verdict on two machines says, and why there is none.
use Rattle.std.specs.Prelude.{◌≡◌, ℕ, Bool, List, ◌∷◌, ◌++◌, length}
use Rattle.std.specs.List.{All}
use Rattle.vlsi_base.specs.declared.name.Name.{Name}
use Rattle.machine_core.specs.Machine.{Machine}
use Rattle.machine_core.specs.Checked.{IsChecked}
use Rattle.machine_core.specs.Alike.{IsAlike}
use Rattle.machine_roots.specs.Roots.{Root}
use Rattle.proof_cmp.specs.declared.verdict.ProofVerdict.{ProofVerdict}
use Rattle.proof_cmp.specs.declared.verdict.ProofVerdict.TheVariants as verdict
use Rattle.proof_cmp.specs.declared.verdict.ProveError.{ProveError}
use Rattle.proof_cmp.specs.declared.verdict.ProveError.TheVariants as error
use Rattle.proof_joint.specs.Naming.{HaveSameNames, AgreeByName, IsLeastOneSided}
use Rattle.proof_joint.specs.Clock.{as_compared}
use Rattle.proof_joint.specs.Together.{root_pairs, IsOverTogether, IsFirstOver, IsOneFunction, given_names, value_on}

-- every output, next and enable is the same function in both
abbrev pub AreEqual : Machine → Machine → Type 0
AreEqual a b = All (IsOneFunction a b) (root_pairs a b)

-- all names agree, and no diagram of two roots is over the budget
pub record AreComparable (a b : Machine) (budget : ℕ) : Type 0 where
  pub names : HaveSameNames a b
  pub within : All (λ p. IsOverTogether a b budget p → ⊥) (root_pairs a b)

-- The name is that of the first two roots that are different functions, and they differ on these bits: one for each input port, the
-- clock among them, in the order of names, and then one for each register in the order of names.
pub record IsFirstDifference (a b : Machine) (pairs : List (Root × Root)) (name : Name) (bits : List Bool) : Type 0 where
  pub before : List (Root × Root)
  pub pair : Root × Root
  pub after : List (Root × Root)
  pub all : pairs ≡ before ++ pair ∷ after
  pub named : name ≡ pair.0.name
  pub first : All (IsOneFunction a b) before
  pub each : length bits ≡ length (given_names a)
  pub differ : value_on a pair.0.expr bits ≡ value_on b pair.1.expr bits → ⊥

-- names come before the budget, and this before functions; and a clock that loads nothing is an input like the others
abbrev pub IsVerdict : Machine → Machine → ℕ → ProofVerdict → Type 0
IsVerdict a b budget verdict.Equal = AreComparable (as_compared a) (as_compared b) budget × AreEqual (as_compared a) (as_compared b)
IsVerdict a b budget (verdict.Differs name bits) =
    AreComparable (as_compared a) (as_compared b) budget
    × IsFirstDifference (as_compared a) (as_compared b) (root_pairs (as_compared a) (as_compared b)) name bits.items
IsVerdict a b budget (verdict.Names name) = IsLeastOneSided a b name

-- the name that is refused is that of the first roots over the budget, where the names agree; of memory nothing is said
abbrev pub IsRefusal : Machine → Machine → ℕ → ProveError → Type 0
IsRefusal a b budget error.Memory = Unit {0}
IsRefusal a b budget (error.Budget name) = AgreeByName a b × IsFirstOver (as_compared a) (as_compared b) budget name

-- equal machines of one name, as they are compared, do the same
abbrev pub EqualAreAlike : Type 0
EqualAreAlike =
    (a b : Machine) → IsChecked a → IsChecked b → b.name ≡ a.name → HaveSameNames a b → AreEqual a b → IsAlike a b
