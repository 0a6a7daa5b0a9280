-- What an optimised machine is.
use Rattle.std.specs.Prelude.{ℕ, ◌*◌, ◌≤◌, List, sum}
use Rattle.std.specs.List.{AllZip}
use Rattle.machine_core.specs.Machine.{Machine}
use Rattle.machine_core.specs.Size.{machine_size}
use Rattle.machine_core.specs.Alike.{IsAlike}
use Rattle.machine_roots.specs.Roots.{IsDag, roots, IsFirstOver}
pub use Rattle.boom_check.specs.Kept.{is_output, inner_size, behind_new, IsGivenOrSmaller, IsKept}
use Rattle.boom_opt.specs.declared.error.BoomError.{BoomError}
use Rattle.boom_opt.specs.declared.error.BoomError.TheVariants as error

-- It isn't larger; and the equations of its inner signals are within four times the nodes of the diagrams of the given machine's
-- roots, each diagram for itself: four is what a choice weighs.
pub record IsSmall (m o : Machine) : Type 0 where
  pub size : machine_size o ≤ machine_size m
  pub dags : List ℕ
  pub each : AllZip (IsDag m) (roots m) dags
  pub inner : inner_size o ≤ 4 * sum dags

-- so much is within four times the nodes of the diagrams of the machine's roots
pub record IsInnerBound (m : Machine) (most : ℕ) : Type 0 where
  pub dags : List ℕ
  pub each : AllZip (IsDag m) (roots m) dags
  pub within : most ≤ 4 * sum dags

-- it does the same, keeps what it can't make smaller, and meets both bounds
pub record IsOptimised (m o : Machine) : Type 0 where
  pub alike : IsAlike m o
  pub kept : IsKept m o
  pub small : IsSmall m o

-- the name that is refused is that of the first root over the budget; of memory nothing is said
abbrev pub IsOverIn : Machine → ℕ → BoomError → Type 0
IsOverIn m budget error.Memory = Unit {0}
IsOverIn m budget (error.Budget name) = IsFirstOver m budget name
