-- Roots that are compared one after another.
use Rattle.std.specs.Prelude.{◌≡◌, ℕ, ◌<◌, ◌^◌, Bool, List, length, Option, None, Some}
use Rattle.std.specs.List.{All}
use Rattle.bool_expr.specs.Expression.{Expression, IsOver as IsWithin}
use Rattle.bool_expr.specs.View.{view}
use Rattle.machine_core.specs.Machine.{Machine}
use Rattle.machine_core.specs.Checked.{IsChecked}
use Rattle.machine_roots.specs.declared.listing.RootExpr.{RootExpr}
use Rattle.machine_roots.specs.Listing.{root_view}
use Rattle.machine_roots.specs.Roots.{Root}
use Rattle.proof_joint.specs.declared.joint.JointDiagram.{JointDiagram}
use Rattle.proof_cmp.specs.declared.proving.Machines.{Machines}
use Rattle.proof_cmp.specs.declared.verdict.ProveError.{ProveError}
use Rattle.proof_cmp.specs.declared.verdict.ProveError.TheVariants as error
use Rattle.proof_cmp.specs.declared.proving.Difference.{Difference}
use Rattle.proof_joint.specs.Joint.{IsJointDiagram}
use Rattle.proof_joint.specs.Together.{IsOverTogether, IsFirstOver, IsOneFunction, given_names, value_on}
use Rattle.proof_cmp.specs.Verdict.{IsFirstDifference}

-- two roots, and their diagram
abbrev pub pair_of : RootExpr → RootExpr → Root × Root
pair_of first second = (root_view first, root_view second)

abbrev pub HaveDiagram : Machines → RootExpr → RootExpr → JointDiagram → Type 0
HaveDiagram m first second d = IsJointDiagram m.first.now m.second.now (view first.expr.now) (view second.expr.now) d

-- a root over the names of a machine that was checked, of which there are few
pub record IsRootOf (m : Machine) (r : RootExpr) : Type 0 where
  pub checked : IsChecked m
  pub over : IsWithin (view r.expr.now) (length m.vars)
  pub few : length m.vars < 2 ^ 32

-- their name is refused where they are over the budget; of memory nothing is said
abbrev pub IsOverPair : Machine → Machine → ℕ → Root × Root → ProveError → Type 0
IsOverPair a b budget p error.Memory = Unit {0}
IsOverPair a b budget p (error.Budget name) = (name ≡ p.0.name) × IsOverTogether a b budget p

-- the name that is refused is that of the first roots over the budget; of memory nothing is said
abbrev pub IsOverFirst : Machine → Machine → ℕ → ProveError → Type 0
IsOverFirst a b budget error.Memory = Unit {0}
IsOverFirst a b budget (error.Budget name) = IsFirstOver a b budget name

-- bits of all given names on which two expressions differ
pub record DifferOn (a b : Machine) (x y : Expression) (bits : List Bool) : Type 0 where
  pub each : length bits ≡ length (given_names a)
  pub differ : value_on a x bits ≡ value_on b y bits → ⊥

-- the first of these roots that differ, where some do
abbrev pub IsFound : Machine → Machine → List (Root × Root) → Option Difference → Type 0
IsFound a b pairs None = All (IsOneFunction a b) pairs
IsFound a b pairs (Some d) = IsFirstDifference a b pairs d.name.now d.bits.items
