-- The second machine, as far as it is made, and why that is enough for both bounds.
use Rattle.std.specs.Prelude.{◌≡◌, ℕ, ◌+◌, ◌*◌, ◌^◌, ◌≤◌, true, false, nat_lt, List, length, min, ◌-◌, take, drop, slice_get, Some, is_some, sum, sum_by}
use Rattle.std.specs.List.{All, AllZip}
use Rattle.bool_expr.specs.Expression.{val, size_of, IsOver}
use Rattle.bool_expr.specs.View.{view}
use Rattle.machine_core.specs.Machine.{Machine, Equation, outputs}
use Rattle.machine_core.specs.Built.{built}
use Rattle.machine_walk.specs.Expansion.{held_count}
use Rattle.machine_roots.specs.Roots.{Root, roots, IsDcount, IsDag, IsOverBudget, IsGreatest}
use Rattle.machine_roots.specs.Listing.{IsPlaced}
use Rattle.machine_roots.specs.declared.listing.RootExpr.{RootExpr}
use Rattle.boom_opt.specs.declared.error.BoomError.{BoomError}
use Rattle.boom_opt.specs.declared.error.BoomError.TheVariants as error
use Rattle.boom_literal.specs.declared.literal.Literal.{Literal}
use Rattle.boom_muxes.specs.declared.muxes.Muxes.{Muxes}
use Rattle.boom_muxes.specs.declared.plan.Plan.{Plan}
use Rattle.boom_opt.specs.declared.optimising.Rebuilt.{Rebuilt}
use Rattle.boom_muxes.specs.Muxes.{IsTable, IsLiteralBelow}
use Rattle.boom_muxes.specs.Planning.{EachLeadsBack, Shows, SaysValue, IsPlan}

-- what all expressions of a machine weigh
abbrev pub expressions_size : Machine → ℕ
expressions_size m = sum_by (λ e. size_of e.expr) m.equations + sum_by (λ r. size_of r.next + size_of r.enable) m.registers

-- that as a number of 64 bits: the greatest one where that is less
abbrev pub IsWeight : Machine → ℕ → Type 0
IsWeight m w = w ≡ min (expressions_size m) (2 ^ 64 - 1)

-- a root of the machine: of its equation, where it has one; it reads the machine's names
pub record IsRootOf (m : Machine) (r : RootExpr) : Type 0 where
  pub placed : IsPlaced m.equations r
  pub over : IsOver (view r.expr.now) (length m.vars)
  pub back : EachLeadsBack (held_count m) m.equations (view r.expr.now)

-- its name is refused where it is over the budget; of memory nothing is said
abbrev pub IsOverRoot : Machine → ℕ → Root → BoomError → Type 0
IsOverRoot m budget r error.Memory = Unit {0}
IsOverRoot m budget r (error.Budget name) = (name ≡ r.name) × IsOverBudget m budget r

-- an equation of the root's name has a literal
pub record IsShown (m : Machine) (p : Plan) (r : Root) : Type 0 where
  pub place : ℕ
  pub equation : Equation
  pub literal : Literal
  pub there_is : slice_get m.equations place ≡ Some equation
  pub named : equation.name ≡ r.name
  pub planned : slice_get p.equations.items place ≡ Some (Some literal)

-- the literal has the root's value; and an equation that the root shows by a name alone has one too
pub record SaysRoot (m : Machine) (t : Muxes) (p : Plan) (r : Root) (l : Literal) : Type 0 where
  pub below : IsLiteralBelow (t.held + length t.nodes.keys) l
  pub value : SaysValue t l (λ w. val r.expr (built w m.equations))
  pub led : (j : ℕ) → Shows (held_count m) r.expr j → (k : Literal) × (slice_get p.equations.items j ≡ Some (Some k))

-- a plan for these roots, of which those of outputs come first, and behind them what registers load
pub record IsPlanOf (m : Machine) (before : List Root) (t : Muxes) (p : Plan) : Type 0 where
  pub plan : IsPlan m t p
  pub shown : All (IsShown m p) (take (length (outputs m)) before)
  pub loads : AllZip (SaysRoot m t p) (drop (length (outputs m)) before) p.loads.items

-- The second machine of the roots so far. Each of their diagrams' nodes has made one choice at most; where the machine was given up,
-- the given one weighs no more than that.
pub record IsRebuilt (m : Machine) (before : List Root) (b : Rebuilt) : Type 0 where
  pub table : IsTable b.muxes
  pub held : b.muxes.held ≡ held_count m
  pub given : IsWeight m b.muxes.given
  pub counts : List ℕ
  pub each_count : AllZip (IsDcount m) before counts
  pub nodes : IsGreatest counts b.nodes
  pub dags : List ℕ
  pub each_dag : AllZip (IsDag m) before dags
  pub several : b.diagram_nodes ≤ sum dags
  pub weight : b.muxes.weight ≤ 4 * sum dags
  pub large : b.is_large ≡ true → expressions_size m ≤ 4 * sum dags
  pub planned : b.is_large ≡ false → IsPlanOf m before b.muxes b.plan

-- a further root comes in its order: those of outputs before those that registers load
abbrev pub IsNext : Machine → List Root → RootExpr → Type 0
IsNext m before r = is_some r.equation ≡ nat_lt (length before) (length (outputs m))

-- the second machine of all roots, none of which is over the budget
pub record HasRebuilt (m : Machine) (budget : ℕ) (b : Rebuilt) : Type 0 where
  pub rebuilt : IsRebuilt m (roots m) b
  pub within : All (λ r. IsOverBudget m budget r → ⊥) (roots m)
