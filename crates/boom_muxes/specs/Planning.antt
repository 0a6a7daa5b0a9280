-- What equations and registers say in a machine that is made anew.
use Rattle.std.specs.Prelude.{◌≡◌, ℕ, ◌+◌, ◌<◌, Bool, List, [], ◌∷◌, ◌++◌, length, slice_get, Option, None, Some}
use Rattle.bool_expr.specs.Expression.{Expression, variable, bit}
use Rattle.machine_core.specs.Machine.{Machine, Equation}
use Rattle.machine_core.specs.Built.{built}
use Rattle.machine_walk.specs.Expansion.{held_count}
use Rattle.machine_roots.specs.declared.listing.RootExpr.{RootExpr}
use Rattle.bool_expr.specs.View.{view}
use Rattle.boom_literal.specs.declared.literal.Literal.{Literal}
use Rattle.boom_muxes.specs.declared.plan.Plan.{Plan}
use Rattle.boom_muxes.specs.declared.muxes.Muxes.{Muxes}
use Rattle.boom_muxes.specs.Muxes.{IsLiteralBelow, literal_value, mux_values}

-- the expression is a name alone: that of equation number j
abbrev pub Shows : ℕ → Expression → ℕ → Type 0
Shows held e j = e ≡ variable (held + j)

-- where the expression is a name alone, so is that of each equation to which it leads only one of an earlier equation
pub record EachLeadsBack (held : ℕ) (equations : List Equation) (e : Expression) : Type 0 where
  pub first : (k : ℕ) → e ≡ variable k → k < held + length equations
  pub back : (j k : ℕ) (x : Equation) → slice_get equations j ≡ Some x → x.expr ≡ variable k → k < held + j

-- names alone lead from the expression to equation number j
pub data LeadsTo (held : ℕ) (equations : List Equation) (e : Expression) : ℕ → Type 0 where
  at_once : {j : ℕ} → Shows held e j → LeadsTo held equations e j
  onward : {i j : ℕ} (x : Equation) → LeadsTo held equations e i → slice_get equations i ≡ Some x → Shows held x.expr j
      → LeadsTo held equations e j

-- The equations have their literals beside those that had one; those to which names alone lead from the expression have one now.
pub record IsFollowed (held : ℕ) (equations : List Equation) (l : Literal) (e : Expression) (old new : List (Option Literal)) : Type 0 where
  pub each : length new ≡ length old
  pub kept : (j : ℕ) (k : Literal) → slice_get old j ≡ Some (Some k) → slice_get new j ≡ Some (Some k)
  pub first : (j : ℕ) → Shows held e j → (k : Literal) × (slice_get new j ≡ Some (Some k))
  -- a further one has this literal, and names alone lead to it
  pub more : (j : ℕ) (k : Literal) → slice_get new j ≡ Some (Some k) → slice_get old j ≡ Some None
      → (k ≡ l) × LeadsTo held equations e j
  -- what a further one shows has one too
  pub closed : (i j : ℕ) (k : Literal) (x : Equation) → slice_get new i ≡ Some (Some k) → slice_get old i ≡ Some None
      → slice_get equations i ≡ Some x → Shows held x.expr j → (q : Literal) × (slice_get new j ≡ Some (Some q))

abbrev pub NotedAt : ℕ → List Equation → Expression → Literal → Plan → Plan → Option ℕ → Type 0
NotedAt held equations e l old new None =
    (new.loads.items ≡ old.loads.items ++ l ∷ []) × IsFollowed held equations l e old.equations.items new.equations.items
NotedAt held equations e l old new (Some k) =
    (new.loads.items ≡ old.loads.items) × IsFollowed held equations l (variable (held + k)) old.equations.items new.equations.items

-- what a root's literal leaves
abbrev pub IsNoted : ℕ → List Equation → RootExpr → Literal → Plan → Plan → Type 0
IsNoted held equations root l old new = NotedAt held equations (view root.expr.now) l old new root.equation

-- the literal has this value, from the values of inputs and registers on
abbrev pub SaysValue : Muxes → Literal → (List Bool → Bool) → Type 0
SaysValue t l f = (w : List Bool) → length w ≡ t.held → literal_value l (mux_values w t.nodes.keys) ≡ f w

-- Each literal of an equation has the value of its name, and what such an equation shows by a name alone has one too.
pub record IsPlan (m : Machine) (t : Muxes) (p : Plan) : Type 0 where
  pub each : length p.equations.items ≡ length m.equations
  pub below : (j : ℕ) (l : Literal) → slice_get p.equations.items j ≡ Some (Some l) → IsLiteralBelow (t.held + length t.nodes.keys) l
  pub value : (j : ℕ) (l : Literal) → slice_get p.equations.items j ≡ Some (Some l)
      → SaysValue t l (λ w. bit (built w m.equations) (held_count m + j))
  pub closed : (i j : ℕ) (l : Literal) (x : Equation) → slice_get p.equations.items i ≡ Some (Some l) → slice_get m.equations i ≡ Some x
      → Shows (held_count m) x.expr j → (k : Literal) × (slice_get p.equations.items j ≡ Some (Some k))
