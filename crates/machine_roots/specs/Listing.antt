-- The list of a machine's roots, and where they stand in it.
use Rattle.std.specs.Prelude.{◌≡◌, ◌*◌, true, false, List, ◌++◌, map, length, replicate, slice_get, Some, is_some, IfSome}
use Rattle.std.specs.List.{All}
use Rattle.bool_expr.specs.View.{view}
use Rattle.vlsi_base.specs.declared.name.Name.{Name}
use Rattle.vlsi_base.specs.Member.{In, AllDifferent}
use Rattle.machine_core.specs.declared.equation.Equation.{Equation as EquationParts}
use Rattle.machine_core.specs.Machine.{Machine, Equation, outputs}
use Rattle.machine_roots.specs.declared.listing.RootExpr.{RootExpr}
use Rattle.machine_roots.specs.Roots.{Root, expression_of, roots}

abbrev pub root_view : RootExpr → Root
root_view r = record { name = r.name.now; expr = view r.expr.now }

-- the number of its equation, where it has one
abbrev pub IsPlaced : List Equation → RootExpr → Type 0
IsPlaced equations r = IfSome r.equation (λ k. slice_get equations k ≡ Some (record { name = r.name.now; expr = view r.expr.now }))

-- each of the names has an equation, and stands among the names of a machine
abbrev pub AreDriven : List Name → List EquationParts → List Name → Type 0
AreDriven names equations asked = AllDifferent names × ((name : Name) → In name asked → In name (map (λ e. e.name) equations))

-- the roots of these outputs, in their order, with the numbers of their equations
pub record AreOutputRoots (equations : List Equation) (names : List Name) (listed : List RootExpr) : Type 0 where
  pub all : map root_view listed ≡ map (λ name. record { name = name; expr = expression_of equations name }) names
  pub placed : All (IsPlaced equations) listed
  pub shown : map (λ r. is_some r.equation) listed ≡ replicate (length names) true

-- all roots in their order; those of outputs have the numbers of their equations
pub record AreRoots (m : Machine) (listed : List RootExpr) : Type 0 where
  pub all : map root_view listed ≡ roots m
  pub placed : All (IsPlaced m.equations) listed
  pub shown : map (λ r. is_some r.equation) listed ≡ replicate (length (outputs m)) true ++ replicate (2 * length m.registers) false
