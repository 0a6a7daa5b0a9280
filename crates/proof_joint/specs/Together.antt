-- Two roots as functions, and how large their diagrams are together. The machines have the same names, so that an input or a register
-- has one number in both.
use Rattle.std.specs.Prelude.{◌≡◌, ℕ, Bool, not, List, ◌∷◌, ◌++◌, map, filter, zip}
use Rattle.std.specs.List.{All}
use Rattle.vlsi_base.specs.declared.name.Name.{Name}
use Rattle.bool_expr.specs.Expression.{Expression, val}
use Rattle.bool_expr.specs.Support.{among}
use Rattle.bdd_core.specs.Truths.{Truths, IsOver}
use Rattle.machine_core.specs.Named.{values_at}
use Rattle.machine_core.specs.Machine.{Machine, input_ports, register_names}
use Rattle.machine_core.specs.Order.{held_names}
use Rattle.machine_walk.specs.Expansion.{expansion, subexpressions}
use Rattle.machine_roots.specs.Roots.{Root, roots, list_by}
use Rattle.machine_walk.specs.Walk.{order_of}

-- each root of the first machine with that of the second which has its place
abbrev pub root_pairs : Machine → Machine → List (Root × Root)
root_pairs a b = zip (roots a) (roots b)

-- the order of names: that of the first expansion, and then the names that only the second one meets
abbrev pub joint_order : Machine → Machine → Expression → Expression → List ℕ
joint_order a b x y = order_of a x ++ filter (λ k. not (among k (order_of a x))) (order_of b y)

-- the truth lists of all subexpressions of the two expansions
abbrev pub joint_lists : Machine → Machine → Expression → Expression → List Truths
joint_lists a b x y = map (list_by (joint_order a b x y)) (subexpressions (expansion a x) ++ subexpressions (expansion b y))

-- the diagram of both expansions, in which what they share counts once, is over the budget
abbrev pub IsOverTogether : Machine → Machine → ℕ → Root × Root → Type 0
IsOverTogether a b budget p = IsOver (joint_lists a b p.0.expr p.1.expr) budget

-- the name is that of the first roots whose diagram is over the budget
pub record IsFirstOver (a b : Machine) (budget : ℕ) (name : Name) : Type 0 where
  pub before : List (Root × Root)
  pub pair : Root × Root
  pub after : List (Root × Root)
  pub all : root_pairs a b ≡ before ++ pair ∷ after
  pub named : name ≡ pair.0.name
  pub over : IsOverTogether a b budget pair
  pub first : All (λ p. IsOverTogether a b budget p → ⊥) before

-- two roots are one function of inputs and registers
abbrev pub IsOneFunction : Machine → Machine → Root × Root → Type 0
IsOneFunction a b p = (w : List Bool) → val (expansion a p.0.expr) w ≡ val (expansion b p.1.expr) w

-- the names to which bits are given: the input ports, the clock among them, and then the registers, each in the order of names
abbrev pub given_names : Machine → List Name
given_names m = input_ports m ++ register_names m

-- the value of an expression over a machine's names, where these bits are given
abbrev pub value_on : Machine → Expression → List Bool → Bool
value_on m e bits = val (expansion m e) (values_at (given_names m) bits (held_names m))
