-- The roots of a machine, and how large their diagrams are.
-- A reduced ordered diagram has one node for each truth list with unequal halves, among the lists of what was asked for, their
-- halves, the halves of these and so on (Bryant's theorem). So its size is said here without diagrams, as a count of truth lists.
use Rattle.std.specs.Prelude.{◌≡◌, ℕ, ◌≤◌, false, List, [], ◌∷◌, ◌++◌, map, length, if◌then◌else◌}
use Rattle.std.specs.List.{All, AllZip, Contains}
use Rattle.vlsi_base.specs.declared.name.Name.{Name}
use Rattle.bool_expr.specs.Expression.{Expression, constant, val}
use Rattle.bdd_core.specs.Truths.{Truths, truths, IsCountOf, IsOver}
use Rattle.machine_core.specs.Named.{is_same_name}
use Rattle.machine_core.specs.Machine.{Machine, Equation, Register, outputs}
use Rattle.machine_walk.specs.Expansion.{expansion, subexpressions, in_order}
use Rattle.machine_walk.specs.Walk.{order_of}

-- an expression over a machine's names that its outputs show or its registers load, with the output's or the register's name
pub record Root : Type 0 where
  pub name : Name
  pub expr : Expression

-- what the equation of this name says
abbrev pub expression_of : List Equation → Name → Expression
expression_of [] name = constant false
expression_of (e ∷ rest) name = if is_same_name e.name name then e.expr else expression_of rest name

-- next and enable of each register
abbrev pub register_roots : List Register → List Root
register_roots [] = []
register_roots (r ∷ rest) =
    record { name = r.name; expr = r.next } ∷ record { name = r.name; expr = r.enable } ∷ register_roots rest

-- the outputs in the order of names, then next and enable of each register in the order of names
abbrev pub roots : Machine → List Root
roots m = map (λ name. record { name = name; expr = expression_of m.equations name }) (outputs m) ++ register_roots m.registers

-- the truth list of an expression over inputs and registers, in an order of these
abbrev pub list_by : List ℕ → Expression → Truths
list_by order e = truths (length order) (λ w. val (in_order order e) w)

-- the truth list of a root, and those of all subexpressions of its expansion
abbrev pub list_of : Machine → Expression → Truths
list_of m e = list_by (order_of m e) (expansion m e)

abbrev pub lists_of : Machine → Expression → List Truths
lists_of m e = map (list_by (order_of m e)) (subexpressions (expansion m e))

-- how many nodes the diagram of all subexpressions has, and how many the diagram of the root alone has
abbrev pub IsDcount : Machine → Root → ℕ → Type 0
IsDcount m r n = IsCountOf (lists_of m r.expr) n

abbrev pub IsDag : Machine → Root → ℕ → Type 0
IsDag m r n = IsCountOf (list_of m r.expr ∷ []) n

-- the diagram of all subexpressions is over the budget
abbrev pub IsOverBudget : Machine → ℕ → Root → Type 0
IsOverBudget m budget r = IsOver (lists_of m r.expr) budget

-- the name is that of the first root whose diagram is over the budget
pub record IsFirstOver (m : Machine) (budget : ℕ) (name : Name) : Type 0 where
  pub before : List Root
  pub root : Root
  pub after : List Root
  pub all : roots m ≡ before ++ root ∷ after
  pub named : name ≡ root.name
  pub over : IsOverBudget m budget root
  pub first : All (λ r. IsOverBudget m budget r → ⊥) before

-- n is one of the numbers and none is greater; 0 where there is none
abbrev pub IsGreatest : List ℕ → ℕ → Type 0
IsGreatest [] n = n ≡ 0
IsGreatest (k ∷ rest) n = Contains (k ∷ rest) n × All (λ j. j ≤ n) (k ∷ rest)

-- n is the greatest count over the roots; 0 where there is no root
pub record IsGreatestDcount (m : Machine) (n : ℕ) : Type 0 where
  pub counts : List ℕ
  pub each : AllZip (IsDcount m) (roots m) counts
  pub greatest : IsGreatest counts n
