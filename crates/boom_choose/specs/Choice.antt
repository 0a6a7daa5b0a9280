-- The machine that is chosen among what is left free.
use Rattle.std.specs.Prelude.{◌≡◌, ℕ, ◌<◌, ◌≤◌, true, false, List, [], ◌∷◌, ◌++◌}
use Rattle.std.specs.List.{All}
use Rattle.vlsi_base.specs.declared.name.Name.{Name}
use Rattle.bool_expr.specs.Expression.{Expression, constant}
use Rattle.bdd_core.specs.Truths.{IsCountOf, IsOver}
use Rattle.machine_core.specs.Machine.{Machine, Equation, outputs}
use Rattle.machine_core.specs.Checked.{IsChecked}
use Rattle.machine_walk.specs.Expansion.{expansion}
use Rattle.machine_roots.specs.Roots.{expression_of, list_by}
use Rattle.proof_joint.specs.Together.{joint_order, joint_lists}
use Rattle.machine_free.specs.Free.{AreFree}
use Rattle.machine_free.specs.Between.{IsNeverFixed, IsBetween}

-- Both expressions of a free output are expanded by the equations of the machine with each free bit 0: what they read is said alike in
-- both machines. The order of names is that in which the first reads them.

-- how many nodes the diagram of an expression has, in the order of two
abbrev pub IsDagIn : Machine → Expression → Expression → Expression → ℕ → Type 0
IsDagIn m low high e n = IsCountOf (list_by (joint_order m m low high) (expansion m e) ∷ []) n

-- What is said of a name in place of what two machines say, of which the first has each free bit 0. Where nothing is left free, it is
-- that. Else it is 0 where the value is never fixed to 1; else 1 where it is never fixed to 0; else that with the smaller diagram, and
-- the first where these are as large.
pub data IsChoice (m : Machine) (low high x : Expression) : Type 0 where
  kept : high ≡ low → x ≡ low → IsChoice m low high x
  zero : (high ≡ low → ⊥) → IsNeverFixed m true low high → x ≡ constant false → IsChoice m low high x
  one : (high ≡ low → ⊥) → (IsNeverFixed m true low high → ⊥) → IsNeverFixed m false low high → x ≡ constant true → IsChoice m low high x
  first : (high ≡ low → ⊥) → (IsNeverFixed m true low high → ⊥) → (IsNeverFixed m false low high → ⊥) → (j k : ℕ)
      → IsDagIn m low high low j → IsDagIn m low high high k → j ≤ k → x ≡ low → IsChoice m low high x
  second : (high ≡ low → ⊥) → (IsNeverFixed m true low high → ⊥) → (IsNeverFixed m false low high → ⊥) → (j k : ℕ)
      → IsDagIn m low high low j → IsDagIn m low high high k → k < j → x ≡ high → IsChoice m low high x

abbrev pub AreChosen : Machine → List Equation → List Equation → List Equation → Type 0
AreChosen m [] [] [] = Unit {0}
AreChosen m (e ∷ es) (f ∷ fs) (g ∷ gs) = (g.name ≡ e.name) × (IsChoice m e.expr f.expr g.expr × AreChosen m es fs gs)
AreChosen m [] [] (g ∷ gs) = ⊥
AreChosen m [] (f ∷ fs) gs = ⊥
AreChosen m (e ∷ es) [] gs = ⊥
AreChosen m (e ∷ es) (f ∷ fs) [] = ⊥

-- the machine that is chosen: it is the one with each free bit 0 in all but the outputs that are left free
pub record IsChosen (low high m : Machine) : Type 0 where
  pub name : m.name ≡ low.name
  pub ports : m.ports ≡ low.ports
  pub clock : m.clock ≡ low.clock
  pub vars : m.vars ≡ low.vars
  pub registers : m.registers ≡ low.registers
  pub equations : AreChosen low low.equations high.equations m.equations

-- the diagram of all subexpressions of both expansions of an output is over the budget
abbrev pub IsOverBoth : Machine → Machine → ℕ → Name → Type 0
IsOverBoth low high budget name = IsOver (joint_lists low low (expression_of low.equations name) (expression_of high.equations name)) budget

-- the name is that of the first output in the order of names, left free or not, whose diagram is over the budget
pub record IsFirstOver (low high : Machine) (budget : ℕ) (name : Name) : Type 0 where
  pub before : List Name
  pub after : List Name
  pub all : outputs low ≡ before ++ name ∷ after
  pub over : IsOverBoth low high budget name
  pub first : All (λ n. IsOverBoth low high budget n → ⊥) before

-- what is chosen so stands among what is left free, so each run of it does
abbrev pub ChosenStandsBetween : Type 0
ChosenStandsBetween = (low high m : Machine) → IsChecked low → AreFree low high → IsChosen low high m → IsBetween low high m
