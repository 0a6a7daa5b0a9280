-- What is picked for two functions is what is chosen for two expressions.
use Rattle.std.proofs.Common.{◌≡◌, ℕ, Bool, true, false, List, length, sym, ap, subst, ◌∙◌}
use Rattle.bool_expr.specs.Expression.{Expression, val, IsOver}
use Rattle.bdd_core.specs.Truths.{Truths}
use Rattle.bdd_core.specs.Diagram.{function_of}
use Rattle.machine_core.specs.Machine.{Machine}
use Rattle.machine_core.specs.Checked.{IsChecked}
use Rattle.machine_walk.specs.Expansion.{expansion}
use Rattle.machine_roots.specs.Roots.{list_by}
use Rattle.proof_joint.specs.declared.joint.JointDiagram.{JointDiagram}
use Rattle.proof_joint.specs.Joint.{IsJointDiagram}
use Rattle.proof_joint.specs.Together.{joint_order}
use Rattle.boom_choose.specs.declared.pick.Pick.{Pick}
use Rattle.boom_choose.specs.declared.pick.Pick.TheVariants as pick
use Rattle.boom_choose.specs.Pick.{IsPick, said}
use Rattle.boom_choose.specs.Choice.{IsChoice, zero, one, first, second}
use Rattle.boom_choose.proofs.Never.{zero_never, one_never, never_zero, never_one}

same_pick : (p : Pick) {n k : ℕ} {f g x y : Truths} → n ≡ k → f ≡ g → x ≡ y → IsPick n f x p → IsPick k g y p
same_pick p {n} {k} {f} {g} {x} {y} a b c is =
    subst (λ (t : Truths). IsPick k g t p) c (subst (λ (t : Truths). IsPick k t x p) b (subst (λ (t : ℕ). IsPick t f x p) a is))

module _ (m : Machine) (checked : IsChecked m) (lo hi : Expression) (over : IsOver lo (length m.vars)) (other : IsOver hi (length m.vars))
    (mono : (w : List Bool) → val lo w ≡ true → val hi w ≡ true) (apart : hi ≡ lo → ⊥) where
  abbrev order : List ℕ
  order = joint_order m m lo hi

  by_pick : (p : Pick) → IsPick (length order) (list_by order (expansion m lo)) (list_by order (expansion m hi)) p → IsChoice m lo hi (said lo hi p)
  by_pick (pick.Bit false) is = zero apart (zero_never m checked lo hi over other mono is) (λ j. said lo hi (pick.Bit false))
  by_pick (pick.Bit true) is =
      one apart (λ never. is.0 (never_zero m checked lo hi over other mono never)) (one_never m checked lo hi over other mono is.1) (λ j. said lo hi (pick.Bit true))
  by_pick pick.Low is =
      first apart (λ never. is.0.0 (never_zero m checked lo hi over other mono never)) (λ never. is.0.1 (never_one m checked lo hi over other mono never))
      is.1.0 is.1.1 is.1.2 is.1.3 is.1.4 (λ j. lo)
  by_pick pick.High is =
      second apart (λ never. is.0.0 (never_zero m checked lo hi over other mono never)) (λ never. is.0.1 (never_one m checked lo hi over other mono never))
      is.1.0 is.1.1 is.1.2 is.1.3 is.1.4 (λ j. hi)

  pub picked : (d : JointDiagram) (p : Pick) (x : Expression) → IsJointDiagram m m lo hi d
      → IsPick d.diagrams.table.vars (function_of d.diagrams d.first) (function_of d.diagrams d.second) p → x ≡ said lo hi p → IsChoice m lo hi x
  picked d p x w is says = subst (IsChoice m lo hi) (sym says) (by_pick p (same_pick p
      (w.vars ∙ ap (λ (o : List ℕ). length o) w.order)
      (w.first_is ∙ ap (λ (o : List ℕ). list_by o (expansion m lo)) w.order)
      (w.second_is ∙ ap (λ (o : List ℕ). list_by o (expansion m hi)) w.order) is))
