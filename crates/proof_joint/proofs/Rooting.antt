-- One root after another in shared diagrams, and what is known of both in the end.
use Rattle.std.proofs.Common.{◌≡◌, ℕ, Bool, List, ◌++◌, length, Ok, Err, refl, sym, ap, subst, ◌∙◌, arith}
use Rattle.bool_expr.specs.Expression.{Expression, IsOver as IsWithin}
use Rattle.bdd_core.specs.declared.node.NodeId.{NodeId}
use Rattle.bdd_core.specs.declared.node.BddError.{BddError}
use Rattle.bdd_core.specs.declared.node.BddError.TheVariants.{Budget}
use Rattle.bdd_core.specs.Truths.{Truths, IsOver}
use Rattle.bdd_core.specs.Counting.{Holds}
use Rattle.bdd_core.specs.Diagram.{Diagram, IsNode, function_of, functions_of, IsAsked}
use Rattle.bdd_core.proofs.Asking.{same_functions}
use Rattle.machine_core.specs.Machine.{Machine}
use Rattle.machine_core.specs.Order.{IsOrdered}
use Rattle.machine_walk.specs.Expansion.{held_count, expansion}
use Rattle.machine_roots.specs.Roots.{list_by}
use Rattle.machine_walk.specs.Walk.{AreMet}
use Rattle.machine_roots.specs.Asked.{HaveAsked}
use Rattle.machine_roots.specs.Binding.{held_lists}
use Rattle.machine_roots.proofs.Members.{over_in}
use Rattle.machine_roots.specs.declared.sharing.SharedDiagrams.{SharedDiagrams}
use Rattle.machine_roots.specs.Shared.{shared_lists, AreShared, root_list, root_lists}
use Rattle.proof_joint.specs.Naming.{HaveSameNames}
use Rattle.proof_joint.specs.Together.{joint_order, joint_lists}
use Rattle.proof_joint.proofs.Joining.{first_denotes, second_denotes, two_counted, all_counted, all_asked, none_missing}

module _ (a b : Machine) (same : HaveSameNames a b) (oa : IsOrdered a) (ob : IsOrdered b) (x y : Expression) (over : IsWithin x (length a.vars))
    (other : IsWithin y (length b.vars)) (met : List Bool) (marks : AreMet a x met) (met_b : List Bool) (marks_b : AreMet b y met_b)
    (budget : ℕ) (order : List ℕ) (is_order : order ≡ joint_order a b x y) (s : SharedDiagrams) (shared : AreShared order (held_count a) budget s)
    (bound : List NodeId) (same_bound : bound ≡ s.bound.items) where
  abbrev J : List ℕ
  J = joint_order a b x y

  abbrev n : ℕ
  n = length (joint_order a b x y)

  abbrev lists : List Truths
  lists = held_lists (length (joint_order a b x y)) (joint_order a b x y) (held_count a)

  set : AreShared (joint_order a b x y) (held_count a) budget s
  set = subst (λ (o : List ℕ). AreShared o (held_count a) budget s) is_order shared

  bound_functions : functions_of s.diagrams bound ≡ held_lists (length (joint_order a b x y)) (joint_order a b x y) (held_count a)
  bound_functions = ap (functions_of s.diagrams) same_bound ∙ set.functions

  -- what the first root asks for and is
  first_lists : root_lists s.diagrams.table.vars met (functions_of s.diagrams bound) a.equations x ≡ root_lists (length (joint_order a b x y)) met (held_lists (length (joint_order a b x y)) (joint_order a b x y) (held_count a)) a.equations x
  first_lists = λ j. root_lists (set.vars j) met (bound_functions j) a.equations x

  first_list : root_list s.diagrams.table.vars met (functions_of s.diagrams bound) a.equations x ≡ list_by (joint_order a b x y) (expansion a x)
  first_list = (λ j. root_list (set.vars j) met (bound_functions j) a.equations x) ∙ first_denotes a b same oa ob x y over other met marks met_b marks_b

  pub first_refused : {A : Type 0} (d1 : Diagram) (e : BddError)
      → HaveAsked {A = A} s.diagrams d1 (root_lists s.diagrams.table.vars met (functions_of s.diagrams bound) a.equations x) (Err e) → e ≡ Budget → IsOver (joint_lists a b x y) budget
  first_refused {A} d1 e h is =
      let o : IsOver (root_lists s.diagrams.table.vars met (functions_of s.diagrams bound) a.equations x ++ shared_lists n) s.diagrams.table.budget = h.over is (shared_lists n) set.holds in
      over_in (root_lists n met lists a.equations x ++ shared_lists n) (joint_lists a b x y) budget (two_counted a b same oa ob x y over other met marks met_b marks_b)
      (subst (λ (l : List Truths). IsOver (l ++ shared_lists n) budget) first_lists
      (subst (λ (k : ℕ). IsOver (root_lists s.diagrams.table.vars met (functions_of s.diagrams bound) a.equations x ++ shared_lists n) k) set.budget o))

  module _ (d1 : Diagram) (first : NodeId) (asked : HaveAsked s.diagrams d1 (root_lists s.diagrams.table.vars met (functions_of s.diagrams bound) a.equations x) (Ok first))
      (found : IsAsked s.diagrams d1 (root_lists s.diagrams.table.vars met (functions_of s.diagrams bound) a.equations x)
      (root_list s.diagrams.table.vars met (functions_of s.diagrams bound) a.equations x) first) (again : List NodeId) (same_again : again ≡ s.bound.items) where
    holds : Holds (root_lists (length (joint_order a b x y)) met (held_lists (length (joint_order a b x y)) (joint_order a b x y) (held_count a)) a.equations x
        ++ shared_lists (length (joint_order a b x y))) d1.table
    holds = subst (λ (l : List Truths). Holds (l ++ shared_lists n) d1.table) first_lists (found.holds (shared_lists n) set.holds)

    again_functions : functions_of d1 again ≡ held_lists (length (joint_order a b x y)) (joint_order a b x y) (held_count a)
    again_functions = ap (functions_of d1) same_again ∙ same_functions s.diagrams d1 s.bound.items asked.keeps set.nodes ∙ set.functions

    second_lists : root_lists d1.table.vars met_b (functions_of d1 again) b.equations y ≡ root_lists (length (joint_order a b x y)) met_b (held_lists (length (joint_order a b x y)) (joint_order a b x y) (held_count a)) b.equations y
    second_lists = λ j. root_lists ((asked.vars ∙ set.vars) j) met_b (again_functions j) b.equations y

    second_list : root_list d1.table.vars met_b (functions_of d1 again) b.equations y ≡ list_by (joint_order a b x y) (expansion b y)
    second_list = (λ j. root_list ((asked.vars ∙ set.vars) j) met_b (again_functions j) b.equations y) ∙ second_denotes a b same oa ob x y over other met marks met_b marks_b

    pub second_refused : {A : Type 0} (d2 : Diagram) (e : BddError)
        → HaveAsked {A = A} d1 d2 (root_lists d1.table.vars met_b (functions_of d1 again) b.equations y) (Err e) → e ≡ Budget → IsOver (joint_lists a b x y) budget
    second_refused {A} d2 e h is =
        let A1 = root_lists n met lists a.equations x ++ shared_lists n in
        let o : IsOver (root_lists d1.table.vars met_b (functions_of d1 again) b.equations y ++ A1) d1.table.budget = h.over is A1 holds in
        over_in (all_asked a b same oa ob x y over other met marks met_b marks_b) (joint_lists a b x y) budget (all_counted a b same oa ob x y over other met marks met_b marks_b)
        (subst (λ (l : List Truths). IsOver (l ++ A1) budget) second_lists
        (subst (λ (k : ℕ). IsOver (root_lists d1.table.vars met_b (functions_of d1 again) b.equations y ++ A1) k) (asked.budget ∙ set.budget) o))

    -- what is known once both have their nodes
    pub record BothAre (d2 : Diagram) (second : NodeId) : Type 0 where
      pub vars : d2.table.vars ≡ length order
      pub first_node : IsNode d2 first
      pub first_is : function_of d2 first ≡ list_by order (expansion a x)
      pub second_node : IsNode d2 second
      pub second_is : function_of d2 second ≡ list_by order (expansion b y)
      pub within : IsOver (joint_lists a b x y) budget → ⊥

    pub both_are : (d2 : Diagram) (second : NodeId) → HaveAsked d1 d2 (root_lists d1.table.vars met_b (functions_of d1 again) b.equations y) (Ok second)
        → IsAsked d1 d2 (root_lists d1.table.vars met_b (functions_of d1 again) b.equations y) (root_list d1.table.vars met_b (functions_of d1 again) b.equations y) second → BothAre d2 second
    both_are d2 second h f =
        let A1 = root_lists n met lists a.equations x ++ shared_lists n in
        let kept = h.keeps first found.node in
        record {
          vars = h.vars ∙ asked.vars ∙ shared.vars;
          first_node = kept.0;
          first_is = kept.1 ∙ found.is ∙ first_list ∙ ap (λ (o : List ℕ). list_by o (expansion a x)) (sym is_order);
          second_node = f.node;
          second_is = f.is ∙ second_list ∙ ap (λ (o : List ℕ). list_by o (expansion b y)) (sym is_order);
          within = λ o. f.within A1 holds
              (subst (λ (l : List Truths). IsOver (l ++ A1) d1.table.budget) (sym second_lists)
              (subst (λ (k : ℕ). IsOver (root_lists n met_b lists b.equations y ++ A1) k) (sym (asked.budget ∙ set.budget))
              (over_in (joint_lists a b x y) (all_asked a b same oa ob x y over other met marks met_b marks_b) budget (none_missing a b same oa ob x y over other met marks met_b marks_b) o)));
        }
