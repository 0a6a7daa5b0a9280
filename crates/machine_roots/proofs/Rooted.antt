-- The diagram of a root, once all was asked for, and why there is none.
use Rattle.std.proofs.Common.{◌≡◌, ◌⊎◌, inl, inr, ℕ, zero, suc, ◌+◌, ◌<◌, ◌≤◌, Bool, false, List, [], ◌∷◌, ◌++◌, length, replicate, Ok, Err, refl, sym, ap, subst, ◌∙◌, arith, append_assoc, append-nil}
use Rattle.std.specs.List.{slice_index_or}
use Rattle.std.proofs.lemmas.List.{length-map, length-replicate}
use Rattle.vlsi_base.specs.Member.{In, here, there}
use Rattle.bool_expr.specs.Expression.{Expression, constant, IsOver as IsWithin}
use Rattle.machine_core.specs.Machine.{Machine}
use Rattle.machine_core.specs.Order.{EachReadsBelow, IsOrdered}
use Rattle.machine_core.proofs.Values.{In-left, In-right, In-split}
use Rattle.bdd_core.specs.declared.node.NodeId.{NodeId}
use Rattle.bdd_core.specs.declared.node.BddError.{BddError}
use Rattle.bdd_core.specs.declared.node.BddError.TheVariants.{Budget}
use Rattle.bdd_core.specs.Truths.{Truths, constant as even, IsOver}
use Rattle.bdd_core.specs.Nodes.{raised, place}
use Rattle.bdd_core.specs.Counting.{Holds}
use Rattle.bdd_core.specs.Diagram.{Diagram, IsNode, function_of, functions_of, IsAsked}
use Rattle.bdd_core.specs.Asked.{asked_of}
use Rattle.machine_walk.proofs.Names.{length-vars}
use Rattle.machine_roots.specs.declared.diagram.RootDiagram.{RootDiagram}
use Rattle.machine_roots.specs.declared.sharing.SharedDiagrams.{SharedDiagrams}
use Rattle.machine_walk.specs.Expansion.{held_count, place_among}
use Rattle.machine_roots.specs.Roots.{list_of, lists_of}
use Rattle.machine_walk.specs.Walk.{order_of, AreMet}
use Rattle.machine_roots.specs.Asked.{HaveAsked, IsRootDiagram}
use Rattle.machine_roots.specs.Binding.{variable_list, variable_lists, put_variables, held_lists, bound_lists, asked_by}
use Rattle.machine_roots.specs.Shared.{shared_lists, AreShared, root_list, root_lists}
use Rattle.machine_roots.proofs.Members.{CountsIn, holds_same, over_in}
use Rattle.machine_roots.proofs.Few.{few_below}
use Rattle.machine_roots.proofs.Denoting.{order_different, order_in, length_put, put_at}
use Rattle.machine_roots.proofs.Sets.{counts_members, counts_append, counts_constant, root_denotes, variables_counted, root_counted, equations_counted, lists_counted}

at_in_list : (order : List ℕ) (k c : ℕ) → k < length order → In (slice_index_or order k c) order
at_in_list [] k c w = absurd (omega arith)
at_in_list (x ∷ order) zero c w = here
at_in_list (x ∷ order) (suc k) c w = there (at_in_list order k c (omega arith))

-- the questions before the root, and the lists that they count
module _ (m : Machine) (ordered : IsOrdered m) (e : Expression) (over : IsWithin e (length m.vars)) (met : List Bool) (marks : AreMet m e met) where
  -- the lists of inputs and registers
  pub record AreHeld (lists : List Truths) : Type 0 where
    pub long : length lists ≡ held_count m
    pub variable : (k : ℕ) → k < held_count m → In k (order_of m e) → place lists k ≡ variable_list (length (order_of m e)) (place_among (order_of m e) k)

  pub are_held : (order : List ℕ) (lists before : List Truths) → order ≡ order_of m e → length before ≡ held_count m → lists ≡ put_variables (length order) 0 order before → AreHeld lists
  are_held order lists before is count put = record {
    long = ap length put ∙ length_put (length order) 0 order before ∙ count;
    variable = λ k low h.
        let none : 0 + place_among (order_of m e) k ≡ place_among (order_of m e) k = omega arith in
        ap (λ (ts : List Truths). place ts k) put ∙ ap (λ (o : List ℕ). place (put_variables (length o) 0 o before) k) is
        ∙ put_at (length (order_of m e)) 0 (order_of m e) before k (order_different m e) (omega (arith, low, count)) h ∙ ap (variable_list (length (order_of m e))) none;
  }

  -- what was asked for before the root counts nothing else
  pub before_counted : (n : ℕ) (order : List ℕ) (lists : List Truths) → order ≡ order_of m e → n ≡ length order → AreHeld lists
      → CountsIn (asked_by n met lists m.equations) (lists_of m e)
  before_counted n order lists is long held =
      subst (λ (i : ℕ). CountsIn (asked_by i met lists m.equations) (lists_of m e)) (sym (long ∙ ap length is))
      (equations_counted m ordered e over met marks lists held.long held.variable)

  pub held_counted : (order : List ℕ) → order ≡ order_of m e → CountsIn (variable_lists (length order)) (lists_of m e)
  held_counted order is = subst (λ (o : List ℕ). CountsIn (variable_lists (length o)) (lists_of m e)) (sym is) (variables_of)
    where
      variables_of : CountsIn (variable_lists (length (order_of m e))) (lists_of m e)
      variables_of =
          let none : List Truths = replicate (held_count m) (raised 0 (even false)) in
          let held = are_held (order_of m e) (put_variables (length (order_of m e)) 0 (order_of m e) none) none refl (length-replicate (held_count m) (raised 0 (even false))) refl in
          variables_counted m ordered e over met marks (put_variables (length (order_of m e)) 0 (order_of m e) none) held.long held.variable

  pub zero_counted : (n : ℕ) → CountsIn (asked_of n [] (constant false)) (lists_of m e)
  zero_counted n = counts_constant n (lists_of m e)

  pub all_counted : (n : ℕ) (order : List ℕ) (lists : List Truths) → order ≡ order_of m e → n ≡ length order → AreHeld lists
      → CountsIn (asked_of n (bound_lists n met lists m.equations) e) (lists_of m e)
  all_counted n order lists is long held =
      subst (λ (i : ℕ). CountsIn (asked_of i (bound_lists i met lists m.equations) e) (lists_of m e)) (sym (long ∙ ap length is))
      (root_counted m ordered e over met marks lists held.long held.variable)

  -- and it counts all
  pub none_missing : (n : ℕ) (order : List ℕ) (lists : List Truths) → order ≡ order_of m e → n ≡ length order → AreHeld lists
      → CountsIn (lists_of m e) ((asked_of n (bound_lists n met lists m.equations) e ++ (asked_by n met lists m.equations ++ (variable_lists n ++ asked_of n [] (constant false)))) ++ [])
  none_missing n order lists is long held =
      subst (λ (i : ℕ). CountsIn (lists_of m e) ((asked_of i (bound_lists i met lists m.equations) e ++ (asked_by i met lists m.equations ++ (variable_lists i ++ asked_of i [] (constant false)))) ++ []))
      (sym (long ∙ ap length is)) (λ x c. wide x (lists_counted m ordered e over met marks lists held.long held.variable x c))
    where
      i : ℕ
      i = length (order_of m e)

      X : List Truths
      X = asked_of i (bound_lists i met lists m.equations) e

      Y : List Truths
      Y = asked_by i met lists m.equations

      V : List Truths
      V = variable_lists i

      Z : List Truths
      Z = asked_of i [] (constant false)

      put : (f : Truths) → In f X ⊎ In f (Y ++ V) → In f ((X ++ (Y ++ (V ++ Z))) ++ [])
      put f (inl p) = In-left f (X ++ (Y ++ (V ++ Z))) [] (In-left f X (Y ++ (V ++ Z)) p)
      put f (inr p) = In-left f (X ++ (Y ++ (V ++ Z))) [] (In-right f X (Y ++ (V ++ Z)) (deeper (In-split f Y V p))) where
        deeper : In f Y ⊎ In f V → In f (Y ++ (V ++ Z))
        deeper (inl q) = In-left f Y (V ++ Z) q
        deeper (inr q) = In-right f Y (V ++ Z) (In-left f V Z q)

      wide : CountsIn (X ++ (Y ++ V)) ((X ++ (Y ++ (V ++ Z))) ++ [])
      wide = counts_members (X ++ (Y ++ V)) ((X ++ (Y ++ (V ++ Z))) ++ []) (λ f h. put f (In-split f X (Y ++ V) h))

  -- the root in diagrams whose variables are bound in the order of the walk
  pub shared_over : (budget : ℕ) (order : List ℕ) → order ≡ order_of m e → IsOver (shared_lists (length order)) budget → IsOver (lists_of m e) budget
  shared_over budget order is o =
      over_in (shared_lists (length order)) (lists_of m e) budget
      (counts_append (variable_lists (length order)) (asked_of (length order) [] (constant false)) (lists_of m e) (held_counted order is) (zero_counted (length order))) o

  module _ (budget : ℕ) (order : List ℕ) (is : order ≡ order_of m e) (s : SharedDiagrams) (shared : AreShared order (held_count m) budget s) where
    abbrev fs : List Truths
    fs = held_lists (length order) order (held_count m)

    are : AreHeld (held_lists (length order) order (held_count m))
    are =
        let none : List Truths = replicate (held_count m) (raised (length order) (even false)) in
        are_held order (held_lists (length order) order (held_count m)) none is (length-replicate (held_count m) (raised (length order) (even false))) refl

    lists_are : root_lists s.diagrams.table.vars met (functions_of s.diagrams s.bound.items) m.equations e
        ≡ root_lists (length order) met (held_lists (length order) order (held_count m)) m.equations e
    lists_are = λ j. root_lists (shared.vars j) met (shared.functions j) m.equations e

    list_is : root_list s.diagrams.table.vars met (functions_of s.diagrams s.bound.items) m.equations e ≡ list_of m e
    list_is =
        (λ j. root_list (shared.vars j) met (shared.functions j) m.equations e)
        ∙ ap (λ (i : ℕ). root_list i met (held_lists (length order) order (held_count m)) m.equations e) (ap length is)
        ∙ root_denotes m ordered e over met marks (held_lists (length order) order (held_count m)) are.long are.variable

    abbrev asks : List Truths
    asks = root_lists (length order) met (held_lists (length order) order (held_count m)) m.equations e ++ shared_lists (length order)

    counted : CountsIn (root_lists (length order) met (held_lists (length order) order (held_count m)) m.equations e ++ shared_lists (length order)) (lists_of m e)
    counted =
        let X : List Truths = asked_of (length order) (bound_lists (length order) met fs m.equations) e in
        let Y : List Truths = asked_by (length order) met fs m.equations in
        let V : List Truths = variable_lists (length order) in
        let Z : List Truths = asked_of (length order) [] (constant false) in
        counts_append (X ++ Y) (V ++ Z) (lists_of m e)
        (counts_append X Y (lists_of m e) (all_counted (length order) order fs is refl are) (before_counted (length order) order fs is refl are))
        (counts_append V Z (lists_of m e) (held_counted order is) (zero_counted (length order)))

    all_there : CountsIn (lists_of m e) (root_lists (length order) met (held_lists (length order) order (held_count m)) m.equations e ++ shared_lists (length order))
    all_there =
        let X : List Truths = asked_of (length order) (bound_lists (length order) met fs m.equations) e in
        let Y : List Truths = asked_by (length order) met fs m.equations in
        let V : List Truths = variable_lists (length order) in
        let Z : List Truths = asked_of (length order) [] (constant false) in
        subst (λ (l : List Truths). CountsIn (lists_of m e) l) (append-nil (X ++ (Y ++ (V ++ Z))) ∙ sym (append_assoc X Y (V ++ Z)))
        (none_missing (length order) order fs is refl are)

    bound_long : length s.bound.items ≡ held_count m
    bound_long = sym (length-map s.bound.items (function_of s.diagrams)) ∙ ap length shared.functions ∙ are.long

    all_long : length m.vars ≡ length s.bound.items + length m.equations
    all_long = length-vars m ordered ∙ ap (λ (i : ℕ). i + length m.equations) (sym bound_long)

    pub marks_long : length met ≡ length s.bound.items + length m.equations
    marks_long = marks.each ∙ all_long

    pub reads_below : EachReadsBelow (length s.bound.items) m.equations
    reads_below = subst (λ (i : ℕ). EachReadsBelow i m.equations) (sym bound_long) ordered.below

    pub root_within : IsWithin e (length s.bound.items + length m.equations)
    root_within = subst (λ (i : ℕ). IsWithin e i) all_long over

    -- a refusal by the budget says that the root is over it
    pub root_over : {A : Type 0} (d : Diagram) (x : BddError)
        → HaveAsked {A = A} s.diagrams d (root_lists s.diagrams.table.vars met (functions_of s.diagrams s.bound.items) m.equations e) (Err x) → x ≡ Budget → IsOver (lists_of m e) budget
    root_over {A} d x h refused =
        over_in asks (lists_of m e) budget counted
        (subst (λ (l : List Truths). IsOver (l ++ shared_lists (length order)) budget) lists_are
        (subst (λ (k : ℕ). IsOver (root_lists s.diagrams.table.vars met (functions_of s.diagrams s.bound.items) m.equations e ++ shared_lists (length order)) k) shared.budget
        (h.over refused (shared_lists (length order)) shared.holds)))

    -- and a node that it is the root's
    pub rooted : (d : RootDiagram) → d.order.items ≡ order → d.zero ≡ s.zero
        → HaveAsked s.diagrams d.diagrams (root_lists s.diagrams.table.vars met (functions_of s.diagrams s.bound.items) m.equations e) (Ok d.root)
        → IsAsked s.diagrams d.diagrams (root_lists s.diagrams.table.vars met (functions_of s.diagrams s.bound.items) m.equations e)
        (root_list s.diagrams.table.vars met (functions_of s.diagrams s.bound.items) m.equations e) d.root → IsRootDiagram m e budget d
    rooted d same nought h a =
        let vars : d.diagrams.table.vars ≡ length order = h.vars ∙ shared.vars in
        let kept = h.keeps s.zero shared.zero_node in
        record {
          order = same ∙ is;
          vars = vars ∙ ap length (sym same);
          root_node = a.node;
          root_is = a.is ∙ list_is;
          zero_node = subst (λ (z : NodeId). IsNode d.diagrams z) (sym nought) kept.0;
          zero_is = ap (λ (z : NodeId). function_of d.diagrams z) nought ∙ kept.1 ∙ shared.zero_is ∙ ap (λ (i : ℕ). raised i (even false)) (sym vars);
          holds = holds_same asks (lists_of m e) d.diagrams.table counted all_there
              (subst (λ (l : List Truths). Holds (l ++ shared_lists (length order)) d.diagrams.table) lists_are (a.holds (shared_lists (length order)) shared.holds));
          within = λ o. a.within (shared_lists (length order)) shared.holds
              (subst (λ (l : List Truths). IsOver (l ++ shared_lists (length order)) s.diagrams.table.budget) (sym lists_are)
              (subst (λ (k : ℕ). IsOver asks k) (sym shared.budget) (over_in (lists_of m e) asks budget all_there o)));
          held = λ k c w. (order_in m ordered e (slice_index_or d.order.items k c) over
              (subst (λ (o : List ℕ). In (slice_index_or d.order.items k c) o) (same ∙ is) (at_in_list d.order.items k c w))).0;
        }

-- the order is no longer than there are inputs and registers
pub order_few : (m : Machine) → IsOrdered m → (e : Expression) → IsWithin e (length m.vars) → (order : List ℕ) → order ≡ order_of m e → length order ≤ held_count m
order_few m ordered e over order is =
    let few = few_below (held_count m) (order_of m e) (order_different m e) (λ k h. (order_in m ordered e k over h).0) in
    omega (arith, ap length is, few)

pub order_within : (m : Machine) → IsOrdered m → (e : Expression) → IsWithin e (length m.vars) → (order : List ℕ) → order ≡ order_of m e → (k c : ℕ) → k < length order
    → slice_index_or order k c < held_count m
order_within m ordered e over order is k c w =
    (order_in m ordered e (slice_index_or order k c) over (subst (λ (o : List ℕ). In (slice_index_or order k c) o) is (at_in_list order k c w))).0
