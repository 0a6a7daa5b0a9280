-- What is asked for before each of two roots.
use Rattle.std.proofs.Common.{◌≡◌, ℕ, zero, suc, ◌+◌, ◌<◌, ◌^◌, Bool, false, not, List, [], ◌∷◌, ◌++◌, length, filter, replicate, sym, ap, subst, ◌∙◌, arith}
use Rattle.std.specs.List.{All, slice_index_or}
use Rattle.std.proofs.lemmas.List.{length-map, length-replicate}
use Rattle.vlsi_base.specs.Member.{In, here, there}
use Rattle.bool_expr.specs.Expression.{bit, IsOver as IsWithin}
use Rattle.bool_expr.specs.View.{view}
use Rattle.bdd_core.specs.declared.node.NodeId.{NodeId}
use Rattle.bdd_core.specs.Truths.{constant, IsOver}
use Rattle.machine_core.specs.Machine.{Machine}
use Rattle.bdd_core.specs.Nodes.{raised}
use Rattle.bdd_core.specs.Diagram.{Diagram, IsNode, function_of, Keeps}
use Rattle.bdd_core.proofs.Asking.{bound_kept}
use Rattle.machine_core.specs.Order.{EachReadsBelow}
use Rattle.machine_walk.specs.declared.walking.WalkedNames.{WalkedNames}
use Rattle.machine_walk.specs.Expansion.{held_count}
use Rattle.machine_roots.specs.Binding.{AreNodes}
use Rattle.machine_walk.proofs.Names.{length-vars}
use Rattle.machine_roots.proofs.Denoting.{length_put}
use Rattle.machine_roots.proofs.Members.{over_in}
use Rattle.machine_roots.proofs.Rooted.{order_within}
use Rattle.machine_roots.specs.declared.sharing.Cone.{Cone}
use Rattle.machine_roots.specs.declared.sharing.SharedDiagrams.{SharedDiagrams}
use Rattle.machine_roots.specs.Shared.{shared_lists, AreShared}
use Rattle.proof_joint.specs.Naming.{HaveSameNames}
use Rattle.proof_joint.specs.Together.{joint_lists}
use Rattle.proof_joint.specs.Joint.{IsWalked, cones_order, AreOver}
use Rattle.proof_joint.proofs.Joining.{same_count, joined_is, joint_few, joint_within, shared_counted}

pub bound_long : (order : List ℕ) (held most : ℕ) (s : SharedDiagrams) → AreShared order held most s → length s.bound.items ≡ held
bound_long order held most s w =
    sym (length-map s.bound.items (function_of s.diagrams)) ∙ ap length w.functions
    ∙ length_put (length order) 0 order (replicate held (raised (length order) (constant false))) ∙ length-replicate held (raised (length order) (constant false))

-- one root, where as many nodes are bound as its machine has inputs and registers
module _ (c : Cone) (names : WalkedNames) (w : IsWalked c names) (bound : List NodeId) (long : length bound ≡ held_count c.machine.now) where
  all : length c.machine.now.vars ≡ length bound + length c.machine.now.equations
  all = length-vars c.machine.now w.cone.checked.ordered ∙ ap (λ (n : ℕ). n + length c.machine.now.equations) (sym long)

  pub marks_long : (met : List Bool) → met ≡ names.met.items → length met ≡ length bound + length c.machine.now.equations
  marks_long met is = ap length is ∙ w.met.each ∙ all

  pub reads_below : EachReadsBelow (length bound) c.machine.now.equations
  reads_below = subst (λ (n : ℕ). EachReadsBelow n c.machine.now.equations) (sym long) w.cone.checked.ordered.below

  pub root_within : IsWithin (view c.root.now) (length bound + length c.machine.now.equations)
  root_within = subst (λ (n : ℕ). IsWithin (view c.root.now) n) all w.cone.over

-- the function that is 0, as the diagrams that are shared have it, and later
pub zero_shared : (order : List ℕ) (held most : ℕ) (s : SharedDiagrams) → AreShared order held most s
    → IsNode s.diagrams s.zero × (function_of s.diagrams s.zero ≡ raised s.diagrams.table.vars (constant false))
zero_shared order held most s w = (w.zero_node, w.zero_is ∙ ap (λ (n : ℕ). raised n (constant false)) (sym w.vars))

pub zero_later : (d0 d1 : Diagram) (node : NodeId) → Keeps d0 d1 → d1.table.vars ≡ d0.table.vars
    → IsNode d0 node × (function_of d0 node ≡ raised d0.table.vars (constant false)) → IsNode d1 node × (function_of d1 node ≡ raised d1.table.vars (constant false))
zero_later d0 d1 node keeps vars z =
    let k = keeps node z.0 in
    (k.0, k.1 ∙ z.1 ∙ ap (λ (n : ℕ). raised n (constant false)) (sym vars))

pub again_nodes : (order : List ℕ) (held most : ℕ) (s : SharedDiagrams) (d1 : Diagram) (again : List NodeId) → AreShared order held most s → Keeps s.diagrams d1 → again ≡ s.bound.items → AreNodes d1 again
again_nodes order held most s d1 again w keeps same =
    subst (λ (b : List NodeId). AreNodes d1 b) (sym same) (bound_kept s.diagrams d1 s.bound.items keeps w.nodes)

pub again_long : (order : List ℕ) (most : ℕ) (c e : Cone) (s : SharedDiagrams) (again : List NodeId) → HaveSameNames c.machine.now e.machine.now → AreShared order (held_count c.machine.now) most s
    → again ≡ s.bound.items → length again ≡ held_count e.machine.now
again_long order most c e s again names w same =
    ap length same ∙ bound_long order (held_count c.machine.now) most s w ∙ sym (same_count c.machine.now e.machine.now names)

-- ---- two walks

pub at_in_list : (order : List ℕ) (k d : ℕ) → k < length order → In (slice_index_or order k d) order
at_in_list [] k d w = absurd (omega arith)
at_in_list (x ∷ order) zero d w = here
at_in_list (x ∷ order) (suc k) d w = there (at_in_list order k d (omega arith))

module _ (c e : Cone) (names : HaveSameNames c.machine.now e.machine.now) (nc ne : WalkedNames) (wc : IsWalked c nc) (we : IsWalked e ne) where
  abbrev a : Machine
  a = c.machine.now

  abbrev b : Machine
  b = e.machine.now

  pub second_within : (order : List ℕ) → order ≡ ne.order.items → All (λ k. k < length nc.met.items) order
  second_within order is k d w =
      let low = order_within b we.cone.checked.ordered (view e.root.now) we.cone.over order (is ∙ we.order) k d w in
      let same = same_count a b names in
      let long = length-vars a wc.cone.checked.ordered in
      let each = wc.met.each in
      omega (arith, low, same, long, each)

  pub order_joined : (order second : List ℕ) → second ≡ ne.order.items → order ≡ nc.order.items ++ filter (λ k. not (bit nc.met.items k)) second → order ≡ cones_order c e
  order_joined order second is joined =
      joined_is a b names wc.cone.checked.ordered we.cone.checked.ordered (view c.root.now) (view e.root.now) wc.cone.over we.cone.over nc.met.items nc.order.items second order
      wc.met wc.order (is ∙ we.order) joined

  pub order_few : (order : List ℕ) → order ≡ cones_order c e → length order < 2 ^ 32
  order_few order is =
      let few = joint_few a b names wc.cone.checked.ordered we.cone.checked.ordered (view c.root.now) (view e.root.now) wc.cone.over we.cone.over in
      let long = length-vars a wc.cone.checked.ordered in
      omega (arith, few, long, wc.cone.few, ap length is)

  pub order_held : (order : List ℕ) (n : ℕ) → order ≡ cones_order c e → n ≡ held_count c.machine.now → All (λ k. k < n) order
  order_held order n is held k d w =
      let low = joint_within a b names wc.cone.checked.ordered we.cone.checked.ordered (view c.root.now) (view e.root.now) wc.cone.over we.cone.over (slice_index_or order k d)
      (subst (λ (o : List ℕ). In (slice_index_or order k d) o) is (at_in_list order k d w)) in
      omega (arith, low, held)

  pub shared_over : (order : List ℕ) (budget : ℕ) → order ≡ cones_order c e → IsOver (shared_lists (length order)) budget → AreOver c e budget
  shared_over order budget is over =
      over_in (shared_lists (length (cones_order c e))) (joint_lists a b (view c.root.now) (view e.root.now)) budget
      (shared_counted a b names wc.cone.checked.ordered we.cone.checked.ordered (view c.root.now) (view e.root.now) wc.cone.over we.cone.over nc.met.items wc.met ne.met.items we.met)
      (subst (λ (o : List ℕ). IsOver (shared_lists (length o)) budget) is over)

-- the same of the roots that were given
pub over_given : (c e c' e' : Cone) (budget : ℕ) → c' ≡ c → e' ≡ e → AreOver c' e' budget → AreOver c e budget
over_given c e c' e' budget p q o = subst (λ (x : Cone). AreOver x e budget) p (subst (λ (x : Cone). AreOver c' x budget) q o)

pub names_given : (c e c' e' : Cone) → c' ≡ c → e' ≡ e → HaveSameNames c.machine.now e.machine.now → HaveSameNames c'.machine.now e'.machine.now
names_given c e c' e' p q n =
    subst (λ (x : Cone). HaveSameNames x.machine.now e'.machine.now) (sym p) (subst (λ (x : Cone). HaveSameNames c.machine.now x.machine.now) (sym q) n)
