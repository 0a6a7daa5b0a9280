use Rattle.std.proofs.Common.{◌≡◌, ℕ, ◌-◌, List, length, map, sym, ap, subst, ◌∙◌}
use Rattle.std.proofs.lemmas.Result.{err_from_is_err_and, IfOk-weaker, IfErr-weaker}
use Rattle.machine_core.specs.View.{equation_view}
use Rattle.machine_walk.specs.Expansion.{held_count}
use Rattle.machine_walk.proofs.Stacks.{frame}
use Rattle.machine_roots.specs.declared.sharing.Cone.{Cone}
use Rattle.machine_roots.specs.Shared.{AreShared}
use Rattle.proof_joint.proofs.Both.{second_within, order_joined, order_few, order_held, shared_over, over_given, names_given}
use Rattle.proof_joint.proofs.joint.joint_diagram.Goals as goal

pub joined_order-requires : goal.joined_order-requires
joined_order-requires c =
    let rc = c.in_ok-root.root.cone in
    let oc = c.in_ok-other.other.cone in
    let ea = c.in_ok-root.ensures.cone in
    let eb = c.in_ok-other.ensures.cone in
    let names = names_given c.args.first c.args.second rc oc ea eb c.requires.names in
    let wa = c.in_ok-root.ensures.names in
    let wb = c.in_ok-other.ensures.names in
    record { within = second_within rc oc names c.in_ok-root.root.names c.in_ok-other.other.names wa wb c.deref.result.now c.deref.ensures.value }

pub share-requires-clause-few : goal.share-requires-clause-few
share-requires-clause-few c =
    let rc = c.in_ok-root.root.cone in
    let oc = c.in_ok-other.other.cone in
    let ea = c.in_ok-root.ensures.cone in
    let eb = c.in_ok-other.ensures.cone in
    let names = names_given c.args.first c.args.second rc oc ea eb c.requires.names in
    let wa = c.in_ok-root.ensures.names in
    let wb = c.in_ok-other.ensures.names in
    let is = order_joined rc oc names c.in_ok-root.root.names c.in_ok-other.other.names wa wb c.in_ok-order.order.items c.deref.result.now c.deref.ensures.value c.in_ok-order.ensures.items in
    order_few rc oc names c.in_ok-root.root.names c.in_ok-other.other.names wa wb c.deref-2.result.now (c.deref-2.ensures.value ∙ is)

pub share-requires-clause-within : goal.share-requires-clause-within
share-requires-clause-within c =
    let rc = c.in_ok-root.root.cone in
    let oc = c.in_ok-other.other.cone in
    let ea = c.in_ok-root.ensures.cone in
    let eb = c.in_ok-other.ensures.cone in
    let names = names_given c.args.first c.args.second rc oc ea eb c.requires.names in
    let wa = c.in_ok-root.ensures.names in
    let wb = c.in_ok-other.ensures.names in
    let is = order_joined rc oc names c.in_ok-root.root.names c.in_ok-other.other.names wa wb c.in_ok-order.order.items c.deref.result.now c.deref.ensures.value c.in_ok-order.ensures.items in
    let es : map equation_view c.as_slice-equations.result.now ≡ c.args.first.machine.now.equations = ap (map equation_view) c.as_slice-equations.ensures ∙ c.equations.ensures.value in
    let f = frame c.args.first.machine.now c.requires.first.checked.ordered c.as_slice.result.now c.as_slice-equations.result.now (c.as_slice.ensures ∙ c.vars.ensures.value) es in
    let held : length c.as_slice.result.now - length c.as_slice-equations.result.now ≡ held_count c.in_ok-root.root.cone.machine.now = f.1 ∙ ap (λ (x : Cone). held_count x.machine.now) (sym ea) in
    order_held rc oc names c.in_ok-root.root.names c.in_ok-other.other.names wa wb c.deref-2.result.now _ (c.deref-2.ensures.value ∙ is) held

pub returns-in_err-shared-clause-over : goal.returns-in_err-shared-clause-over
returns-in_err-shared-clause-over c =
    let rc = c.in_ok-root.root.cone in
    let oc = c.in_ok-other.other.cone in
    let ea = c.in_ok-root.ensures.cone in
    let eb = c.in_ok-other.ensures.cone in
    let names = names_given c.args.first c.args.second rc oc ea eb c.requires.names in
    let wa = c.in_ok-root.ensures.names in
    let wb = c.in_ok-other.ensures.names in
    let is = order_joined rc oc names c.in_ok-root.root.names c.in_ok-other.other.names wa wb c.in_ok-order.order.items c.deref.result.now c.deref.ensures.value c.in_ok-order.ensures.items in
    let p = err_from_is_err_and c.from_residual-in_err-shared.result c.from_residual-in_err-shared.ensures.1 in
    rw (p.1, p.2) (λ e. over_given c.args.first c.args.second rc oc c.args.budget ea eb
    (shared_over rc oc names c.in_ok-root.root.names c.in_ok-other.other.names wa wb c.deref-2.result.now c.args.budget (c.deref-2.ensures.value ∙ is) (c.in_err-shared.ensures.over e)))

pub both_roots-requires-clause-order : goal.both_roots-requires-clause-order
both_roots-requires-clause-order c =
    let rc = c.in_ok-root.root.cone in
    let oc = c.in_ok-other.other.cone in
    let ea = c.in_ok-root.ensures.cone in
    let eb = c.in_ok-other.ensures.cone in
    let names = names_given c.args.first c.args.second rc oc ea eb c.requires.names in
    let wa = c.in_ok-root.ensures.names in
    let wb = c.in_ok-other.ensures.names in
    let is = order_joined rc oc names c.in_ok-root.root.names c.in_ok-other.other.names wa wb c.in_ok-order.order.items c.deref.result.now c.deref.ensures.value c.in_ok-order.ensures.items in
    is

pub both_roots-requires-clause-shared : goal.both_roots-requires-clause-shared
both_roots-requires-clause-shared c =
    let ea = c.in_ok-root.ensures.cone in
    let es : map equation_view c.as_slice-equations.result.now ≡ c.args.first.machine.now.equations = ap (map equation_view) c.as_slice-equations.ensures ∙ c.equations.ensures.value in
    let f = frame c.args.first.machine.now c.requires.first.checked.ordered c.as_slice.result.now c.as_slice-equations.result.now (c.as_slice.ensures ∙ c.vars.ensures.value) es in
    let held : length c.as_slice.result.now - length c.as_slice-equations.result.now ≡ held_count c.in_ok-root.root.cone.machine.now = f.1 ∙ ap (λ (x : Cone). held_count x.machine.now) (sym ea) in
    let shared : AreShared c.in_ok-order.order.items (held_count c.in_ok-root.root.cone.machine.now) c.args.budget c.in_ok-shared.shared =
    subst (λ (o : List ℕ). AreShared o (held_count c.in_ok-root.root.cone.machine.now) c.args.budget c.in_ok-shared.shared) c.deref-2.ensures.value
    (subst (λ (h : ℕ). AreShared c.deref-2.result.now h c.args.budget c.in_ok-shared.shared) held c.in_ok-shared.ensures.shared) in
    (c.args.budget, shared)

pub returns-clause-within : goal.returns-clause-within
returns-clause-within c =
    let rc = c.in_ok-root.root.cone in
    let oc = c.in_ok-other.other.cone in
    let ea = c.in_ok-root.ensures.cone in
    let eb = c.in_ok-other.ensures.cone in
    let es : map equation_view c.as_slice-equations.result.now ≡ c.args.first.machine.now.equations = ap (map equation_view) c.as_slice-equations.ensures ∙ c.equations.ensures.value in
    let f = frame c.args.first.machine.now c.requires.first.checked.ordered c.as_slice.result.now c.as_slice-equations.result.now (c.as_slice.ensures ∙ c.vars.ensures.value) es in
    let held : length c.as_slice.result.now - length c.as_slice-equations.result.now ≡ held_count c.in_ok-root.root.cone.machine.now = f.1 ∙ ap (λ (x : Cone). held_count x.machine.now) (sym ea) in
    let shared : AreShared c.in_ok-order.order.items (held_count c.in_ok-root.root.cone.machine.now) c.args.budget c.in_ok-shared.shared =
    subst (λ (o : List ℕ). AreShared o (held_count c.in_ok-root.root.cone.machine.now) c.args.budget c.in_ok-shared.shared) c.deref-2.ensures.value
    (subst (λ (h : ℕ). AreShared c.deref-2.result.now h c.args.budget c.in_ok-shared.shared) held c.in_ok-shared.ensures.shared) in
    IfOk-weaker c.both_roots.result _ _ (λ d h o. h c.args.budget shared (over_given rc oc c.args.first c.args.second c.args.budget (sym ea) (sym eb) o)) c.both_roots.ensures.within

pub returns-clause-over : goal.returns-clause-over
returns-clause-over c =
    let rc = c.in_ok-root.root.cone in
    let oc = c.in_ok-other.other.cone in
    let ea = c.in_ok-root.ensures.cone in
    let eb = c.in_ok-other.ensures.cone in
    let es : map equation_view c.as_slice-equations.result.now ≡ c.args.first.machine.now.equations = ap (map equation_view) c.as_slice-equations.ensures ∙ c.equations.ensures.value in
    let f = frame c.args.first.machine.now c.requires.first.checked.ordered c.as_slice.result.now c.as_slice-equations.result.now (c.as_slice.ensures ∙ c.vars.ensures.value) es in
    let held : length c.as_slice.result.now - length c.as_slice-equations.result.now ≡ held_count c.in_ok-root.root.cone.machine.now = f.1 ∙ ap (λ (x : Cone). held_count x.machine.now) (sym ea) in
    let shared : AreShared c.in_ok-order.order.items (held_count c.in_ok-root.root.cone.machine.now) c.args.budget c.in_ok-shared.shared =
    subst (λ (o : List ℕ). AreShared o (held_count c.in_ok-root.root.cone.machine.now) c.args.budget c.in_ok-shared.shared) c.deref-2.ensures.value
    (subst (λ (h : ℕ). AreShared c.deref-2.result.now h c.args.budget c.in_ok-shared.shared) held c.in_ok-shared.ensures.shared) in
    IfErr-weaker c.both_roots.result _ _ (λ r h e. over_given c.args.first c.args.second rc oc c.args.budget ea eb (h e c.args.budget shared)) c.both_roots.ensures.over
