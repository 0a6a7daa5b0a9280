use Rattle.std.proofs.Common.{List, Bool, sym, subst, refl, ◌∙◌}
use Rattle.std.proofs.lemmas.Result.{err_from_is_err_and}
use Rattle.bool_expr.specs.View.{view}
use Rattle.machine_walk.specs.Walk.{AreMet}
use Rattle.proof_joint.proofs.Both.{bound_long, marks_long, reads_below, root_within, zero_shared, zero_later, again_nodes, again_long}
use Rattle.proof_joint.proofs.Rooting.{first_refused, second_refused, both_are}
use Rattle.proof_joint.proofs.joint.both_roots.Goals as goal

pub root_node-requires-clause-zero : goal.root_node-requires-clause-zero
root_node-requires-clause-zero c = zero_shared _ _ _ c.args.shared c.requires.shared.1

pub root_node-requires-clause-marks : goal.root_node-requires-clause-marks
root_node-requires-clause-marks c =
    marks_long c.args.first.now.cone c.args.first.now.names c.requires.first c.args.shared.bound.items (bound_long _ _ _ c.args.shared c.requires.shared.1)
    c.deref-2.result.now c.deref-2.ensures.value

pub root_node-requires-clause-below : goal.root_node-requires-clause-below
root_node-requires-clause-below c =
    reads_below c.args.first.now.cone c.args.first.now.names c.requires.first c.args.shared.bound.items (bound_long _ _ _ c.args.shared c.requires.shared.1)

pub root_node-requires-clause-over : goal.root_node-requires-clause-over
root_node-requires-clause-over c =
    root_within c.args.first.now.cone c.args.first.now.names c.requires.first c.args.shared.bound.items (bound_long _ _ _ c.args.shared c.requires.shared.1)

pub root_node-requires-2-clause-nodes : goal.root_node-requires-2-clause-nodes
root_node-requires-2-clause-nodes c =
    again_nodes _ _ _ c.args.shared c.root_node.new.diagrams c.in_ok-again.again.items c.requires.shared.1 c.in_ok-root.ensures.asked.keeps (c.in_ok-again.ensures.items ∙ c.deref.ensures.value)

pub root_node-requires-2-clause-zero : goal.root_node-requires-2-clause-zero
root_node-requires-2-clause-zero c =
    zero_later c.args.shared.diagrams c.root_node.new.diagrams c.args.shared.zero c.in_ok-root.ensures.asked.keeps c.in_ok-root.ensures.asked.vars (zero_shared _ _ _ c.args.shared c.requires.shared.1)

pub root_node-requires-2-clause-marks : goal.root_node-requires-2-clause-marks
root_node-requires-2-clause-marks c =
    marks_long c.args.second.now.cone c.args.second.now.names c.requires.second c.in_ok-again.again.items
    (again_long _ _ c.args.first.now.cone c.args.second.now.cone c.args.shared c.in_ok-again.again.items c.requires.names c.requires.shared.1 (c.in_ok-again.ensures.items ∙ c.deref.ensures.value))
    c.deref-3.result.now c.deref-3.ensures.value

pub root_node-requires-2-clause-below : goal.root_node-requires-2-clause-below
root_node-requires-2-clause-below c =
    reads_below c.args.second.now.cone c.args.second.now.names c.requires.second c.in_ok-again.again.items
    (again_long _ _ c.args.first.now.cone c.args.second.now.cone c.args.shared c.in_ok-again.again.items c.requires.names c.requires.shared.1 (c.in_ok-again.ensures.items ∙ c.deref.ensures.value))

pub root_node-requires-2-clause-over : goal.root_node-requires-2-clause-over
root_node-requires-2-clause-over c =
    root_within c.args.second.now.cone c.args.second.now.names c.requires.second c.in_ok-again.again.items
    (again_long _ _ c.args.first.now.cone c.args.second.now.cone c.args.shared c.in_ok-again.again.items c.requires.names c.requires.shared.1 (c.in_ok-again.ensures.items ∙ c.deref.ensures.value))

pub returns-in_err-root-clause-over : goal.returns-in_err-root-clause-over
returns-in_err-root-clause-over c =
    let a = c.args.first.now.cone.machine.now in
    let b = c.args.second.now.cone.machine.now in
    let x = view c.args.first.now.cone.root.now in
    let y = view c.args.second.now.cone.root.now in
    let wa = c.requires.first in
    let wb = c.requires.second in
    let met = subst (λ (l : List Bool). AreMet a x l) (sym c.deref-2.ensures.value) wa.met in
    let p = err_from_is_err_and c.from_residual-in_err-root.result c.from_residual-in_err-root.ensures.1 in
    rw (p.1, p.2) (λ is budget shared.
    first_refused a b c.requires.names wa.cone.checked.ordered wb.cone.checked.ordered x y wa.cone.over wb.cone.over c.deref-2.result.now met c.args.second.now.names.met.items wb.met
    budget c.args.order.items c.requires.order c.args.shared shared c.args.shared.bound.items refl c.root_node.new.diagrams c.in_err-root.field-0.0 c.in_err-root.ensures.asked is)

pub returns-in_err-other-clause-over : goal.returns-in_err-other-clause-over
returns-in_err-other-clause-over c =
    let a = c.args.first.now.cone.machine.now in
    let b = c.args.second.now.cone.machine.now in
    let x = view c.args.first.now.cone.root.now in
    let y = view c.args.second.now.cone.root.now in
    let wa = c.requires.first in
    let wb = c.requires.second in
    let met = subst (λ (l : List Bool). AreMet a x l) (sym c.deref-2.ensures.value) wa.met in
    let other = subst (λ (l : List Bool). AreMet b y l) (sym c.deref-3.ensures.value) wb.met in
    let p = err_from_is_err_and c.from_residual-in_err-other.result c.from_residual-in_err-other.ensures.1 in
    rw (p.1, p.2) (λ is budget shared.
    second_refused a b c.requires.names wa.cone.checked.ordered wb.cone.checked.ordered x y wa.cone.over wb.cone.over c.deref-2.result.now met c.deref-3.result.now other
    budget c.args.order.items c.requires.order c.args.shared shared c.args.shared.bound.items refl c.root_node.new.diagrams c.in_ok-root.root c.in_ok-root.ensures.asked c.in_ok-root.ensures.node
    c.in_ok-again.again.items (c.in_ok-again.ensures.items ∙ c.deref.ensures.value) c.root_node-2.new.diagrams c.in_err-other.field-0.0 c.in_err-other.ensures.asked is)

pub returns-clause-diagram : goal.returns-clause-diagram
returns-clause-diagram c =
    let a = c.args.first.now.cone.machine.now in
    let b = c.args.second.now.cone.machine.now in
    let x = view c.args.first.now.cone.root.now in
    let y = view c.args.second.now.cone.root.now in
    let wa = c.requires.first in
    let wb = c.requires.second in
    let met = subst (λ (l : List Bool). AreMet a x l) (sym c.deref-2.ensures.value) wa.met in
    let other = subst (λ (l : List Bool). AreMet b y l) (sym c.deref-3.ensures.value) wb.met in
    let budget = c.requires.shared.0 in
    let shared = c.requires.shared.1 in
    let both = both_are a b c.requires.names wa.cone.checked.ordered wb.cone.checked.ordered x y wa.cone.over wb.cone.over c.deref-2.result.now met c.deref-3.result.now other
    budget c.args.order.items c.requires.order c.args.shared shared c.args.shared.bound.items refl c.root_node.new.diagrams c.in_ok-root.root c.in_ok-root.ensures.asked c.in_ok-root.ensures.node
    c.in_ok-again.again.items (c.in_ok-again.ensures.items ∙ c.deref.ensures.value) c.root_node-2.new.diagrams c.in_ok-other.other c.in_ok-other.ensures.asked c.in_ok-other.ensures.node in
    record {
      order = c.requires.order;
      vars = both.vars;
      first_node = both.first_node;
      first_is = both.first_is;
      second_node = both.second_node;
      second_is = both.second_is;
    }

pub returns-clause-within : goal.returns-clause-within
returns-clause-within c =
    let a = c.args.first.now.cone.machine.now in
    let b = c.args.second.now.cone.machine.now in
    let x = view c.args.first.now.cone.root.now in
    let y = view c.args.second.now.cone.root.now in
    let wa = c.requires.first in
    let wb = c.requires.second in
    let met = subst (λ (l : List Bool). AreMet a x l) (sym c.deref-2.ensures.value) wa.met in
    let other = subst (λ (l : List Bool). AreMet b y l) (sym c.deref-3.ensures.value) wb.met in
    λ budget shared over.
    (both_are a b c.requires.names wa.cone.checked.ordered wb.cone.checked.ordered x y wa.cone.over wb.cone.over c.deref-2.result.now met c.deref-3.result.now other
    budget c.args.order.items c.requires.order c.args.shared shared c.args.shared.bound.items refl c.root_node.new.diagrams c.in_ok-root.root c.in_ok-root.ensures.asked c.in_ok-root.ensures.node
    c.in_ok-again.again.items (c.in_ok-again.ensures.items ∙ c.deref.ensures.value) c.root_node-2.new.diagrams c.in_ok-other.other c.in_ok-other.ensures.asked c.in_ok-other.ensures.node).within over
