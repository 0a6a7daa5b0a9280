use Rattle.std.proofs.Common.{◌≡◌, ◌∙◌, ℕ, Bool, List, map, refl, sym, ap, subst, arith}
use Rattle.std.proofs.lemmas.Result.{err_from_is_err_and}
use Rattle.bool_expr.specs.View.{view}
use Rattle.machine_core.specs.View.{equation_view}
use Rattle.machine_walk.specs.Walk.{AreMet}
use Rattle.machine_walk.proofs.Names.{length-vars}
use Rattle.machine_walk.proofs.Stacks.{frame}
use Rattle.machine_roots.specs.Shared.{AreShared}
use Rattle.machine_roots.proofs.Rooted.{shared_over, marks_long, reads_below, root_within, root_over, rooted, order_few, order_within}
use Rattle.machine_roots.proofs.diagram.root_diagram.Goals as goal

pub share-requires-clause-few : goal.share-requires-clause-few
share-requires-clause-few c =
    let m = c.args.m.now in
    let ordered = c.equations.ensures.checked.ordered in
    let order_is = c.deref.ensures.value ∙ c.in-Ok.ensures.order in
    let few = order_few m ordered (view c.args.e.now) c.requires.over c.deref.result.now order_is in
    omega (arith, few, length-vars m ordered, c.requires.few)

pub share-requires-clause-within : goal.share-requires-clause-within
share-requires-clause-within c =
    let m = c.args.m.now in
    let ordered = c.equations.ensures.checked.ordered in
    let es : map equation_view c.as_slice-equations.result.now ≡ m.equations = ap (map equation_view) c.as_slice-equations.ensures ∙ c.equations.ensures.value in
    let f = frame m ordered c.as_slice.result.now c.as_slice-equations.result.now (c.as_slice.ensures ∙ c.vars.ensures.value) es in
    let order_is = c.deref.ensures.value ∙ c.in-Ok.ensures.order in
    λ k d w. (let low = order_within m ordered (view c.args.e.now) c.requires.over c.deref.result.now order_is k d w in omega (arith, low, f.1))

pub returns-in_err-diagrams-clause-over : goal.returns-in_err-diagrams-clause-over
returns-in_err-diagrams-clause-over c =
    let m = c.args.m.now in
    let ordered = c.equations.ensures.checked.ordered in
    let order_is = c.deref.ensures.value ∙ c.in-Ok.ensures.order in
    let p = err_from_is_err_and c.from_residual.result c.from_residual.ensures.1 in
    rw (p.1, p.2) (λ refused. shared_over m ordered (view c.args.e.now) c.requires.over c.in-Ok.walked.met.items c.in-Ok.ensures.met c.args.budget c.deref.result.now order_is
    (c.in_err-diagrams.ensures.over refused))

pub root_node-requires-clause-marks : goal.root_node-requires-clause-marks
root_node-requires-clause-marks c =
    let m = c.args.m.now in
    let ordered = c.equations.ensures.checked.ordered in
    let es : map equation_view c.as_slice-equations.result.now ≡ m.equations = ap (map equation_view) c.as_slice-equations.ensures ∙ c.equations.ensures.value in
    let f = frame m ordered c.as_slice.result.now c.as_slice-equations.result.now (c.as_slice.ensures ∙ c.vars.ensures.value) es in
    let order_is = c.deref.ensures.value ∙ c.in-Ok.ensures.order in
    let marks = subst (λ (w : List Bool). AreMet m (view c.args.e.now) w) (sym c.deref-2.ensures.value) c.in-Ok.ensures.met in
    let shared = subst (λ (held : ℕ). AreShared c.deref.result.now held c.args.budget c.in_ok-diagrams.field-0) f.1 c.in_ok-diagrams.ensures.shared in
    marks_long m ordered (view c.args.e.now) c.requires.over c.deref-2.result.now marks c.args.budget c.deref.result.now order_is c.in_ok-diagrams.field-0 shared

pub root_node-requires-clause-below : goal.root_node-requires-clause-below
root_node-requires-clause-below c =
    let m = c.args.m.now in
    let ordered = c.equations.ensures.checked.ordered in
    let es : map equation_view c.as_slice-equations.result.now ≡ m.equations = ap (map equation_view) c.as_slice-equations.ensures ∙ c.equations.ensures.value in
    let f = frame m ordered c.as_slice.result.now c.as_slice-equations.result.now (c.as_slice.ensures ∙ c.vars.ensures.value) es in
    let order_is = c.deref.ensures.value ∙ c.in-Ok.ensures.order in
    let marks = subst (λ (w : List Bool). AreMet m (view c.args.e.now) w) (sym c.deref-2.ensures.value) c.in-Ok.ensures.met in
    let shared = subst (λ (held : ℕ). AreShared c.deref.result.now held c.args.budget c.in_ok-diagrams.field-0) f.1 c.in_ok-diagrams.ensures.shared in
    reads_below m ordered (view c.args.e.now) c.requires.over c.deref-2.result.now marks c.args.budget c.deref.result.now order_is c.in_ok-diagrams.field-0 shared

pub root_node-requires-clause-over : goal.root_node-requires-clause-over
root_node-requires-clause-over c =
    let m = c.args.m.now in
    let ordered = c.equations.ensures.checked.ordered in
    let es : map equation_view c.as_slice-equations.result.now ≡ m.equations = ap (map equation_view) c.as_slice-equations.ensures ∙ c.equations.ensures.value in
    let f = frame m ordered c.as_slice.result.now c.as_slice-equations.result.now (c.as_slice.ensures ∙ c.vars.ensures.value) es in
    let order_is = c.deref.ensures.value ∙ c.in-Ok.ensures.order in
    let marks = subst (λ (w : List Bool). AreMet m (view c.args.e.now) w) (sym c.deref-2.ensures.value) c.in-Ok.ensures.met in
    let shared = subst (λ (held : ℕ). AreShared c.deref.result.now held c.args.budget c.in_ok-diagrams.field-0) f.1 c.in_ok-diagrams.ensures.shared in
    root_within m ordered (view c.args.e.now) c.requires.over c.deref-2.result.now marks c.args.budget c.deref.result.now order_is c.in_ok-diagrams.field-0 shared

pub returns-in_err-root-clause-over : goal.returns-in_err-root-clause-over
returns-in_err-root-clause-over c =
    let m = c.args.m.now in
    let ordered = c.equations.ensures.checked.ordered in
    let es : map equation_view c.as_slice-equations.result.now ≡ m.equations = ap (map equation_view) c.as_slice-equations.ensures ∙ c.equations.ensures.value in
    let f = frame m ordered c.as_slice.result.now c.as_slice-equations.result.now (c.as_slice.ensures ∙ c.vars.ensures.value) es in
    let order_is = c.deref.ensures.value ∙ c.in-Ok.ensures.order in
    let marks = subst (λ (w : List Bool). AreMet m (view c.args.e.now) w) (sym c.deref-2.ensures.value) c.in-Ok.ensures.met in
    let shared = subst (λ (held : ℕ). AreShared c.deref.result.now held c.args.budget c.in_ok-diagrams.field-0) f.1 c.in_ok-diagrams.ensures.shared in
    let p = err_from_is_err_and c.from_residual-in_err-root.result c.from_residual-in_err-root.ensures.1 in
    rw (p.1, p.2)
    (root_over m ordered (view c.args.e.now) c.requires.over c.deref-2.result.now marks c.args.budget c.deref.result.now order_is c.in_ok-diagrams.field-0 shared
    c.root_node.new.diagrams c.in_err-root.field-0.0 c.in_err-root.ensures.asked)

pub returns-clause-diagram : goal.returns-clause-diagram
returns-clause-diagram c =
    let m = c.args.m.now in
    let ordered = c.equations.ensures.checked.ordered in
    let es : map equation_view c.as_slice-equations.result.now ≡ m.equations = ap (map equation_view) c.as_slice-equations.ensures ∙ c.equations.ensures.value in
    let f = frame m ordered c.as_slice.result.now c.as_slice-equations.result.now (c.as_slice.ensures ∙ c.vars.ensures.value) es in
    let order_is = c.deref.ensures.value ∙ c.in-Ok.ensures.order in
    let marks = subst (λ (w : List Bool). AreMet m (view c.args.e.now) w) (sym c.deref-2.ensures.value) c.in-Ok.ensures.met in
    let shared = subst (λ (held : ℕ). AreShared c.deref.result.now held c.args.budget c.in_ok-diagrams.field-0) f.1 c.in_ok-diagrams.ensures.shared in
    rooted m ordered (view c.args.e.now) c.requires.over c.deref-2.result.now marks c.args.budget c.deref.result.now order_is c.in_ok-diagrams.field-0 shared
    (record { diagrams = c.root_node.new.diagrams; root = c.in_ok-root.root; zero = c.in_ok-diagrams.field-0.zero; order = c.in-Ok.walked.order })
    (sym c.deref.ensures.value) refl c.in_ok-root.ensures.asked c.in_ok-root.ensures.node
