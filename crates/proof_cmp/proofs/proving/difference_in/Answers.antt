use Rattle.std.proofs.Common.{◌≡◌, ◌-◌, ℕ, Bool, List, length, map, ap, subst, ◌∙◌, arith}
use Rattle.machine_core.specs.View.{equation_view}
use Rattle.machine_walk.proofs.Stacks.{frame}
use Rattle.proof_joint.specs.Bits.{AreSpread}
use Rattle.proof_cmp.proofs.Comparing.{one_function, first_value, second_value, first_computes, second_computes, differ_on, order_fits, order_apart, order_inside}
use Rattle.proof_cmp.proofs.proving.difference_in.Goals as goal

pub returns-then-same-clause-none : goal.returns-then-same-clause-none
returns-then-same-clause-none c = λ b x y j w. one_function c.args.m.now b x y c.args.joint.now j.roots j.diagram (c.same.ensures.0 c.if-same.true) w

pub overflow_cast-vars : goal.overflow_cast-vars
overflow_cast-vars c =
    let j = c.requires.joint in
    let fits = order_fits c.args.m.now j.0 j.1 j.2 c.args.joint.now j.3 c.requires.few in
    omega (arith, fits, ap length c.as_slice-order.ensures.value)

pub spread_bits-requires-clause-different : goal.spread_bits-requires-clause-different
spread_bits-requires-clause-different c =
    let j = c.requires.joint in
    order_apart c.args.m.now j.0 j.1 j.2 c.args.joint.now j.3 c.as_slice-order.result.now c.as_slice-order.ensures.value

pub spread_bits-requires-clause-within : goal.spread_bits-requires-clause-within
spread_bits-requires-clause-within c =
    let j = c.requires.joint in
    let es : map equation_view c.as_slice-2.result.now ≡ c.args.m.now.equations = ap (map equation_view) c.as_slice-2.ensures ∙ c.equations.ensures.value in
    let f = frame c.args.m.now j.3.roots.first.ordered c.as_slice.result.now c.as_slice-2.result.now (c.as_slice.ensures ∙ c.vars.ensures.value) es in
    order_inside c.args.m.now j.0 j.1 j.2 c.args.joint.now j.3 c.as_slice-order.result.now (length c.as_slice.result.now - length c.as_slice-2.result.now) c.as_slice-order.ensures.value f.1

pub returns-clause-some : goal.returns-clause-some
returns-clause-some c =
    let m = c.args.m.now in
    let d = c.args.joint.now in
    let spread : AreSpread c.args.joint.now.order.items c.in_ok-bits.bits.items c.in_ok-spread.spread.items =
    subst (λ (o : List ℕ). AreSpread o c.in_ok-bits.bits.items c.in_ok-spread.spread.items) c.as_slice-order.ensures.value
    (subst (λ (l : List Bool). AreSpread c.as_slice-order.result.now l c.in_ok-spread.spread.items) c.deref.ensures.value c.in_ok-spread.ensures.spread) in
    λ b x y j. differ_on m b x y d j.roots j.diagram c.in_ok-bits.bits.items c.in_ok-spread.spread.items c.in_ok-given.given.items
    (c.in_ok-bits.ensures.differ (first_value m b x y d j.roots j.diagram) (second_value m b x y d j.roots j.diagram) (first_computes m b x y d j.roots j.diagram)
    (second_computes m b x y d j.roots j.diagram))
    spread c.in_ok-given.ensures.length (c.in_ok-given.ensures.values ∙ c.deref-2.ensures.value)
