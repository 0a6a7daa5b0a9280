use Rattle.std.proofs.Common.{◌≡◌, ◌-◌, ◌<◌, length, map, Some, slice_get, ℕ, arith, sym, subst, ◌∙◌}
use Rattle.bool_expr.specs.View.{view}
use Rattle.machine_core.specs.View.{equation_view}
use Rattle.boom_literal.specs.declared.literal.Literal.{Literal}
use Rattle.boom_muxes.proofs.Led.{following_none, followed, following_next, next_smaller, shown_place, place_within, some_at, none_at}
use Rattle.boom_muxes.proofs.plan.follow.Goals as goal
use Rattle.boom_muxes.proofs.plan.follow.Goals.{then-place-held-via-then-place-held, then-place-held-via-else-place-held+then-is_some}

pub loop-rest-init : goal.loop-rest-init
loop-rest-init c = following_none c.args.held (map equation_view c.args.equations.now) c.args.literal (view c.args.e.now) c.args.plan.now.items c.requires.below

pub returns-then-place-held : goal.returns-then-place-held
returns-then-place-held c =
    followed c.args.held (map equation_view c.args.equations.now) c.args.literal (view c.args.e.now) (view c.loop-rest.rest.now) c.args.plan.now.items c.loop-rest.plan.items c.loop-rest.invariant
    (λ j shows. elim c.then-place-held.branch [
      | then-place-held-via-then-place-held w ↦ absurd (let p = shown_place c.args.held c.loop-rest.rest.now c.in-Var.k j c.in-Var.is shows in let q = w.if-place-held.true in omega (arith, p, q))
      | then-place-held-via-else-place-held+then-is_some w ↦ (let p = shown_place c.args.held c.loop-rest.rest.now c.in-Var.k j c.in-Var.is shows in
          let here : c.in-Var.k - c.args.held ≡ j = omega (arith, p) in
          let inside = place_within c.args.held c.args.equations.now c.loop-rest.rest.now c.in-Var.k c.in-Var.is w.if-place-held.false c.loop-rest.invariant.within in
          let each = c.loop-rest.invariant.each in
          let count = c.requires.count in
          subst (λ (i : ℕ). (k : Literal) × (slice_get c.loop-rest.plan.items i ≡ Some (Some k))) here
          (some_at c.loop-rest.plan.items (c.in-Var.k - c.args.held) w.index.result.now (omega (arith, inside, each, count)) w.index.ensures (sym w.is_some.ensures ∙ w.if-is_some.true)))
    ])

pub loop-rest-smaller : goal.loop-rest-smaller
loop-rest-smaller c =
    next_smaller c.args.held c.args.equations.now c.args.e.now c.loop-rest.rest.now c.in-Var.k c.index-equations-place.result c.in-Var.is c.if-place-held.false
    (place_within c.args.held c.args.equations.now c.loop-rest.rest.now c.in-Var.k c.in-Var.is c.if-place-held.false c.loop-rest.invariant.within) c.requires.below

pub loop-rest-preserved : goal.loop-rest-preserved
loop-rest-preserved c =
    let inside = place_within c.args.held c.args.equations.now c.loop-rest.rest.now c.in-Var.k c.in-Var.is c.if-place-held.false c.loop-rest.invariant.within in
    let each = c.loop-rest.invariant.each in
    let count = c.requires.count in
    let within : c.in-Var.k - c.args.held < length c.loop-rest.plan.items = omega (arith, inside, each, count) in
    following_next c.args.held c.args.equations.now c.args.literal c.args.e.now c.loop-rest.rest.now c.args.plan.now.items c.loop-rest.plan.items c.in-Var.k c.index-equations-place.result c.loop-rest.invariant c.in-Var.is
    c.if-place-held.false within (omega (arith, each, count))
    (none_at c.loop-rest.plan.items (c.in-Var.k - c.args.held) c.index.result.now within c.index.ensures (sym c.is_some.ensures ∙ c.if-is_some.false)) c.requires.below
