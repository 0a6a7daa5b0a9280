use Rattle.std.proofs.Common.{◌≡◌, ℕ, true, List, [], ◌∷◌, length, slice_index, ap, sym, subst, ◌∙◌, arith, length-append, inl, inr, refl, if◌then◌else◌}
use Rattle.std.specs.Global.{Vec}
use Rattle.std.proofs.lemmas.Bool.{cases_lt}
use Rattle.bool_expr.specs.Expression.{bit}
use Rattle.graph_theory.specs.Graph.{Node}
use Rattle.cell_match.specs.declared.cut.Cut.{Cut}
use Rattle.boog_tree.specs.Trees.{is_gate}
use Rattle.boog_tree.specs.Enough.{AreEnoughCuts}
use Rattle.boog_tree.specs.Joined.{HasItself}
use Rattle.boog_tree.proofs.Steps.{IsLow, parts_more, each_once, each_below, own_best, none_by, low_of, within_of, all_low}
use Rattle.boog_tree.proofs.bounds.are_within.Goals as goal

pub best_pick-pick-requires-clause-once : goal.best_pick-pick-requires-clause-once
best_pick-pick-requires-clause-once c =
    each_once c.args.held c.args.graph.now c.requires.earlier (slice_index c.args.bounds.now) (length c.deref.result.now) c.deref-in-loop-number.result.now
    (subst (λ (l : List (Cut 6)). AreEnoughCuts c.args.held c.args.graph.now (slice_index c.args.bounds.now) (length c.deref.result.now) l) (sym c.deref-in-loop-number.ensures.value) c.in_ok-cuts.ensures)

pub best_pick-pick-requires-clause-inner : goal.best_pick-pick-requires-clause-inner
best_pick-pick-requires-clause-inner c =
    let same = ap (λ (l : List (Vec (Cut 6))). length l) c.deref.ensures.value in
    each_below c.args.held c.args.graph.now c.requires.earlier (slice_index c.args.bounds.now) (length c.deref.result.now) c.deref-in-loop-number.result.now
    (subst (λ (l : List (Cut 6)). AreEnoughCuts c.args.held c.args.graph.now (slice_index c.args.bounds.now) (length c.deref.result.now) l) (sym c.deref-in-loop-number.ensures.value) c.in_ok-cuts.ensures)
    (length c.args.inner.now) (omega (arith, same, c.loop-number.invariant.many, c.loop-number-test.true))

pub best_pick-pick-requires-clause-bounds : goal.best_pick-pick-requires-clause-bounds
best_pick-pick-requires-clause-bounds c =
    let same = ap (λ (l : List (Vec (Cut 6))). length l) c.deref.ensures.value in
    each_below c.args.held c.args.graph.now c.requires.earlier (slice_index c.args.bounds.now) (length c.deref.result.now) c.deref-in-loop-number.result.now
    (subst (λ (l : List (Cut 6)). AreEnoughCuts c.args.held c.args.graph.now (slice_index c.args.bounds.now) (length c.deref.result.now) l) (sym c.deref-in-loop-number.ensures.value) c.in_ok-cuts.ensures)
    (length c.args.bounds.now) (omega (arith, same, c.loop-number.invariant.many, c.loop-number-test.true, c.requires.many, c.requires.inner.many))

pub returns-then-not-is_within : goal.returns-then-not-is_within
returns-then-not-is_within c = (
  λ e. cc,
  λ are.
      let same = ap (λ (l : List (Vec (Cut 6))). length l) c.deref.ensures.value in
      let here : length c.deref.result.now ≡ c.loop-number.number = omega (arith, same, c.loop-number.invariant.many) in
      let g = c.args.graph.now in
      let pick = c.best_pick-pick.result in
      let gate = c.is_gate-gate.ensures ∙ ap (λ (ns : List Node). is_gate c.args.held ns c.loop-number.number) c.nodes.ensures in
      let within = within_of c.args.cells.now c.args.areas.now c.args.held g c.args.bounds.now c.loop-number.number c.requires.narrow c.in_ok-cuts.cuts.items
      (subst (λ (n : ℕ). AreEnoughCuts c.args.held g (slice_index c.args.bounds.now) n c.in_ok-cuts.cuts.items) here c.in_ok-cuts.ensures) (bit c.args.inner.now) c.requires.inner.each c.is_gate-gate.result gate
      pick (own_best c.args.cells.now c.args.areas.now (bit c.args.inner.now) c.args.bounds.now c.deref-in-loop-number.result.now c.in_ok-cuts.cuts.items pick c.deref-in-loop-number.ensures.value c.best_pick-pick.ensures.some) are in
      let t = c.is_within.ensures.1 within in
      let f = c.if-not-is_within.true in
      cc,
)

pub loop-number-preserved : goal.loop-number-preserved
loop-number-preserved c =
    let same = ap (λ (l : List (Vec (Cut 6))). length l) c.deref.ensures.value in
    let here : length c.deref.result.now ≡ c.loop-number.number = omega (arith, same, c.loop-number.invariant.many) in
    let g = c.args.graph.now in
    let old = c.loop-number.parts.items in
    let pick = c.best_pick-pick.result in
    let longer = ap (λ (l : List (Vec (Cut 6))). length l) c.in_ok-push.ensures.items ∙ length-append old (c.in_ok-parts_of.field-0 ∷ []) in
    let gate = c.is_gate-gate.ensures ∙ ap (λ (ns : List Node). is_gate c.args.held ns c.loop-number.number) c.nodes.ensures in
    let f = c.if-not-is_within.false in
    let t : c.is_within.result ≡ true = cc in
    let low = low_of c.args.cells.now c.args.areas.now c.args.held g c.args.bounds.now c.loop-number.number c.requires.narrow c.in_ok-cuts.cuts.items
    (subst (λ (n : ℕ). AreEnoughCuts c.args.held g (slice_index c.args.bounds.now) n c.in_ok-cuts.cuts.items) here c.in_ok-cuts.ensures) (bit c.args.inner.now) c.requires.inner.each c.is_gate-gate.result gate
    pick (own_best c.args.cells.now c.args.areas.now (bit c.args.inner.now) c.args.bounds.now c.deref-in-loop-number.result.now c.in_ok-cuts.cuts.items pick c.deref-in-loop-number.ensures.value c.best_pick-pick.ensures.some)
    (none_by c.args.cells.now c.deref-in-loop-number.result.now c.in_ok-cuts.cuts.items pick c.deref-in-loop-number.ensures.value c.best_pick-pick.ensures.none) (c.is_within.ensures.0 t) in
    record {
      many = omega (arith, longer, c.loop-number.invariant.many);
      parts = parts_more c.args.held g (slice_index c.args.bounds.now) old c.push.new.self.items (bit c.args.inner.now (length old)) c.in_ok-cuts.cuts.items c.loop-number.invariant.parts
          (c.requires.inner.each (length old)) (subst (λ (n : ℕ). AreEnoughCuts c.args.held g (slice_index c.args.bounds.now) n c.in_ok-cuts.cuts.items) same c.in_ok-cuts.ensures)
          (record {
            parts = c.in_ok-parts_of.field-0;
            is = c.in_ok-push.ensures.items;
            has = subst (λ (k : ℕ). HasItself k (if bit c.args.inner.now k then c.in_ok-cuts.cuts.items else []) c.in_ok-parts_of.field-0.items) (sym c.loop-number.invariant.many)
                c.in_ok-parts_of.ensures;
          });
      low = λ x below. elim (cases_lt x c.loop-number.number) [
        | inl less ↦ c.loop-number.invariant.low x less
        | inr high ↦
            let it : c.loop-number.number ≡ x = omega (arith, below, high) in
            subst (λ (k : ℕ). IsLow c.args.cells.now c.args.areas.now c.args.held g c.args.bounds.now k) it low
      ];
    }

pub returns : goal.returns
returns c = (
  λ e. all_low c.args.cells.now c.args.areas.now c.args.held c.args.graph.now c.args.bounds.now c.loop-number.number
      (omega (arith, c.loop-number.auto.number-end, c.loop-number-test.false, c.requires.inner.many)) c.requires.many c.loop-number.invariant.low,
  λ are. refl,
)
