use Rattle.std.proofs.Common.{◌≡◌, ◌+◌, ◌<◌, ℕ, List, [], ◌∷◌, ◌++◌, length, slice_index, Option, ap, sym, subst, ◌∙◌, arith, length-append, ◌^◌}
use Rattle.std.specs.Global.{Vec}
use Rattle.bool_expr.specs.Expression.{bit}
use Rattle.cell_match.specs.declared.cut.Cut.{Cut}
use Rattle.cell_match.specs.declared.gate.Gate.{Gate}
use Rattle.boog_tree.specs.Trees.{is_inner}
use Rattle.boog_tree.specs.Enough.{AreEnoughCuts}
use Rattle.boog_tree.specs.Swept.{cost_of}
use Rattle.boog_tree.proofs.Steps.{ArePartsOf, Sweeping, each_once, each_below, parts_none, parts_more, parts_other, bound_front, sweeping_none, pick_by, none_by, pick_more, pick_fits, swept_picks, swept_bounds}
use Rattle.boog_tree.proofs.Sufficing.{cuts_agree}
use Rattle.boog_tree.proofs.least.sweep.Goals as goal

pub loop-init : goal.loop-init
loop-init c = record {
  many = ap (λ (l : List (Vec (Cut 6))). length l) c.new-2.ensures.items;
  parts = subst (λ (l : List (Vec (Cut 6))). ArePartsOf c.args.held c.args.graph.now (slice_index c.new-4.result.items) l) (sym c.new-2.ensures.items)
      (parts_none c.args.held c.args.graph.now (slice_index c.new-4.result.items));
  swept = subst (λ (l : List ℕ). Sweeping c.args.cells.now c.args.areas.now c.args.held c.args.graph.now 0 c.new-3.result.items l) (sym c.new-4.ensures.items)
      (subst (λ (l : List (Option Gate)). Sweeping c.args.cells.now c.args.areas.now c.args.held c.args.graph.now 0 l []) (sym c.new-3.ensures.items)
      (sweeping_none c.args.cells.now c.args.areas.now c.args.held c.args.graph.now));
}

pub enough_cuts-requires-clause-there : goal.enough_cuts-requires-clause-there
enough_cuts-requires-clause-there c =
    let same = ap (λ (l : List (Vec (Cut 6))). length l) c.deref.ensures.value in
    omega (arith, same, c.loop.invariant.many, c.loop-test.true, c.requires.inner.many)

pub enough_cuts-requires-clause-parts : goal.enough_cuts-requires-clause-parts
enough_cuts-requires-clause-parts c =
    (subst (λ (bs : List ℕ). ArePartsOf c.args.held c.args.graph.now (slice_index bs) c.deref.result.now) (sym c.deref-in-loop.ensures.value)
    (subst (λ (l : List (Vec (Cut 6))). ArePartsOf c.args.held c.args.graph.now (slice_index c.loop.swept.bounds.items) l) (sym c.deref.ensures.value)
    c.loop.invariant.parts)).are

pub best_pick-pick-requires-clause-once : goal.best_pick-pick-requires-clause-once
best_pick-pick-requires-clause-once c =
    each_once c.args.held c.args.graph.now c.requires.earlier (slice_index c.deref-in-loop.result.now) (length c.deref.result.now) c.deref-in-loop-2.result.now
    (subst (λ (l : List (Cut 6)). AreEnoughCuts c.args.held c.args.graph.now (slice_index c.deref-in-loop.result.now) (length c.deref.result.now) l)
    (sym c.deref-in-loop-2.ensures.value) c.in_ok-cuts.ensures)

pub best_pick-pick-requires-clause-inner : goal.best_pick-pick-requires-clause-inner
best_pick-pick-requires-clause-inner c =
    let same = ap (λ (l : List (Vec (Cut 6))). length l) c.deref.ensures.value in
    each_below c.args.held c.args.graph.now c.requires.earlier (slice_index c.deref-in-loop.result.now) (length c.deref.result.now) c.deref-in-loop-2.result.now
    (subst (λ (l : List (Cut 6)). AreEnoughCuts c.args.held c.args.graph.now (slice_index c.deref-in-loop.result.now) (length c.deref.result.now) l)
    (sym c.deref-in-loop-2.ensures.value) c.in_ok-cuts.ensures)
    (length c.args.inner.now) (omega (arith, same, c.loop.invariant.many, c.loop-test.true))

pub best_pick-pick-requires-clause-bounds : goal.best_pick-pick-requires-clause-bounds
best_pick-pick-requires-clause-bounds c =
    let same = ap (λ (l : List (Vec (Cut 6))). length l) c.deref.ensures.value in
    let long = ap (λ (l : List ℕ). length l) c.deref-in-loop-3.ensures.value in
    let many = c.loop.invariant.swept.bounds_many in
    each_below c.args.held c.args.graph.now c.requires.earlier (slice_index c.deref-in-loop.result.now) (length c.deref.result.now) c.deref-in-loop-2.result.now
    (subst (λ (l : List (Cut 6)). AreEnoughCuts c.args.held c.args.graph.now (slice_index c.deref-in-loop.result.now) (length c.deref.result.now) l)
    (sym c.deref-in-loop-2.ensures.value) c.in_ok-cuts.ensures)
    (length c.deref-in-loop-3.result.now) (omega (arith, same, long, many, c.loop.invariant.many))

pub add-requires-clause-there : goal.add-requires-clause-there
add-requires-clause-there c = omega (arith, c.loop.invariant.many, c.loop-test.true)

pub add-requires-clause-small : goal.add-requires-clause-small
add-requires-clause-small c =
    let same = ap (λ (l : List (Vec (Cut 6))). length l) c.deref.ensures.value in
    let here : length c.deref.result.now ≡ c.loop.counter = omega (arith, same, c.loop.invariant.many) in
    let g = c.args.graph.now in
    let areas = c.args.areas.now in
    let inside : c.loop.counter < c.args.held + length g.nodes = omega (arith, c.loop-test.true, c.requires.inner.many) in
    let room : length g.nodes < 2 ^ 32 = omega (arith, c.requires.numbers) in
    let enough = subst (λ (n : ℕ). AreEnoughCuts c.args.held g (slice_index c.loop.swept.bounds.items) n c.in_ok-cuts.cuts.items) here
    (subst (λ (bs : List ℕ). AreEnoughCuts c.args.held g (slice_index bs) (length c.deref.result.now) c.in_ok-cuts.cuts.items) c.deref-in-loop.ensures.value
    c.in_ok-cuts.ensures) in
    pick_fits c.args.cells.now areas c.args.held g c.loop.counter c.loop.swept.picks.items c.loop.swept.bounds.items c.requires.narrow
    (λ k. (c.type_inv.areas k).fits) c.requires.gates c.requires.earlier inside c.loop.invariant.swept c.in_ok-cuts.cuts.items enough room c.best_pick-pick.result
    (pick_by c.args.cells.now areas (bit c.args.inner.now) (is_inner c.args.held g) c.deref-in-loop-3.result.now c.loop.swept.bounds.items
    c.deref-in-loop-2.result.now c.in_ok-cuts.cuts.items c.best_pick-pick.result c.requires.inner.each c.deref-in-loop-3.ensures.value c.deref-in-loop-2.ensures.value c.best_pick-pick.ensures.some)

pub loop-preserved : goal.loop-preserved
loop-preserved c =
    let same = ap (λ (l : List (Vec (Cut 6))). length l) c.deref.ensures.value in
    let here : length c.deref.result.now ≡ c.loop.counter = omega (arith, same, c.loop.invariant.many) in
    let g = c.args.graph.now in
    let cells = c.args.cells.now in
    let areas = c.args.areas.now in
    let old = c.loop.swept.parts.items in
    let bounds = c.loop.swept.bounds.items in
    let next_bounds = c.add.new.self.bounds.items in
    let adds = c.in_ok-add.ensures.parts in
    let longer = ap (λ (l : List (Vec (Cut 6))). length l) adds.is ∙ length-append old (adds.parts ∷ []) in
    let inside : c.loop.counter < c.args.held + length g.nodes = omega (arith, c.loop-test.true, c.requires.inner.many) in
    let pick = c.best_pick-pick.result in
    let enough = subst (λ (bs : List ℕ). AreEnoughCuts c.args.held g (slice_index bs) (length c.deref.result.now) c.in_ok-cuts.cuts.items) c.deref-in-loop.ensures.value
    c.in_ok-cuts.ensures in
    let next = pick_more cells areas c.args.held g c.loop.counter c.loop.swept.picks.items bounds c.requires.narrow
    (λ k. (c.type_inv.areas k).fits) c.requires.gates c.requires.earlier inside c.loop.invariant.swept c.in_ok-cuts.cuts.items
    (subst (λ (n : ℕ). AreEnoughCuts c.args.held g (slice_index bounds) n c.in_ok-cuts.cuts.items) here enough) pick
    (pick_by cells areas (bit c.args.inner.now) (is_inner c.args.held g) c.deref-in-loop-3.result.now bounds
    c.deref-in-loop-2.result.now c.in_ok-cuts.cuts.items pick c.requires.inner.each c.deref-in-loop-3.ensures.value c.deref-in-loop-2.ensures.value c.best_pick-pick.ensures.some)
    (none_by cells c.deref-in-loop-2.result.now c.in_ok-cuts.cuts.items pick c.deref-in-loop-2.ensures.value c.best_pick-pick.ensures.none) in
    let many = c.loop.invariant.many in
    let bounds_many = c.loop.invariant.swept.bounds_many in
    let agree = bound_front bounds next_bounds (cost_of pick) (length old) (omega (arith, many, bounds_many)) c.in_ok-add.ensures.bounds in
    record {
      many = omega (arith, longer, c.loop.invariant.many);
      parts = parts_more c.args.held g (slice_index next_bounds) old c.add.new.self.parts.items (bit c.args.inner.now (length old)) c.in_ok-cuts.cuts.items
          (parts_other c.args.held g (slice_index bounds) (slice_index next_bounds) old c.requires.earlier agree c.loop.invariant.parts)
          (c.requires.inner.each (length old))
          (cuts_agree c.args.held g c.requires.earlier (slice_index bounds) (slice_index next_bounds) (length old) agree (length old) c.in_ok-cuts.cuts.items (omega arith)
          (subst (λ (n : ℕ). AreEnoughCuts c.args.held g (slice_index bounds) n c.in_ok-cuts.cuts.items) same enough)) adds;
      swept = subst (λ (l : List ℕ). Sweeping cells areas c.args.held g (c.loop.counter + 1) c.add.new.self.picks.items l) (sym c.in_ok-add.ensures.bounds)
          (subst (λ (l : List (Option Gate)). Sweeping cells areas c.args.held g (c.loop.counter + 1) l (bounds ++ cost_of pick ∷ [])) (sym c.in_ok-add.ensures.picks) next);
    }

pub returns-clause-picks : goal.returns-clause-picks
returns-clause-picks c =
    swept_picks c.args.cells.now c.args.areas.now c.args.held c.args.graph.now c.loop.counter (omega (arith, c.loop.auto.counter-end, c.loop-test.false, c.requires.inner.many))
    c.loop.swept.picks.items c.loop.swept.bounds.items c.loop.invariant.swept

pub returns-clause-bounds : goal.returns-clause-bounds
returns-clause-bounds c =
    swept_bounds c.args.cells.now c.args.areas.now c.args.held c.args.graph.now c.loop.counter (omega (arith, c.loop.auto.counter-end, c.loop-test.false, c.requires.inner.many))
    c.loop.swept.picks.items c.loop.swept.bounds.items c.loop.invariant.swept
