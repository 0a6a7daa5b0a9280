use Rattle.std.proofs.Common.{◌≡◌, ◌∙◌, ℕ, ◌<◌, inl, inr, List, length, get_or, ap, sym, subst, arith}
use Rattle.std.proofs.lemmas.Bool.{cases_lt}
use Rattle.sym_shapes.specs.declared.holders.Spot.{Spot}
use Rattle.sym_shapes.specs.Holders.{HasHolder}
use Rattle.sym_shapes.proofs.Joins.{grows_then}
use Rattle.sym_shapes.proofs.Held.{spot_read, still_held}
use Rattle.sym_shapes.proofs.holders.join_held.Goals as goal

pub hold_or_keep-requires-clause-within : goal.hold_or_keep-requires-clause-within
hold_or_keep-requires-clause-within c =
    let many = c.in_ok-spots.spots.ok in
    let low : c.loop-k.k < length c.in_ok-spots.spots.items = omega (arith, c.loop-k-test.true, c.len-k-end.ensures, many) in
    c.in_ok-spots.ensures.within c.index.result.now (c.loop-k.k, low, sym c.index.ensures)

pub loop-k-preserved : goal.loop-k-preserved
loop-k-preserved c =
    let shapes = c.args.shapes.now in
    let inv = c.loop-k.invariant in
    let step = c.in_ok-hold_or_keep.ensures in
    let k = c.loop-k.k in
    let spots : List Spot = c.in_ok-spots.spots.items in
    let many = c.in_ok-spots.spots.ok in
    let within : k < length spots = omega (arith, c.loop-k-test.true, c.len-k-end.ensures, many) in
    let kept : List ℕ = c.hold_or_keep.new.kept.items in
    let groups : List ℕ = c.hold_or_keep.new.forest.groups in
    record {
      count = sym step.grows.many ∙ inv.count;
      grows = grows_then inv.grows step.grows;
      places = step.places;
      holders = λ p s low. elim (cases_lt p k) [
        | inl lt ↦ still_held shapes c.loop-k.kept.items kept c.loop-k.forest.groups groups (get_or spots p s).place step.stays step.grows.kept (inv.holders p s lt)
        | inr ge ↦
            let at : k ≡ p = omega (arith, low, ge) in
            subst (λ (x : ℕ). HasHolder shapes kept groups (get_or spots x s).place) at
            (subst (λ (y : Spot). HasHolder shapes kept groups y.place) (spot_read spots k c.index.result.now s within c.index.ensures) step.holder)
      ];
    }

pub returns-clause-holders : goal.returns-clause-holders
returns-clause-holders c = λ k low.
    let spots : List Spot = c.in_ok-spots.spots.items in
    let r = c.in_ok-spots.ensures.each k low in
    let at = r.1.0 in
    let within = r.1.1 in
    let many = c.in_ok-spots.spots.ok in
    let is : (get_or spots at r.0).place ≡ k = ap (λ (y : Spot). y.place) r.1.2 ∙ r.2 in
    let below : at < c.loop-k.k = omega (arith, within, c.loop-k-test.false, c.len-k-end.ensures, many) in
    subst (λ (x : ℕ). HasHolder c.args.shapes.now c.loop-k.kept.items c.loop-k.forest.groups x) is (c.loop-k.invariant.holders at r.0 below)
