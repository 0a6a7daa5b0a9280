use Rattle.std.proofs.Common.{◌≡◌, ◌∙◌, ℕ, ◌<◌, inl, inr, subst, List, length, get_or, arith}
use Rattle.std.proofs.lemmas.Bool.{cases_lt}
use Rattle.std.proofs.lemmas.List.{get_or_default}
use Rattle.std.proofs.lemmas.List.Elements.{Contains-get_or}
use Rattle.sym_shapes.specs.Shape.{Shape}
use Rattle.sym_shapes.specs.declared.bands.Cut.{Cut}
use Rattle.sym_shapes.specs.declared.sweep.Entry.{Entry}
use Rattle.sym_shapes.specs.Bands.{IsEntered, uncut, cut_for}
use Rattle.sym_shapes.proofs.Joins.{read_at}
use Rattle.sym_shapes.proofs.Grown.{kept_entered, places_on}
use Rattle.sym_shapes.proofs.bands.entries.Goals as goal

pub loop-k-preserved : goal.loop-k-preserved
loop-k-preserved c =
    let shapes : List Shape = c.args.shapes.now in
    let places : List ℕ = c.args.places.now in
    let cuts : List Cut = c.args.cuts.now in
    let k : ℕ = c.loop-k.k in
    let place : ℕ = get_or places k 0 in
    let olds : List Entry = c.loop-k.entries.items in
    let news : List Entry = c.enter.new.entries.items in
    let within : place < length shapes = c.requires.within k 0 c.loop-k-test.true in
    let adds = c.in_ok-enter.ensures.adds in
    let s : Shape = c.index-shapes-place.result in
    let last : (d : Shape) → IsEntered (cut_for cuts (get_or shapes place d)) (get_or shapes place d) place news = λ d.
    subst (λ (x : Shape). IsEntered (cut_for cuts x) x place news) (read_at shapes place d s within c.index-shapes-place.is)
    (subst (λ (m : ℕ). IsEntered (get_or cuts m uncut) s place news) c.metal.ensures c.in_ok-enter.ensures.entered) in
    record {
      places = places_on (length shapes) place olds news adds within c.loop-k.invariant.places;
      entered = λ j d low. elim (cases_lt j k) [
        | inl lt ↦
            let other : ℕ = get_or places j 0 in
            kept_entered (cut_for cuts (get_or shapes other d)) (get_or shapes other d) other place olds news adds (c.loop-k.invariant.entered j d lt)
        | inr ge ↦
            let e : k ≡ j = omega (arith, low, ge) in
            subst (λ (x : ℕ). IsEntered (cut_for cuts (get_or shapes (get_or places x 0) d)) (get_or shapes (get_or places x 0) d) (get_or places x 0) news) e (last d)
      ];
    }

pub returns-clause-places : goal.returns-clause-places
returns-clause-places c = λ p d h. c.loop-k.invariant.places (get_or c.loop-k.entries.items p d) (Contains-get_or c.loop-k.entries.items p d h)

pub returns-clause-entered : goal.returns-clause-entered
returns-clause-entered c = λ k d h.
    let shapes : List Shape = c.args.shapes.now in
    let places : List ℕ = c.args.places.now in
    let within = h.1 in
    let at : get_or places h.0 0 ≡ k = get_or_default places h.0 0 k within ∙ h.2 in
    let below : h.0 < c.loop-k.k = omega (arith, within, c.loop-k-test.false) in
    subst (λ (x : ℕ). IsEntered (cut_for c.args.cuts.now (get_or shapes x d)) (get_or shapes x d) x c.loop-k.entries.items) at (c.loop-k.invariant.entered h.0 d below)
