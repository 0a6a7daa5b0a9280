use Rattle.std.proofs.Common.{◌≡◌, ◌∙◌, ℕ, ◌<◌, inl, inr, ap, subst, List, length, get_or, arith}
use Rattle.std.proofs.lemmas.Bool.{cases_lt}
use Rattle.std.proofs.lemmas.List.Elements.{Contains-get_or}
use Rattle.sym_shapes.specs.Shape.{Shape}
use Rattle.sym_shapes.proofs.Joins.{read_at}
use Rattle.sym_near.specs.declared.bands.Cut.{Cut}
use Rattle.sym_near.specs.declared.sweep.Entry.{Entry}
use Rattle.sym_near.specs.Sweep.{IsEntered, uncut, cut_for}
use Rattle.sym_near.proofs.Enters.{kept_entered, places_on}
use Rattle.sym_near.proofs.bands.enter_all.Goals as goal

pub loop-k-preserved : goal.loop-k-preserved
loop-k-preserved c =
    let shapes : List Shape = c.args.shapes.now in
    let cuts : List Cut = c.args.cuts.now in
    let gap : ℕ = c.args.gap in
    let k : ℕ = c.loop-k.k in
    let news : List Entry = c.enter.new.entries.items in
    let within : k < length shapes = c.loop-k-test.true in
    let adds = c.in_ok-enter.ensures.adds in
    let shape_is : (d : Shape) → c.index-shapes-k-in-loop-k.result ≡ get_or shapes k d =
    λ d. read_at shapes k d c.index-shapes-k-in-loop-k.result within c.index-shapes-k-in-loop-k.is in
    let first : (d : Shape) → c.index-shapes-k.result ≡ get_or shapes k d = λ d. read_at shapes k d c.index-shapes-k.result within c.index-shapes-k.is in
    let last : (d : Shape) → IsEntered c.args.turned (cut_for cuts (get_or shapes k d)) gap (get_or shapes k d) k news = λ d.
    let metal_is : c.metal.result ≡ (get_or shapes k d).metal = c.metal.ensures ∙ ap (λ (s : Shape). s.metal) (first d) in
    subst (λ (s : Shape). IsEntered c.args.turned (cut_for cuts (get_or shapes k d)) gap s k news) (shape_is d)
    (subst (λ (m : ℕ). IsEntered c.args.turned (get_or cuts m uncut) gap c.index-shapes-k-in-loop-k.result k news) metal_is c.in_ok-enter.ensures.entered) in
    record {
      places = places_on (length shapes) k c.loop-k.entries.items news adds within c.loop-k.invariant.places;
      entered = λ j d hj low. elim (cases_lt j k) [
        | inl lt ↦ kept_entered c.args.turned (cut_for cuts (get_or shapes j d)) gap (get_or shapes j d) j k c.loop-k.entries.items news adds (c.loop-k.invariant.entered j d hj lt)
        | inr ge ↦
            let e : k ≡ j = omega arith in
            subst (λ (x : ℕ). IsEntered c.args.turned (cut_for cuts (get_or shapes x d)) gap (get_or shapes x d) x news) e (last d)
      ];
    }

pub returns-clause-places : goal.returns-clause-places
returns-clause-places c = λ p d h. c.loop-k.invariant.places (get_or c.loop-k.entries.items p d) (Contains-get_or c.loop-k.entries.items p d h)
