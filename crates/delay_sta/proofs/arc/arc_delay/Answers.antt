use Rattle.std.proofs.Common.{◌≡◌, ◌*◌, ◌++◌, ◌∙◌, [], ℕ, Option, ap, refl, max}
use Rattle.std.specs.Option.{unwrap_or}
use Rattle.cell_model.specs.declared.cell.Arc.{Arc}
use Rattle.delay_sta.specs.Arcs.{time_of, times, greatest, arc_delay}
use Rattle.delay_sta.proofs.arc.arc_delay.Goals as goal

-- the greatest of the edges' times, which were taken from the last on
all_times : (a : Arc) (load fall rise : ℕ) → fall ≡ a.rdown * load → rise ≡ a.rup * load
    → greatest (time_of a.tphl fall ++ (time_of a.tpll fall ++ (time_of a.taf fall ++ (time_of a.tplh rise ++ (time_of a.tphh rise ++ (time_of a.tar rise ++ [])))))) ≡ greatest (times a load)
all_times a load fall rise f r =
    ap (λ x. greatest (time_of a.tphl x ++ (time_of a.tpll x ++ (time_of a.taf x ++ (time_of a.tplh rise ++ (time_of a.tphh rise ++ (time_of a.tar rise ++ []))))))) f
    ∙ ap (λ x. greatest (time_of a.tphl (a.rdown * load) ++ (time_of a.tpll (a.rdown * load) ++ (time_of a.taf (a.rdown * load) ++ (time_of a.tplh x ++ (time_of a.tphh x ++ (time_of a.tar x ++ []))))))) r

pub returns-clause-value : goal.returns-clause-value
unfolding arc_delay
returns-clause-value c =
    let fall = c.drag-fall.result in
    let rise = c.drag-rise.result in
    let a = c.args.arc.now in
    let e1 = c.later-latest.ensures.latest [] refl in
    let e2 = c.later-latest-2.ensures.latest (time_of a.tar rise ++ []) e1 in
    let e3 = c.later-latest-3.ensures.latest (time_of a.tphh rise ++ (time_of a.tar rise ++ [])) e2 in
    let e4 = c.later-latest-4.ensures.latest (time_of a.tplh rise ++ (time_of a.tphh rise ++ (time_of a.tar rise ++ []))) e3 in
    let e5 = c.later-latest-5.ensures.latest (time_of a.taf fall ++ (time_of a.tplh rise ++ (time_of a.tphh rise ++ (time_of a.tar rise ++ [])))) e4 in
    let e6 = c.later-latest-6.ensures.latest (time_of a.tpll fall ++ (time_of a.taf fall ++ (time_of a.tplh rise ++ (time_of a.tphh rise ++ (time_of a.tar rise ++ []))))) e5 in
    let all = e6 ∙ all_times a c.args.load fall rise c.drag-fall.ensures.value c.drag-rise.ensures.value in
    c.unwrap_or.ensures ∙ ap (λ (o : Option ℕ). unwrap_or o c.max.result) all
    ∙ ap (λ m. unwrap_or (greatest (times a c.args.load)) m) (c.max.ensures ∙ ap (λ x. max x rise) c.drag-fall.ensures.value ∙ ap (λ x. max (a.rdown * c.args.load) x) c.drag-rise.ensures.value)
