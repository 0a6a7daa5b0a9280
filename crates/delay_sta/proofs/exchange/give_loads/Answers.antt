use Rattle.std.proofs.Common.{◌≡◌, ◌+◌, ◌^◌, ◌<◌, map, length, get_or, refl, sym, ap, ◌∙◌, arith}
use Rattle.std.proofs.lemmas.List.{length-map, get_or-map}
use Rattle.delay_sta.specs.Loads.{input_capacitance}
use Rattle.std.proofs.Common.{rules}
use Rattle.std.proofs.lemmas.List.Elements.{All-from_get_or}
use Rattle.delay_sta.proofs.Reloading.{given_step, sum_done}
use Rattle.delay_sta.proofs.exchange.give_loads.Goals as goal

pub loop-k-preserved : goal.loop-k-preserved
loop-k-preserved c =
    let same : length (map (input_capacitance c.args.pins.now) c.args.names.now) ≡ length c.args.classes.now = length-map c.args.names.now (input_capacitance c.args.pins.now) ∙ c.requires.each in
    let l = c.loop-k-test.true in
    let low = c.requires.inside c.loop-k.k 0 l in
    let n = c.requires.each in
    let value : get_or (map (input_capacitance c.args.pins.now) c.args.names.now) c.loop-k.k 0 ≡ c.from.result =
    get_or-map (input_capacitance c.args.pins.now) c.args.names.now c.loop-k.k c.index-names-k.result 0 (omega (arith, l, n))
    ∙ ap (input_capacitance c.args.pins.now) (sym c.index-names-k.is) ∙ sym c.input_capacitance.ensures ∙ sym c.from.ensures in
    let few : c.from.result < 2 ^ 32 = search rules in
    given_step (map (input_capacitance c.args.pins.now) c.args.names.now) c.args.classes.now c.args.loads.now c.loop-k.loads c.loop-k.k
    (get_or c.loop-k.loads (get_or c.args.classes.now c.loop-k.k 0) 0) (get_or c.loop-k.loads (get_or c.args.classes.now c.loop-k.k 0) 0 + c.from.result)
    c.loop-k.invariant same l low refl (omega (arith, value)) (omega (arith, value, few))

pub returns-clause-each : goal.returns-clause-each
returns-clause-each c = λ class h.
    let same : length (map (input_capacitance c.args.pins.now) c.args.names.now) ≡ length c.args.classes.now = length-map c.args.names.now (input_capacitance c.args.pins.now) ∙ c.requires.each in
    let inv = c.loop-k.invariant.each class h in
    let done = sum_done (map (input_capacitance c.args.pins.now) c.args.names.now) c.args.classes.now c.loop-k.k same c.loop-k-test.false class in
    omega (arith, inv, done)

pub returns-clause-short : goal.returns-clause-short
returns-clause-short c =
    All-from_get_or (λ v. v < 2 ^ 32) (map (input_capacitance c.args.pins.now) c.args.names.now) 0 (λ j h.
    let m = length-map c.args.names.now (input_capacitance c.args.pins.now) in
    let n = c.requires.each in
    let t = c.loop-k-test.false in
    c.loop-k.invariant.short j (omega (arith, h, m, n, t)))
