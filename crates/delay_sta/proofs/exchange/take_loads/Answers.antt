use Rattle.std.proofs.Common.{◌≡◌, ◌-◌, map, length, get_or, refl, sym, ap, ◌∙◌, arith}
use Rattle.std.proofs.lemmas.List.{length-map, get_or-map}
use Rattle.delay_sta.specs.Loads.{input_capacitance}
use Rattle.delay_sta.proofs.Reloading.{taken_step, sum_front, sum_done}
use Rattle.delay_sta.proofs.exchange.take_loads.Goals as goal

pub overflow_sub-loads : goal.overflow_sub-loads
overflow_sub-loads c =
    let same : length (map (input_capacitance c.args.pins.now) c.args.names.now) ≡ length c.args.classes.now = length-map c.args.names.now (input_capacitance c.args.pins.now) ∙ c.requires.each in
    let l = c.loop-k-test.true in
    let low = c.requires.inside c.loop-k.k 0 l in
    let n = c.requires.each in
    let value : get_or (map (input_capacitance c.args.pins.now) c.args.names.now) c.loop-k.k 0 ≡ c.from.result =
    get_or-map (input_capacitance c.args.pins.now) c.args.names.now c.loop-k.k c.index-names-k.result 0 (omega (arith, l, n))
    ∙ ap (input_capacitance c.args.pins.now) (sym c.index-names-k.is) ∙ sym c.input_capacitance.ensures ∙ sym c.from.ensures in
    let inv = c.loop-k.invariant.each (get_or c.args.classes.now c.loop-k.k 0) low in
    let had = c.requires.had (get_or c.args.classes.now c.loop-k.k 0) low in
    let front = sum_front (map (input_capacitance c.args.pins.now) c.args.names.now) c.args.classes.now c.loop-k.k same l (get_or c.args.classes.now c.loop-k.k 0) refl in
    omega (arith, value, inv, had, front)

pub loop-k-preserved : goal.loop-k-preserved
loop-k-preserved c =
    let same : length (map (input_capacitance c.args.pins.now) c.args.names.now) ≡ length c.args.classes.now = length-map c.args.names.now (input_capacitance c.args.pins.now) ∙ c.requires.each in
    let l = c.loop-k-test.true in
    let low = c.requires.inside c.loop-k.k 0 l in
    let n = c.requires.each in
    let value : get_or (map (input_capacitance c.args.pins.now) c.args.names.now) c.loop-k.k 0 ≡ c.from.result =
    get_or-map (input_capacitance c.args.pins.now) c.args.names.now c.loop-k.k c.index-names-k.result 0 (omega (arith, l, n))
    ∙ ap (input_capacitance c.args.pins.now) (sym c.index-names-k.is) ∙ sym c.input_capacitance.ensures ∙ sym c.from.ensures in
    let inv = c.loop-k.invariant.each (get_or c.args.classes.now c.loop-k.k 0) low in
    let had = c.requires.had (get_or c.args.classes.now c.loop-k.k 0) low in
    let front = sum_front (map (input_capacitance c.args.pins.now) c.args.names.now) c.args.classes.now c.loop-k.k same l (get_or c.args.classes.now c.loop-k.k 0) refl in
    taken_step (map (input_capacitance c.args.pins.now) c.args.names.now) c.args.classes.now c.args.loads.now c.loop-k.loads c.loop-k.k
    (get_or c.loop-k.loads (get_or c.args.classes.now c.loop-k.k 0) 0) (get_or c.loop-k.loads (get_or c.args.classes.now c.loop-k.k 0) 0 - c.from.result)
    c.loop-k.invariant same l low refl (omega (arith, value, inv, had, front))

pub returns-clause-each : goal.returns-clause-each
returns-clause-each c = λ class h.
    let same : length (map (input_capacitance c.args.pins.now) c.args.names.now) ≡ length c.args.classes.now = length-map c.args.names.now (input_capacitance c.args.pins.now) ∙ c.requires.each in
    let inv = c.loop-k.invariant.each class h in
    let done = sum_done (map (input_capacitance c.args.pins.now) c.args.names.now) c.args.classes.now c.loop-k.k same c.loop-k-test.false class in
    omega (arith, inv, done)
