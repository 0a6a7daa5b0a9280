use Rattle.std.proofs.Common.{◌≡◌, Bool, ◌∙◌, ◌/◌, ◌^◌, ◌≤◌, ap, arith}
use Rattle.sym_near.specs.Sweep.{laid, side}
use Rattle.sym_near.proofs.Enters.{climbs_first, climbs, entered}
use Rattle.sym_near.proofs.bands.enter.Goals as goal

pub loop-band-init : goal.loop-band-init
loop-band-init c =
    rw (c.in_ok-push.ensures.items, c.entry_at.ensures)
    (climbs_first c.args.entries.now.items c.metal-metal.result c.widened-across.result.low c.widened-across.result.high c.args.place (c.widened-along.result.low / 2 ^ c.shift_of-shift.result))

pub loop-band-preserved : goal.loop-band-preserved
loop-band-preserved c =
    rw (c.in_ok-push-2.ensures.items, c.entry_at-in-loop-band.ensures)
    (climbs c.args.entries.now.items c.loop-band.entries.items c.metal-metal.result c.widened-across.result.low c.widened-across.result.high c.args.place (c.widened-along.result.low / 2 ^ c.shift_of-shift.result)
    c.loop-band.band c.loop-band.invariant)

pub returns-clause-entered : goal.returns-clause-entered
returns-clause-entered c =
    let laid_is : c.laid-rect.result ≡ laid (side c.args.bands.now.turned c.args.bands.now.cut) c.args.shape.now.rect = c.laid-rect.ensures
    ∙ ap (λ (u : Bool). laid u c.rect.result) c.side.ensures ∙ ap (laid (side c.args.bands.now.turned c.args.bands.now.cut)) c.rect.ensures in
    let from : c.widened-along.result.low / 2 ^ c.shift_of-shift.result ≤ c.loop-band.band = c.loop-band.auto.band in
    let top : c.widened-along.result.high / 2 ^ c.shift_of-shift.result ≤ c.loop-band.band = omega (arith, c.loop-band-test.false) in
    entered c.args.bands.now.turned c.args.bands.now.cut c.args.bands.now.gap c.args.shape.now c.laid-rect.result c.metal-metal.result c.args.place c.widened-across.result.low c.widened-across.result.high
    c.widened-along.result.low c.widened-along.result.high c.shift_of-shift.result c.loop-band.band c.args.entries.now.items c.loop-band.entries.items
    c.metal-metal.ensures laid_is c.shift_of-shift.ensures.is c.widened-across.ensures c.widened-along.ensures c.loop-band.invariant from top
