use Rattle.std.proofs.Common.{◌≡◌, ◌∙◌, ◌/◌, ◌^◌, ◌≤◌, ap, arith}
use Rattle.sym_shapes.specs.Bands.{laid}
use Rattle.sym_shapes.proofs.Grown.{climbs, entered}
use Rattle.sym_shapes.proofs.bands.enter.Goals as goal

pub loop-band-preserved : goal.loop-band-preserved
loop-band-preserved c =
    rw (c.in_ok-push-2.ensures.items, c.entry_at-in-loop-band.ensures) (climbs c.args.entries.now.items c.loop-band.entries.items c.metal-metal.result c.laid-rect.result c.args.place
    (c.level.result / 2 ^ c.min-shift.result) c.loop-band.band c.loop-band.invariant)

pub returns-clause-entered : goal.returns-clause-entered
returns-clause-entered c =
    let laid_is : c.laid-rect.result ≡ laid c.args.cut.now c.args.shape.now.rect = c.laid-rect.ensures ∙ ap (laid c.args.cut.now) c.rect.ensures in
    let from : c.level.result / 2 ^ c.min-shift.result ≤ c.loop-band.band = c.loop-band.auto.band in
    let top : c.level-2.result / 2 ^ c.min-shift.result ≤ c.loop-band.band = omega (arith, c.loop-band-test.false) in
    entered c.args.cut.now c.args.shape.now c.args.place c.level.result c.level-2.result c.min-shift.result c.loop-band.band c.metal-metal.result c.laid-rect.result c.args.entries.now.items
    c.loop-band.entries.items c.metal-metal.ensures laid_is c.min-shift.ensures c.level.ensures c.level-2.ensures c.loop-band.invariant from top
