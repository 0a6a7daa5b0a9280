use Rattle.std.proofs.Common.{◌≡◌, ◌+◌, ◌-◌, ◌/◌, ◌<◌, length, refl, sym, subst, arith}
use Rattle.std.proofs.lemmas.Option.{slice_get_read}
use Rattle.vlsi_base.specs.declared.name.Name.{Name}
use Rattle.net_core.specs.Places.{Stands}
use Rattle.net_core.proofs.Searching.{narrowed_up, narrowed_down, name_equal}
use Rattle.net_core.proofs.frame.name_place.Goals as goal

pub loop-low-preserved-in-Less : goal.loop-low-preserved-in-Less
loop-low-preserved-in-Less c =
    let less : (c.loop-low.low + (c.loop-low.high - c.loop-low.low) / 2) < length c.args.names.now = omega (arith, c.loop-low.invariant.inside, c.loop-low-test.true) in
    narrowed_up c.args.names.now c.args.name.now c.index-names-middle.result c.loop-low.low c.loop-low.high (c.loop-low.low + (c.loop-low.high - c.loop-low.low) / 2) c.requires c.loop-low.invariant
    (slice_get_read c.args.names.now (length c.args.names.now) (c.loop-low.low + (c.loop-low.high - c.loop-low.low) / 2) c.index-names-middle.result refl less c.index-names-middle.is)
    (sym c.in-Less.ensures)

pub loop-low-preserved : goal.loop-low-preserved
loop-low-preserved c =
    let less : (c.loop-low.low + (c.loop-low.high - c.loop-low.low) / 2) < length c.args.names.now = omega (arith, c.loop-low.invariant.inside, c.loop-low-test.true) in
    narrowed_down c.args.names.now c.args.name.now c.index-names-middle.result c.loop-low.low c.loop-low.high (c.loop-low.low + (c.loop-low.high - c.loop-low.low) / 2) c.requires c.loop-low.invariant
    (slice_get_read c.args.names.now (length c.args.names.now) (c.loop-low.low + (c.loop-low.high - c.loop-low.low) / 2) c.index-names-middle.result refl less c.index-names-middle.is)
    (sym c.in-Greater.ensures)

pub returns-in-Equal : goal.returns-in-Equal
returns-in-Equal c =
    let less : (c.loop-low.low + (c.loop-low.high - c.loop-low.low) / 2) < length c.args.names.now = omega (arith, c.loop-low.invariant.inside, c.loop-low-test.true) in
    let same : c.index-names-middle.result ≡ c.args.name.now = name_equal c.index-names-middle.result c.args.name.now (sym c.in-Equal.ensures) in
    subst (λ (x : Name). Stands c.args.names.now (c.loop-low.low + (c.loop-low.high - c.loop-low.low) / 2) x) same (slice_get_read c.args.names.now (length c.args.names.now) (c.loop-low.low + (c.loop-low.high - c.loop-low.low) / 2) c.index-names-middle.result refl less c.index-names-middle.is)
