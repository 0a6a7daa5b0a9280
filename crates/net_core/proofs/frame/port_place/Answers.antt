use Rattle.std.proofs.Common.{◌≡◌, ◌+◌, ◌-◌, ◌/◌, ◌<◌, ℕ, List, length, map, refl, sym, ap, ◌∙◌, subst, arith}
use Rattle.std.specs.Prelude.{option_map}
use Rattle.std.proofs.lemmas.Option.{slice_get_read, slice_get-map}
use Rattle.vlsi_base.specs.declared.name.Name.{Name}
use Rattle.vlsi_base.specs.declared.name.Port.{Port}
use Rattle.net_core.specs.Places.{Stands}
use Rattle.std.proofs.lemmas.List.{length-map}
use Rattle.net_core.proofs.Searching.{narrowed_up, narrowed_down, name_equal}
use Rattle.net_core.proofs.frame.port_place.Goals as goal

abbrev named : List Port → List Name
named ports = map (λ p. p.name) ports

at_name : (ports : List Port) (k : ℕ) (p : Port) → k < length ports → Stands ports k p → Stands (named ports) k p.name
at_name ports k p less s = slice_get-map (λ (x : Port). x.name) ports k ∙ ap (option_map (λ (x : Port). x.name)) s

pub loop-low-preserved-in-Less : goal.loop-low-preserved-in-Less
loop-low-preserved-in-Less c =
    let counted = length-map c.args.ports.now (λ (x : Port). x.name) in
    let less : (c.loop-low.low + (c.loop-low.high - c.loop-low.low) / 2) < length c.args.ports.now = omega (arith, c.loop-low.invariant.inside, c.loop-low-test.true, counted) in
    narrowed_up (named c.args.ports.now) c.args.name.now c.index-ports-middle.result.name c.loop-low.low c.loop-low.high (c.loop-low.low + (c.loop-low.high - c.loop-low.low) / 2) c.requires.order c.loop-low.invariant
    (at_name c.args.ports.now _ c.index-ports-middle.result less (slice_get_read c.args.ports.now (length c.args.ports.now) (c.loop-low.low + (c.loop-low.high - c.loop-low.low) / 2) c.index-ports-middle.result refl less c.index-ports-middle.is))
    (sym c.in-Less.ensures)

pub loop-low-preserved : goal.loop-low-preserved
loop-low-preserved c =
    let counted = length-map c.args.ports.now (λ (x : Port). x.name) in
    let less : (c.loop-low.low + (c.loop-low.high - c.loop-low.low) / 2) < length c.args.ports.now = omega (arith, c.loop-low.invariant.inside, c.loop-low-test.true, counted) in
    narrowed_down (named c.args.ports.now) c.args.name.now c.index-ports-middle.result.name c.loop-low.low c.loop-low.high (c.loop-low.low + (c.loop-low.high - c.loop-low.low) / 2) c.requires.order c.loop-low.invariant
    (at_name c.args.ports.now _ c.index-ports-middle.result less (slice_get_read c.args.ports.now (length c.args.ports.now) (c.loop-low.low + (c.loop-low.high - c.loop-low.low) / 2) c.index-ports-middle.result refl less c.index-ports-middle.is))
    (sym c.in-Greater.ensures)

pub returns-in-Equal : goal.returns-in-Equal
returns-in-Equal c =
    let counted = length-map c.args.ports.now (λ (x : Port). x.name) in
    let less : (c.loop-low.low + (c.loop-low.high - c.loop-low.low) / 2) < length c.args.ports.now = omega (arith, c.loop-low.invariant.inside, c.loop-low-test.true, counted) in
    let same : c.index-ports-middle.result.name ≡ c.args.name.now = name_equal c.index-ports-middle.result.name c.args.name.now (sym c.in-Equal.ensures) in
    subst (λ (x : Name). Stands (named c.args.ports.now) (c.loop-low.low + (c.loop-low.high - c.loop-low.low) / 2) x) same
    (at_name c.args.ports.now _ c.index-ports-middle.result less (slice_get_read c.args.ports.now (length c.args.ports.now) (c.loop-low.low + (c.loop-low.high - c.loop-low.low) / 2) c.index-ports-middle.result refl less c.index-ports-middle.is))
