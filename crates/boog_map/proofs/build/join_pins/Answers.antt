use Rattle.std.proofs.Common.{◌∙◌, List, ℕ, ap, sym, subst}
use Rattle.vlsi_base.specs.declared.name.Name.{Name}
use Rattle.net_core.specs.Netlist.{pin_of}
use Rattle.net_core.specs.Places.{IsThere}
use Rattle.net_core.specs.Joins.{draft_terminals}
use Rattle.boog_map.specs.declared.part.Part.{Part}
use Rattle.boog_map.specs.declared.place.Signal.{Signal}
use Rattle.boog_map.specs.Draft.{driver, IsNumbered}
use Rattle.boog_map.proofs.Joining.{lent_pin}
use Rattle.boog_map.proofs.build.join_pins.Goals as goal

pub join-requires-clause-numbered : goal.join-requires-clause-numbered
join-requires-clause-numbered c =
    let ties = c.deref-pin-items.ensures.value ∙ ap (λ (p : Part). p.ties.items) c.of-part.ensures in
    let lent = lent_pin c.args.builder.now c.loop-pin.builder c.args.drivers.now c.args.parts.now c.args.spot.now c.loop-pin.pin-index c.pin-item.result c.deref-pin-items.result.now c.requires
    c.loop-pin.invariant ties c.loop-pin-test.true c.pin-item.is in
    subst (λ (s : Signal). IsNumbered c.args.drivers.now s) (sym c.tied_signal.ensures) lent.2

pub join-requires-clause-there : goal.join-requires-clause-there
join-requires-clause-there c =
    let ties = c.deref-pin-items.ensures.value ∙ ap (λ (p : Part). p.ties.items) c.of-part.ensures in
    let lent = lent_pin c.args.builder.now c.loop-pin.builder c.args.drivers.now c.args.parts.now c.args.spot.now c.loop-pin.pin-index c.pin-item.result c.deref-pin-items.result.now c.requires
    c.loop-pin.invariant ties c.loop-pin-test.true c.pin-item.is in
    subst (λ (n : Name). IsThere (draft_terminals c.loop-pin.builder) (pin_of c.in_ok-copy.field-0 n)) (sym c.in_ok-copy-2.ensures)
    (subst (λ (t : List ℕ). IsThere (draft_terminals c.loop-pin.builder) (pin_of t c.pin-item.result.name)) (sym c.in_ok-copy.ensures) lent.0)

pub join-requires-clause-driven : goal.join-requires-clause-driven
join-requires-clause-driven c =
    let ties = c.deref-pin-items.ensures.value ∙ ap (λ (p : Part). p.ties.items) c.of-part.ensures in
    let lent = lent_pin c.args.builder.now c.loop-pin.builder c.args.drivers.now c.args.parts.now c.args.spot.now c.loop-pin.pin-index c.pin-item.result c.deref-pin-items.result.now c.requires
    c.loop-pin.invariant ties c.loop-pin-test.true c.pin-item.is in
    subst (λ (s : Signal). IsThere (draft_terminals c.loop-pin.builder) (driver c.args.drivers.now s)) (sym c.tied_signal.ensures) lent.1
