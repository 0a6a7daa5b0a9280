use Rattle.std.proofs.Common.{◌∙◌, List, map, length, ap, sym, subst}
use Rattle.std.proofs.lemmas.List.{length-map}
use Rattle.vlsi_base.specs.declared.name.Name.{Name}
use Rattle.vlsi_base.specs.Member.{AllDifferent}
use Rattle.machine_core.specs.Machine.{Register}
use Rattle.machine_core.specs.View.{register_view}
use Rattle.net_flat.specs.declared.renaming.Seat.{Seat}
use Rattle.net_flat.proofs.Assembling.{Lows, seats_named, places_low}
use Rattle.net_flat.proofs.renaming.renamed_bits.Goals as goal

pub in_order-requires : goal.in_order-requires
in_order-requires c =
    subst (λ (ss : List Seat). AllDifferent (map (λ (s : Seat). s.name) ss)) (sym c.in_ok-seats.ensures)
    (subst (λ (ns : List Name). AllDifferent ns) (sym (seats_named c.args.names.now)) c.requires.free.different)

pub stored-requires-clause-inside : goal.stored-requires-clause-inside
stored-requires-clause-inside c =
    let stored = ap (map register_view) c.as_slice-registers.ensures ∙ c.registers.ensures.value in
    let count = c.requires.free.each ∙ ap (λ (rs : List Register). length rs) (sym stored) ∙ length-map c.as_slice-registers.result.now register_view in
    subst (λ (ss : List Seat). Lows ss (length c.as_slice-registers.result.now)) (sym c.deref.ensures.value)
    (places_low c.args.names.now c.in_ok-seats.field-0.items c.in_ok-seats-2.seats.items (length c.as_slice-registers.result.now) c.in_ok-seats.ensures c.in_ok-seats-2.ensures.moved count)
