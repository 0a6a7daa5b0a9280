use Rattle.std.proofs.Common.{◌≡◌, ◌++◌, ◌∙◌, ℕ, List, [], Option, map, length, ap, sym, subst, refl}
use Rattle.std.specs.List.{flat_map, list_all}
use Rattle.vlsi_base.specs.declared.name.Name.{Name}
use Rattle.source_checks.specs.declared.symbol_table.Symbol.{Symbol}
use Rattle.source_checks.specs.Lines.{first_line}
use Rattle.net_core.specs.declared.pins.ModelPin.{ModelPin}
use Rattle.net_core.specs.Checks.{pins_named}
use Rattle.vst_text.specs.declared.file.Association.{Association}
use Rattle.std.specs.FinMap.{get}
use Rattle.std.specs.Option.{option_or}
use Rattle.vlsi_base.specs.NamePlaces.{last_place}
use Rattle.vst_io.specs.Nets.{nets, names, pin_bits, pin_names}
use Rattle.vst_io.specs.Faults.{stands, is_free, fits, association_faults, end_faults}
use Rattle.vst_io.proofs.Places.{Holds, holds_none}
use Rattle.vst_io.proofs.Turned.{IsTurn, before, holds_all, holds_next, free_test, free_is, not_free, not_fit, goes_on, at_end, all_are_mapped, end_line}
use Rattle.vst_io.proofs.maps.map_fault.Goals as goal

pub loop-association-init : goal.loop-association-init
loop-association-init c = (refl, holds_none c.new-mapped.result c.new-mapped.ensures)

pub returns-then-not-are_free : goal.returns-then-not-are_free
returns-then-not-are_free c =
    let known = c.args.component.now in
    let ns = nets c.args.known.now.file in
    let model = pins_named c.args.known.now.table c.args.instance.now.component in
    let end = end_faults known model c.args.instance.now in
    let joins = c.as_slice-association-items.result.now in
    let k = c.loop-association.association-index in
    let total = first_line (association_faults known ns model [] joins ++ end) in
    let a = c.association-item.result in
    let turn : IsTurn known ns model end joins k a total = record { within = c.loop-association-test.true; at = c.association-item.is; so_far = c.loop-association.invariant.0 } in
    let listed : Holds c.insert_all.new.self (map (λ (p : ModelPin). p.name) model) =
    subst (λ (xs : List Name). Holds c.insert_all.new.self xs) (c.deref.ensures.value ∙ c.in_ok-names.ensures ∙ ap (λ (ps : List ModelPin). map (λ (p : ModelPin). p.name) ps) c.model.ensures)
    (holds_all c.new-pins.result c.insert_all.new.self c.deref.result.now c.new-pins.ensures c.in_ok-insert_all.ensures) in
    let bits : c.deref-in-loop-association.result.now ≡ pin_bits known a.pin = c.deref-in-loop-association.ensures.value ∙ c.in_ok-bits.ensures in
    let free : c.are_free.result ≡ is_free model (before known joins k) (pin_names known a) =
    c.are_free.ensures ∙ ap (λ (t : List ℕ). free_test c.insert_all.new.self c.loop-association.mapped t c.deref-in-loop-association.result.now) c.as_bytes-text.ensures
    ∙ free_is known model (before known joins k) c.insert_all.new.self c.loop-association.mapped a c.deref-in-loop-association.result.now bits listed c.loop-association.invariant.1 in
    let items : joins ≡ c.args.instance.now.associations = c.as_slice-association-items.ensures in
    let same : total ≡ first_line (association_faults known ns model [] c.args.instance.now.associations ++ end) = ap (λ (xs : List Association). first_line (association_faults known ns model [] xs ++ end)) items in
    not_free known ns model end joins k a total turn (sym free ∙ c.if-not-are_free.true) ∙ same

pub returns-then-not-branch : goal.returns-then-not-branch
returns-then-not-branch c =
    let known = c.args.component.now in
    let ns = nets c.args.known.now.file in
    let model = pins_named c.args.known.now.table c.args.instance.now.component in
    let end = end_faults known model c.args.instance.now in
    let joins = c.as_slice-association-items.result.now in
    let k = c.loop-association.association-index in
    let total = first_line (association_faults known ns model [] joins ++ end) in
    let a = c.association-item.result in
    let turn : IsTurn known ns model end joins k a total = record { within = c.loop-association-test.true; at = c.association-item.is; so_far = c.loop-association.invariant.0 } in
    let listed : Holds c.insert_all.new.self (map (λ (p : ModelPin). p.name) model) =
    subst (λ (xs : List Name). Holds c.insert_all.new.self xs) (c.deref.ensures.value ∙ c.in_ok-names.ensures ∙ ap (λ (ps : List ModelPin). map (λ (p : ModelPin). p.name) ps) c.model.ensures)
    (holds_all c.new-pins.result c.insert_all.new.self c.deref.result.now c.new-pins.ensures c.in_ok-insert_all.ensures) in
    let bits : c.deref-in-loop-association.result.now ≡ pin_bits known a.pin = c.deref-in-loop-association.ensures.value ∙ c.in_ok-bits.ensures in
    let free : c.are_free.result ≡ is_free model (before known joins k) (pin_names known a) =
    c.are_free.ensures ∙ ap (λ (t : List ℕ). free_test c.insert_all.new.self c.loop-association.mapped t c.deref-in-loop-association.result.now) c.as_bytes-text.ensures
    ∙ free_is known model (before known joins k) c.insert_all.new.self c.loop-association.mapped a c.deref-in-loop-association.result.now bits listed c.loop-association.invariant.1 in
    let many : c.len.result ≡ length (pin_bits known a.pin) = c.len.ensures ∙ c.in_ok-bits.bits.ok.0 ∙ ap (λ (bs : List (Option ℕ)). length bs) c.in_ok-bits.ensures in
    let fit : c.in_ok-fits.field-0 ≡ fits ns a (length (pin_bits known a.pin)) =
    c.in_ok-fits.ensures ∙ ap (λ (ss : List Symbol). fits ss a c.len.result) c.nets.ensures ∙ ap (λ (n : ℕ). fits ns a n) many in
    let items : joins ≡ c.args.instance.now.associations = c.as_slice-association-items.ensures in
    let same : total ≡ first_line (association_faults known ns model [] c.args.instance.now.associations ++ end) = ap (λ (xs : List Association). first_line (association_faults known ns model [] xs ++ end)) items in
    not_fit known ns model end joins k a total turn (sym free ∙ c.if-not-are_free.false) (sym fit ∙ c.if-not-branch.true) ∙ same

pub loop-association-preserved : goal.loop-association-preserved
loop-association-preserved c =
    let known = c.args.component.now in
    let ns = nets c.args.known.now.file in
    let model = pins_named c.args.known.now.table c.args.instance.now.component in
    let end = end_faults known model c.args.instance.now in
    let joins = c.as_slice-association-items.result.now in
    let k = c.loop-association.association-index in
    let total = first_line (association_faults known ns model [] joins ++ end) in
    let a = c.association-item.result in
    let turn : IsTurn known ns model end joins k a total = record { within = c.loop-association-test.true; at = c.association-item.is; so_far = c.loop-association.invariant.0 } in
    let listed : Holds c.insert_all.new.self (map (λ (p : ModelPin). p.name) model) =
    subst (λ (xs : List Name). Holds c.insert_all.new.self xs) (c.deref.ensures.value ∙ c.in_ok-names.ensures ∙ ap (λ (ps : List ModelPin). map (λ (p : ModelPin). p.name) ps) c.model.ensures)
    (holds_all c.new-pins.result c.insert_all.new.self c.deref.result.now c.new-pins.ensures c.in_ok-insert_all.ensures) in
    let bits : c.deref-in-loop-association.result.now ≡ pin_bits known a.pin = c.deref-in-loop-association.ensures.value ∙ c.in_ok-bits.ensures in
    let free : c.are_free.result ≡ is_free model (before known joins k) (pin_names known a) =
    c.are_free.ensures ∙ ap (λ (t : List ℕ). free_test c.insert_all.new.self c.loop-association.mapped t c.deref-in-loop-association.result.now) c.as_bytes-text.ensures
    ∙ free_is known model (before known joins k) c.insert_all.new.self c.loop-association.mapped a c.deref-in-loop-association.result.now bits listed c.loop-association.invariant.1 in
    let many : c.len.result ≡ length (pin_bits known a.pin) = c.len.ensures ∙ c.in_ok-bits.bits.ok.0 ∙ ap (λ (bs : List (Option ℕ)). length bs) c.in_ok-bits.ensures in
    let fit : c.in_ok-fits.field-0 ≡ fits ns a (length (pin_bits known a.pin)) =
    c.in_ok-fits.ensures ∙ ap (λ (ss : List Symbol). fits ss a c.len.result) c.nets.ensures ∙ ap (λ (n : ℕ). fits ns a n) many in
    let noted : c.deref-in-loop-association-2.result.now ≡ pin_bits known a.pin = c.deref-in-loop-association-2.ensures.value ∙ c.in_ok-bits.ensures in (
      goes_on known ns model end joins k a total turn (sym free ∙ c.if-not-are_free.false) (sym fit ∙ c.if-not-branch.false),
      holds_next known joins k a c.loop-association.mapped c.note.new.mapped c.loop-association-test.true c.association-item.is c.loop-association.invariant.1
          (λ n. c.in_ok-note.ensures n ∙ ap (λ (t : List ℕ). option_or (last_place (names t c.deref-in-loop-association-2.result.now) n) (get c.loop-association.mapped n)) c.as_bytes-text.ensures
          ∙ ap (λ (bs : List (Option ℕ)). option_or (last_place (names a.pin.text bs) n) (get c.loop-association.mapped n)) noted),
    )

pub returns-then-are_mapped : goal.returns-then-are_mapped
returns-then-are_mapped c =
    let known = c.args.component.now in
    let ns = nets c.args.known.now.file in
    let model = pins_named c.args.known.now.table c.args.instance.now.component in
    let end = end_faults known model c.args.instance.now in
    let joins = c.as_slice-association-items.result.now in
    let k = c.loop-association.association-index in
    let total = first_line (association_faults known ns model [] joins ++ end) in
    let items : joins ≡ c.args.instance.now.associations = c.as_slice-association-items.ensures in
    let same : total ≡ first_line (association_faults known ns model [] c.args.instance.now.associations ++ end) = ap (λ (xs : List Association). first_line (association_faults known ns model [] xs ++ end)) items in
    let mapped : c.are_mapped.result ≡ list_all (λ (p : ModelPin). stands (flat_map (pin_names known) c.args.instance.now.associations) p.name) model =
    c.are_mapped.ensures ∙ all_are_mapped known model joins k c.loop-association.mapped c.deref-2.result.now
    (c.deref-2.ensures.value ∙ c.in_ok-names.ensures ∙ ap (λ (ps : List ModelPin). map (λ (p : ModelPin). p.name) ps) c.model.ensures) c.loop-association-test.false c.loop-association.invariant.1
    ∙ ap (λ (xs : List Association). list_all (λ (p : ModelPin). stands (flat_map (pin_names known) xs) p.name) model) items in
    let left = at_end known ns model end joins k total c.loop-association-test.false c.loop-association.invariant.0 in
    (end_line (list_all (λ (p : ModelPin). stands (flat_map (pin_names known) c.args.instance.now.associations) p.name) model) c.args.instance.now.end_line total left).0 (sym mapped ∙ c.if-are_mapped.true) ∙ same

pub returns : goal.returns
returns c =
    let known = c.args.component.now in
    let ns = nets c.args.known.now.file in
    let model = pins_named c.args.known.now.table c.args.instance.now.component in
    let end = end_faults known model c.args.instance.now in
    let joins = c.as_slice-association-items.result.now in
    let k = c.loop-association.association-index in
    let total = first_line (association_faults known ns model [] joins ++ end) in
    let items : joins ≡ c.args.instance.now.associations = c.as_slice-association-items.ensures in
    let same : total ≡ first_line (association_faults known ns model [] c.args.instance.now.associations ++ end) = ap (λ (xs : List Association). first_line (association_faults known ns model [] xs ++ end)) items in
    let mapped : c.are_mapped.result ≡ list_all (λ (p : ModelPin). stands (flat_map (pin_names known) c.args.instance.now.associations) p.name) model =
    c.are_mapped.ensures ∙ all_are_mapped known model joins k c.loop-association.mapped c.deref-2.result.now
    (c.deref-2.ensures.value ∙ c.in_ok-names.ensures ∙ ap (λ (ps : List ModelPin). map (λ (p : ModelPin). p.name) ps) c.model.ensures) c.loop-association-test.false c.loop-association.invariant.1
    ∙ ap (λ (xs : List Association). list_all (λ (p : ModelPin). stands (flat_map (pin_names known) xs) p.name) model) items in
    let left = at_end known ns model end joins k total c.loop-association-test.false c.loop-association.invariant.0 in
    (end_line (list_all (λ (p : ModelPin). stands (flat_map (pin_names known) c.args.instance.now.associations) p.name) model) c.args.instance.now.end_line total left).1 (sym mapped ∙ c.if-are_mapped.false) ∙ same
