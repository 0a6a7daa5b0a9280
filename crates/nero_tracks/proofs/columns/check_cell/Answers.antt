use Rattle.std.proofs.Common.{◌≡◌, ℕ, ◌<◌, List, length, get_or, Option, Some, IfSome, sym, ap, subst, ◌∙◌}
use Rattle.std.proofs.lemmas.Option.{slice_get-get_or}
use Rattle.vlsi_base.specs.declared.name.Name.{Name}
use Rattle.vlsi_base.specs.declared.name.Port.{Port}
use Rattle.machine_core.specs.Machine.{names_of}
use Rattle.cell_model.specs.declared.cell.Pin.{Pin}
use Rattle.cell_model.specs.Cell.{Cell, pin_ports}
use Rattle.cell_checks.specs.Columns.{IsSharedAt}
use Rattle.net_core.specs.Places.{Stands}
use Rattle.net_core.proofs.Frames.{mapped}
use Rattle.nero_tracks.proofs.columns.check_cell.Goals as goal

-- a pin by its place
pin_name : (c : Cell) (pins : List Pin) (place : ℕ) (pin : Pin) → pins ≡ c.pins → place < length c.pins → pin ≡ get_or pins place pin
    → Stands (names_of (pin_ports c)) place pin.port.name
pin_name c pins place pin same low is =
    let at : Stands c.pins place pin = slice_get-get_or c.pins place pin low ∙ ap Some (sym (is ∙ ap (λ (ps : List Pin). get_or ps place pin) same)) in
    mapped (λ (p : Port). p.name) (pin_ports c) place pin.port (mapped (λ (p : Pin). p.port) c.pins place pin at)

pub returns-clause-refused : goal.returns-clause-refused
returns-clause-refused c =
    let cell = c.args.cell.now in
    let place = c.in-Some.place in
    let pin = c.index-as_slice-place.result in
    let shared : IsSharedAt cell place = subst (λ (o : Option ℕ). IfSome o (λ p. IsSharedAt cell p)) c.in-Some.is c.in_ok-place.ensures.shared in
    let name : c.in_ok-copy-2.field-0 ≡ pin.port.name = c.in_ok-copy-2.ensures ∙ ap (λ (p : Pin). p.port.name) (sym c.index-as_slice-place.is) in
    let stands : Stands (names_of (pin_ports cell)) place c.in_ok-copy-2.field-0 =
    subst (λ (n : Name). Stands (names_of (pin_ports cell)) place n) (sym name)
    (pin_name cell c.as_slice.result.now place pin c.as_slice.ensures shared.within c.index-as_slice-place.is) in
    (sym c.in_ok-copy.ensures, record { place = place; stands = stands; shared = shared })
