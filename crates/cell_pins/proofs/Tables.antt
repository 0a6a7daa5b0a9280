-- A checked library has a table of its usable cells' pins.
use Rattle.std.proofs.Common.{◌≡◌, inl, inr, ℕ, true, false, List, [], ◌∷◌, length, refl}
use Rattle.std.specs.Prelude.{All}
use Rattle.vlsi_base.specs.declared.name.Port.{Port}
use Rattle.vlsi_base.specs.Member.{In, here, there}
use Rattle.net_core.specs.declared.pins.ModelPin.{ModelPin}
use Rattle.net_core.specs.declared.pins.ModelPins.{ModelPins}
use Rattle.cell_model.specs.Function.{Function}
use Rattle.cell_model.specs.Cell.{Cell}
use Rattle.cell_model.specs.Library.{Library, IsUsable}
use Rattle.cell_model.specs.Usable.{IsPlainForm, IsFormed}
use Rattle.cell_model.specs.Connectors.{PinsAreConnectors}
use Rattle.cell_model.proofs.Mapped.{usable_is_mappable}
use Rattle.cell_model.proofs.Members.{All-In}
use Rattle.cell_checks.specs.Checked.{IsChecked}
use Rattle.cell_pins.specs.Pins.{all_ports}
use Rattle.cell_pins.specs.Table.{first_places, IsPinOf, ArePins, no_pins, one_pin, IsModelOf, IsListed, AreModels, no_models, listed, left_out, HasPinTable, LibrariesHaveTables}
use Rattle.cell_pins.proofs.Deciding.{Decided, usable_or, clock_or, depended}
use Rattle.cell_pins.proofs.Sound.{connected, sound}

a_pin : (f : Function) → IsPlainForm f → (ports : List Port) (port : Port) → (p : ModelPin) × IsPinOf f ports port p
a_pin f form ports port =
    let clock = clock_or f form port.name in
    let places = depended f form ports port (first_places (length ports)) in (
      record { name = port.name; dir = port.dir; is_clock = clock.0; depends_on = places.0 },
      record { name = refl; dir = refl; clock = clock.1; depends = places.1 },
    )

the_pins : (f : Function) → IsPlainForm f → (ports xs : List Port) → (ps : List ModelPin) × ArePins f ports xs ps
the_pins f form ports [] = ([], no_pins)
the_pins f form ports (x ∷ xs) = let p = a_pin f form ports x in let r = the_pins f form ports xs in (p.0 ∷ r.0, one_pin p.1 r.1)

a_model : (c : Cell) → IsPlainForm c.function → (m : ModelPins) × IsModelOf c m
a_model c form =
    let ps = the_pins c.function form (all_ports c) (all_ports c) in
    (record { model = c.name; pins = ps.0 }, record { name = refl; pins = ps.1 })

unlisted : (c : Cell) → (IsUsable c → ⊥) → IsListed false c → ⊥
unlisted c n (inl t) = cc
unlisted c n (inr u) = n u

the_models : (cells : List Cell) → ((c : Cell) → In c cells → Decided (IsUsable c)) → (table : List ModelPins) × AreModels (IsListed false) cells table
the_models [] d = ([], no_models)
the_models (c ∷ cells) d =
    let r = the_models cells (λ x i. d x (there i)) in
    elim (d c here) [
      | inl usable ↦ let m = a_model c (usable_is_mappable c usable).form in (m.0 ∷ r.0, listed (inr usable) m.1 r.1)
      | inr n ↦ (r.0, left_out (unlisted c n) r.1)
    ]

pub libraries_have_tables : LibrariesHaveTables
libraries_have_tables l checked =
    let t = the_models l.cells (λ c i. usable_or c (All-In IsFormed l.cells checked.formed c i) (All-In PinsAreConnectors l.cells (connected l checked) c i)) in
    record { table = t.0; listed = t.1; sound = sound (IsListed false) l.cells t.0 checked.formed checked.names t.1 }
