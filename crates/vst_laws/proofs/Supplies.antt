-- The pins of a library's cells have vdd and vss among them.
use Rattle.std.proofs.Common.{◌≡◌, Bool, List, ◌∷◌, map, refl, sym, ap, ◌∙◌, subst}
use Rattle.vlsi_base.specs.declared.name.Name.{Name}
use Rattle.vlsi_base.specs.declared.name.Port.{Port}
use Rattle.vlsi_base.specs.Member.{In, here, there}
use Rattle.vlsi_base.specs.Names.{vdd, vss}
use Rattle.machine_core.specs.Machine.{names_of}
use Rattle.cell_model.specs.Cell.{Cell, Function, pin_ports}
use Rattle.cell_model.specs.Library.{Library}
use Rattle.cell_model.proofs.Members.{In-map, All-from}
use Rattle.cell_pins.specs.Pins.{all_ports, supply}
use Rattle.cell_pins.specs.Table.{ArePins, no_pins, one_pin, IsModelOf, AreModels, no_models, listed, left_out, IsTableOf}
use Rattle.net_core.specs.declared.pins.ModelPin.{ModelPin}
use Rattle.net_core.specs.declared.pins.ModelPins.{ModelPins}
use Rattle.net_core.specs.Places.{IsThere}
use Rattle.net_right.proofs.Lists.{in_place}
use Rattle.net_right.proofs.Ports.{vdd_there, vss_there}
use Rattle.vst_io.specs.Text.{ListsSupplies}

-- a model has both supplies
abbrev HasSupplies : ModelPins → Type 0
HasSupplies m = IsThere (map (λ p. p.name) m.pins) vdd × IsThere (map (λ p. p.name) m.pins) vss

pin_names : (f : Function) (ports xs : List Port) (ps : List ModelPin) → ArePins f ports xs ps → map (λ (p : ModelPin). p.name) ps ≡ names_of xs
pin_names f ports _ _ no_pins = refl
pin_names f ports _ _ (one_pin {port = x} {p = p} {rest = rest} {pins = pins} is more) =
    ap (λ (n : Name). n ∷ map (λ (q : ModelPin). q.name) pins) is.name ∙ ap (λ (ns : List Name). x.name ∷ ns) (pin_names f ports rest pins more)

there_is : (c : Cell) (m : ModelPins) (name : Name) → IsModelOf c m → In (supply name) (all_ports c) → IsThere (map (λ p. p.name) m.pins) name
there_is c m name is i =
    subst (λ (names : List Name). IsThere names name) (sym (pin_names c.function (all_ports c) (all_ports c) m.pins is.pins))
    (in_place name (names_of (all_ports c)) (In-map (λ (p : Port). p.name) (supply name) (all_ports c) i))

each_model : (P : Cell → Type 0) (cells : List Cell) (models : List ModelPins) → AreModels P cells models → (m : ModelPins) → In m models → HasSupplies m
each_model P _ _ no_models m i = elim i [ ]
each_model P _ _ (listed {c = c} {m = n} {cells = cells} {models = models} p is rest) m here =
    (there_is c n vdd is (vdd_there (pin_ports c)), there_is c n vss is (vss_there (pin_ports c)))
each_model P _ _ (listed {c = c} {m = n} {cells = cells} {models = models} p is rest) m (there i) = each_model P cells models rest m i
each_model P _ _ (left_out {c = c} {cells = cells} {models = models} p rest) m i = each_model P cells models rest m i

pub lists_supplies : (l : Library) (all : Bool) (table : List ModelPins) → IsTableOf l all table → ListsSupplies table
lists_supplies l all table is = All-from HasSupplies table (each_model _ l.cells table is)
