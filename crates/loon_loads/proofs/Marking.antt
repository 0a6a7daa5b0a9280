-- Inputs among the pins of a cell.
use Rattle.std.proofs.Common.{◌≡◌, ℕ, ◌+◌, Bool, true, false, ◌&&◌, ◌||◌, List, [], ◌∷◌, map, filter, length, refl, sym, ◌∙◌, ap, length-append, if◌then◌else◌}
use Rattle.std.proofs.lemmas.List.{length-map}
use Rattle.std.specs.List.{list_any, flat_map}
use Rattle.vlsi_base.specs.declared.name.Name.{Name}
use Rattle.vlsi_base.specs.declared.name.Port.{Port}
use Rattle.machine_core.specs.Machine.{is_input, names_of}
use Rattle.machine_core.specs.Named.{is_same_name}
use Rattle.cell_model.specs.declared.cell.Pin.{Pin}
use Rattle.cell_model.specs.Library.{Library, cell_of}
use Rattle.net_core.specs.Netlist.{Instance, Netlist, IsNetlist, port, pin_of, pins_of}
use Rattle.loon_loads.specs.Sinks.{is_sink_of}
use Rattle.loon_loads.specs.Loads.{is_input_among, pin_marks, all_marks}

abbrev among : Name → List Port → Bool
among name ports = list_any (λ pin. is_same_name pin name) (names_of ports)

abbrev input_ports : List Pin → List Port
input_ports pins = filter (λ p. is_input p.dir) (map (λ p. p.port) pins)

pub input_of : (pins : List Pin) (name : Name) → list_any (λ pin. is_same_name pin name) (names_of (filter (λ p. is_input p.dir) (map (λ p. p.port) pins))) ≡ is_input_among pins name
input_of [] name = refl
input_of (p ∷ pins) name = one p (input_ports pins) (is_input_among pins name) (input_of pins name) where
  one : (q : Pin) (ports : List Port) (x : Bool) → among name ports ≡ x
      → among name (if is_input q.port.dir then q.port ∷ ports else ports) ≡ ((is_input q.port.dir && is_same_name q.port.name name) || x)
  one q ports x h = by (is_input q.port.dir) where
    by : (b : Bool) → among name (if b then q.port ∷ ports else ports) ≡ ((b && is_same_name q.port.name name) || x)
    by true = ap (λ (y : Bool). is_same_name q.port.name name || y) h
    by false = h

-- each terminal has a mark
pub pins_marked : (l : Library) (instances : List Instance) → length (flat_map (pin_marks l) instances) ≡ length (flat_map pins_of instances)
pins_marked l [] = refl
pins_marked l (i ∷ instances) =
    length-append (pin_marks l i) (flat_map (pin_marks l) instances)
    ∙ ap (λ (n : ℕ). n + length (flat_map (pin_marks l) instances)) (length-map i.pins (is_sink_of (cell_of l i.model)) ∙ sym (length-map i.pins (pin_of i.name)))
    ∙ ap (λ (n : ℕ). length (pins_of i) + n) (pins_marked l instances)
    ∙ sym (length-append (pins_of i) (flat_map pins_of instances))

pub each_marked : (l : Library) (n : Netlist) (marks : List Bool) (classes : List ℕ) → IsNetlist n → marks ≡ all_marks l n → classes ≡ n.classes → length marks ≡ length classes
each_marked l n marks classes sound is same =
    ap length is
    ∙ length-append (map (λ (p : Port). false) n.ports) (flat_map (pin_marks l) n.instances)
    ∙ ap (λ (k : ℕ). k + length (flat_map (pin_marks l) n.instances)) (length-map n.ports (λ (p : Port). false) ∙ sym (length-map n.ports (λ (p : Port). port p.name)))
    ∙ ap (λ (k : ℕ). length (map (λ (p : Port). port p.name) n.ports) + k) (pins_marked l n.instances)
    ∙ sym (length-append (map (λ (p : Port). port p.name) n.ports) (flat_map pins_of n.instances))
    ∙ sym sound.each
    ∙ ap length (sym same)
