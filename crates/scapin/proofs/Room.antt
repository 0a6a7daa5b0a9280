-- How many terminals a netlist with a scan path has.
use Rattle.std.proofs.Common.{◌≡◌, ◌+◌, ◌*◌, ◌≤◌, Bool, true, false, not, if◌then◌else◌, List, [], ◌∷◌, ◌++◌, map, filter, length, refl, ap, arith, length-append}
use Rattle.std.specs.List.{flat_map}
use Rattle.std.proofs.lemmas.Grind.{flat_map-append}
use Rattle.std.proofs.lemmas.List.Filters.{length-filter_both}
use Rattle.vlsi_base.specs.declared.name.Port.{Port}
use Rattle.vlsi_base.specs.Names.{vdd, vss, comes_before}
use Rattle.vlsi_base.specs.Member.{In, here, there}
use Rattle.machine_core.specs.Machine.{is_input, names_of}
use Rattle.cell_model.specs.Cell.{Function, gate, flip_flop, other, opaque, Cell, pin_ports, cell_inputs, cell_outputs}
use Rattle.cell_model.specs.Library.{IsPlain, IsUsable}
use Rattle.cell_pins.specs.Pins.{supply, with_supply, all_ports}
use Rattle.cell_pins.proofs.Ports.{before_itself, before_trans}
use Rattle.net_core.specs.Netlist.{Instance, port, pin_of, pins_of, terminals_of}
use Rattle.net_theory.proofs.Basics.{length-map}
use Rattle.scan_theory.specs.Gates.{Gate, gate_instance}
use Rattle.scan_theory.specs.Scan.{scin, test, scout, in_port, out_port, with_port, scan_ports}

-- two tests that no port passes both of
apart_few : (t u : Port → Bool) (ps : List Port) → ((p : Port) → t p ≡ true → u p ≡ true → ⊥) → length (filter t ps) + length (filter u ps) ≤ length ps
apart_few t u [] apart = omega arith
apart_few t u (p ∷ ps) apart = by (t p) (u p) refl refl (apart_few t u ps apart) where
  by : (a b : Bool) → t p ≡ a → u p ≡ b → length (filter t ps) + length (filter u ps) ≤ length ps
      → length (if a then p ∷ filter t ps else filter t ps) + length (if b then p ∷ filter u ps else filter u ps) ≤ length (p ∷ ps)
  by true true d e h = absurd (apart p d e)
  by true false d e h = omega (arith, h)
  by false true d e h = omega (arith, h)
  by false false d e h = omega (arith, h)

-- a port that is put in is one more at most
with_few : (p : Port) (ps : List Port) → length (with_port p ps) ≤ length ps + 1
with_few p ps =
    let parts = apart_few (λ q. comes_before q.name p.name) (λ q. comes_before p.name q.name) ps (λ q d e. before_itself q.name (before_trans q.name p.name q.name d e)) in
    let sum = length-append (filter (λ q. comes_before q.name p.name) ps) (p ∷ filter (λ q. comes_before p.name q.name) ps) in
    omega (arith, parts, sum)

both_few : (ps : List Port) → length (with_supply vss (with_supply vdd ps)) ≤ length ps + 2
both_few ps =
    let a : length (with_supply vdd ps) ≤ length ps + 1 = with_few (supply vdd) ps in
    let b : length (with_supply vss (with_supply vdd ps)) ≤ length (with_supply vdd ps) + 1 = with_few (supply vss) (with_supply vdd ps) in
    omega (arith, a, b)

scan_ports_few : (ps : List Port) → length (scan_ports ps) ≤ length ps + 5
scan_ports_few ps =
    let a = both_few ps in
    let b = with_few (in_port scin) (with_supply vss (with_supply vdd ps)) in
    let c = with_few (in_port test) (with_port (in_port scin) (with_supply vss (with_supply vdd ps))) in
    let d = with_few (out_port scout) (with_port (in_port test) (with_port (in_port scin) (with_supply vss (with_supply vdd ps)))) in
    omega (arith, a, b, c, d)

-- ---- pins of usable cells

plain_few : (c : Cell) (f : Function) → IsPlain c f → length (cell_inputs c) + length (cell_outputs c) ≤ 7
plain_few c (gate e) p = let outs = p.0 in let ins = p.1 in omega (arith, outs, ins)
plain_few c (flip_flop load clock) p = let outs = p.0 in let ins = p.1 in omega (arith, outs, ins)
plain_few c (other m) p = absurd p
plain_few c opaque p = absurd p

pins_few : (c : Cell) → IsUsable c → length (names_of (all_ports c)) ≤ 9
pins_few c usable =
    let own = plain_few c c.function usable.function in
    let ins = length-map (λ (p : Port). p.name) (filter (λ p. is_input p.dir) (pin_ports c)) in
    let outs = length-map (λ (p : Port). p.name) (filter (λ p. not (is_input p.dir)) (pin_ports c)) in
    let both = length-filter_both (λ (p : Port). is_input p.dir) (λ p. not (is_input p.dir)) (λ p. refl) (pin_ports c) in
    let more : length (all_ports c) ≤ length (pin_ports c) + 2 = both_few (pin_ports c) in
    let names : length (names_of (all_ports c)) ≡ length (all_ports c) = length-map (λ (p : Port). p.name) (all_ports c) in
    omega (arith, own, ins, outs, both, more, names)

gate_pins_few : (gs : List Gate) → ((g : Gate) → In g gs → IsUsable g.cell) → length (flat_map pins_of (map gate_instance gs)) ≤ 9 * length gs
gate_pins_few [] usable = omega arith
gate_pins_few (g ∷ gs) usable =
    let one = pins_few g.cell (usable g here) in
    let rest = gate_pins_few gs (λ x h. usable x (there h)) in
    let own : length (pins_of (gate_instance g)) ≡ length (names_of (all_ports g.cell)) = length-map (pin_of g.name) (names_of (all_ports g.cell)) in
    let sum = length-append (pins_of (gate_instance g)) (flat_map pins_of (map gate_instance gs)) in
    omega (arith, one, rest, own, sum)

-- ---- all terminals

pub terminals_few : (ports : List Port) (instances : List Instance) (gs : List Gate) → ((g : Gate) → In g gs → IsUsable g.cell)
    → length (terminals_of (scan_ports ports) (instances ++ map gate_instance gs)) ≤ length (terminals_of ports instances) + 9 * length gs + 5
terminals_few ports instances gs usable =
    let more = scan_ports_few ports in
    let ends = length-map (λ (q : Port). port q.name) (scan_ports ports) in
    let all = length-append (map (λ (q : Port). port q.name) (scan_ports ports)) (flat_map pins_of (instances ++ map gate_instance gs)) in
    let split = ap length (flat_map-append pins_of instances (map gate_instance gs)) in
    let sum = length-append (flat_map pins_of instances) (flat_map pins_of (map gate_instance gs)) in
    let new = gate_pins_few gs usable in
    let given = length-map (λ (q : Port). port q.name) ports in
    let old = length-append (map (λ (q : Port). port q.name) ports) (flat_map pins_of instances) in
    omega (arith, more, ends, all, split, sum, new, given, old)
