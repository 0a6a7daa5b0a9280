-- The machine of a netlist that is read, of gates and plain flip-flops, has few bits.
use Rattle.std.proofs.Common.{◌≡◌, ℕ, ◌+◌, ◌*◌, ◌<◌, ◌≤◌, ◌^◌, Bool, true, false, cond, not, List, [], ◌∷◌, map, filter, length, refl, ap, ◌∙◌, arith, length-append}
use Rattle.std.specs.Ordering.{is_lt, ordering_reverse}
use Rattle.std.specs.declared.cmp.Ordering.TheVariants.{Greater}
use Rattle.std.specs.List.{flat_map}
use Rattle.std.proofs.lemmas.List.{length-map}
use Rattle.std.proofs.lemmas.List.Filters.{length-filter_both}
use Rattle.vlsi_base.specs.declared.name.Name.{Name}
use Rattle.vlsi_base.specs.declared.name.Port.{Port}
use Rattle.vlsi_base.specs.Member.{In, here, there}
use Rattle.vlsi_base.specs.Name.{name_cmp, is_supply}
use Rattle.vlsi_base.specs.Names.{vdd, vss, comes_before}
use Rattle.vlsi_base.proofs.NameOrder.{name_total}
use Rattle.machine_core.specs.Machine.{Machine, is_input}
use Rattle.cell_model.specs.Cell.{Function, gate, flip_flop, other, opaque, Cell, pin_ports, cell_inputs, cell_outputs}
use Rattle.cell_model.specs.Library.{Library, cell_of}
use Rattle.cell_model.specs.Usable.{FitsPins}
use Rattle.cell_model.proofs.Members.{All-In}
use Rattle.cell_lib.specs.Laws.{LibraryPasses}
use Rattle.cell_pins.specs.Pins.{supply, with_supply, all_ports}
use Rattle.cell_pins.specs.Table.{ArePins, no_pins, one_pin}
use Rattle.cell_pins.proofs.Ports.{before_less}
use Rattle.net_core.specs.declared.pins.ModelPin.{ModelPin}
use Rattle.net_core.specs.declared.pins.ModelPins.{ModelPins}
use Rattle.net_core.specs.Checks.{pins_named}
use Rattle.net_core.specs.Netlist.{Instance, Netlist, InTurn, ended, again, first, port, pin_of, pins_of, terminals}
use Rattle.net_right.proofs.Lists.{in_place}
use Rattle.net_machine.specs.Bits.{bits_of, widths}
use Rattle.net_machine.specs.Body.{width, body_at, body_of}
use Rattle.net_machine.specs.Signals.{signal_ports}
use Rattle.net_machine.proofs.Cells.{Ground, seated}
use Rattle.net_flat.specs.declared.parts.Part.TheVariants as part
use Rattle.net_flat.specs.Parts.{part_of}
use Rattle.net_flat.specs.Flat.{IsPlain, IsFlat}
use Rattle.vst_room.specs.Room.{HasFewInstances, HasFewPorts}
use Rattle.flatbeh_run.specs.Laws.{HasFewBits, NetlistHasFewBits}

-- ---- how many pins a cell has

-- two tests of which none passes both
apart_few : {A : Type 0} (t u : A → Bool) (xs : List A) → ((x : A) → t x ≡ true → u x ≡ false) → length (filter t xs) + length (filter u xs) ≤ length xs
apart_few t u [] apart = omega arith
apart_few t u (x ∷ xs) apart = by (t x) refl (u x) refl (apart_few t u xs apart) where
  by : (a : Bool) → t x ≡ a → (b : Bool) → u x ≡ b → length (filter t xs) + length (filter u xs) ≤ length xs
      → length (cond a (x ∷ filter t xs) (filter t xs)) + length (cond b (x ∷ filter u xs) (filter u xs)) ≤ length (x ∷ xs)
  by true e true g rest = absurd (cc (apart x e, g))
  by true e false g rest = omega (arith, rest)
  by false e true g rest = omega (arith, rest)
  by false e false g rest = omega (arith, rest)

never_both : (a b : Name) → comes_before a b ≡ true → comes_before b a ≡ false
never_both a b h = let turned : name_cmp b a ≡ Greater = name_total.antisymm b a ∙ ap ordering_reverse (before_less a b h) in ap is_lt turned

-- a supply adds one port at most
supply_few : (name : Name) (ps : List Port) → length (with_supply name ps) ≤ length ps + 1
supply_few name ps =
    let parts = apart_few (λ (p : Port). comes_before p.name name) (λ (p : Port). comes_before name p.name) ps (λ p e. never_both p.name name e) in
    let sum = length-append (filter (λ (p : Port). comes_before p.name name) ps) (supply name ∷ filter (λ (p : Port). comes_before name p.name) ps) in
    omega (arith, parts, sum)

pins_count : (c : Cell) → length (cell_inputs c) + length (cell_outputs c) ≡ length (pin_ports c)
pins_count c =
    let a = length-map (filter (λ p. is_input p.dir) (pin_ports c)) (λ (p : Port). p.name) in
    let b = length-map (filter (λ p. not (is_input p.dir)) (pin_ports c)) (λ (p : Port). p.name) in
    let both = length-filter_both (λ (p : Port). is_input p.dir) (λ p. not (is_input p.dir)) (λ p. refl) (pin_ports c) in
    omega (arith, a, b, both)

-- a gate and a plain flip-flop have seven pins at most beside the supplies, and one bit of their own

seven : (c : Cell) (f : Function) → FitsPins c f → (part_of f ≡ part.Other → ⊥) → length (pin_ports c) ≤ 7
seven c (gate e) fits others = let all = pins_count c in let outs = fits.0 in let ins = fits.1 in omega (arith, all, outs, ins)
seven c (flip_flop d k) fits others = let all = pins_count c in let outs = fits.0 in let ins = fits.1 in omega (arith, all, outs, ins)
seven c (other m) fits others = absurd (others refl)
seven c opaque fits others = absurd (others refl)

narrow_cell : (c : Cell) (f : Function) → (part_of f ≡ part.Other → ⊥) → width (body_of c f) ≤ 1
narrow_cell c (gate e) others = omega arith
narrow_cell c (flip_flop d k) others = omega arith
narrow_cell c (other m) others = absurd (others refl)
narrow_cell c opaque others = absurd (others refl)

pins_many : (f : Function) (ports xs : List Port) (ps : List ModelPin) → ArePins f ports xs ps → length ps ≡ length xs
pins_many f ports _ _ no_pins = refl
pins_many f ports _ _ (one_pin {port = x} {p = p} {rest = rest} {pins = pins} is more) = let r = pins_many f ports rest pins more in omega (arith, r)

-- ---- those of a netlist of such cells

module _ (n : Netlist) (l : Library) (table : List ModelPins) (g : Ground n l table) (plain : IsPlain n l) where
  -- the cell of an instance is one
  no_other : (i : Instance) (at : In i n.instances) → part_of (seated n l table g i at).cell.function ≡ part.Other → ⊥
  no_other i at e = let s = seated n l table g i at in plain i (in_place i n.instances at) (record { cell = s.cell; found = s.found; is = e })

  nine : (i : Instance) → In i n.instances → length i.pins ≤ 9
  nine i at =
      let s = seated n l table g i at in
      let own : i.pins ≡ map (λ (p : ModelPin). p.name) (pins_named table i.model) =
      All-In (λ (j : Instance). j.pins ≡ map (λ (p : ModelPin). p.name) (pins_named table j.model)) n.instances g.condition.fits.pins i at in
      let long : length i.pins ≡ length (map (λ (p : ModelPin). p.name) (pins_named table i.model)) = ap (λ (ns : List Name). length ns) own in
      let named = length-map (pins_named table i.model) (λ (p : ModelPin). p.name) in
      let ports = pins_many s.cell.function (all_ports s.cell) (all_ports s.cell) (pins_named table i.model) s.pins in
      let low = supply_few vdd (pin_ports s.cell) in
      let high = supply_few vss (with_supply vdd (pin_ports s.cell)) in
      let few = seven s.cell s.cell.function s.formed.function (no_other i at) in
      omega (arith, long, named, ports, low, high, few)

  narrow : (i : Instance) → In i n.instances → width (body_at (cell_of l i.model)) ≤ 1
  narrow i at =
      let s = seated n l table g i at in
      let one = narrow_cell s.cell s.cell.function (no_other i at) in
      let same : width (body_at (cell_of l i.model)) ≡ width (body_of s.cell s.cell.function) = ap (λ o. width (body_at o)) s.found in
      omega (arith, one, same)

pins_few : (is : List Instance) → ((i : Instance) → In i is → length i.pins ≤ 9) → length (flat_map pins_of is) ≤ 9 * length is
pins_few [] each = omega arith
pins_few (i ∷ is) each =
    let a = each i here in
    let b = pins_few is (λ j k. each j (there k)) in
    let own = length-map i.pins (pin_of i.name) in
    let both = length-append (pins_of i) (flat_map pins_of is) in
    omega (arith, a, b, own, both)

widths_few : (l : Library) (is : List Instance) → ((i : Instance) → In i is → width (body_at (cell_of l i.model)) ≤ 1) → widths l is ≤ length is
widths_few l [] each = omega arith
widths_few l (i ∷ is) each = let a = each i here in let b = widths_few l is (λ j k. each j (there k)) in omega (arith, a, b)

-- there are no more classes than terminals
classes_few : {met count : ℕ} {classes : List ℕ} → InTurn met classes count → count ≤ met + length classes
classes_few (ended {met = met}) = omega arith
classes_few (again {met = met} {count = count} {k = k} {rest = rest} low more) = let r = classes_few more in omega (arith, r)
classes_few (first {met = met} {count = count} {rest = rest} more) = let r = classes_few more in omega (arith, r)

pub few_bits : LibraryPasses → HasFewInstances → HasFewPorts → NetlistHasFewBits
few_bits passes instances ports catal source files l table n library of is met plain =
    let g : Ground n l table = record { netlist = is.netlist.sound; condition = met; table_is = of; checked = passes false catal files l library } in
    let many = instances source table n is in
    let entity = ports source table n is met in
    let inside = widths_few l n.instances (narrow n l table g plain) in
    let pins = pins_few n.instances (nine n l table g plain) in
    let counted = classes_few is.netlist.sound.turns in
    let each = is.netlist.sound.each in
    let own = length-map n.ports (λ (p : Port). port p.name) in
    let both : length (terminals n) ≡ length (map (λ (p : Port). port p.name) n.ports) + length (flat_map pins_of n.instances) = length-append (map (λ (p : Port). port p.name) n.ports) (flat_map pins_of n.instances) in
    record { bits = omega (arith, many, entity, inside, pins, counted, each, own, both); ports = omega (arith, entity) }

filter_few : {X : Type 0} (p : X → Bool) (xs : List X) → length (filter p xs) ≤ length xs
filter_few p [] = omega arith
filter_few p (x ∷ xs) = by (p x) (filter_few p xs) where
  by : (b : Bool) → length (filter p xs) ≤ length xs → length (cond b (x ∷ filter p xs) (filter p xs)) ≤ length (x ∷ xs)
  by true h = omega (arith, h)
  by false h = omega (arith, h)

-- so its names and ports can be numbered
pub names_few : (n : Netlist) (l : Library) (table : List ModelPins) (m : Machine) → HasFewBits n l → IsFlat n l table m → length m.vars ≤ bits_of n l → length m.vars + length m.ports < 2 ^ 32
names_few n l table m few is numbered =
    let same : length m.ports ≡ length (signal_ports n.ports) = ap (λ (ps : List Port). length ps) is.of_netlist.ports in
    let less = filter_few (λ (p : Port). not (is_supply p.name.text)) n.ports in
    let bits = few.bits in
    let ports = few.ports in
    omega (arith, same, less, bits, ports, numbered)
