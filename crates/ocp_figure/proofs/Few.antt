-- A netlist of cells has no more instances than pins.
use Rattle.std.proofs.Common.{◌≡◌, ◌<◌, ◌≤◌, ◌^◌, List, [], ◌∷◌, ◌++◌, map, filter, length, flat_map, sym, subst, arith}
use Rattle.std.proofs.lemmas.List.{length-map, length-append}
use Rattle.vlsi_base.specs.declared.name.Port.{Port}
use Rattle.vlsi_base.specs.Names.{vdd, vss, comes_before}
use Rattle.vlsi_base.specs.Member.{In, here, there}
use Rattle.machine_core.specs.Machine.{names_of}
use Rattle.cell_model.specs.Cell.{Cell, pin_ports}
use Rattle.cell_model.specs.Library.{Library}
use Rattle.cell_pins.specs.Pins.{all_ports, with_supply, supply}
use Rattle.net_core.specs.Netlist.{Instance, Netlist as InMemory, port, pin_of, pins_of}
use Rattle.net_drawing.proofs.Coding.{get_In}
use Rattle.ocp_place.specs.Drawable.{IsDrawableIn}
use Rattle.ocp_place.proofs.Seen.{own_cell}

middle : {A : Type 0} (xs : List A) (y : A) (ys : List A) → 1 ≤ length (xs ++ y ∷ ys)
middle xs y ys = let n = length-append xs (y ∷ ys) in omega arith

-- a cell has a pin at least, that of a supply
some_port : (c : Cell) → 1 ≤ length (names_of (all_ports c))
some_port c =
    let ports = with_supply vdd (pin_ports c) in
    let h = middle (filter (λ p. comes_before p.name vss) ports) (supply vss) (filter (λ p. comes_before vss p.name) ports) in
    let n = length-map (all_ports c) (λ (p : Port). p.name) in
    omega arith

many_pins : (is : List Instance) → ((i : Instance) → In i is → 1 ≤ length i.pins) → length is ≤ length (flat_map pins_of is)
many_pins [] each = omega arith
many_pins (i ∷ rest) each =
    let r = many_pins rest (λ x h. each x (there h)) in
    let h = each i here in
    let n = length-map i.pins (pin_of i.name) in
    let a = length-append (pins_of i) (flat_map pins_of rest) in
    omega arith

pub few_instances : (l : Library) (n : InMemory) → IsDrawableIn l n → length n.classes < 2 ^ 32 → length n.instances < 2 ^ 32
few_instances l n given few =
    let many = many_pins n.instances (λ i h.
    let at = get_In n.instances i h in
    let own = own_cell l n given i (at.0, at.1) in
    let some = some_port own.cell in
    pinned i.pins (names_of (all_ports own.cell)) own.pins some) in
    let each = given.sound.each in
    let all = length-append (map (λ (p : Port). port p.name) n.ports) (flat_map pins_of n.instances) in
    omega (arith, few, many, each, all)
  where
    pinned : {A : Type 0} (xs ys : List A) → xs ≡ ys → 1 ≤ length ys → 1 ≤ length xs
    pinned xs ys e h = subst (λ zs. 1 ≤ length zs) (sym e) h
