-- The pins of an instance among the terminals of its netlist.
use Rattle.std.proofs.Common.{◌≡◌, inr, ℕ, suc, ◌+◌, ◌<◌, ◌≤◌, Bool, true, false, List, [], ◌∷◌, ◌++◌, map, filter, length, get_or, take, Some, refl, sym, ap, ◌∙◌, subst, arith}
use Rattle.std.specs.List.{flat_map}
use Rattle.std.proofs.lemmas.List.{length-append, length-map}
use Rattle.std.proofs.lemmas.Option.{slice_get_within, slice_get-get_or, get_or_from_slice_get}
use Rattle.vlsi_base.specs.declared.name.Name.{Name}
use Rattle.vlsi_base.specs.declared.name.Port.{Port}
use Rattle.vlsi_base.specs.declared.name.Terminal.{Terminal}
use Rattle.vlsi_base.specs.Names.{vdd, vss, comes_before}
use Rattle.cell_model.specs.Cell.{Cell, pin_ports}
use Rattle.cell_model.specs.Library.{Library, cell_of, IsUsable}
use Rattle.cell_pins.specs.Pins.{supply, with_supply, all_ports}
use Rattle.cell_pins.specs.Table.{IsListed}
use Rattle.net_core.specs.declared.frame.Node.{Node}
use Rattle.net_core.specs.declared.pins.ModelPin.{ModelPin}
use Rattle.net_core.specs.Places.{Stands, IsThere}
use Rattle.net_core.specs.Netlist.{Instance, Netlist, IsNetlist, port, pin_of, pins_of, terminals, terminals_of}
use Rattle.net_core.specs.Frame.{instance_of, node_pins, AreNumbered}
use Rattle.net_core.specs.Checks.{pins_named}
use Rattle.net_core.proofs.Frames.{mapped, port_terminals, terminals_are, PinAt, pin_known, pin_found}
use Rattle.net_core.proofs.Rings.{at_place}
use Rattle.net_core.proofs.Standing.{stands_same}
use Rattle.delay_sta.specs.Timed.{CanBeTimed}
use Rattle.delay_sta.proofs.Tables.{row_of, names_same}
use Rattle.loon_buffer.specs.Drives.{IsAt}
use Rattle.loon_buffer.specs.Choices.{HasMarkedPin}

module _ (n : Netlist) (sound : IsNetlist n) (nodes : List Node) (seen : map (instance_of n.models) nodes ≡ n.instances) (numbered : AreNumbered n.ports nodes)
    (number : ℕ) (node : Node) (stood : Stands nodes number node) where
  pub owner_stands : Stands n.instances number (instance_of n.models node)
  owner_stands = subst (λ (is : List Instance). Stands is number (instance_of n.models node)) seen (mapped (instance_of n.models) nodes number node stood)

  all_terminals : terminals n ≡ port_terminals n.ports ++ flat_map node_pins nodes
  all_terminals = ap (λ (is : List Instance). terminals_of n.ports is) (sym seen) ∙ terminals_are n.ports n.models nodes

  first_is : node.first ≡ length n.ports + length (flat_map node_pins (take number nodes))
  first_is = subst (λ (x : Node). x.first ≡ length n.ports + length (flat_map node_pins (take number nodes))) (get_or_from_slice_get nodes number node node stood)
      (numbered number node (slice_get_within nodes number node stood))

  pin_stands : (k : ℕ) (pin : Name) → Stands node.pins k pin → Stands (terminals n) (node.first + k) (pin_of node.name pin)
  pin_stands k pin s =
      let first = first_is in
      let e : length n.ports + (length (flat_map node_pins (take number nodes)) + k) ≡ node.first + k = omega (arith, first) in
      subst (λ (ts : List Terminal). Stands ts (node.first + k) (pin_of node.name pin)) (sym all_terminals)
      (subst (λ j. Stands (port_terminals n.ports ++ flat_map node_pins nodes) j (pin_of node.name pin)) e (pin_found n.ports nodes number k node pin stood s))

  pub pin_low : (k : ℕ) → k < length node.pins → node.first + k < length n.classes
  pin_low k l =
      let p = at_place node.pins k l in
      let w = slice_get_within (terminals n) (node.first + k) (pin_of node.name p.0) (pin_stands k p.0 p.1) in
      let e = sound.each in
      omega (arith, w, e)

  pub marked_at : (marks : List Bool) (k : ℕ) → k < length node.pins → get_or marks (get_or n.classes (node.first + k) 0) false ≡ true → HasMarkedPin n marks number
  marked_at marks k l marked =
      let p = at_place node.pins k l in
      record {
        class = get_or n.classes (node.first + k) 0;
        at = record {
          owner = instance_of n.models node;
          stands = owner_stands;
          pin = p.0;
          joined = (node.first + k, pin_stands k p.0 p.1, slice_get-get_or n.classes (node.first + k) 0 (pin_low k l));
        };
        marked = marked;
      }

  -- a class in which the instance has a pin is that of one of the pins
  record IsOfPin (class : ℕ) : Type 0 where
    place : ℕ
    low : place < length node.pins
    is : get_or n.classes (node.first + place) 0 ≡ class

  of_pin : (class : ℕ) → IsAt n class number → IsOfPin class
  of_pin class h = by (pin_known n.ports nodes h.joined.0 h.owner.name h.pin there) where
    there : Stands (port_terminals n.ports ++ flat_map node_pins nodes) h.joined.0 (pin_of h.owner.name h.pin)
    there = subst (λ (ts : List Terminal). Stands ts h.joined.0 (pin_of h.owner.name h.pin)) all_terminals h.joined.1

    by : (j : ℕ) × (h.joined.0 ≡ length n.ports + j) × PinAt nodes h.owner.name h.pin j → IsOfPin class
    by w =
        let at : PinAt nodes h.owner.name h.pin w.0 = w.2 in
        let other : Stands n.instances at.place (instance_of n.models at.node) =
        subst (λ (is : List Instance). Stands is at.place (instance_of n.models at.node)) seen (mapped (instance_of n.models) nodes at.place at.node at.stands) in
        let one : Stands (map (λ (i : Instance). i.name) n.instances) at.place h.owner.name =
        subst (λ (m : List ℕ). Stands (map (λ (i : Instance). i.name) n.instances) at.place m) at.named (mapped (λ (i : Instance). i.name) n.instances at.place (instance_of n.models at.node) other) in
        let two = mapped (λ (i : Instance). i.name) n.instances number h.owner h.stands in
        let same : at.place ≡ number = sound.names at.place number h.owner.name one two in
        let node_is : at.node ≡ node = stands_same nodes number at.node node (subst (λ k. Stands nodes k at.node) same at.stands) stood in
        let inside : Stands node.pins at.inner h.pin = subst (λ (x : Node). Stands x.pins at.inner h.pin) node_is at.inside in
        let sum : w.0 ≡ length (flat_map node_pins (take number nodes)) + at.inner = subst (λ k. w.0 ≡ length (flat_map node_pins (take k nodes)) + at.inner) same at.sum in
        let far : h.joined.0 ≡ length n.ports + w.0 = w.1 in
        let first = first_is in
        let e : h.joined.0 ≡ node.first + at.inner = omega (arith, sum, far, first) in
        record {
          place = at.inner;
          low = slice_get_within node.pins at.inner h.pin inside;
          is = get_or_from_slice_get n.classes (node.first + at.inner) class 0 (subst (λ k. Stands n.classes k class) e h.joined.2);
        }

  pub none_marked : (marks : List Bool) (k : ℕ) → length node.pins ≤ k → ((j : ℕ) → j < k → get_or marks (get_or n.classes (node.first + j) 0) false ≡ false) → HasMarkedPin n marks number → ⊥
  none_marked marks k all none h =
      let p = of_pin h.class h.at in
      let l = p.low in
      let no : false ≡ true = sym (none p.place (omega (arith, l, all))) ∙ ap (λ c. get_or marks c false) p.is ∙ h.marked in
      absurd cc

-- ---- there are no more instances than terminals

each_pinned : (is : List Instance) → ((i : Instance) → IsThere is i → 0 < length i.pins) → length is ≤ length (flat_map pins_of is)
each_pinned [] some = omega arith
each_pinned (i ∷ is) some =
    let r = each_pinned is (λ j t. some j (suc t.0, t.1)) in
    let a = length-append (pins_of i) (flat_map pins_of is) in
    let m = length-map i.pins (pin_of i.name) in
    let l = some i (0, refl) in
    omega (arith, r, a, m, l)

supplied : (name : Name) (ps : List Port) → 0 < length (with_supply name ps)
supplied name ps =
    let a = length-append (filter (λ p. comes_before p.name name) ps) (supply name ∷ filter (λ p. comes_before name p.name) ps) in
    omega (arith, a)

module _ (l : Library) (n : Netlist) (timed : CanBeTimed l n) where
  pinned : (i : Instance) → IsThere n.instances i → 0 < length i.pins
  pinned i t = by (timed.usable i t) where
    own : i.pins ≡ map (λ (p : ModelPin). p.name) (pins_named timed.table i.model)
    own = subst (λ (o : Instance). o.pins ≡ map (λ (p : ModelPin). p.name) (pins_named timed.table o.model)) (get_or_from_slice_get n.instances t.0 i i t.1)
        (timed.fits.pins t.0 i (slice_get_within n.instances t.0 i t.1))

    by : (c : Cell) × (cell_of l i.model ≡ Some c) × IsUsable c → 0 < length i.pins
    by u =
        let row = row_of (IsListed timed.all) l.cells timed.table i.model u.0 timed.listed u.1 (inr u.2) in
        let names = names_same u.0.function (all_ports u.0) (all_ports u.0) (pins_named timed.table i.model) row.pins in
        let e = ap length (own ∙ names) in
        let m = length-map (all_ports u.0) (λ (p : Port). p.name) in
        let s = supplied vss (with_supply vdd (pin_ports u.0)) in
        omega (arith, e, m, s)

  pub few_instances : IsNetlist n → length n.instances ≤ length n.classes
  few_instances sound =
      let a = length-append (map (λ (p : Port). port p.name) n.ports) (flat_map pins_of n.instances) in
      let b = each_pinned n.instances pinned in
      let e = sound.each in
      omega (arith, a, b, e)
