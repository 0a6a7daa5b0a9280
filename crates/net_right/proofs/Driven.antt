-- Each class of a right netlist has one driver.
use Rattle.std.proofs.Common.{◌≡◌, inl, inr, ℕ, ◌<◌, ◌≤◌, Bool, true, not, List, [], ◌∷◌, ◌++◌, filter, Some, refl, sym, ◌∙◌, ap, subst, arith}
use Rattle.std.proofs.lemmas.Option.{same_Some, slice_get_within}
use Rattle.vlsi_base.specs.declared.name.Name.{Name}
use Rattle.vlsi_base.specs.declared.name.Port.{Port}
use Rattle.vlsi_base.specs.declared.name.Dir.{Dir}
use Rattle.vlsi_base.specs.declared.name.Dir.TheVariants as dir
use Rattle.vlsi_base.specs.declared.name.Terminal.{Terminal}
use Rattle.vlsi_base.specs.Names.{vdd, vss}
use Rattle.vlsi_base.specs.Member.{In, here}
use Rattle.machine_core.specs.Machine.{Machine, is_input, is_clock, input_ports, inputs, names_of}
use Rattle.machine_core.specs.Checked.{IsNoSupply}
use Rattle.net_core.specs.declared.pins.ModelPin.{ModelPin}
use Rattle.net_core.specs.declared.pins.ModelPins.{ModelPins}
use Rattle.net_core.specs.declared.tally.Role.{Role}
use Rattle.net_core.specs.declared.tally.Role.TheVariants as role
use Rattle.net_core.specs.Places.{IsThere, Stands}
use Rattle.net_core.specs.Netlist.{Instance, Netlist as InMemory, port, pin_of, terminals, HasClass}
use Rattle.net_core.specs.Checks.{pins_named, port_role_of, pin_role_of, port_role, pin_role}
use Rattle.net_core.proofs.Rings.{at_place, class_below}
use Rattle.cell_model.specs.Cell.{Cell, pin_ports, cell_outputs}
use Rattle.cell_model.specs.Library.{Library, cell_of, IsUsable}
use Rattle.cell_model.specs.Usable.{IsFormed}
use Rattle.cell_model.proofs.Members.{In-left, In-map, In-map_back, All-In}
use Rattle.cell_pins.specs.Pins.{supply, all_ports}
use Rattle.cell_pins.specs.Table.{IsPinOf}
use Rattle.cell_pins.proofs.Ports.{in_filter}
use Rattle.cell_pins.proofs.Sound.{pin_at}
use Rattle.net_meaning.specs.Netlist.{Member}
use Rattle.net_theory.specs.Sources.{Source, high, low, ticking, node, IsNumber, Seat, ComesFrom}
use Rattle.net_theory.proofs.Basics.{at_number, number_below, number_once, number_in, In-held}
use Rattle.net_theory.proofs.Seats.{only, shown, above}
use Rattle.net_right.specs.View.{member_of}
use Rattle.net_right.proofs.Lists.{in_place}
use Rattle.net_right.proofs.Tallies.{drives, input_port, Weighs}
use Rattle.net_right.proofs.Ports.{with_both, vss_there, vdd_there, port_stays}
use Rattle.net_right.proofs.Models.{named_cell}
use Rattle.net_right.proofs.Places.{Placed, port_placed, pin_placed, members, member_place}
use Rattle.net_right.proofs.Terminals.{seen_instances, seen_classes}
use Rattle.net_right.proofs.Filled.{Given, model_at, fits, ShownBy, DrivesFrom, at}

input_dir : (d : Dir) → is_input d ≡ true → d ≡ dir.In
input_dir dir.In e = refl
input_dir dir.Out e = absurd cc

output_dir : (d : Dir) → not (is_input d) ≡ true → d ≡ dir.Out
output_dir dir.In e = absurd cc
output_dir dir.Out e = refl

module _ (n : InMemory) (l : Library) (m : Machine) (all : Bool) (table : List ModelPins) (given : Given n l m all table) where
  abbrev From : Terminal → Source → Type 0
  From t s = DrivesFrom n l m all table given t s

  abbrev Shown : Terminal → ℕ → Type 0
  Shown t a = ShownBy n l m all table given t a

  abbrev source : Terminal → Source
  source t = at n l m all table given t

  -- ---- one driver

  shown_once : (a : ℕ) (t u : Terminal) → Shown t a → Shown u a → t ≡ u
  shown_once a t u x y =
      let one : x.seat ≡ y.seat = given.right.shows.one_node x.seat y.seat x.listed y.listed (x.node_is ∙ sym y.node_is) in
      let found : cell_of l y.seat.member.model ≡ Some x.cell = subst (λ (z : Seat). cell_of l z.member.model ≡ Some x.cell) one x.found in
      let cells : x.cell ≡ y.cell = same_Some x.cell y.cell (sym found ∙ y.found) in
      let outs : x.out ∷ [] ≡ y.out ∷ [] = sym x.single ∙ ap cell_outputs cells ∙ y.single in
      let names : x.out ≡ y.out = cc outs in
      x.is ∙ ap (λ (z : Seat). pin_of z.member.name x.out) one ∙ ap (pin_of y.seat.member.name) names ∙ sym y.is

  no_input : (a : ℕ) (t : Terminal) (name : Name) → IsNumber (inputs m) a name → Shown t a → ⊥
  no_input a t name number x =
      let s = given.right.shows.seated x.seat x.listed in
      let beyond = above given.right.sourced m given.right.values given.right.roots x.seat s.cell s.cell.function s.plays in
      let below = number_below (inputs m) a name number in
      let is = x.node_is in
      omega (arith, beyond, below, is)

  pub one_driver : (s : Source) (t u : Terminal) → From t s → From u s → t ≡ u
  one_driver high t u p q = p ∙ sym q
  one_driver low t u p q = p ∙ sym q
  one_driver ticking t u p q = p.2 ∙ ap port (same_Some p.0 q.0 (sym p.1 ∙ q.1)) ∙ sym q.2
  one_driver (node a) t u p q = elim p [
    | inl x ↦ elim q [
      | inl y ↦ x.2 ∙ ap port (number_once (inputs m) a x.0 y.0 x.1 y.1) ∙ sym y.2
      | inr y ↦ absurd (no_input a u x.0 x.1 y)
    ]
    | inr x ↦ elim q [
      | inl y ↦ absurd (no_input a t y.0 y.1 x)
      | inr y ↦ shown_once a t u x y
    ]
  ]

  -- ---- a driver

  -- a terminal that drives, in a class of its source
  drawn : (w : Role → ℕ) (t : Terminal) (r : Role) → Placed table n t r → 1 ≤ w r → (c : ℕ) → c < n.count → given.right.sourced.source c ≡ source t → Weighs w (members table n) c
  drawn w t r h some c under is =
      let inside = slice_get_within (terminals n) h.place t h.terminal in
      let many = given.netlist.each in
      let d = at_place n.classes h.place (omega (arith, inside, many)) in
      let has : HasClass n t d.0 = (h.place, h.terminal, d.1) in
      let classes = seen_classes n given.right.sourced.netlist given.right.seen in
      let below = class_below n given.netlist t d.0 has in
      let seen : given.right.sourced.netlist.class t ≡ d.0 = given.right.seen.classes.each t d.0 has in
      let one : d.0 ≡ c =
      given.right.shows.one_class d.0 c (omega (arith, below, classes)) (omega (arith, under, classes)) (ap given.right.sourced.source (sym seen) ∙ sym is) in
      record { place = h.place; part = r; stands = member_place table n t r h c (subst (λ (k : ℕ). Stands n.classes h.place k) one d.1); some = some }

  machine_port : (p : Port) → In p m.ports → IsThere n.ports p
  machine_port p i =
      let free : IsNoSupply p.name = All-In IsNoSupply (names_of m.ports ++ m.vars) given.checked.supplies p.name (In-left p.name (names_of m.ports) m.vars (In-map (λ (x : Port). x.name) p m.ports i)) in
      let stays : In p (with_both m.ports) = port_stays m.ports p i (λ e. free.0 (ap (λ (x : Name). x.text) e)) (λ e. free.1 (ap (λ (x : Name). x.text) e)) in
      in_place p n.ports (subst (λ (ps : List Port). In p ps) (sym given.right.ports) stays)

  port_draws : (w : Role → ℕ) → 1 ≤ w role.InputPort → (p : Port) → IsThere n.ports p → p.dir ≡ dir.In → (c : ℕ) → c < n.count → given.right.sourced.source c ≡ source (port p.name)
      → Weighs w (members table n) c
  port_draws w some p h is_in c under is =
      drawn w (port p.name) (port_role p) (port_placed table n (fits n l m all table given) p h) (subst (λ (d : Dir). 1 ≤ w (port_role_of d)) (sym is_in) some) c under is

  input_draws : (w : Role → ℕ) → 1 ≤ w role.InputPort → (name : Name) → In name (input_ports m) → (c : ℕ) → c < n.count → given.right.sourced.source c ≡ source (port name)
      → Weighs w (members table n) c
  input_draws w some name i c under is =
      let r = In-map_back (λ (p : Port). p.name) name (filter (λ p. is_input p.dir) m.ports) i in
      let f = in_filter (λ p. is_input p.dir) m.ports r.0 r.1 in
      port_draws w some r.0 (machine_port r.0 f.0) (input_dir r.0.dir f.1) c under (is ∙ ap (λ (x : Name). source (port x)) (sym r.2))

  supply_draws : (name : Name) → In (supply name) (with_both m.ports) → (c : ℕ) → c < n.count → given.right.sourced.source c ≡ source (port name) → Weighs drives (members table n) c
  supply_draws name i c under is =
      let one : 1 ≤ 1 = omega arith in
      port_draws drives one (supply name) (in_place (supply name) n.ports (subst (λ (ps : List Port). In (supply name) ps) (sym given.right.ports) i)) refl c under is

  -- the instance of a seat
  member_back : (p : Seat) → In p given.right.shows.seats → (i : Instance) × In i n.instances × (member_of i ≡ p.member)
  member_back p g =
      let k = given.right.sourced.netlist in
      let listed : In p.member k.instances = subst (λ (ms : List Member). In p.member ms) (sym given.right.shows.instances) (In-map (λ (q : Seat). q.member) p given.right.shows.seats g) in
      In-map_back member_of p.member n.instances (subst (λ (ms : List Member). In p.member ms) (seen_instances n k given.right.seen) listed)

  -- a port of a cell is a pin of each instance of it
  pin_of_port : (i : Instance) (c : Cell) → cell_of l i.model ≡ Some c → IsUsable c → (x : Port) → In x (pin_ports c)
      → (q : ModelPin) × IsThere (pins_named table i.model) q × IsPinOf c.function (all_ports c) x q
  pin_of_port i c found usable x j =
      let formed : IsFormed c = All-In IsFormed l.cells given.passed.formed c (named_cell l.cells i.model c found).0 in
      let free = formed.signals x.name (In-map (λ (p : Port). p.name) x (pin_ports c) j) in
      let place = in_place x (all_ports c) (port_stays (pin_ports c) x j free.0 free.1) in
      let h = model_at n l m all table given i c found usable in
      let q = pin_at c.function (all_ports c) (all_ports c) h.found.pins place.0 x h.is.pins place.1 in
      (q.0, subst (λ (ps : List ModelPin). IsThere ps q.0) (sym h.pins) (place.0, q.1), q.2)

  seat_draws : (p : Seat) → In p given.right.shows.seats → (c : ℕ) → c < n.count → given.right.sourced.source c ≡ node p.node → Weighs drives (members table n) c
  seat_draws p g c under is =
      let s = given.right.shows.seated p g in
      let i = member_back p g in
      let found : cell_of l i.0.model ≡ Some s.cell = subst (λ (x : Member). cell_of l x.model ≡ Some s.cell) (sym i.2) s.found in
      let one = only (λ (q : Name). source (pin_of p.member.name q)) (cell_outputs s.cell) (node p.node) (shown given.right.sourced m given.right.values given.right.roots p s.cell s.cell.function s.plays) in
      let listed : In one.0 (cell_outputs s.cell) = subst (λ (names : List Name). In one.0 names) (sym one.1) here in
      let x = In-map_back (λ (y : Port). y.name) one.0 (filter (λ y. not (is_input y.dir)) (pin_ports s.cell)) listed in
      let f = in_filter (λ y. not (is_input y.dir)) (pin_ports s.cell) x.0 x.1 in
      let q = pin_of_port i.0 s.cell found s.usable x.0 f.0 in
      let gives : q.0.dir ≡ dir.Out = q.2.dir ∙ output_dir x.0.dir f.1 in
      let weight : 1 ≤ 1 = omega arith in
      let owner : i.0.name ≡ p.member.name = ap (λ (y : Member). y.name) i.2 in
      let named : q.0.name ≡ one.0 = q.2.name ∙ x.2 in
      let at_pin : source (pin_of i.0.name q.0.name) ≡ node p.node =
      ap (λ (o : List ℕ). source (pin_of o q.0.name)) owner ∙ ap (λ (y : Name). source (pin_of p.member.name y)) named ∙ one.2 in
      drawn drives (pin_of i.0.name q.0.name) (pin_role q.0) (pin_placed table n (fits n l m all table given) i.0 q.0 (in_place i.0 n.instances i.1) q.1)
      (subst (λ (d : Dir). 1 ≤ drives (pin_role_of d q.0.is_clock)) (sym gives) weight) c under (is ∙ sym at_pin)

  classes : given.right.sourced.netlist.classes ≡ n.count
  classes = seen_classes n given.right.sourced.netlist given.right.seen

  one : 1 ≤ 1
  one = omega arith

  -- the clock's class has its port
  pub clocked : (c : ℕ) → c < n.count → given.right.sourced.source c ≡ ticking → Weighs input_port (members table n) c
  clocked c under e =
      let from = subst (λ (s : Source). ComesFrom m given.right.shows.seats s) e (given.right.shows.origins c (omega (arith, under, classes))) in
      input_draws input_port one from.0 (In-held from.0 (input_ports m) (given.checked.clock from.0 from.1).port) c under (e ∙ sym (given.right.shows.on_clock from.0 from.1))

  pub driven : (c : ℕ) → c < n.count → Weighs drives (members table n) c
  driven c under = by (given.right.sourced.source c) refl (given.right.shows.origins c (omega (arith, under, classes))) where
    by : (s : Source) → given.right.sourced.source c ≡ s → ComesFrom m given.right.shows.seats s → Weighs drives (members table n) c
    by high e from = supply_draws vdd (vdd_there m.ports) c under (e ∙ sym given.right.shows.on_vdd)
    by low e from = supply_draws vss (vss_there m.ports) c under (e ∙ sym given.right.shows.on_vss)
    by ticking e from = input_draws drives one from.0 (In-held from.0 (input_ports m) (given.checked.clock from.0 from.1).port) c under (e ∙ sym (given.right.shows.on_clock from.0 from.1))
    by (node a) e from = elim from [
      | inl below ↦
          let name = at_number (inputs m) a below in
          let listed = (in_filter (λ x. not (is_clock m.clock x)) (input_ports m) name.0 (number_in (inputs m) a name.0 name.1)).0 in
          input_draws drives one name.0 listed c under (e ∙ sym (given.right.shows.in_ports a name.0 name.1))
      | inr p ↦ seat_draws p.0 p.1 c under (e ∙ ap node (sym p.2))
    ]
