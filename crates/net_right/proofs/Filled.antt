-- What gives the terminals of a right netlist their sources, by what they do.
use Rattle.std.proofs.Common.{◌≡◌, ◌≢◌, ◌⊎◌, inl, inr, ℕ, Bool, true, false, not, List, [], ◌∷◌, map, filter, Some, refl, sym, ◌∙◌, ap, subst}
use Rattle.vlsi_base.specs.declared.name.Name.{Name}
use Rattle.vlsi_base.specs.declared.name.Port.{Port}
use Rattle.vlsi_base.specs.declared.name.Dir.{Dir}
use Rattle.vlsi_base.specs.declared.name.Dir.TheVariants as dir
use Rattle.vlsi_base.specs.declared.name.Terminal.{Terminal}
use Rattle.vlsi_base.specs.Names.{vdd, vss}
use Rattle.vlsi_base.specs.Member.{In}
use Rattle.machine_core.specs.Machine.{Machine, is_input, is_clock, input_ports, inputs, outputs}
use Rattle.machine_core.specs.Checked.{IsChecked}
use Rattle.net_core.specs.declared.pins.ModelPin.{ModelPin}
use Rattle.net_core.specs.declared.pins.ModelPins.{ModelPins}
use Rattle.net_core.specs.declared.tally.Role.{Role}
use Rattle.net_core.specs.declared.tally.Role.TheVariants as role
use Rattle.net_core.specs.Places.{IsThere}
use Rattle.net_core.specs.Netlist.{Instance, Netlist as InMemory, IsNetlist, port, pin_of}
use Rattle.net_core.specs.Checks.{pins_named, Fits, IsPinTable, port_role_of, pin_role_of, pin_role, port_role}
use Rattle.net_core.proofs.Rings.{each_there}
use Rattle.cell_model.specs.Cell.{Function, gate, flip_flop, other, opaque, Cell, pin_ports, cell_inputs, cell_outputs}
use Rattle.cell_model.specs.Library.{Library, cell_of, IsUsable, IsPlain}
use Rattle.cell_model.proofs.Members.{In-map}
use Rattle.cell_checks.specs.Checked.{IsChecked as HasPassed}
use Rattle.cell_pins.specs.Pins.{supply, all_ports, IsClockPin}
use Rattle.cell_pins.specs.Table.{IsPinOf, IsListed, IsTableOf}
use Rattle.cell_pins.proofs.Sound.{member_at as in_from_place, pin_names, port_of_pin}
use Rattle.net_meaning.specs.Netlist.{Member}
use Rattle.net_theory.specs.Sources.{Source, high, low, ticking, node, IsNumber, Seat, source_of, Plays}
use Rattle.net_theory.proofs.Basics.{clock_is, number_of}
use Rattle.net_theory.proofs.Seats.{only, In-only, In-two, Sits, sits, shown, pin_source, output_at}
use Rattle.net_right.specs.View.{member_of}
use Rattle.net_right.specs.Right.{IsRightNetlist, HasPinsOfCells}
use Rattle.net_right.proofs.Lists.{filter_in}
use Rattle.net_right.proofs.Ports.{with_both, both_cases}
use Rattle.net_right.proofs.Models.{HasModel, model_found}
use Rattle.net_right.proofs.Places.{Does, does_port, does_pin}
use Rattle.net_right.proofs.Seen.{right_member, right_cell}

not_ticking : (s : Source) (a : ℕ) → s ≡ node a → s ≢ ticking
not_ticking s a e f = let n : node a ≡ ticking = sym e ∙ f in cc n

-- a right netlist with its library and a table of pins
pub record Given (n : InMemory) (l : Library) (m : Machine) (all : Bool) (table : List ModelPins) : Type 0 where
  pub netlist : IsNetlist n
  pub checked : IsChecked m
  pub passed : HasPassed false l
  pub right : IsRightNetlist n l m
  pub pins : HasPinsOfCells n l
  pub is_table : IsTableOf l all table
  pub is_pin_table : IsPinTable table

module _ (n : InMemory) (l : Library) (m : Machine) (all : Bool) (table : List ModelPins) (given : Given n l m all table) where
  -- ---- the cells of its instances

  pub cell_at : (i : Instance) → IsThere n.instances i → (c : Cell) × (cell_of l i.model ≡ Some c) × IsUsable c
  cell_at i t = right_cell n l m given.checked given.right i t

  pub model_at : (i : Instance) (c : Cell) → cell_of l i.model ≡ Some c → IsUsable c → HasModel c table i.model
  model_at i c found usable = model_found (IsListed all) l.cells table c i.model given.is_table found (inr usable)

  has_pins : (i : Instance) → IsThere n.instances i → i.pins ≡ map (λ p. p.name) (pins_named table i.model)
  has_pins i t =
      let c = cell_at i t in
      let h = model_at i c.0 c.1 c.2 in
      given.pins i c.0 t c.1 ∙ sym (pin_names c.0.function (all_ports c.0) (all_ports c.0) h.found.pins h.is.pins) ∙ ap (map (λ (p : ModelPin). p.name)) (sym h.pins)

  pub fits : Fits n table
  fits = record {
    table_is = given.is_pin_table;
    listed = each_there (λ (i : Instance). IsThere (map (λ m. m.model) table) i.model) n.instances (λ i t. let c = cell_at i t in (model_at i c.0 c.1 c.2).known);
    pins = each_there (λ (i : Instance). i.pins ≡ map (λ p. p.name) (pins_named table i.model)) n.instances has_pins;
  }

  -- the port of a pin, where the model's cell is known
  pub port_at : (i : Instance) (c : Cell) → cell_of l i.model ≡ Some c → IsUsable c → (q : ModelPin) → IsThere (pins_named table i.model) q
      → (x : Port) × In x (all_ports c) × IsPinOf c.function (all_ports c) x q
  port_at i c found usable q t =
      let h = model_at i c found usable in
      let place = subst (λ (ps : List ModelPin). IsThere ps q) h.pins t in
      port_of_pin c.function (all_ports c) (all_ports c) h.found.pins q h.is.pins (in_from_place h.found.pins place.0 q place.1)

  pub seat_at : (i : Instance) (t : IsThere n.instances i) (c : Cell) → cell_of l i.model ≡ Some c
      → Sits given.right.sourced l m given.right.values given.right.roots given.right.shows.seats (member_of i) c
  seat_at i t c found = sits given.right.sourced l m given.right.values given.right.roots given.right.shows (member_of i) c (right_member n l m given.right i t) found

  -- ---- what drives a class of a source

  -- the output pin of the instance that shows a node
  pub record ShownBy (t : Terminal) (a : ℕ) : Type 0 where
    pub seat : Seat
    pub listed : In seat given.right.shows.seats
    pub node_is : seat.node ≡ a
    pub cell : Cell
    pub found : cell_of l seat.member.model ≡ Some cell
    pub out : Name
    pub single : cell_outputs cell ≡ out ∷ []
    pub is : t ≡ pin_of seat.member.name out

  abbrev pub DrivesFrom : Terminal → Source → Type 0
  DrivesFrom t high = t ≡ port vdd
  DrivesFrom t low = t ≡ port vss
  DrivesFrom t ticking = (name : Name) × (m.clock ≡ Some name) × (t ≡ port name)
  DrivesFrom t (node a) = ((name : Name) × IsNumber (inputs m) a name × (t ≡ port name)) ⊎ ShownBy t a

  -- a driver gives its class the source; clock pins are at the clock, and inputs and output ports aren't
  abbrev pub Fills : Terminal → Source → Role → Type 0
  Fills t s role.InputPort = DrivesFrom t s
  Fills t s role.OutputPort = s ≢ ticking
  Fills t s role.InputPin = s ≢ ticking
  Fills t s role.ClockPin = s ≡ ticking
  Fills t s role.OutputPin = DrivesFrom t s

  -- the source of a terminal
  abbrev pub at : Terminal → Source
  at t = source_of given.right.sourced t

  -- ---- ports

  input_fills : (name : Name) → In name (input_ports m) → DrivesFrom (port name) (at (port name))
  input_fills name i = by (is_clock m.clock name) refl where
    by : (b : Bool) → is_clock m.clock name ≡ b → DrivesFrom (port name) (at (port name))
    by true e =
        let c = clock_is m.clock name e in
        subst (λ (s : Source). DrivesFrom (port name) s) (sym (given.right.shows.on_clock name c)) (name, c, refl)
    by false e =
        let k = number_of name (inputs m) (filter_in (λ x. not (is_clock m.clock x)) (input_ports m) name i (ap not e)) in
        subst (λ (s : Source). DrivesFrom (port name) s) (sym (given.right.shows.in_ports k.0 name k.1)) (inl (name, k.1, refl))

  signal_fills : (p : Port) → In p m.ports → (d : Dir) → p.dir ≡ d → Fills (port p.name) (at (port p.name)) (port_role_of d)
  signal_fills p i dir.In e = input_fills p.name (In-map (λ (x : Port). x.name) p (filter (λ x. is_input x.dir) m.ports) (filter_in (λ x. is_input x.dir) m.ports p i (ap is_input e)))
  signal_fills p i dir.Out e =
      let listed : In p.name (outputs m) =
      In-map (λ (x : Port). x.name) p (filter (λ x. not (is_input x.dir)) m.ports) (filter_in (λ x. not (is_input x.dir)) m.ports p i (ap (λ d. not (is_input d)) e)) in
      let k = number_of p.name (outputs m) listed in
      not_ticking (at (port p.name)) (given.right.roots.output k.0) (given.right.shows.out_ports k.0 p.name k.1)

  port_fills : (p : Port) → IsThere n.ports p → Fills (port p.name) (at (port p.name)) (port_role p)
  port_fills p t =
      let i : In p (with_both m.ports) = subst (λ (ps : List Port). In p ps) given.right.ports (in_from_place n.ports t.0 p t.1) in
      let vdd_fills : DrivesFrom (port vdd) (at (port vdd)) = subst (λ (s : Source). DrivesFrom (port vdd) s) (sym given.right.shows.on_vdd) refl in
      let vss_fills : DrivesFrom (port vss) (at (port vss)) = subst (λ (s : Source). DrivesFrom (port vss) s) (sym given.right.shows.on_vss) refl in
      elim (both_cases m.ports p i) [
        | inl is ↦ subst (λ (x : Port). Fills (port x.name) (at (port x.name)) (port_role x)) (sym is) vss_fills
        | inr rest ↦ elim rest [
          | inl is ↦ subst (λ (x : Port). Fills (port x.name) (at (port x.name)) (port_role x)) (sym is) vdd_fills
          | inr j ↦ signal_fills p j p.dir refl
        ]
      ]

  -- ---- pins

  clock_pin_fills : (p : Seat) (c : Cell) (u : Function) → Plays given.right.sourced m given.right.values given.right.roots p c u → (name : Name) → IsClockPin u name
      → at (pin_of p.member.name name) ≡ ticking
  clock_pin_fills p c (gate e) plays name is = absurd is
  clock_pin_fills p c (flip_flop d k) plays name is = subst (λ (x : Name). at (pin_of p.member.name x) ≡ ticking) is plays.clocked
  clock_pin_fills p c (other machine) plays name is = absurd plays
  clock_pin_fills p c opaque plays name is = absurd plays

  input_pin_fills : (p : Seat) (c : Cell) (u : Function) → IsPlain c u → Plays given.right.sourced m given.right.values given.right.roots p c u → (name : Name) → In name (cell_inputs c)
      → (IsClockPin u name → ⊥) → at (pin_of p.member.name name) ≢ ticking
  input_pin_fills p c (gate e) plain plays name i no_clock =
      let s = pin_source given.right.sourced p.member.name (cell_inputs c) plays.leaves name plays.reads i in
      not_ticking (at (pin_of p.member.name name)) s.0 s.2
  input_pin_fills p c (flip_flop d k) plain plays name i no_clock =
      elim (In-two d k name (cell_inputs c) plain.1 plain.2 plain.3 plain.4 i) [
        | inl on_d ↦
            not_ticking (at (pin_of p.member.name name)) (given.right.roots.load plays.number) (subst (λ (x : Name). at (pin_of p.member.name x) ≡ node (given.right.roots.load plays.number)) (sym on_d) plays.loads)
        | inr on_k ↦ absurd (no_clock (sym on_k))
      ]
  input_pin_fills p c (other machine) plain plays name i no_clock = absurd plays
  input_pin_fills p c opaque plain plays name i no_clock = absurd plays

  output_fills : (i : Instance) (c : Cell) → cell_of l i.model ≡ Some c → Sits given.right.sourced l m given.right.values given.right.roots given.right.shows.seats (member_of i) c
      → (name : Name) → In name (cell_outputs c) → DrivesFrom (pin_of i.name name) (at (pin_of i.name name))
  output_fills i c found s name h =
      let r = given.right in
      let owner : s.seat.member.name ≡ i.name = ap (λ (x : Member). x.name) s.member in
      let source : at (pin_of s.seat.member.name name) ≡ node s.seat.node = output_at r.sourced l m r.values r.roots s.seat c s.plays name h in
      let one = only (λ (q : Name). at (pin_of s.seat.member.name q)) (cell_outputs c) (node s.seat.node) (shown r.sourced m r.values r.roots s.seat c c.function s.plays) in
      let by_seat : ShownBy (pin_of s.seat.member.name name) s.seat.node = record {
        seat = s.seat;
        listed = s.listed;
        node_is = refl;
        cell = c;
        found = subst (λ (x : Member). cell_of l x.model ≡ Some c) (sym s.member) found;
        out = one.0;
        single = one.1;
        is = ap (pin_of s.seat.member.name) (In-only one.0 name (cell_outputs c) one.1 h);
      } in
      let drives : DrivesFrom (pin_of s.seat.member.name name) (node s.seat.node) = inr by_seat in
      subst (λ (x : List ℕ). DrivesFrom (pin_of x name) (at (pin_of x name))) owner
      (subst (λ (z : Source). DrivesFrom (pin_of s.seat.member.name name) z) (sym source) drives)

  no_output : (x : Port) (name : Name) (d : Dir) → x ≡ supply name → d ≡ x.dir → d ≡ dir.Out → ⊥
  no_output x name d is e f = let n : dir.Out ≡ dir.In = sym f ∙ e ∙ ap (λ (p : Port). p.dir) is in cc n

  part_fills : (i : Instance) (t : IsThere n.instances i) (c : Cell) → cell_of l i.model ≡ Some c → IsUsable c → (x : Port) → In x (all_ports c) → (q : ModelPin)
      → IsPinOf c.function (all_ports c) x q → (d : Dir) → q.dir ≡ d → (b : Bool) → q.is_clock ≡ b → Fills (pin_of i.name x.name) (at (pin_of i.name x.name)) (pin_role_of d b)
  part_fills i t c found usable x x_in q pin dir.In e true k =
      let s = seat_at i t c found in
      subst (λ (z : Member). at (pin_of z.name x.name) ≡ ticking) s.member (clock_pin_fills s.seat c c.function s.plays x.name (pin.clock.0 k))
  part_fills i t c found usable x x_in q pin dir.In e false k =
      let s = seat_at i t c found in
      elim (both_cases (pin_ports c) x x_in) [
        | inl is ↦ subst (λ (y : Port). at (pin_of i.name y.name) ≢ ticking) (sym is) (λ f. let g : low ≡ ticking = sym s.on_vss ∙ f in cc g)
        | inr rest ↦ elim rest [
          | inl is ↦ subst (λ (y : Port). at (pin_of i.name y.name) ≢ ticking) (sym is) (λ f. let g : high ≡ ticking = sym s.on_vdd ∙ f in cc g)
          | inr j ↦
              let taken : In x.name (cell_inputs c) =
              In-map (λ (p : Port). p.name) x (filter (λ p. is_input p.dir) (pin_ports c)) (filter_in (λ p. is_input p.dir) (pin_ports c) x j (ap is_input (sym pin.dir ∙ e))) in
              subst (λ (z : Member). at (pin_of z.name x.name) ≢ ticking) s.member
              (input_pin_fills s.seat c c.function usable.function s.plays x.name taken (λ h. let g : true ≡ false = sym (pin.clock.1 h) ∙ k in cc g))
        ]
      ]
  part_fills i t c found usable x x_in q pin dir.Out e b k =
      elim (both_cases (pin_ports c) x x_in) [
        | inl is ↦ absurd (no_output x vss q.dir is pin.dir e)
        | inr rest ↦ elim rest [
          | inl is ↦ absurd (no_output x vdd q.dir is pin.dir e)
          | inr j ↦
              let given_out : In x.name (cell_outputs c) =
              In-map (λ (p : Port). p.name) x (filter (λ p. not (is_input p.dir)) (pin_ports c))
              (filter_in (λ p. not (is_input p.dir)) (pin_ports c) x j (ap (λ (d : Dir). not (is_input d)) (sym pin.dir ∙ e))) in
              output_fills i c found (seat_at i t c found) x.name given_out
        ]
      ]

  pin_fills : (i : Instance) (t : IsThere n.instances i) (q : ModelPin) → IsThere (pins_named table i.model) q → Fills (pin_of i.name q.name) (at (pin_of i.name q.name)) (pin_role q)
  pin_fills i t q g =
      let c = cell_at i t in
      let x = port_at i c.0 c.1 c.2 q g in
      subst (λ (name : Name). Fills (pin_of i.name name) (at (pin_of i.name name)) (pin_role q)) (sym x.2.name)
      (part_fills i t c.0 c.1 c.2 x.0 x.1 q x.2 q.dir refl q.is_clock refl)

  pub fills : (t : Terminal) (r : Role) → Does table n t r → Fills t (at t) r
  fills t r (does_port p h e f) = subst (λ (x : Role). Fills t (at t) x) (sym f) (subst (λ (u : Terminal). Fills u (at u) (port_role p)) (sym e) (port_fills p h))
  fills t r (does_pin i q h g e f) = subst (λ (x : Role). Fills t (at t) x) (sym f) (subst (λ (u : Terminal). Fills u (at u) (pin_role q)) (sym e) (pin_fills i h q g))
