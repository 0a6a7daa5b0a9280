-- The classes of a right netlist have no fault, and its output pins make no ring.
use Rattle.std.proofs.Common.{◌≡◌, ◌≢◌, inl, inr, ℕ, zero, suc, ◌+◌, ◌-◌, ◌<◌, ◌≤◌, Bool, false, not, ◌&&◌, ◌||◌, List, length, filter, nat_eq, nat_le, nat_lt, refl, sym, ◌∙◌, ap, subst, arith}
use Rattle.std.proofs.lemmas.Bool.{cases_lt, ne_eqb, lt-leb, le-ltb, and_left, and_right, or_from}
use Rattle.std.proofs.lemmas.Option.{slice_get_within}
use Rattle.vlsi_base.specs.declared.name.Name.{Name}
use Rattle.vlsi_base.specs.declared.name.Port.{Port}
use Rattle.vlsi_base.specs.declared.name.Dir.{Dir}
use Rattle.vlsi_base.specs.declared.name.Dir.TheVariants as dir
use Rattle.vlsi_base.specs.declared.name.Terminal.{Terminal}
use Rattle.vlsi_base.specs.Names.{vdd, vss}
use Rattle.vlsi_base.specs.Member.{In}
use Rattle.machine_core.specs.Machine.{Machine, is_input}
use Rattle.net_core.specs.declared.pins.ModelPin.{ModelPin}
use Rattle.net_core.specs.declared.pins.ModelPins.{ModelPins}
use Rattle.net_core.specs.declared.tally.Role.{Role}
use Rattle.net_core.specs.declared.tally.Role.TheVariants as role
use Rattle.net_core.specs.declared.tally.Tally.{Tally}
use Rattle.net_core.specs.declared.tally.ClassFault.TheVariants as fault
use Rattle.net_core.specs.Places.{Stands}
use Rattle.net_core.specs.Netlist.{Netlist as InMemory, pin_of, terminals, HasClass}
use Rattle.net_core.specs.Checks.{roles, tally, drivers, all_clocks, is_unconnected, class_test, HasSoundClasses, DependsOn, IsRing, Passes}
use Rattle.net_core.proofs.Classes.{roles_length}
use Rattle.net_core.proofs.Finishing.{netlist_terminals_once}
use Rattle.net_core.proofs.Rings.{at_place, class_below}
use Rattle.net_core.proofs.Standing.{stands_same}
use Rattle.cell_model.specs.Cell.{Function, gate, flip_flop, other, opaque, Cell, pin_ports, cell_inputs, cell_outputs}
use Rattle.cell_model.specs.Library.{Library}
use Rattle.cell_model.proofs.Members.{In-map}
use Rattle.cell_pins.specs.Pins.{all_ports}
use Rattle.cell_pins.specs.Follows.{DependsAtOnce}
use Rattle.cell_pins.specs.Table.{first_places, DependsAt}
use Rattle.cell_pins.proofs.Listed.{picked_has}
use Rattle.cell_pins.proofs.Sound.{member_at as in_from_place, pin_at}
use Rattle.net_meaning.specs.Netlist.{Member}
use Rattle.net_theory.specs.Sources.{Source, high, low, ticking, node, Seat, Plays}
use Rattle.net_theory.proofs.Seats.{pin_source, output_at}
use Rattle.net_right.proofs.Lists.{filter_in, zip_place}
use Rattle.net_right.proofs.Tallies.{in_class, weighed, drives, input_port, output_port, input_pin, clock_pin, drives_light, drivers_are, input_ports_are, output_ports_are, input_pins_are, clock_pins_are, some_weigh, TwoWeigh, two_weigh, weighs_place, weightless, clocks_weigh}
use Rattle.net_right.proofs.Ports.{both_cases}
use Rattle.net_right.proofs.Places.{members, member_at}
use Rattle.net_right.proofs.Terminals.{seen_classes}
use Rattle.net_right.proofs.Filled.{Given, cell_at, model_at, fits, port_at, seat_at, DrivesFrom, Fills, at, fills}
use Rattle.net_right.proofs.Driven.{one_driver, clocked, driven}

-- ---- classes

module _ (n : InMemory) (l : Library) (m : Machine) (all : Bool) (table : List ModelPins) (given : Given n l m all table) where
  abbrev source : Terminal → Source
  source t = at n l m all table given t

  abbrev members_of : List (Role × ℕ)
  members_of = members table n

  -- the source of a terminal that has a class
  source_is : (t : Terminal) (c : ℕ) → HasClass n t c → source t ≡ given.right.sourced.source c
  source_is t c h = ap given.right.sourced.source (given.right.seen.classes.each t c h)

  -- a member of a class, with what it is to the class's source
  filled : (k : ℕ) (r : Role) (c : ℕ) → Stands members_of k (in_class r c)
      → (t : Terminal) × Stands (terminals n) k t × Fills n l m all table given t (given.right.sourced.source c) r
  filled k r c s =
      let a = member_at table n (fits n l m all table given) k r c s in
      let is = source_is a.terminal c (k, a.stands, a.here) in
      (a.terminal, a.stands, subst (λ (x : Source). Fills n l m all table given a.terminal x r) is (fills n l m all table given a.terminal r a.doing))

  drives_from : (t : Terminal) (s : Source) (r : Role) → 1 ≤ drives r → Fills n l m all table given t s r → DrivesFrom n l m all table given t s
  drives_from t s role.InputPort some h = h
  drives_from t s role.OutputPort some h = let e : 1 ≤ 0 = some in absurd (omega (arith, e))
  drives_from t s role.InputPin some h = let e : 1 ≤ 0 = some in absurd (omega (arith, e))
  drives_from t s role.ClockPin some h = let e : 1 ≤ 0 = some in absurd (omega (arith, e))
  drives_from t s role.OutputPin some h = h

  ticks_from : (t : Terminal) (s : Source) (r : Role) → 1 ≤ clock_pin r → Fills n l m all table given t s r → s ≡ ticking
  ticks_from t s role.InputPort some h = let e : 1 ≤ 0 = some in absurd (omega (arith, e))
  ticks_from t s role.OutputPort some h = let e : 1 ≤ 0 = some in absurd (omega (arith, e))
  ticks_from t s role.InputPin some h = let e : 1 ≤ 0 = some in absurd (omega (arith, e))
  ticks_from t s role.ClockPin some h = h
  ticks_from t s role.OutputPin some h = let e : 1 ≤ 0 = some in absurd (omega (arith, e))

  no_output_port : (t : Terminal) (s : Source) (r : Role) → s ≡ ticking → Fills n l m all table given t s r → output_port r ≡ 0
  no_output_port t s role.InputPort e h = refl
  no_output_port t s role.OutputPort e h = absurd (h e)
  no_output_port t s role.InputPin e h = refl
  no_output_port t s role.ClockPin e h = refl
  no_output_port t s role.OutputPin e h = refl

  no_input_pin : (t : Terminal) (s : Source) (r : Role) → s ≡ ticking → Fills n l m all table given t s r → input_pin r ≡ 0
  no_input_pin t s role.InputPort e h = refl
  no_input_pin t s role.OutputPort e h = refl
  no_input_pin t s role.InputPin e h = absurd (h e)
  no_input_pin t s role.ClockPin e h = refl
  no_input_pin t s role.OutputPin e h = refl

  -- two drivers of a class are one terminal
  driven_once : (c : ℕ) → TwoWeigh drives members_of c → ⊥
  driven_once c two =
      let a = filled two.one.place two.one.part c two.one.stands in
      let b = filled two.other.place two.other.part c two.other.stands in
      let s = given.right.sourced.source c in
      let same : a.0 ≡ b.0 =
      one_driver n l m all table given s a.0 b.0 (drives_from a.0 s two.one.part two.one.some a.2) (drives_from b.0 s two.other.part two.other.some b.2) in
      two.apart (netlist_terminals_once n given.netlist two.one.place two.other.place b.0 (subst (λ (t : Terminal). Stands (terminals n) two.one.place t) same a.1) b.1)

  some_driver : (c : ℕ) → c < n.count → 1 ≤ drivers (tally table n c)
  some_driver c under =
      let d = driven n l m all table given c under in
      let at_least = weighs_place drives members_of c d.place d.part d.stands in
      let weight = d.some in
      let is : drivers (tally table n c) ≡ weighed drives members_of c = drivers_are members_of c in
      omega (arith, at_least, weight, is)

  connected : (c : ℕ) → c < n.count → is_unconnected (tally table n c) ≡ false
  connected c under =
      let t = tally table n c in
      let some : 1 ≤ t.input_ports + t.output_pins = some_driver c under in
      and_right (nat_eq (t.input_pins + t.clock_pins) 1) (nat_eq (t.input_ports + t.output_ports + t.output_pins) 0)
      (ne_eqb (t.input_ports + t.output_ports + t.output_pins) 0 (λ e. omega (arith, some, e)))

  has_driver : (c : ℕ) → c < n.count → class_test table n fault.NoDriver c ≡ false
  has_driver c under =
      let t = tally table n c in
      let some : 1 ≤ drivers t = some_driver c under in
      and_right (not (is_unconnected t) && nat_le 1 (t.input_pins + t.clock_pins + t.output_ports)) (nat_eq (drivers t) 0) (ne_eqb (drivers t) 0 (λ e. omega (arith, some, e)))

  one_driven : (c : ℕ) → class_test table n fault.TwoDrivers c ≡ false
  one_driven c = elim (cases_lt (drivers (tally table n c)) 2) [
    | inl few ↦ lt-leb 2 (drivers (tally table n c)) few
    | inr many ↦
        let is : drivers (tally table n c) ≡ weighed drives members_of c = drivers_are members_of c in
        absurd (driven_once c (two_weigh drives drives_light members_of c (omega (arith, many, is))))
  ]

  -- a class with a clock pin is the clock's
  ticks : (c : ℕ) → 0 < (tally table n c).clock_pins → given.right.sourced.source c ≡ ticking
  ticks c some =
      let is : (tally table n c).clock_pins ≡ weighed clock_pin members_of c = clock_pins_are members_of c in
      let p = some_weigh clock_pin members_of c (omega (arith, some, is)) in
      let f = filled p.place p.part c p.stands in
      ticks_from f.0 (given.right.sourced.source c) p.part p.some f.2

  all_here : (c : ℕ) → c < n.count → given.right.sourced.source c ≡ ticking → all_clocks (roles table n) ≡ (tally table n c).clock_pins
  all_here c under e =
      let many = roles_length table n (fits n l m all table given) in
      let each = given.netlist.each in
      clocks_weigh (roles table n) n.classes c (omega (arith, many, each)) here ∙ sym (clock_pins_are members_of c) where
        here : (k j : ℕ) → Stands (roles table n) k role.ClockPin → Stands n.classes k j → j ≡ c
        here k j p q =
            let f = filled k role.ClockPin j (zip_place (roles table n) n.classes k role.ClockPin j p q) in
            let has : HasClass n f.0 j = (k, f.1, q) in
            let inside = class_below n given.netlist f.0 j has in
            let classes = seen_classes n given.right.sourced.netlist given.right.seen in
            given.right.shows.one_class j c (omega (arith, inside, classes)) (omega (arith, under, classes)) (f.2 ∙ sym e)

  abbrev misused : Tally → Bool
  misused t = nat_eq t.input_ports 0 || nat_lt t.clock_pins (all_clocks (roles table n)) || nat_le 1 t.output_ports || nat_le 1 t.input_pins

  well_used : (c : ℕ) → c < n.count → given.right.sourced.source c ≡ ticking → (t : Tally) → t ≡ tally table n c → misused t ≡ false
  well_used c under e t is =
      let port_is = clocked n l m all table given c under e in
      let at_least = weighs_place input_port members_of c port_is.place port_is.part port_is.stands in
      let weight = port_is.some in
      let ports_are : t.input_ports ≡ weighed input_port members_of c = ap (λ (x : Tally). x.input_ports) is ∙ input_ports_are members_of c in
      let all_are : all_clocks (roles table n) ≡ t.clock_pins = all_here c under e ∙ ap (λ (x : Tally). x.clock_pins) (sym is) in
      let no_outputs : weighed output_port members_of c ≡ 0 = weightless output_port members_of c (λ k r s. let f = filled k r c s in no_output_port f.0 (given.right.sourced.source c) r e f.2) in
      let no_inputs : weighed input_pin members_of c ≡ 0 = weightless input_pin members_of c (λ k r s. let f = filled k r c s in no_input_pin f.0 (given.right.sourced.source c) r e f.2) in
      let outputs : t.output_ports ≡ 0 = ap (λ (x : Tally). x.output_ports) is ∙ output_ports_are members_of c ∙ no_outputs in
      let inputs : t.input_pins ≡ 0 = ap (λ (x : Tally). x.input_pins) is ∙ input_pins_are members_of c ∙ no_inputs in
      or_from (nat_eq t.input_ports 0 || nat_lt t.clock_pins (all_clocks (roles table n)) || nat_le 1 t.output_ports) (nat_le 1 t.input_pins)
      (or_from (nat_eq t.input_ports 0 || nat_lt t.clock_pins (all_clocks (roles table n))) (nat_le 1 t.output_ports)
      (or_from (nat_eq t.input_ports 0) (nat_lt t.clock_pins (all_clocks (roles table n)))
      (ne_eqb t.input_ports 0 (λ z. omega (arith, at_least, weight, ports_are, z)))
      (le-ltb t.clock_pins (all_clocks (roles table n)) (omega (arith, all_are))))
      (lt-leb 1 t.output_ports (omega (arith, outputs))))
      (lt-leb 1 t.input_pins (omega (arith, inputs)))

  used_well : (c : ℕ) → c < n.count → class_test table n fault.ClockUse c ≡ false
  used_well c under = elim (cases_lt 0 (tally table n c).clock_pins) [
    | inr none ↦ and_left (nat_le 1 (tally table n c).clock_pins) (misused (tally table n c)) (lt-leb 1 (tally table n c).clock_pins (omega (arith, none)))
    | inl some ↦ and_right (nat_le 1 (tally table n c).clock_pins) (misused (tally table n c)) (well_used c under (ticks c some) (tally table n c) refl)
  ]

  pub sound_classes : HasSoundClasses table n
  sound_classes fault.Unconnected c under = connected c under
  sound_classes fault.NoDriver c under = has_driver c under
  sound_classes fault.TwoDrivers c under = one_driven c
  sound_classes fault.ClockUse c under = used_well c under

  -- ---- rings

  -- the rank of a source's node
  abbrev rank_of : Source → ℕ
  rank_of high = 0
  rank_of low = 0
  rank_of ticking = 0
  rank_of (node a) = given.right.sourced.rank a

  -- where an output depends at once on an input, the input's node has a lower rank
  gate_falls : (p : Seat) (c : Cell) (u : Function) → Plays given.right.sourced m given.right.values given.right.roots p c u → (output input : Name) → DependsAtOnce u output input
      → In input (cell_inputs c) → rank_of (source (pin_of p.member.name input)) < given.right.sourced.rank p.node
  gate_falls p c (gate e) plays output input depends i =
      let s = pin_source given.right.sourced p.member.name (cell_inputs c) plays.leaves input plays.reads i in
      subst (λ (x : Source). rank_of x < given.right.sourced.rank p.node) (sym s.2) (plays.earlier s.0 s.1)
  gate_falls p c (flip_flop d k) plays output input depends i = absurd depends
  gate_falls p c (other machine) plays output input depends i = absurd plays
  gate_falls p c opaque plays output input depends i = absurd plays

  -- an input on which an output depends at once is no supply
  no_supply : (p : Seat) (c : Cell) (u : Function) → Plays given.right.sourced m given.right.values given.right.roots p c u → (output input : Name) → DependsAtOnce u output input
      → (input ≢ vdd) × (input ≢ vss)
  no_supply p c (gate e) plays output input depends = depends
  no_supply p c (flip_flop d k) plays output input depends = absurd depends
  no_supply p c (other machine) plays output input depends = absurd plays
  no_supply p c opaque plays output input depends = absurd plays

  -- a port of a cell that isn't a supply
  signal : (c : Cell) (x : Port) → In x (all_ports c) → x.name ≢ vdd → x.name ≢ vss → In x (pin_ports c)
  signal c x i no_vdd no_vss = elim (both_cases (pin_ports c) x i) [
    | inl is ↦ absurd (no_vss (ap (λ (p : Port). p.name) is))
    | inr rest ↦ elim rest [ inl is ↦ absurd (no_vdd (ap (λ (p : Port). p.name) is)) | inr j ↦ j ]
  ]

  output_signal : (c : Cell) (x : Port) → In x (all_ports c) → x.dir ≡ dir.Out → In x (pin_ports c)
  output_signal c x i e = elim (both_cases (pin_ports c) x i) [
    | inl is ↦ let clash : dir.In ≡ dir.Out = ap (λ (p : Port). p.dir) (sym is) ∙ e in absurd cc
    | inr rest ↦ elim rest [ inl is ↦ let clash : dir.In ≡ dir.Out = ap (λ (p : Port). p.dir) (sym is) ∙ e in absurd cc | inr j ↦ j ]
  ]

  falls : (a b : Terminal) → DependsOn table n a b → rank_of (source b) < rank_of (source a)
  falls a b d =
      let i = d.owner in
      let is_listed = d.is_pin.listed in
      let c = cell_at n l m all table given i is_listed in
      let h = model_at n l m all table given i c.0 c.1 c.2 in
      let s = seat_at n l m all table given i is_listed c.0 c.1 in
      let x = port_at n l m all table given i c.0 c.1 c.2 d.output d.is_pin.known in
      let depends : DependsAt c.0.function (all_ports c.0) x.0 d.place =
      picked_has (DependsAt c.0.function (all_ports c.0) x.0) (first_places (length (all_ports c.0))) d.output.depends_on d.place x.2.depends (in_from_place d.output.depends_on d.depends.0 d.place d.depends.1) in
      let y = depends.0 in
      let q = pin_at c.0.function (all_ports c.0) (all_ports c.0) h.found.pins d.place y h.is.pins depends.1 in
      let input_stands : Stands h.found.pins d.place d.input = subst (λ (ps : List ModelPin). Stands ps d.place d.input) h.pins d.there in
      let one : d.input ≡ q.0 = stands_same h.found.pins d.place d.input q.0 input_stands q.1 in
      let input_name : d.input.name ≡ y.name = ap (λ (z : ModelPin). z.name) one ∙ q.2.name in
      let free = no_supply s.seat c.0 c.0.function s.plays x.0.name y.name depends.2.2 in
      let y_in : In y (pin_ports c.0) = signal c.0 y (in_from_place (all_ports c.0) d.place y depends.1) free.0 free.1 in
      let y_input : In y.name (cell_inputs c.0) =
      In-map (λ (p : Port). p.name) y (filter (λ p. is_input p.dir) (pin_ports c.0)) (filter_in (λ p. is_input p.dir) (pin_ports c.0) y y_in (ap is_input depends.2.1)) in
      let x_in : In x.0 (pin_ports c.0) = output_signal c.0 x.0 x.1 depends.2.0 in
      let x_output : In x.0.name (cell_outputs c.0) =
      In-map (λ (p : Port). p.name) x.0 (filter (λ p. not (is_input p.dir)) (pin_ports c.0)) (filter_in (λ p. not (is_input p.dir)) (pin_ports c.0) x.0 x_in (ap (λ (z : Dir). not (is_input z)) depends.2.0)) in
      let lower = gate_falls s.seat c.0 c.0.function s.plays x.0.name y.name depends.2.2 y_input in
      let owner : s.seat.member.name ≡ i.name = ap (λ (z : Member). z.name) s.member in
      -- the sources of both
      let at_a : source a ≡ node s.seat.node =
      ap source d.is_pin.is ∙ ap (λ (z : Name). source (pin_of i.name z)) x.2.name ∙ ap (λ (z : List ℕ). source (pin_of z x.0.name)) (sym owner)
      ∙ output_at given.right.sourced l m given.right.values given.right.roots s.seat c.0 s.plays x.0.name x_output in
      let at_b : source b ≡ source (pin_of s.seat.member.name y.name) =
      source_is b d.class d.joined ∙ sym (source_is (pin_of i.name d.input.name) d.class d.reads)
      ∙ ap (λ (z : Name). source (pin_of i.name z)) input_name ∙ ap (λ (z : List ℕ). source (pin_of z y.name)) (sym owner) in
      let rank_a : rank_of (source a) ≡ given.right.sourced.rank s.seat.node = ap rank_of at_a in
      let rank_b : rank_of (source b) ≡ rank_of (source (pin_of s.seat.member.name y.name)) = ap rank_of at_b in
      omega (arith, lower, rank_a, rank_b)

  -- along a ring ranks fall
  sinks : (ring : List Terminal) → IsRing table n ring → (first : Terminal) → Stands ring 0 first → (k : ℕ) (t : Terminal) → Stands ring k t → rank_of (source t) + k ≤ rank_of (source first)
  sinks ring r first start zero t s =
      let same : rank_of (source t) ≡ rank_of (source first) = ap (λ (x : Terminal). rank_of (source x)) (stands_same ring 0 t first s start) in omega (arith, same)
  sinks ring r first start (suc k) t s =
      let inside = slice_get_within ring (suc k) t s in
      let before = at_place ring k (omega (arith, inside)) in
      let e : suc k ≡ k + 1 = omega arith in
      let lower = falls before.0 t (r.next k before.0 t before.1 (subst (λ j. Stands ring j t) e s)) in
      let rest = sinks ring r first start k before.0 before.1 in
      omega (arith, lower, rest)

  pub no_ring : (ring : List Terminal) → IsRing table n ring → ⊥
  no_ring ring r =
      let some = r.some in
      let first = at_place ring 0 some in
      let last = at_place ring (length ring - 1) (omega (arith, some)) in
      let lower = falls last.0 first.0 (r.close last.0 first.0 last.1 first.1) in
      let rest = sinks ring r first.0 first.1 (length ring - 1) last.0 last.1 in
      omega (arith, lower, rest)

  pub passes : Passes table n
  passes = record { classes = sound_classes; rings = no_ring }
