-- The netlist of a mapped machine maps its graph.
use Rattle.std.proofs.Common.{◌≡◌, ◌≢◌, ◌⊎◌, inl, inr, ◌↔◌, ℕ, suc, ◌+◌, ◌^◌, ◌<◌, ◌==◌, Bool, true, false, not, List, [], ◌∷◌, ◌++◌, length, map, Option, refl, sym, ◌∙◌, ap, subst, arith, Some, get_or, length-append, if◌then◌else◌}
use Rattle.std.specs.Prelude.{AllPairs}
use Rattle.std.specs.List.{flat_map}
use Rattle.std.proofs.lemmas.Bool.{eqb-true}
use Rattle.std.proofs.lemmas.List.{map-append}
use Rattle.vlsi_base.specs.declared.name.Name.{Name}
use Rattle.vlsi_base.specs.declared.name.Port.{Port}
use Rattle.vlsi_base.specs.declared.name.Terminal.{Terminal}
use Rattle.vlsi_base.specs.Names.{vdd, vss}
use Rattle.vlsi_base.specs.Member.{In, here, there}
use Rattle.bool_expr.specs.Expression.{Expression}
use Rattle.machine_core.specs.Machine.{Machine, inputs, names_of}
use Rattle.machine_core.specs.Checked.{IsChecked}
use Rattle.cell_model.specs.Cell.{gate, Cell, pin_ports, cell_inputs}
use Rattle.cell_model.specs.Library.{Library, cell_of, cell_named}
use Rattle.cell_model.specs.Usable.{IsFormed}
use Rattle.cell_model.proofs.Members.{In-left, In-right}
use Rattle.cell_model.proofs.Texts.{text_itself, text_differs}
use Rattle.sym_shapes.specs.Shape.{connector_names}
use Rattle.cell_checks.specs.Checked.{IsChecked as HasPassed}
use Rattle.cell_pins.specs.Pins.{with_supply, all_ports}
use Rattle.cell_pins.proofs.Ports.{sorted_of}
use Rattle.net_core.specs.Places.{IsThere}
use Rattle.net_core.specs.Netlist.{Netlist as InMemory, IsNetlist, port, pin_of, terminals, terminals_of, pins_of, HasClass}
use Rattle.net_core.specs.Joins.{Joined}
use Rattle.net_core.proofs.Frames.{unmapped}
use Rattle.net_meaning.specs.Netlist.{Member, AbstractNetlist, IsTerminal, a_port, a_pin}
use Rattle.net_meaning.specs.Agreement.{register_instance}
use Rattle.net_meaning.specs.Well.{gate_instance}
use Rattle.net_theory.specs.Sources.{Source, node, IsNumber, Seat, Sourced, source_of, pin_sources, ComesFrom}
use Rattle.net_theory.proofs.Basics.{In-map, In-map_back, length-map, number_below}
use Rattle.net_right.specs.View.{IsSeenAs, member_of}
use Rattle.cell_match.specs.declared.gate.Gate.{Gate}
use Rattle.boog_tight.proofs.Counting.{gate_there}
use Rattle.boog_cover.specs.Covered.{IsCovered}
use Rattle.boog_cover.proofs.Cycles.{covered_is_cut}
use Rattle.graph_theory.specs.Graph.{Graph, held_count}
use Rattle.graph_theory.specs.Maps.{IsPlaced, IsRegisterSeat, IsGateSeat, Maps}
use Rattle.subject_graph.specs.Subject.{IsSubjectGraph}
use Rattle.boog_map.specs.declared.part.TiedPin.{TiedPin}
use Rattle.boog_map.specs.declared.choice.Role.{Role}
use Rattle.boog_map.specs.declared.choice.Role.TheVariants as role
use Rattle.boog_map.specs.declared.choice.Parts.{Parts}
use Rattle.boog_map.specs.declared.place.Signal.{Signal}
use Rattle.boog_map.specs.declared.place.Signal.TheVariants as signal
use Rattle.boog_map.specs.declared.place.Spot.{Spot}
use Rattle.boog_map.specs.declared.drivers.Drivers.{Drivers}
use Rattle.boog_map.specs.Netlist.{has_registers}
use Rattle.boog_map.specs.Tied.{part_of, gate_words, read_pins, tied_pin, IsPart}
use Rattle.boog_map.specs.Draft.{instance_of, register_spot, register_spots, node_signals, gate_spot, gate_spots, output_terminal, spot_signals, tied_signal, driver, join_of, source_of_signal, AreDrivers}
use Rattle.boog_map.specs.Mapped.{root_numbers, node_gates, spots_of, drivers_of}
use Rattle.boog_map.proofs.Dropped.{undropped}
use Rattle.boog_map.proofs.Roles.{AreRoles, flip_cell, gate_cell}
use Rattle.boog_map.proofs.Lists.{in_there, there_in, within, stands_number, number_stands, got, mapped_same, mapped_number}
use Rattle.boog_map.proofs.Classes.{sourced_by, source_told, class_told, one_class, class_origin}
use Rattle.boog_map.proofs.Spots.{register_at, register_count, gate_at, rising}
use Rattle.boog_map.proofs.Supplied.{names}
use Rattle.boog_map.proofs.Pins.{vdd_told, vss_told, output_told, gate_input_told, data_told, clock_told}
use Rattle.boog_map.proofs.Driven.{Begins, sorted, apart, told, on_vdd, on_vss, on_clock, on_input, on_output, is_part, cell_in, formed, spot_told, driven, terminals_told}

-- a cell of the library is found by its name
pub cell_found : (cells : List Cell) → AllPairs (λ a b. a.name ≢ b.name) cells → (c : Cell) → In c cells → cell_named cells c.name ≡ Some c
cell_found [] differ c h = elim h [ ]
cell_found (d ∷ cells) differ c here = ap (λ (b : Bool). if b then Some c else cell_named cells c.name) (text_itself c.name)
cell_found (d ∷ cells) differ c (there h) =
    let r = in_there c cells h in
    let low = within cells r.0 c r.1 in
    let apart : d.name ≢ c.name = subst (λ (x : Cell). d.name ≢ x.name) (got cells r.0 c d r.1) (differ 0 (suc r.0) d (omega arith) (omega (arith, low))) in
    ap (λ (b : Bool). if b then Some d else cell_named cells c.name) (text_differs d.name c.name apart)
    ∙ cell_found cells (λ i j x p q. differ (suc i) (suc j) x (omega (arith, p)) (omega (arith, q))) c h

-- an instance, and the node that it shows
abbrev pub member_for : Parts → Spot → Member
member_for ps s = record { name = s.name; model = (part_of ps s.role).model }

abbrev pub seat : Parts → Spot → Seat
seat ps s = record { member = member_for ps s; node = s.shown }

members_are : (ps : Parts) (ss : List Spot) → map member_of (map (instance_of ps) ss) ≡ map (λ (p : Seat). p.member) (map (seat ps) ss)
members_are ps [] = refl
members_are ps (s ∷ ss) = ap (λ (xs : List Member). member_for ps s ∷ xs) (members_are ps ss)

module _ (m : Machine) (checked : IsChecked m) (g : Graph) (sub : IsSubjectGraph m g) (l : Library) (passed : HasPassed false l) (ps : Parts)
    (parts : AreRoles l.cells (has_registers m) ps) (gs : List (Option Gate)) (cov : IsCovered (gate_words ps) (held_count m) g.nodes (root_numbers g) gs)
    (d : Drivers) (drv : AreDrivers m.clock (drivers_of m g ps gs) d) (n : InMemory) (sound : IsNetlist n)
    (ports_is : n.ports ≡ with_supply vss (with_supply vdd m.ports)) (instances_is : n.instances ≡ map (instance_of ps) (spots_of m g gs))
    (joined : (a b : Terminal) (j k : ℕ) → HasClass n a j → HasClass n b k
    → (j ≡ k) ↔ Joined (map (join_of d) (told m checked g sub l passed ps parts gs cov)) a b) where
  abbrev spots : List Spot
  spots = spots_of m g gs

  abbrev registers : List Spot
  registers = register_spots (length (inputs m)) 0 g.loads

  abbrev gates : List Spot
  gates = gate_spots (held_count m) 0 (node_gates m gs)

  abbrev ports : List Port
  ports = with_supply vss (with_supply vdd m.ports)

  abbrev cell_for : Role → Cell
  cell_for k = (parts.each k).cell

  abbrev pub signals : List (Terminal × Signal)
  signals = told m checked g sub l passed ps parts gs cov

  pub all : terminals n ≡ map (λ (t : Terminal × Signal). t.0) signals
  all =
      ap (λ (xs : List Port). terminals_of xs n.instances) ports_is ∙ ap (terminals_of ports) instances_is
      ∙ terminals_told m checked g sub l passed ps parts gs cov

  pub closed : (t : Terminal × Signal) → In t signals → In (driver d t.1, t.1) signals
  closed t h = (driven m checked g sub l passed ps parts gs cov d drv t h).0

  the_part : (k : Role) → IsPart (cell_for k) (part_of ps k)
  the_part k = is_part m checked g sub l passed ps parts gs cov k

  ok : (k : Role) → IsFormed (cell_for k)
  ok k = formed m checked g sub l passed ps parts gs cov k

  pub found : (k : Role) → cell_of l (part_of ps k).model ≡ Some (cell_for k)
  found k = ap (cell_of l) (the_part k).model ∙ cell_found l.cells passed.names (cell_for k) (cell_in m checked g sub l passed ps parts gs cov k)

  -- ---- a netlist that it is seen as

  module _ (k : AbstractNetlist) (seen : IsSeenAs n k) where
    abbrev pub sourced : Sourced
    sourced = sourced_by n signals k

    source_is : (t : Terminal) (s : Signal) → In (t, s) signals → source_of sourced t ≡ source_of_signal s
    source_is t s h = source_told n sound signals d all closed joined k seen t s h

    pub pin_source : (s : Spot) → In s spots → (t : Terminal) (u : Signal) → In (t, u) (spot_signals ps s) → source_of sourced t ≡ source_of_signal u
    pin_source s h t u i = source_is t u (spot_told m checked g sub l passed ps parts gs cov s (t, u) h i)

    pub ties_of : (s : Spot) → (part_of ps s.role).ties.items ≡ map (tied_pin (read_pins (cell_for s.role))) (all_ports (cell_for s.role))
    ties_of s = (the_part s.role).ties

    pub shows_spot : (s : Spot) → In (output_terminal ps s, signal.Node s.shown) (spot_signals ps s)
    shows_spot s =
        output_told (cell_for s.role) (ok s.role) (part_of ps s.role).ties.items (ties_of s) s (part_of ps s.role).output
        (subst (λ (xs : List Name). In (part_of ps s.role).output xs) (sym (the_part s.role).output) here)

    placed : (s : Spot) → In s spots → IsPlaced sourced l (seat ps s) (cell_for s.role)
    placed s h = record {
      found = found s.role;
      usable = (parts.each s.role).usable;
      on_vdd = pin_source s h (pin_of s.name vdd) signal.High (vdd_told (cell_for s.role) (ok s.role) (part_of ps s.role).ties.items (ties_of s) s);
      on_vss = pin_source s h (pin_of s.name vss) signal.Low (vss_told (cell_for s.role) (ok s.role) (part_of ps s.role).ties.items (ties_of s) s);
      shows =
          ap (pin_sources sourced s.name) (the_part s.role).output
          ∙ ap (λ (u : Source). u ∷ []) (pin_source s h (output_terminal ps s) (signal.Node s.shown) (shows_spot s));
    }

    -- ---- registers

    pub needs_registers : (j load : ℕ) → IsNumber g.loads j load → has_registers m ≡ true
    needs_registers j load h =
        let low = number_below g.loads j load h in
        let each = sub.roots.each in
        by (length m.registers == 0) refl (omega (arith, low, each)) where
          by : (b : Bool) → (length m.registers == 0) ≡ b → 0 < length m.registers → not b ≡ true
          by true e some = absurd (let none : length m.registers ≡ 0 = eqb-true (length m.registers) 0 e in omega (arith, some, none))
          by false e some = refl

    register_seat : (j load : ℕ) → IsNumber g.loads j load → In (register_spot (length (inputs m)) (0 + j) load) spots
        → IsRegisterSeat sourced l m g j (seat ps (register_spot (length (inputs m)) (0 + j) load))
    register_seat j load h listed =
        let s = register_spot (length (inputs m)) (0 + j) load in
        let flip = flip_cell l.cells (has_registers m) ps parts (needs_registers j load h) in
        let e : 0 + j ≡ j = omega arith in
        record {
          named = ap register_instance e;
          place = ap (λ (x : ℕ). length (inputs m) + x) e;
          cell = cell_for role.Register;
          placed = placed s listed;
          data_pin = flip.data_pin;
          clock_pin = flip.clock_pin;
          is_register = flip.is_flip;
          loads =
              pin_source s listed (pin_of s.name flip.data_pin) (signal.Node load)
              (data_told (cell_for role.Register) (ok role.Register) (part_of ps role.Register).ties.items (ties_of s) s flip.data_pin flip.clock_pin flip.is_flip flip.has_data)
              ∙ ap node (sym (got g.loads j load 0 (number_stands g.loads j load h)));
          clocked =
              pin_source s listed (pin_of s.name flip.clock_pin) signal.Clock
              (clock_told (cell_for role.Register) (ok role.Register) (part_of ps role.Register).ties.items (ties_of s) s flip.data_pin flip.clock_pin flip.is_flip flip.has_clock flip.apart);
        }

    register_at_seat : (j : ℕ) (p : Seat) → IsNumber (map (seat ps) registers) j p → IsRegisterSeat sourced l m g j p
    register_at_seat j p h =
        let u = unmapped (seat ps) registers j p (number_stands (map (seat ps) registers) j p h) in
        let r = register_at (length (inputs m)) 0 g.loads j u.0 (stands_number registers j u.0 u.1) in
        let listed : In u.0 spots = In-left u.0 registers gates (there_in registers j u.0 u.1) in
        subst (λ (q : Seat). IsRegisterSeat sourced l m g j q) u.2
        (subst (λ (s : Spot). IsRegisterSeat sourced l m g j (seat ps s)) (sym r.2)
        (register_seat j r.0 r.1 (subst (λ (s : Spot). In s spots) r.2 listed)))

    -- ---- gates

    -- what its inputs read
    gate_reads : (s : Spot) (x : Gate) → In s spots → s.reads ≡ node_signals x.leaves.items → (e : Expression) → (cell_for s.role).function ≡ gate e
        → length (cell_inputs (cell_for s.role)) ≡ length x.leaves.items → pin_sources sourced s.name (cell_inputs (cell_for s.role)) ≡ map node x.leaves.items
    gate_reads s x listed reads_is e is_gate many =
        mapped_same (λ (p : Name). source_of sourced (pin_of s.name p)) node (cell_inputs (cell_for s.role)) x.leaves.items many
        (λ i name a p q. pin_source s listed (pin_of s.name name) (signal.Node a)
        (gate_input_told (cell_for s.role) (ok s.role) (part_of ps s.role).ties.items (ties_of s) s e is_gate i name (signal.Node a) p
        (subst (λ (us : List Signal). IsNumber us i (signal.Node a)) (sym reads_is) (mapped_number (λ (y : ℕ). signal.Node y) x.leaves.items i a q))))

    gate_seat : (j i : ℕ) (x : Gate) → IsNumber (node_gates m gs) i (Some x) → In (gate_spot (0 + j) (held_count m + i) x) spots
        → IsGateSeat sourced l m g j (seat ps (gate_spot (0 + j) (held_count m + i) x))
    gate_seat j i x h listed =
        let s = gate_spot (0 + j) (held_count m + i) x in
        let e0 : 0 + j ≡ j = omega arith in
        let at = undropped (held_count m) gs i (held_count m + i) x refl h in
        let inside = gate_there gs (held_count m + i) x at in
        let long = cov.long in
        let is = gate_cell l.cells (has_registers m) ps parts (held_count m + i) x (cov.cover.gate (held_count m + i) x at) in
        record {
          named = ap gate_instance e0;
          beyond = omega arith;
          within = omega (arith, inside, long);
          cell = cell_for s.role;
          placed = placed s listed;
          expr = is.expr;
          is_gate = is.is_gate;
          leaves = x.leaves.items;
          cut = covered_is_cut m g (gate_words ps) (root_numbers g) gs (held_count m + i) x is.expr sub.graph cov at is.value;
          reads = gate_reads s x listed refl is.expr is.is_gate is.many;
        }

    gate_at_seat : (j : ℕ) (p : Seat) → IsNumber (map (seat ps) gates) j p → IsGateSeat sourced l m g j p
    gate_at_seat j p h =
        let u = unmapped (seat ps) gates j p (number_stands (map (seat ps) gates) j p h) in
        let r = gate_at (held_count m) 0 (node_gates m gs) j u.0 (stands_number gates j u.0 u.1) in
        let listed : In u.0 spots = In-right u.0 registers gates (there_in gates j u.0 u.1) in
        subst (λ (q : Seat). IsGateSeat sourced l m g j q) u.2
        (subst (λ (s : Spot). IsGateSeat sourced l m g j (seat ps s)) (sym r.3)
        (gate_seat j r.0 r.1 r.2 (subst (λ (s : Spot). In s spots) r.3 listed)))

    rising_seats : (i j : ℕ) (p q : Seat) → IsNumber (map (seat ps) gates) i p → IsNumber (map (seat ps) gates) j q → i < j → p.node < q.node
    rising_seats i j p q a b less =
        let u = unmapped (seat ps) gates i p (number_stands (map (seat ps) gates) i p a) in
        let v = unmapped (seat ps) gates j q (number_stands (map (seat ps) gates) j q b) in
        let h = rising (held_count m) 0 (node_gates m gs) i j u.0 v.0 (stands_number gates i u.0 u.1) (stands_number gates j v.0 v.1) less in
        let x : p.node ≡ u.0.shown = ap (λ (s : Seat). s.node) (sym u.2) in
        let y : q.node ≡ v.0.shown = ap (λ (s : Seat). s.node) (sym v.2) in
        omega (arith, h, x, y)

    -- ---- parts of the netlist

    ports_are : k.ports ≡ names_of ports
    ports_are = ap (λ (x : AbstractNetlist). x.ports) seen.is ∙ ap (λ (xs : List Port). names_of xs) ports_is

    pub members : k.instances ≡ map (λ (p : Seat). p.member) (map (seat ps) spots)
    members = ap (λ (x : AbstractNetlist). x.instances) seen.is ∙ ap (map member_of) instances_is ∙ members_are ps spots

    instances : k.instances ≡ map (λ (p : Seat). p.member) (map (seat ps) registers ++ map (seat ps) gates)
    instances = members ∙ ap (map (λ (p : Seat). p.member)) (map-append (seat ps) registers gates)

    -- ---- each terminal has a signal

    own_apart : (p : Port) → In p m.ports → (p.name ≢ vdd) × (p.name ≢ vss)
    own_apart = apart m checked g sub l passed ps parts gs cov

    first_told : (t : Terminal) → IsThere (terminals n) t → (s : Signal) × In (t, s) signals
    first_told t h =
        let there_is = subst (λ (ts : List Terminal). IsThere ts t) all h in
        let u = unmapped (λ (x : Terminal × Signal). x.0) signals there_is.0 t there_is.1 in
        (u.0.1, subst (λ (y : Terminal). In (y, u.0.1) signals) u.2 (there_in signals there_is.0 u.0 u.1))

    pin_there : (s : Spot) (name : Name) → In s spots → In name (names_of (all_ports (cell_for s.role))) → (u : Signal) × In (pin_of s.name name, u) signals
    pin_there s name h i =
        let own = in_pins s name i in
        (own.0, spot_told m checked g sub l passed ps parts gs cov s (pin_of s.name name, own.0) h own.1) where
          in_pins : (s : Spot) (name : Name) → In name (names_of (all_ports (cell_for s.role))) → (u : Signal) × In (pin_of s.name name, u) (spot_signals ps s)
          in_pins s name i =
              let r = In-map_back (λ (p : Port). p.name) name (all_ports (cell_for s.role)) i in
              let t = tied_pin (read_pins (cell_for s.role)) r.0 in
              let one : In t (part_of ps s.role).ties.items =
              subst (λ (ts : List TiedPin). In t ts) (sym (ties_of s)) (In-map (tied_pin (read_pins (cell_for s.role))) r.0 (all_ports (cell_for s.role)) r.1) in (
                tied_signal s t.tie,
                subst (λ (x : Name). In (pin_of s.name x, tied_signal s t.tie) (spot_signals ps s)) r.2
                    (In-map (λ (p : TiedPin). (pin_of s.name p.name, tied_signal s p.tie)) t (part_of ps s.role).ties.items one),
              )

    terminal_told : (t : Terminal) → IsTerminal k l t → (s : Signal) × In (t, s) signals
    terminal_told t (a_port {name = name} h) =
        let i : In name (names_of ports) = subst (λ (xs : List Name). In name xs) ports_are h in
        let r = In-map_back (λ (p : Port). p.name) name ports i in
        first_told (port name)
        (subst (λ (ts : List Terminal). IsThere ts (port name)) (sym (ap (λ (xs : List Port). terminals_of xs n.instances) ports_is))
        (in_there (port name) (terminals_of ports n.instances)
        (In-left (port name) (map (λ (p : Port). port p.name) ports) (flat_map pins_of n.instances)
        (subst (λ (x : Name). In (port x) (map (λ (p : Port). port p.name) ports)) r.2 (In-map (λ (p : Port). port p.name) r.0 ports r.1)))))
    terminal_told t (a_pin {name = name} i c h is names_it) =
        let listed = subst (λ (xs : List Member). In i xs) members h in
        let q = In-map_back (λ (p : Seat). p.member) i (map (seat ps) spots) listed in
        let s = In-map_back (seat ps) q.0 spots q.1 in
        let same : member_for ps s.0 ≡ i = ap (λ (p : Seat). p.member) s.2 ∙ q.2 in
        let cell : Some (cell_for s.0.role) ≡ Some c = sym (found s.0.role) ∙ ap (λ (x : Member). cell_of l x.model) same ∙ is in
        let is_cell : cell_for s.0.role ≡ c = cc cell in
        let connected : In name (connector_names (cell_for s.0.role).items) = subst (λ (x : Cell). In name (connector_names x.items)) (sym is_cell) names_it in
        let among = (names (pin_ports (cell_for s.0.role)) (sorted_of (pin_ports (cell_for s.0.role)) (ok s.0.role).order) (pins_apart s.0.role) name).1
        (((parts.each s.0.role).usable.connectors name).0 connected) in
        let pin = pin_there s.0 name s.1 among in
        (pin.0, subst (λ (x : Member). In (pin_of x.name name, pin.0) signals) same pin.1) where
          pins_apart : (t : Role) (p : Port) → In p (pin_ports (cell_for t)) → (p.name ≢ vdd) × (p.name ≢ vss)
          pins_apart t p h = (ok t).signals p.name (In-map (λ (x : Port). x.name) p (pin_ports (cell_for t)) h)

    -- ---- where sources come from

    seats_hold : (s : Spot) → In s spots → In (seat ps s) (map (seat ps) registers ++ map (seat ps) gates)
    seats_hold s h = subst (λ (xs : List Seat). In (seat ps s) xs) (map-append (seat ps) registers gates) (In-map (seat ps) s spots h)

    comes : (s : Signal) → Begins m checked g sub l passed ps parts gs cov s → ComesFrom m (map (seat ps) registers ++ map (seat ps) gates) (source_of_signal s)
    comes signal.High b = tt
    comes signal.Low b = tt
    comes signal.Clock b = b
    comes (signal.Node a) b = elim b [ inl within ↦ inl within | inr r ↦ inr (seat ps r.0, seats_hold r.0 r.1, r.2) ]

    origin : (c : ℕ) → c < k.classes → ComesFrom m (map (seat ps) registers ++ map (seat ps) gates) (sourced.source c)
    origin c h =
        let r = class_origin n sound signals d all closed joined k seen c h in
        let good = driven m checked g sub l passed ps parts gs cov d drv (r.0, r.1) r.2 in
        subst (λ (x : Source). ComesFrom m (map (seat ps) registers ++ map (seat ps) gates) x) (sym r.3) (comes r.1 good.2)

    pub port_cases : (name : Name) → In name k.ports ↔ ((name ≡ vdd) ⊎ ((name ≡ vss) ⊎ In name (names_of m.ports)))
    port_cases name =
        subst (λ (xs : List Name). In name xs ↔ ((name ≡ vdd) ⊎ ((name ≡ vss) ⊎ In name (names_of m.ports)))) (sym ports_are)
        (names m.ports (sorted m checked g sub l passed ps parts gs cov) own_apart name)

    module _ (few : length spots < 2 ^ 32) where
      few_registers : length (map (seat ps) registers) < 2 ^ 64
      few_registers = let both = length-append registers gates in let size = length-map (seat ps) registers in omega (arith, few, both, size)

      few_gates : length (map (seat ps) gates) < 2 ^ 64
      few_gates = let both = length-append registers gates in let size = length-map (seat ps) gates in omega (arith, few, both, size)

      pub maps : Maps sourced l m g
      maps = record {
        registers = map (seat ps) registers;
        gates = map (seat ps) gates;
        instances = instances;
        each_register = length-map (seat ps) registers ∙ register_count (length (inputs m)) 0 g.loads ∙ sub.roots.each;
        few_registers = few_registers;
        few_gates = few_gates;
        register_at = register_at_seat;
        gate_at = gate_at_seat;
        rising = rising_seats;
        ranked = λ a. refl;
        numbered = λ t h. let r = terminal_told t h in class_told n sound signals d all closed joined k seen t r.0 r.1;
        one_class = one_class n sound signals d all closed joined k seen;
        origins = origin;
        ports = port_cases;
        on_vdd = source_is (port vdd) signal.High (on_vdd m checked g sub l passed ps parts gs cov);
        on_vss = source_is (port vss) signal.Low (on_vss m checked g sub l passed ps parts gs cov);
        on_clock = λ name is. source_is (port name) signal.Clock (on_clock m checked g sub l passed ps parts gs cov name is);
        in_ports = λ j name is. source_is (port name) (signal.Node j) (on_input m checked g sub l passed ps parts gs cov j name is);
        out_ports = λ j name is. source_is (port name) (signal.Node (get_or g.outputs j 0)) (on_output m checked g sub l passed ps parts gs cov j name is);
      }
