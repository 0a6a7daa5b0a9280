-- The terminals of a mapped machine: each has a signal whose driver is there.
use Rattle.std.proofs.Common.{◌≡◌, ◌≢◌, ◌⊎◌, inl, inr, ℕ, zero, suc, ◌+◌, ◌-◌, ◌<◌, true, false, List, [], ◌∷◌, ◌++◌, length, map, refl, sym, ◌∙◌, ap, subst, arith, Option, None, Some, get_or}
use Rattle.std.specs.Prelude.{unwrap_or}
use Rattle.std.specs.List.{flat_map}
use Rattle.std.proofs.lemmas.Bool.{cases_lt}
use Rattle.std.proofs.lemmas.List.{map-append}
use Rattle.vlsi_base.specs.declared.name.Name.{Name}
use Rattle.vlsi_base.specs.declared.name.Port.{Port}
use Rattle.vlsi_base.specs.declared.name.Terminal.{Terminal}
use Rattle.vlsi_base.specs.Names.{vdd, vss}
use Rattle.vlsi_base.specs.Member.{In, here, there}
use Rattle.machine_core.specs.Machine.{Machine, inputs, outputs, is_clock, is_input, names_of}
use Rattle.machine_core.specs.Checked.{IsChecked}
use Rattle.machine_core.proofs.Names.{same_name-itself}
use Rattle.cell_model.specs.Cell.{Cell, cell_outputs}
use Rattle.cell_model.specs.Library.{Library}
use Rattle.cell_model.specs.Usable.{IsFormed}
use Rattle.cell_model.proofs.Members.{All-In, In-at, In-split, In-left, In-right}
use Rattle.cell_checks.specs.Checked.{IsChecked as HasPassed}
use Rattle.cell_pins.specs.Pins.{supply, with_supply, all_ports}
use Rattle.cell_pins.proofs.Ports.{Sorted}
use Rattle.net_core.specs.Places.{Stands}
use Rattle.net_core.specs.Netlist.{port, pin_of, pins_of, terminals_of}
use Rattle.net_core.proofs.Frames.{mapped}
use Rattle.net_core.proofs.Standing.{stands_left, stands_right}
use Rattle.net_theory.specs.Sources.{IsNumber}
use Rattle.net_theory.proofs.Basics.{In-map, In-map_back, at_number, length-map, number_below, number_in, number_of}
use Rattle.cell_match.specs.declared.gate.Gate.{Gate}
use Rattle.cell_match.specs.Places.{times}
use Rattle.cell_match.proofs.Pigeons.{times_append}
use Rattle.boog_tight.specs.Cover.{gate_at as gate_of_node, uses}
use Rattle.boog_tight.proofs.Counting.{used_some}
use Rattle.boog_cover.specs.Covered.{IsCovered}
use Rattle.graph_theory.specs.Graph.{Graph, held_count}
use Rattle.subject_graph.specs.Subject.{IsSubjectGraph}
use Rattle.boog_map.specs.declared.part.Tie.{Tie}
use Rattle.boog_map.specs.declared.part.Tie.TheVariants as tie
use Rattle.boog_map.specs.declared.part.TiedPin.{TiedPin}
use Rattle.boog_map.specs.declared.part.Part.{Part}
use Rattle.boog_map.specs.declared.choice.Role.{Role}
use Rattle.boog_map.specs.declared.choice.Parts.{Parts}
use Rattle.boog_map.specs.declared.place.Signal.{Signal}
use Rattle.boog_map.specs.declared.place.Signal.TheVariants as signal
use Rattle.boog_map.specs.declared.place.Spot.{Spot}
use Rattle.boog_map.specs.declared.ports.TiedPort.{TiedPort}
use Rattle.boog_map.specs.declared.drivers.Drivers.{Drivers}
use Rattle.boog_map.specs.Netlist.{has_registers}
use Rattle.boog_map.specs.Tied.{part_of, gate_words, tied_pin, read_pins, IsPart}
use Rattle.boog_map.specs.Draft.{tied_ports, port_signals, spot_signals, tied_signal, driver, IsNumbered, AreDrivers, instance_of, output_terminal, register_spot, register_spots, gate_spot, gate_spots, gate_drivers}
use Rattle.boog_map.specs.Mapped.{root_numbers, node_gates, spots_of, drivers_of}
use Rattle.boog_map.proofs.Dropped.{dropped, undropped}
use Rattle.boog_map.proofs.Lists.{number_stands, within, got}
use Rattle.boog_map.proofs.MachinePorts.{ports_sorted, ports_apart}
use Rattle.boog_map.proofs.PortSignals.{tied, ports_told, both_keep, both_back, supply_told, input_told, output_told, clock_told, signal_told, IsPortSignal, of_clock, of_input, of_output}
use Rattle.boog_map.proofs.Marks.{in_times}
use Rattle.boog_map.proofs.Roles.{AreRoles}
use Rattle.boog_map.proofs.Spots.{register_at, register_found, register_count, gate_at, gate_found}
use Rattle.boog_map.proofs.Supplied.{has_vdd, has_vss}
use Rattle.boog_map.proofs.Pins.{signal_tied, output_told as pin_output_told}

-- ---- lists of lists

pub in_flat : {A B : Type 0} (f : A → List B) (x : A) (y : B) (xs : List A) → In x xs → In y (f x) → In y (flat_map f xs)
in_flat f x y [] h g = elim h [ ]
in_flat f x y (x1 ∷ xs) here g = In-left y (f x) (flat_map f xs) g
in_flat f x y (x1 ∷ xs) (there h) g = In-right y (f x1) (flat_map f xs) (in_flat f x y xs h g)

pub flat_in : {A B : Type 0} (f : A → List B) (y : B) (xs : List A) → In y (flat_map f xs) → (x : A) × In x xs × In y (f x)
flat_in f y [] h = elim h [ ]
flat_in f y (x ∷ xs) h = elim (In-split y (f x) (flat_map f xs) h) [
  | inl a ↦ (x, here, a)
  | inr b ↦ let r = flat_in f y xs b in (r.0, there r.1, r.2)
]

clock_some : (clock : Option Name) (name : Name) → is_clock clock name ≡ true → (other : Name) × (clock ≡ Some other)
clock_some None name h = absurd (cc h)
clock_some (Some other) name h = (other, refl)

abbrev told_terminal : Terminal × Signal → Terminal
told_terminal t = t.0

-- the pins of an instance, by what they are tied to
pins_are : (c : Cell) (p : Part) (s : Spot) → IsPart c p
    → map told_terminal (map (λ q. (pin_of s.name q.name, tied_signal s q.tie)) p.ties.items) ≡ map (pin_of s.name) p.pins
pins_are c p s is =
    ap (λ (ts : List TiedPin). map told_terminal (map (λ q. (pin_of s.name q.name, tied_signal s q.tie)) ts)) is.ties
    ∙ by (all_ports c) ∙ ap (map (pin_of s.name)) (sym is.pins) where
      by : (qs : List Port) → map told_terminal (map (λ q. (pin_of s.name q.name, tied_signal s q.tie)) (map (tied_pin (read_pins c)) qs)) ≡ map (pin_of s.name) (names_of qs)
      by [] = refl
      by (q ∷ qs) = ap (λ (ts : List Terminal). pin_of s.name q.name ∷ ts) (by qs)

module _ (m : Machine) (checked : IsChecked m) (g : Graph) (sub : IsSubjectGraph m g) (l : Library) (passed : HasPassed false l) (ps : Parts)
    (parts : AreRoles l.cells (has_registers m) ps) (gs : List (Option Gate)) (cov : IsCovered (gate_words ps) (held_count m) g.nodes (root_numbers g) gs) where
  abbrev pub spots : List Spot
  spots = spots_of m g gs

  abbrev pub registers : List Spot
  registers = register_spots (length (inputs m)) 0 g.loads

  abbrev pub gates : List Spot
  gates = gate_spots (held_count m) 0 (node_gates m gs)

  abbrev pub ports : List Port
  ports = with_supply vss (with_supply vdd m.ports)

  abbrev pub told_ports : List TiedPort
  told_ports = tied_ports m.clock g.outputs 0 0 ports

  abbrev pub told : List (Terminal × Signal)
  told = port_signals told_ports ++ flat_map (spot_signals ps) spots

  -- ---- the ports of the machine

  pub sorted : Sorted m.ports
  sorted = ports_sorted m checked

  pub apart : (p : Port) → In p m.ports → (p.name ≢ vdd) × (p.name ≢ vss)
  apart = ports_apart m checked

  pub port_told : (name : Name) (s : Signal) → In (tied name s) told_ports → In (port name, s) told
  port_told name s h = In-left (port name, s) (port_signals told_ports) (flat_map (spot_signals ps) spots) (In-map (λ (p : TiedPort). (port p.name, p.signal)) (tied name s) told_ports h)

  pub own_told : (name : Name) (s : Signal) → In (tied name s) (tied_ports m.clock g.outputs 0 0 m.ports) → In (port name, s) told
  own_told name s h = port_told name s (both_keep m.clock g.outputs m.ports sorted apart 0 0 (tied name s) h)

  pub on_vdd : In (port vdd, signal.High) told
  on_vdd = port_told vdd signal.High (supply_told m.clock g.outputs 0 0 ports (supply vdd) signal.High (has_vdd m.ports sorted apart) (λ i o. refl))

  pub on_vss : In (port vss, signal.Low) told
  on_vss = port_told vss signal.Low (supply_told m.clock g.outputs 0 0 ports (supply vss) signal.Low (has_vss m.ports sorted apart) (λ i o. refl))

  pub on_clock : (name : Name) → m.clock ≡ Some name → In (port name, signal.Clock) told
  on_clock name is =
      own_told name signal.Clock
      (clock_told m.clock g.outputs 0 0 m.ports apart name (ap (λ (c : Option Name). is_clock c name) is ∙ same_name-itself name) (checked.clock name is).port)

  pub on_input : (k : ℕ) (name : Name) → IsNumber (inputs m) k name → In (port name, signal.Node k) told
  on_input k name h =
      let e : 0 + k ≡ k = omega arith in
      own_told name (signal.Node k) (subst (λ (s : Signal). In (tied name s) (tied_ports m.clock g.outputs 0 0 m.ports)) (ap signal.Node e) (input_told m.clock g.outputs 0 0 m.ports apart k name h))

  pub on_output : (k : ℕ) (name : Name) → IsNumber (outputs m) k name → In (port name, signal.Node (get_or g.outputs k 0)) told
  on_output k name h =
      let e : 0 + k ≡ k = omega arith in
      own_told name (signal.Node (get_or g.outputs k 0))
      (subst (λ (s : Signal). In (tied name s) (tied_ports m.clock g.outputs 0 0 m.ports)) (ap (λ (x : ℕ). signal.Node (get_or g.outputs x 0)) e)
      (output_told m.clock g.outputs 0 0 m.ports apart k name h))

  -- ---- cells

  abbrev pub cell_for : Role → Cell
  cell_for k = (parts.each k).cell

  pub is_part : (k : Role) → IsPart (cell_for k) (part_of ps k)
  is_part k = (parts.each k).is_part

  pub cell_in : (k : Role) → In (cell_for k) l.cells
  cell_in k = (parts.each k).listed

  pub formed : (k : Role) → IsFormed (cell_for k)
  formed k = All-In IsFormed l.cells passed.formed (cell_for k) (cell_in k)

  pub spot_told : (s : Spot) (t : Terminal × Signal) → In s spots → In t (spot_signals ps s) → In t told
  spot_told s t h i = In-right t (port_signals told_ports) (flat_map (spot_signals ps) spots) (in_flat (spot_signals ps) s t spots h i)

  pub output_in : (k : Role) → In (part_of ps k).output (cell_outputs (cell_for k))
  output_in k = subst (λ (xs : List Name). In (part_of ps k).output xs) (sym (is_part k).output) here

  pub shows_told : (s : Spot) → In s spots → In (output_terminal ps s, signal.Node s.shown) told
  shows_told s h =
      spot_told s (output_terminal ps s, signal.Node s.shown) h
      (pin_output_told (cell_for s.role) (formed s.role) (part_of ps s.role).ties.items (is_part s.role).ties s (part_of ps s.role).output (output_in s.role))

  -- ---- drivers

  -- where a signal comes from
  abbrev pub Begins : Signal → Type 0
  Begins signal.High = Unit {0}
  Begins signal.Low = Unit {0}
  Begins signal.Clock = (name : Name) × (m.clock ≡ Some name)
  Begins (signal.Node a) = (a < length (inputs m)) ⊎ ((s : Spot) × In s spots × (s.shown ≡ a))

  module _ (d : Drivers) (drv : AreDrivers m.clock (drivers_of m g ps gs) d) where
    abbrev pub Good : Signal → Type 0
    Good s = In (driver d s, s) told × IsNumbered d s × Begins s

    abbrev drivers : List Terminal
    drivers = drivers_of m g ps gs

    good_high : Good signal.High
    good_high = (subst (λ (t : Terminal). In (t, signal.High) told) (sym drv.on_high) on_vdd, tt, tt)

    good_low : Good signal.Low
    good_low = (subst (λ (t : Terminal). In (t, signal.Low) told) (sym drv.on_low) on_vss, tt, tt)

    good_clock : (name : Name) → m.clock ≡ Some name → Good signal.Clock
    good_clock name is =
        let e : d.clock ≡ port name = drv.on_clock ∙ ap (λ (c : Option Name). port (unwrap_or c vss)) is in
        (subst (λ (t : Terminal). In (t, signal.Clock) told) (sym e) (on_clock name is), tt, (name, is))

    driven_by : (a : ℕ) (t : Terminal) → Begins (signal.Node a) → Stands drivers a t → In (t, signal.Node a) told → Good (signal.Node a)
    driven_by a t begins stands h =
        let there_is : Stands d.nodes.items a t = subst (λ (ts : List Terminal). Stands ts a t) (sym drv.on_nodes) stands in (
          subst (λ (u : Terminal). In (u, signal.Node a) told) (sym (got d.nodes.items a t d.low there_is)) h,
          within d.nodes.items a t there_is,
          begins,
        )

    of_spot : (s : Spot) (a : ℕ) → In s spots → s.shown ≡ a → Stands drivers a (output_terminal ps s) → Good (signal.Node a)
    of_spot s a h e stands = driven_by a (output_terminal ps s) (inr (s, h, e)) stands (subst (λ (x : ℕ). In (output_terminal ps s, signal.Node x) told) e (shows_told s h))

    good_input : (a : ℕ) → a < length (inputs m) → Good (signal.Node a)
    good_input a low =
        let r = at_number (inputs m) a low in
        driven_by a (port r.0) (inl low)
        (stands_left (map port (inputs m)) (map (output_terminal ps) registers ++ gate_drivers ps (held_count m) 0 (node_gates m gs)) a (port r.0)
        (mapped port (inputs m) a r.0 (number_stands (inputs m) a r.0 r.1)))
        (on_input a r.0 r.1)

    ports_long : length (map port (inputs m)) ≡ length (inputs m)
    ports_long = length-map port (inputs m)

    registers_long : length registers ≡ length m.registers
    registers_long = register_count (length (inputs m)) 0 g.loads ∙ sub.roots.each

    pins_long : length (map (output_terminal ps) registers) ≡ length m.registers
    pins_long = length-map (output_terminal ps) registers ∙ registers_long

    good_register : (k load : ℕ) → IsNumber g.loads k load → Good (signal.Node (length (inputs m) + k))
    good_register k load h =
        let s = register_spot (length (inputs m)) (0 + k) load in
        let found = register_found (length (inputs m)) 0 g.loads k load h in
        let e : length (inputs m) + (0 + k) ≡ length (inputs m) + k = omega arith in
        let place : length (map port (inputs m)) + k ≡ length (inputs m) + k = let n = ports_long in omega (arith, n) in
        let stands =
        stands_right (map port (inputs m)) (map (output_terminal ps) registers ++ gate_drivers ps (held_count m) 0 (node_gates m gs)) k (output_terminal ps s)
        (stands_left (map (output_terminal ps) registers) (gate_drivers ps (held_count m) 0 (node_gates m gs)) k (output_terminal ps s)
        (mapped (output_terminal ps) registers k s (number_stands registers k s found))) in
        of_spot s (length (inputs m) + k) (In-left s registers gates (number_in registers k s found)) e
        (let P : ℕ → Type 0 = λ x. Stands drivers x (output_terminal ps s) in subst P place stands)

    good_gate : (i : ℕ) (x : Gate) → IsNumber (node_gates m gs) i (Some x) → Good (signal.Node (held_count m + i))
    good_gate i x h =
        let r = gate_found ps (held_count m) 0 (node_gates m gs) i x h in
        let s = gate_spot (0 + r.0) (held_count m + i) x in
        let place : length (map port (inputs m)) + (length (map (output_terminal ps) registers) + i) ≡ held_count m + i =
        let a = ports_long in let b = pins_long in omega (arith, a, b) in
        let stands =
        stands_right (map port (inputs m)) (map (output_terminal ps) registers ++ gate_drivers ps (held_count m) 0 (node_gates m gs))
        (length (map (output_terminal ps) registers) + i) (output_terminal ps s)
        (stands_right (map (output_terminal ps) registers) (gate_drivers ps (held_count m) 0 (node_gates m gs)) i (output_terminal ps s)
        (number_stands (gate_drivers ps (held_count m) 0 (node_gates m gs)) i (output_terminal ps s) r.2)) in
        of_spot s (held_count m + i) (In-right s registers gates (number_in gates r.0 s r.1)) refl
        (let P : ℕ → Type 0 = λ x. Stands drivers x (output_terminal ps s) in subst P place stands)

    good_held : (a : ℕ) → a < held_count m → Good (signal.Node a)
    good_held a low = elim (cases_lt a (length (inputs m))) [
      | inl is_input ↦ good_input a is_input
      | inr high ↦
          let each = sub.roots.each in
          let r = at_number g.loads (a - length (inputs m)) (omega (arith, low, high, each)) in
          let e : length (inputs m) + (a - length (inputs m)) ≡ a = omega (arith, high) in
          let P : ℕ → Type 0 = λ x. Good (signal.Node x) in
          subst P e (good_register (a - length (inputs m)) r.0 r.1)
    ]

    -- the node of a gate
    pub good_node : (a : ℕ) (x : Gate) → gate_of_node gs a ≡ Some x → Good (signal.Node a)
    good_node a x is = elim (cases_lt a (held_count m)) [
      | inl low ↦ good_held a low
      | inr high ↦
          let e : held_count m + (a - held_count m) ≡ a = omega (arith, high) in
          let P : ℕ → Type 0 = λ y. Good (signal.Node y) in
          subst P e (good_gate (a - held_count m) x (dropped (held_count m) gs (a - held_count m) a x (sym e) is))
    ]

    -- what a gate or a root reads
    pub good_read : (a : ℕ) → 0 < uses gs (root_numbers g) a → Good (signal.Node a)
    good_read a h = elim (cov.cover.closed a h) [ inl low ↦ good_held a low | inr r ↦ good_node a r.0 r.1 ]

    pub good_root : (a : ℕ) → 0 < times a (root_numbers g) → Good (signal.Node a)
    good_root a h = good_read a (omega (arith, h))

    -- ---- each terminal's signal

    good_port : (s : Signal) → IsPortSignal m.clock g.outputs 0 0 (inputs m) (outputs m) s → Good s
    good_port s (of_clock name is e) = let r = clock_some m.clock name is in subst Good (sym e) (good_clock r.0 r.1)
    good_port s (of_input j name h e) =
        let n : j ≡ 0 + j = omega arith in
        subst Good (sym e) (let P : ℕ → Type 0 = λ x. Good (signal.Node x) in subst P n (good_input j (number_below (inputs m) j name h)))
    good_port s (of_output k name h e) =
        let low = number_below (outputs m) k name h in
        let count = sub.apart.count in
        let root : In (get_or g.outputs (0 + k) 0) g.outputs = In-at g.outputs (0 + k) 0 (omega (arith, low, count)) in
        let both = times_append (get_or g.outputs (0 + k) 0) g.outputs g.loads in
        let some = in_times (get_or g.outputs (0 + k) 0) g.outputs root in
        subst Good (sym e) (good_root (get_or g.outputs (0 + k) 0) (omega (arith, both, some)))

    abbrev AllGood : List Signal → Type 0
    AllGood us = (u : Signal) → In u us → Good u

    good_place : (us : List Signal) (place : ℕ) → AllGood us → Good (get_or us place signal.Low)
    good_place [] place all = good_low
    good_place (u ∷ us) zero all = all u here
    good_place (u ∷ us) (suc place) all = good_place us place (λ v h. all v (there h))

    good_tied : (s : Spot) (k : Tie) → Good (signal.Node s.shown) → AllGood s.reads → Good (tied_signal s k)
    good_tied s tie.High a all = good_high
    good_tied s tie.Low a all = good_low
    good_tied s tie.Shown a all = a
    good_tied s (tie.Read place) a all = good_place s.reads place all

    -- a register reads what it loads, and the clock
    pub has_clock : 0 < length m.registers → (name : Name) × (m.clock ≡ Some name)
    has_clock some = by m.clock refl where
      by : (c : Option Name) → m.clock ≡ c → (name : Name) × (m.clock ≡ Some name)
      by None e = absurd (let none = ap length (checked.clocked e) in omega (arith, some, none))
      by (Some name) e = (name, e)

    good_load : (load : ℕ) → In load g.loads → Good (signal.Node load)
    good_load load h =
        let both = times_append load g.outputs g.loads in
        let some = in_times load g.loads h in
        good_root load (omega (arith, both, some))

    register_reads : (load : ℕ) → In load g.loads → (name : Name) → m.clock ≡ Some name → AllGood (signal.Node load ∷ signal.Clock ∷ [])
    register_reads load h name is u here = good_load load h
    register_reads load h name is u (there here) = good_clock name is
    register_reads load h name is u (there (there none)) = elim none [ ]

    register_tied : (k load : ℕ) (t : Tie) → IsNumber g.loads k load → Good (tied_signal (register_spot (length (inputs m)) (0 + k) load) t)
    register_tied k load t h =
        let low = number_below g.loads k load h in
        let each = sub.roots.each in
        let clock = has_clock (omega (arith, low, each)) in
        let n : length (inputs m) + k ≡ length (inputs m) + (0 + k) = omega arith in
        good_tied (register_spot (length (inputs m)) (0 + k) load) t
        (let P : ℕ → Type 0 = λ x. Good (signal.Node x) in subst P n (good_register k load h))
        (register_reads load (number_in g.loads k load h) clock.0 clock.1)

    -- a gate reads its leaves
    gate_reads : (a : ℕ) (x : Gate) → gate_of_node gs a ≡ Some x → AllGood (map (λ y. signal.Node y) x.leaves.items)
    gate_reads a x is u h =
        let r = In-map_back (λ y. signal.Node y) u x.leaves.items h in
        let here_is = used_some r.0 gs a x is in
        let some = in_times r.0 x.leaves.items r.1 in
        subst Good r.2 (good_read r.0 (omega (arith, here_is, some)))

    gate_tied : (j i : ℕ) (x : Gate) (t : Tie) → IsNumber (node_gates m gs) i (Some x) → Good (tied_signal (gate_spot (0 + j) (held_count m + i) x) t)
    gate_tied j i x t h =
        good_tied (gate_spot (0 + j) (held_count m + i) x) t (good_gate i x h)
        (gate_reads (held_count m + i) x (undropped (held_count m) gs i (held_count m + i) x refl h))

    spot_tied : (s : Spot) (t : Tie) → In s spots → Good (tied_signal s t)
    spot_tied s t h = elim (In-split s registers gates h) [
      | inl a ↦
          let n = number_of s registers a in
          let r = register_at (length (inputs m)) 0 g.loads n.0 s n.1 in
          subst (λ (u : Spot). Good (tied_signal u t)) (sym r.2) (register_tied n.0 r.0 t r.1)
      | inr b ↦
          let n = number_of s gates b in
          let r = gate_at (held_count m) 0 (node_gates m gs) n.0 s n.1 in
          subst (λ (u : Spot). Good (tied_signal u t)) (sym r.3) (gate_tied n.0 r.0 r.1 t r.2)
    ]

    pub driven : (t : Terminal × Signal) → In t told → Good t.1
    driven t h = elim (In-split t (port_signals told_ports) (flat_map (spot_signals ps) spots) h) [
      | inl a ↦
          let r = In-map_back (λ (p : TiedPort). (port p.name, p.signal)) t told_ports a in
          subst Good (ap (λ (x : Terminal × Signal). x.1) r.2)
          (elim (both_back m.clock g.outputs m.ports sorted apart 0 0 r.0 r.1) [
            | inl is ↦ elim is [ inl e ↦ subst Good (sym e) good_high | inr e ↦ subst Good (sym e) good_low ]
            | inr own ↦ good_port r.0.signal (signal_told m.clock g.outputs 0 0 m.ports apart r.0 own)
          ])
      | inr b ↦
          let r = flat_in (spot_signals ps) t spots b in
          let s = signal_tied r.0 (part_of ps r.0.role).ties.items t r.2 in
          subst Good (sym s.1) (spot_tied r.0 s.0 r.1)
    ]

  -- ---- the terminals

  pub spots_pins : (ss : List Spot) → map told_terminal (flat_map (spot_signals ps) ss) ≡ flat_map pins_of (map (instance_of ps) ss)
  spots_pins [] = refl
  spots_pins (s ∷ ss) =
      map-append told_terminal (spot_signals ps s) (flat_map (spot_signals ps) ss)
      ∙ ap (λ (ts : List Terminal). ts ++ map told_terminal (flat_map (spot_signals ps) ss)) (pins_are (cell_for s.role) (part_of ps s.role) s (is_part s.role))
      ∙ ap (λ (ts : List Terminal). map (pin_of s.name) (part_of ps s.role).pins ++ ts) (spots_pins ss)

  pub terminals_told : terminals_of ports (map (instance_of ps) spots) ≡ map (λ (t : Terminal × Signal). t.0) told
  terminals_told =
      sym (map-append told_terminal (port_signals told_ports) (flat_map (spot_signals ps) spots)
      ∙ ap (λ (ts : List Terminal). ts ++ map told_terminal (flat_map (spot_signals ps) spots)) (ports_told m.clock g.outputs 0 0 ports)
      ∙ ap (λ (ts : List Terminal). map (λ (p : Port). port p.name) ports ++ ts) (spots_pins spots))
