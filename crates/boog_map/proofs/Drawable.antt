-- The draft of a mapped machine can be built: names of instances differ, and there is room for all terminals.
use Rattle.std.proofs.Common.{◌≡◌, ◌⊎◌, inl, inr, ℕ, suc, ◌+◌, ◌*◌, ◌^◌, ◌<◌, ◌≤◌, ◌==◌, Bool, true, false, not, List, [], ◌∷◌, ◌++◌, length, map, filter, Option, None, Some, refl, sym, ◌∙◌, ap, subst, arith, length-append}
use Rattle.std.specs.Prelude.{sum_by}
use Rattle.std.proofs.lemmas.Bool.{eqb-true}
use Rattle.std.proofs.lemmas.List.{map-append}
use Rattle.std.proofs.lemmas.List.Sums.{sum_by-cons, sum_by-append}
use Rattle.std.specs.List.{flat_map}
use Rattle.std.proofs.lemmas.List.Filters.{length-filter_both}
use Rattle.vlsi_base.specs.declared.name.Name.{Name}
use Rattle.vlsi_base.specs.declared.name.Port.{Port}
use Rattle.vlsi_base.specs.declared.name.Terminal.{Terminal}
use Rattle.vlsi_base.specs.Names.{vdd, vss}
use Rattle.vlsi_base.specs.Member.{In}
use Rattle.machine_core.specs.Machine.{Machine, inputs, is_input}
use Rattle.machine_core.specs.Checked.{IsChecked}
use Rattle.cell_model.specs.Cell.{Cell, pin_ports, cell_inputs, cell_outputs}
use Rattle.cell_model.specs.Library.{Library}
use Rattle.cell_checks.specs.Checked.{IsChecked as HasPassed}
use Rattle.cell_pins.specs.Pins.{with_supply, all_ports}
use Rattle.cell_pins.proofs.Ports.{Sorted, sorted_of, sorted_pairs, all_sorted}
use Rattle.net_core.specs.Places.{Stands, IsThere, NoneTwice}
use Rattle.net_core.specs.Netlist.{Instance, AreInOrder, pins_of, terminals_of, port, pin_of}
use Rattle.net_core.proofs.Frames.{unmapped}
use Rattle.net_core.proofs.Standing.{Split, left, right, split}
use Rattle.net_meaning.specs.Agreement.{register_instance}
use Rattle.net_meaning.specs.Well.{gate_instance}
use Rattle.net_theory.specs.Sources.{IsNumber}
use Rattle.net_theory.proofs.Basics.{In-map, length-map}
use Rattle.graph_theory.specs.Graph.{Graph, held_count}
use Rattle.graph_theory.proofs.Names.{register_names, gate_names, not_both}
use Rattle.subject_graph.specs.Subject.{IsSubjectGraph}
use Rattle.cell_match.specs.declared.gate.Gate.{Gate}
use Rattle.boog_tight.specs.Cover.{gate_at as gate_of_node}
use Rattle.boog_tight.specs.Kept.{leaf_count}
use Rattle.boog_cover.specs.Covered.{IsCovered}
use Rattle.boog_map.specs.declared.choice.Role.{Role}
use Rattle.boog_map.specs.declared.choice.Role.TheVariants as role
use Rattle.boog_map.specs.declared.choice.Parts.{Parts}
use Rattle.boog_map.specs.declared.place.Signal.{Signal}
use Rattle.boog_map.specs.declared.place.Spot.{Spot}
use Rattle.boog_map.specs.declared.ports.TiedPort.{TiedPort}
use Rattle.boog_map.specs.declared.build.Sketch.{Sketch}
use Rattle.boog_map.specs.Netlist.{has_registers, HasRoomForCells}
use Rattle.boog_map.specs.Tied.{part_of, gate_words, IsPart}
use Rattle.boog_map.specs.Draft.{instance_of, register_spot, register_spots, gate_spot, gate_spots, port_signals, spot_signals, all_signals, tied_ports, driver, AreDrivers, CanJoin, IsDrawable}
use Rattle.boog_map.specs.Mapped.{root_numbers, node_gates, spots_of, drivers_of}
use Rattle.boog_map.proofs.Lists.{in_there, within, stands_number}
use Rattle.boog_map.proofs.Rooms.{few_nodes}
use Rattle.boog_map.proofs.Dropped.{undropped, dropped_count, dropped_leaves}
use Rattle.boog_map.proofs.Roles.{AreRoles, flip_cell, gate_cell}
use Rattle.boog_map.proofs.Spots.{register_at, register_count, gate_at, gate_count}
use Rattle.boog_map.proofs.Supplied.{sorted_both, two_longer}
use Rattle.boog_map.proofs.Driven.{sorted, apart, told, is_part, formed, driven, terminals_told}

-- ---- how many pins a cell has

pins_count : (c : Cell) → length (cell_inputs c) + length (cell_outputs c) ≡ length (pin_ports c)
pins_count c =
    let a = length-map (λ (p : Port). p.name) (filter (λ p. is_input p.dir) (pin_ports c)) in
    let b = length-map (λ (p : Port). p.name) (filter (λ p. not (is_input p.dir)) (pin_ports c)) in
    let both = length-filter_both (λ (p : Port). is_input p.dir) (λ p. not (is_input p.dir)) (λ p. refl) (pin_ports c) in
    omega (arith, a, b, both)

module _ (m : Machine) (checked : IsChecked m) (g : Graph) (sub : IsSubjectGraph m g) (l : Library) (passed : HasPassed false l) (ps : Parts)
    (parts : AreRoles l.cells (has_registers m) ps) (gs : List (Option Gate)) (cov : IsCovered (gate_words ps) (held_count m) g.nodes (root_numbers g) gs) where
  abbrev spots : List Spot
  spots = spots_of m g gs

  abbrev registers : List Spot
  registers = register_spots (length (inputs m)) 0 g.loads

  abbrev gates : List Spot
  gates = gate_spots (held_count m) 0 (node_gates m gs)

  abbrev cell_for : Role → Cell
  cell_for k = (parts.each k).cell

  the_part : (k : Role) → IsPart (cell_for k) (part_of ps k)
  the_part k = is_part m checked g sub l passed ps parts gs cov k

  -- three pins beside the inputs
  pins_long : (k : Role) → length (part_of ps k).pins ≡ 3 + length (cell_inputs (cell_for k))
  pins_long k =
      let c = cell_for k in
      let ok = formed m checked g sub l passed ps parts gs cov k in
      let ports_apart = λ (q : Port) (h : In q (pin_ports c)). ok.signals q.name (In-map (λ (p : Port). p.name) q (pin_ports c) h) in
      let one = ap length (the_part k).output in
      let all = pins_count c in
      let two = two_longer (pin_ports c) (sorted_of (pin_ports c) ok.order) ports_apart in
      let size = ap length (the_part k).pins in
      let names = length-map (λ (p : Port). p.name) (all_ports c) in
      omega (arith, one, all, two, size, names)

  -- a register has two inputs, and a gate its leaves
  register_pins : has_registers m ≡ true → length (part_of ps role.Register).pins ≡ 5
  register_pins some =
      let two = (flip_cell l.cells (has_registers m) ps parts some).two in
      let long = pins_long role.Register in
      omega (arith, two, long)

  gate_pins : (a : ℕ) (x : Gate) → gate_of_node gs a ≡ Some x → length (part_of ps (role.Gate x.cell)).pins ≡ 3 + length x.leaves.items
  gate_pins a x is =
      let inputs = (gate_cell l.cells (has_registers m) ps parts a x (cov.cover.gate a x is)).many in
      let long = pins_long (role.Gate x.cell) in
      omega (arith, inputs, long)

  abbrev pin_count : Instance → ℕ
  pin_count i = length i.pins

  abbrev pin_sum : List Spot → ℕ
  pin_sum ss = sum_by pin_count (map (instance_of ps) ss)

  sum_more : (s : Spot) (ss : List Spot) → pin_sum (s ∷ ss) ≡ length (part_of ps s.role).pins + pin_sum ss
  sum_more s ss = sum_by-cons pin_count (instance_of ps s) (map (instance_of ps) ss)

  registers_sum : has_registers m ≡ true → (front k : ℕ) (loads : List ℕ) → pin_sum (register_spots front k loads) ≡ 5 * length loads
  registers_sum some front k [] = refl
  registers_sum some front k (load ∷ loads) =
      let one = sum_more (register_spot front k load) (register_spots front (suc k) loads) in
      let rest = registers_sum some front (suc k) loads in
      let five = register_pins some in
      omega (arith, one, rest, five)

  gates_sum : (number k : ℕ) (xs : List (Option Gate)) → ((i : ℕ) (x : Gate) → IsNumber xs i (Some x) → length (part_of ps (role.Gate x.cell)).pins ≡ 3 + length x.leaves.items)
      → pin_sum (gate_spots number k xs) ≡ 3 * length (gate_spots number k xs) + leaf_count xs
  gates_sum number k [] each = refl
  gates_sum number k (None ∷ xs) each = let rest = gates_sum (suc number) k xs (λ i x h. each (suc i) x h) in omega (arith, rest)
  gates_sum number k (Some x ∷ xs) each =
      let one = sum_more (gate_spot k number x) (gate_spots (suc number) (suc k) xs) in
      let rest = gates_sum (suc number) (suc k) xs (λ i y h. each (suc i) y h) in
      let own = each 0 x refl in
      omega (arith, one, rest, own)

  all_pins : (ss : List Spot) → length (flat_map pins_of (map (instance_of ps) ss)) ≡ pin_sum ss
  all_pins [] = refl
  all_pins (s ∷ ss) =
      let rest = all_pins ss in
      let own = sum_more s ss in
      let both = length-append (pins_of (instance_of ps s)) (flat_map pins_of (map (instance_of ps) ss)) in
      let size = length-map (pin_of s.name) (part_of ps s.role).pins in
      omega (arith, rest, own, both, size)

  -- ---- how many there are

  registers_long : length registers ≡ length m.registers
  registers_long = register_count (length (inputs m)) 0 g.loads ∙ sub.roots.each

  gates_few : length gates ≤ length g.nodes
  gates_few =
      let a = gate_count (held_count m) 0 (node_gates m gs) in
      let b = dropped_count (held_count m) (length g.nodes) gs cov.long in
      omega (arith, a, b)

  few_spots : length spots ≤ length m.registers + length g.nodes
  few_spots = let both = length-append registers gates in let a = registers_long in let b = gates_few in omega (arith, both, a, b)

  -- the registers' pins, where there is one; without registers there is none
  all_registers : pin_sum registers ≡ 5 * length registers
  all_registers = by (length m.registers == 0) refl where
    by : (b : Bool) → (length m.registers == 0) ≡ b → pin_sum registers ≡ 5 * length registers
    by true e =
        let none : length m.registers ≡ 0 = eqb-true (length m.registers) 0 e in
        let long = registers_long in
        let empty : registers ≡ [] = nothing registers (omega (arith, none, long)) in
        ap pin_sum empty ∙ ap (λ (ss : List Spot). 5 * length ss) (sym empty) where
          nothing : (ss : List Spot) → length ss ≡ 0 → ss ≡ []
          nothing [] h = refl
          nothing (x ∷ ss) h = absurd (omega (arith, h))
    by false e =
        let sum = registers_sum (ap not e) (length (inputs m)) 0 g.loads in
        let long = register_count (length (inputs m)) 0 g.loads in
        omega (arith, sum, long)

  -- beside an output and two supplies each instance has its inputs
  pub few_pins : sum_by pin_count (map (instance_of ps) spots) ≤ 3 * length spots + 2 * (length m.registers + length g.nodes)
  few_pins =
      let split = ap (sum_by pin_count) (map-append (instance_of ps) registers gates) ∙ sum_by-append pin_count (map (instance_of ps) registers) (map (instance_of ps) gates) in
      let first = all_registers in
      let second = gates_sum (held_count m) 0 (node_gates m gs)
      (λ i x h. gate_pins (held_count m + i) x (undropped (held_count m) gs i (held_count m + i) x refl h)) in
      let leaves = dropped_leaves (held_count m) gs in
      let few = cov.few in
      let both = length-append registers gates in
      let long = registers_long in
      omega (arith, split, first, second, leaves, few, both, long)

  abbrev ports : List Port
  ports = with_supply vss (with_supply vdd m.ports)

  ports_sorted : Sorted m.ports
  ports_sorted = sorted m checked g sub l passed ps parts gs cov

  ports_long : length ports ≡ length m.ports + 2
  ports_long = two_longer m.ports ports_sorted (apart m checked g sub l passed ps parts gs cov)

  few_terminals : HasRoomForCells m → length (terminals_of ports (map (instance_of ps) spots)) < 2 ^ 32
  few_terminals room =
      let both = length-append (map (λ (p : Port). port p.name) ports) (flat_map pins_of (map (instance_of ps) spots)) in
      let own = length-map (λ (p : Port). port p.name) ports in
      let long = ports_long in
      let pins = all_pins spots in
      let sum = few_pins in
      let few = few_spots in
      let nodes = few_nodes m g sub in
      omega (arith, room, both, own, long, pins, sum, few, nodes)

  pub few_count : HasRoomForCells m → length spots < 2 ^ 32
  few_count room = let few = few_spots in let nodes = few_nodes m g sub in omega (arith, room, few, nodes)

  -- ---- names

  abbrev IsNamed : ℕ → Spot → Type 0
  IsNamed i s = ((i < length registers) × (s.name ≡ register_instance i)) ⊎ ((j : ℕ) × (i ≡ length registers + j) × (j < length gates) × (s.name ≡ gate_instance j))

  named : (i : ℕ) (s : Spot) → Stands spots i s → IsNamed i s
  named i s h = by (split registers gates i s h) where
    by : Split registers gates i s → IsNamed i s
    by (left a) =
        let r = register_at (length (inputs m)) 0 g.loads i s (stands_number registers i s a) in
        let e : 0 + i ≡ i = omega arith in
        inl (within registers i s a, ap (λ (u : Spot). u.name) r.2 ∙ ap register_instance e)
    by (right j n b) =
        let r = gate_at (held_count m) 0 (node_gates m gs) j s (stands_number gates j s b) in
        let e : 0 + j ≡ j = omega arith in
        inr (j, n, within gates j s b, ap (λ (u : Spot). u.name) r.3 ∙ ap gate_instance e)

  pub names_apart : HasRoomForCells m → NoneTwice (map (λ (s : Spot). s.name) spots)
  names_apart room i j x p q =
      let a = unmapped (λ (s : Spot). s.name) spots i x p in
      let b = unmapped (λ (s : Spot). s.name) spots j x q in
      by a.0 b.0 (named i a.0 a.1) (named j b.0 b.1) (a.2 ∙ sym b.2) where
        small : length registers + length gates < 2 ^ 64
        small = let both = length-append registers gates in let few = few_count room in omega (arith, both, few)

        by : (s u : Spot) → IsNamed i s → IsNamed j u → s.name ≡ u.name → i ≡ j
        by s u (inl a) (inl b) e =
            let low = a.0 in
            let high = b.0 in
            let few = small in
            register_names i j (omega (arith, low, few)) (omega (arith, high, few)) (sym a.1 ∙ e ∙ b.1)
        by s u (inl a) (inr b) e = absurd (not_both i b.0 (sym a.1 ∙ e ∙ b.3))
        by s u (inr a) (inl b) e = absurd (not_both j a.0 (sym b.1 ∙ sym e ∙ a.3))
        by s u (inr a) (inr b) e =
            let low = a.2 in
            let high = b.2 in
            let few = small in
            let same : a.0 ≡ b.0 = gate_names a.0 b.0 (omega (arith, low, few)) (omega (arith, high, few)) (sym a.3 ∙ e ∙ b.3) in
            let first = a.1 in
            let second = b.1 in
            omega (arith, same, first, second)

  pins_ordered : (k : Role) → AreInOrder (part_of ps k).pins
  pins_ordered k =
      subst (λ (xs : List Name). AreInOrder xs) (sym (the_part k).pins)
      (sorted_pairs (all_ports (cell_for k)) (all_sorted (cell_for k) (formed m checked g sub l passed ps parts gs cov k)))

  -- ---- a sketch of it

  module _ (k : Sketch) (same : k.parts ≡ ps) (spots_are : k.spots.items ≡ spots) (drv : AreDrivers m.clock (drivers_of m g ps gs) k.drivers)
      (ports_are : k.ports.items ≡ tied_ports m.clock g.outputs 0 0 ports) where
    pub instances_are : map (instance_of k.parts) k.spots.items ≡ map (instance_of ps) spots
    instances_are = ap (λ (q : Parts). map (instance_of q) k.spots.items) same ∙ ap (map (instance_of ps)) spots_are

    pub signals_are : all_signals k ≡ told m checked g sub l passed ps parts gs cov
    signals_are =
        ap (λ (ts : List TiedPort). port_signals ts ++ flat_map (spot_signals k.parts) k.spots.items) ports_are
        ∙ ap (λ (q : Parts). port_signals (tied_ports m.clock g.outputs 0 0 ports) ++ flat_map (spot_signals q) k.spots.items) same
        ∙ ap (λ (ss : List Spot). port_signals (tied_ports m.clock g.outputs 0 0 ports) ++ flat_map (spot_signals ps) ss) spots_are

    there_told : (t : Terminal) (s : Signal) → In (t, s) (told m checked g sub l passed ps parts gs cov)
        → IsThere (terminals_of ports (map (instance_of ps) spots)) t
    there_told t s h =
        subst (λ (ts : List Terminal). IsThere ts t) (sym (terminals_told m checked g sub l passed ps parts gs cov))
        (in_there t (map (λ (x : Terminal × Signal). x.0) (told m checked g sub l passed ps parts gs cov))
        (In-map (λ (x : Terminal × Signal). x.0) (t, s) (told m checked g sub l passed ps parts gs cov) h))

    can_join : CanJoin (terminals_of ports (map (instance_of ps) spots)) k.drivers (told m checked g sub l passed ps parts gs cov)
    can_join t h =
        let good = driven m checked g sub l passed ps parts gs cov k.drivers drv t h in
        (there_told t.0 t.1 h, there_told (driver k.drivers t.1) t.1 good.0, good.1)

    pub drawable : HasRoomForCells m → IsDrawable ports k
    drawable room = record {
      order = sorted_pairs ports (sorted_both m.ports ports_sorted (apart m checked g sub l passed ps parts gs cov));
      pins = λ s h. subst (λ (q : Parts). AreInOrder (part_of q s.role).pins) (sym same) (pins_ordered s.role);
      names = subst (λ (ss : List Spot). NoneTwice (map (λ (s : Spot). s.name) ss)) (sym spots_are) (names_apart room);
      many = subst (λ (ss : List Spot). length ss < 2 ^ 32) (sym spots_are) (few_count room);
      few = subst (λ (is : List Instance). length (terminals_of ports is) < 2 ^ 32) (sym instances_are) (few_terminals room);
      joins =
          subst (λ (is : List Instance). CanJoin (terminals_of ports is) k.drivers (all_signals k)) (sym instances_are)
          (subst (λ (ts : List (Terminal × Signal)). CanJoin (terminals_of ports (map (instance_of ps) spots)) k.drivers ts) (sym signals_are) can_join);
    }
