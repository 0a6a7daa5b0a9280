-- The netlist of a mapped machine carries the gates of its cover, so it is tight.
use Rattle.std.proofs.Common.{◌≡◌, inl, inr, ◌↔◌, ℕ, ◌+◌, ◌-◌, ◌<◌, false, not, List, [], ◌∷◌, length, map, filter, Option, None, Some, refl, sym, ◌∙◌, ap, subst, arith}
use Rattle.std.proofs.lemmas.Bool.{cases_lt}
use Rattle.vlsi_base.specs.declared.name.Name.{Name}
use Rattle.vlsi_base.specs.declared.name.Port.{Port}
use Rattle.vlsi_base.specs.declared.name.Terminal.{Terminal}
use Rattle.vlsi_base.specs.Names.{vdd, vss}
use Rattle.vlsi_base.specs.Member.{In}
use Rattle.bool_expr.specs.Expression.{Expression, val}
use Rattle.machine_core.specs.Machine.{Machine, inputs, outputs, is_input, names_of}
use Rattle.machine_core.specs.Checked.{IsChecked}
use Rattle.cell_model.specs.Cell.{gate, flip_flop, Cell, cell_inputs}
use Rattle.cell_model.specs.Library.{Library, cell_of}
use Rattle.cell_model.proofs.Members.{In-split, In-left, In-right}
use Rattle.cell_checks.specs.Checked.{IsChecked as HasPassed}
use Rattle.cell_model.specs.Usable.{IsFormed}
use Rattle.cell_pins.specs.Pins.{with_supply, all_ports}
use Rattle.cell_pins.proofs.Ports.{in_filter}
use Rattle.cell_match.specs.declared.gate.Gate.{Gate}
use Rattle.cell_match.specs.Places.{times}
use Rattle.boog_tight.specs.Cover.{gate_at as gate_of_node}
use Rattle.boog_tight.proofs.Counting.{used_some}
use Rattle.boog_cover.specs.Covered.{IsCovered}
use Rattle.net_core.specs.Places.{Stands}
use Rattle.net_core.specs.Netlist.{Netlist as InMemory, IsNetlist, port, pin_of, terminals, HasClass}
use Rattle.net_core.specs.Joins.{Joined}
use Rattle.net_core.proofs.Frames.{mapped}
use Rattle.net_core.proofs.Standing.{stands_same}
use Rattle.net_meaning.specs.Netlist.{Member, AbstractNetlist}
use Rattle.net_meaning.specs.Well.{Has}
use Rattle.net_theory.specs.Sources.{IsNumber, Seat}
use Rattle.net_theory.proofs.Basics.{In-map, In-map_back, at_number, number_below, number_in, number_of}
use Rattle.net_right.specs.View.{IsSeenAs}
use Rattle.net_tight.specs.Tight.{IsGateHere, pin_classes, IsTight}
use Rattle.net_tight.specs.Carries.{IsInstance, IsRoot, of_port, of_register, Carries}
use Rattle.net_tight.proofs.Carried.{carries_tight}
use Rattle.graph_theory.specs.Graph.{Graph, held_count}
use Rattle.subject_graph.specs.Subject.{IsSubjectGraph}
use Rattle.boog_map.specs.declared.choice.Role.{Role}
use Rattle.boog_map.specs.declared.choice.Role.TheVariants as role
use Rattle.boog_map.specs.declared.choice.Parts.{Parts}
use Rattle.boog_map.specs.declared.place.Signal.{Signal}
use Rattle.boog_map.specs.declared.place.Signal.TheVariants as signal
use Rattle.boog_map.specs.declared.place.Spot.{Spot}
use Rattle.boog_map.specs.declared.drivers.Drivers.{Drivers}
use Rattle.boog_map.specs.Netlist.{has_registers, HasRoomForCells}
use Rattle.boog_map.specs.Tied.{part_of, gate_words, read_pins, tied_pin}
use Rattle.boog_map.specs.Draft.{instance_of, register_spot, register_spots, gate_spot, gate_spots, output_terminal, spot_signals, driver, join_of, AreDrivers}
use Rattle.boog_map.specs.Mapped.{root_numbers, node_gates, spots_of, drivers_of}
use Rattle.boog_map.proofs.Dropped.{dropped, undropped}
use Rattle.boog_map.proofs.Lists.{in_there, got, number_stands, mapped_same, mapped_number}
use Rattle.boog_map.proofs.Marks.{root_cases}
use Rattle.boog_map.proofs.Roles.{AreRoles, flip_cell, gate_cell, one_expr}
use Rattle.boog_map.proofs.Spots.{register_at, register_found, gate_at, gate_found}
use Rattle.boog_map.proofs.Pins.{gate_input_told, data_told}
use Rattle.boog_map.proofs.Classes.{signal_at, signal_told, class_alike}
use Rattle.boog_map.proofs.Driven.{told, spot_told, on_output, good_node, good_read, formed, is_part}
use Rattle.boog_map.proofs.Drawable.{names_apart}
use Rattle.boog_map.proofs.Seating.{member_for, seat, all, closed, found, members, ties_of, shows_spot, needs_registers, port_cases}

-- the node that a signal is of
node_in : Signal → ℕ
node_in signal.High = 0
node_in signal.Low = 0
node_in signal.Clock = 0
node_in (signal.Node a) = a

node_in_node : (a : ℕ) → node_in (signal.Node a) ≡ a
unfolding node_in
node_in_node a = refl

module _ (m : Machine) (checked : IsChecked m) (g : Graph) (sub : IsSubjectGraph m g) (l : Library) (passed : HasPassed false l) (ps : Parts)
    (parts : AreRoles l.cells (has_registers m) ps) (gs : List (Option Gate)) (cov : IsCovered (gate_words ps) (held_count m) g.nodes (root_numbers g) gs)
    (d : Drivers) (drv : AreDrivers m.clock (drivers_of m g ps gs) d) (n : InMemory) (sound : IsNetlist n)
    (ports_is : n.ports ≡ with_supply vss (with_supply vdd m.ports)) (instances_is : n.instances ≡ map (instance_of ps) (spots_of m g gs))
    (joined : (a b : Terminal) (j k : ℕ) → HasClass n a j → HasClass n b k
    → (j ≡ k) ↔ Joined (map (join_of d) (told m checked g sub l passed ps parts gs cov)) a b) (k : AbstractNetlist) (seen : IsSeenAs n k) where
  abbrev spots : List Spot
  spots = spots_of m g gs

  abbrev registers : List Spot
  registers = register_spots (length (inputs m)) 0 g.loads

  abbrev gates : List Spot
  gates = gate_spots (held_count m) 0 (node_gates m gs)

  abbrev cell_for : Role → Cell
  cell_for r = (parts.each r).cell

  abbrev signals : List (Terminal × Signal)
  signals = told m checked g sub l passed ps parts gs cov

  abbrev class_of : ℕ → ℕ
  class_of x = k.class (driver d (signal.Node x))

  abbrev node_of : ℕ → ℕ
  node_of c = node_in (signal_at n.classes signals c)

  -- ---- classes of nodes

  every_terminal : terminals n ≡ map (λ (t : Terminal × Signal). t.0) signals
  every_terminal = all m checked g sub l passed ps parts gs cov d drv n sound ports_is instances_is joined

  drives : (t : Terminal × Signal) → In t signals → In (driver d t.1, t.1) signals
  drives = closed m checked g sub l passed ps parts gs cov d drv n sound ports_is instances_is joined

  class_told : (t : Terminal) (x : ℕ) → In (t, signal.Node x) signals → k.class t ≡ class_of x
  class_told t x h =
      class_alike n sound signals d every_terminal drives joined k seen t (driver d (signal.Node x)) (signal.Node x) h (drives (t, signal.Node x) h)

  back_of : (x : ℕ) → In (driver d (signal.Node x), signal.Node x) signals → node_of (class_of x) ≡ x
  back_of x h = ap node_in (signal_told n sound signals d every_terminal drives joined k seen (driver d (signal.Node x)) (signal.Node x) h) ∙ node_in_node x

  pin_class : (s : Spot) (t : Terminal) (x : ℕ) → In s spots → In (t, signal.Node x) (spot_signals ps s) → k.class t ≡ class_of x
  pin_class s t x h i = class_told t x (spot_told m checked g sub l passed ps parts gs cov s (t, signal.Node x) h i)

  back_leaf : (j x : ℕ) (y : Gate) → gate_of_node gs j ≡ Some y → 0 < times x y.leaves.items → node_of (class_of x) ≡ x
  back_leaf j x y at h =
      let some = used_some x gs j y at in
      back_of x (good_read m checked g sub l passed ps parts gs cov d drv x (omega (arith, h, some))).0

  -- ---- instances of gates

  ties : (s : Spot) → (part_of ps s.role).ties.items ≡ map (tied_pin (read_pins (cell_for s.role))) (all_ports (cell_for s.role))
  ties s = ties_of m checked g sub l passed ps parts gs cov d drv n sound ports_is instances_is joined k seen s

  formed_for : (r : Role) → IsFormed (cell_for r)
  formed_for = formed m checked g sub l passed ps parts gs cov

  gate_instance : (j i : ℕ) (x : Gate) → IsNumber (node_gates m gs) i (Some x) → In (gate_spot (0 + j) (held_count m + i) x) spots
      → (e : Expression) → (cell_for (role.Gate x.cell)).function ≡ gate e
      → IsInstance k (gate_words ps) class_of (member_for ps (gate_spot (0 + j) (held_count m + i) x)) (cell_for (role.Gate x.cell)) e (held_count m + i) x
  gate_instance j i x h listed e is_gate =
      let s = gate_spot (0 + j) (held_count m + i) x in
      let c = cell_for (role.Gate x.cell) in
      let at = undropped (held_count m) gs i (held_count m + i) x refl h in
      let is = gate_cell l.cells (has_registers m) ps parts (held_count m + i) x (cov.cover.gate (held_count m + i) x at) in
      record {
        shows =
            ap (pin_classes k (member_for ps s)) (is_part m checked g sub l passed ps parts gs cov (role.Gate x.cell)).output
            ∙ ap (λ (y : ℕ). y ∷ [])
            (pin_class s (output_terminal ps s) (held_count m + i) listed
            (shows_spot m checked g sub l passed ps parts gs cov d drv n sound ports_is instances_is joined k seen s));
        reads =
            mapped_same (λ (p : Name). k.class (pin_of s.name p)) class_of (cell_inputs c) x.leaves.items is.many
            (λ o name a p q. pin_class s (pin_of s.name name) a listed
            (gate_input_told c (formed_for (role.Gate x.cell)) (part_of ps (role.Gate x.cell)).ties.items (ties s) s e is_gate o name (signal.Node a) p
            (mapped_number (λ (y : ℕ). signal.Node y) x.leaves.items o a q)));
        value = λ w long. ap (λ (f : Expression). val f w) (one_expr c e is.expr is_gate is.is_gate) ∙ is.value w long;
      }

  members_are : k.instances ≡ map (λ (p : Seat). p.member) (map (seat ps) spots)
  members_are = members m checked g sub l passed ps parts gs cov d drv n sound ports_is instances_is joined k seen

  found_for : (r : Role) → cell_of l (part_of ps r).model ≡ Some (cell_for r)
  found_for = found m checked g sub l passed ps parts gs cov d drv n sound ports_is instances_is joined

  has_spot : (s : Spot) → In s spots → Has k l (member_for ps s) (cell_for s.role)
  has_spot s h = record {
    listed = subst (λ (is : List Member). In (member_for ps s) is) (sym members_are)
        (In-map (λ (p : Seat). p.member) (seat ps s) (map (seat ps) spots) (In-map (seat ps) s spots h));
    found = found_for s.role;
  }

  -- the spot of an instance
  record IsOf (i : Member) : Type 0 where
    pub spot : Spot
    pub listed : In spot spots
    pub same : member_for ps spot ≡ i

  spot_for : (i : Member) → In i k.instances → IsOf i
  spot_for i h =
      let q = In-map_back (λ (p : Seat). p.member) i (map (seat ps) spots) (subst (λ (is : List Member). In i is) members_are h) in
      let s = In-map_back (seat ps) q.0 spots q.1 in
      record { spot = s.0; listed = s.1; same = ap (λ (p : Seat). p.member) s.2 ∙ q.2 }

  cell_same : (i : Member) (c : Cell) (s : Spot) → member_for ps s ≡ i → cell_of l i.model ≡ Some c → cell_for s.role ≡ c
  cell_same i c s same is =
      let e : Some (cell_for s.role) ≡ Some c = sym (found_for s.role) ∙ ap (λ (x : Member). cell_of l x.model) same ∙ is in cc

  abbrev HasGate : Member → Cell → Expression → Type 0
  HasGate i c e = (j : ℕ) × (x : Gate) × (gate_of_node gs j ≡ Some x) × IsInstance k (gate_words ps) class_of i c e j x

  gate_has : (s : Spot) → In s gates → In s spots → (e : Expression) → (cell_for s.role).function ≡ gate e → HasGate (member_for ps s) (cell_for s.role) e
  gate_has s h listed e is_gate =
      let a = number_of s gates h in
      let r = gate_at (held_count m) 0 (node_gates m gs) a.0 s a.1 in
      let t = gate_spot (0 + a.0) (held_count m + r.0) r.1 in
      let P : Spot → Type 0 = λ u. HasGate (member_for ps u) (cell_for u.role) e in
      let is : (cell_for (role.Gate r.1.cell)).function ≡ gate e = subst (λ (u : Spot). (cell_for u.role).function ≡ gate e) r.3 is_gate in
      subst P (sym r.3) (
        held_count m + r.0,
        r.1,
        undropped (held_count m) gs r.0 (held_count m + r.0) r.1 refl r.2,
        gate_instance a.0 r.0 r.1 r.2 (subst (λ (u : Spot). In u spots) r.3 listed) e is,
      )

  -- a register is no gate
  register_no_gate : (s : Spot) → In s registers → (e : Expression) → (cell_for s.role).function ≡ gate e → ⊥
  register_no_gate s h e is_gate =
      let a = number_of s registers h in
      let r = register_at (length (inputs m)) 0 g.loads a.0 s a.1 in
      no_gate a.0 r.0 r.1 e (subst (λ (u : Spot). (cell_for u.role).function ≡ gate e) r.2 is_gate) where
        no_gate : (j load : ℕ) → IsNumber g.loads j load → (e : Expression) → (cell_for role.Register).function ≡ gate e → ⊥
        no_gate j load is e is_gate =
            let some = needs_registers m checked g sub l passed ps parts gs cov d drv n sound ports_is instances_is joined k seen j load is in
            let flip = flip_cell l.cells (has_registers m) ps parts some in
            absurd (let no : flip_flop flip.data_pin flip.clock_pin ≡ gate e = sym flip.is_flip ∙ is_gate in cc)

  gates_are : (i : Member) (c : Cell) (e : Expression) → IsGateHere k l i c e → HasGate i c e
  gates_are i c e is =
      let s = spot_for i is.has.listed in
      let same = cell_same i c s.spot s.same is.has.found in
      let is_gate : (cell_for s.spot.role).function ≡ gate e = ap (λ (x : Cell). x.function) same ∙ is.is_gate in
      subst (λ (x : Member). HasGate x c e) s.same
      (subst (λ (x : Cell). HasGate (member_for ps s.spot) x e) same
      (elim (In-split s.spot registers gates s.listed) [
        | inl a ↦ absurd (register_no_gate s.spot a e is_gate)
        | inr b ↦ gate_has s.spot b s.listed e is_gate
      ]))

  abbrev HasInstance : ℕ → Gate → Type 0
  HasInstance j x = (i : Member) × (c : Cell) × (e : Expression) × IsGateHere k l i c e × IsInstance k (gate_words ps) class_of i c e j x

  instance_at : (i : ℕ) (x : Gate) → IsNumber (node_gates m gs) i (Some x) → HasInstance (held_count m + i) x
  instance_at i x h =
      let r = gate_found ps (held_count m) 0 (node_gates m gs) i x h in
      let s = gate_spot (0 + r.0) (held_count m + i) x in
      let listed : In s spots = In-right s registers gates (number_in gates r.0 s r.1) in
      let at = undropped (held_count m) gs i (held_count m + i) x refl h in
      let is = gate_cell l.cells (has_registers m) ps parts (held_count m + i) x (cov.cover.gate (held_count m + i) x at) in (
        member_for ps s,
        cell_for (role.Gate x.cell),
        is.expr,
        record { has = has_spot s listed; is_gate = is.is_gate },
        gate_instance r.0 i x h listed is.expr is.is_gate,
      )

  instance_for : (j : ℕ) (x : Gate) → gate_of_node gs j ≡ Some x → HasInstance j x
  instance_for j x at = elim (cases_lt j (held_count m)) [
    | inl low ↦ absurd (let no : None ≡ Some x = sym (cov.given j low) ∙ at in cc)
    | inr high ↦
        let e : held_count m + (j - held_count m) ≡ j = omega (arith, high) in
        let P : ℕ → Type 0 = λ y. HasInstance y x in
        subst P e (instance_at (j - held_count m) x (dropped (held_count m) gs (j - held_count m) j x (sym e) at))
  ]

  -- ---- names

  one_name : HasRoomForCells m → (i o : Member) → In i k.instances → In o k.instances → i.name ≡ o.name → i ≡ o
  one_name room i o p q e =
      let s = spot_for i p in
      let u = spot_for o q in
      let a = in_there s.spot spots s.listed in
      let b = in_there u.spot spots u.listed in
      let name : s.spot.name ≡ u.spot.name = ap (λ (x : Member). x.name) s.same ∙ e ∙ sym (ap (λ (x : Member). x.name) u.same) in
      let first : Stands (map (λ (x : Spot). x.name) spots) a.0 u.spot.name =
      subst (λ (t : List ℕ). Stands (map (λ (x : Spot). x.name) spots) a.0 t) name (mapped (λ (x : Spot). x.name) spots a.0 s.spot a.1) in
      let place : a.0 ≡ b.0 =
      names_apart m checked g sub l passed ps parts gs cov room a.0 b.0 u.spot.name first (mapped (λ (x : Spot). x.name) spots b.0 u.spot b.1) in
      let P : ℕ → Type 0 = λ y. Stands spots y s.spot in
      sym s.same ∙ ap (member_for ps) (stands_same spots b.0 s.spot u.spot (subst P place a.1) b.1) ∙ u.same

  -- ---- roots

  output_root : (x : ℕ) → In x g.outputs → IsRoot k l (class_of x)
  output_root x h =
      let a = number_of x g.outputs h in
      let low = number_below g.outputs a.0 x a.1 in
      let count = sub.apart.count in
      let name = at_number (outputs m) a.0 (omega (arith, low, count)) in
      let shown = got g.outputs a.0 x 0 (number_stands g.outputs a.0 x a.1) in
      let is_told : In (port name.0, signal.Node x) signals =
      subst (λ (y : ℕ). In (port name.0, signal.Node y) signals) shown (on_output m checked g sub l passed ps parts gs cov a.0 name.0 name.1) in
      of_port name.0 (in_ports name.0 (number_in (outputs m) a.0 name.0 name.1)) (class_told (port name.0) x is_told) where
        in_ports : (name : Name) → In name (outputs m) → In name k.ports
        in_ports name i =
            let r = In-map_back (λ (p : Port). p.name) name (filter (λ p. not (is_input p.dir)) m.ports) i in
            let f = in_filter (λ p. not (is_input p.dir)) m.ports r.0 r.1 in
            (port_cases m checked g sub l passed ps parts gs cov d drv n sound ports_is instances_is joined k seen name).1
            (inr (inr (subst (λ (y : Name). In y (names_of m.ports)) r.2 (In-map (λ (p : Port). p.name) r.0 m.ports f.0))))

  load_root : (x : ℕ) → In x g.loads → IsRoot k l (class_of x)
  load_root x h =
      let a = number_of x g.loads h in
      let s = register_spot (length (inputs m)) (0 + a.0) x in
      let listed : In s spots = In-left s registers gates (number_in registers a.0 s (register_found (length (inputs m)) 0 g.loads a.0 x a.1)) in
      let some = needs_registers m checked g sub l passed ps parts gs cov d drv n sound ports_is instances_is joined k seen a.0 x a.1 in
      let flip = flip_cell l.cells (has_registers m) ps parts some in
      of_register (member_for ps s) (cell_for role.Register) flip.data_pin (has_spot s listed) flip.has_data
      (λ e is. absurd (let no : flip_flop flip.data_pin flip.clock_pin ≡ gate e = sym flip.is_flip ∙ is in cc))
      (pin_class s (pin_of s.name flip.data_pin) x listed
      (data_told (cell_for role.Register) (formed_for role.Register) (part_of ps role.Register).ties.items (ties s) s flip.data_pin flip.clock_pin flip.is_flip flip.has_data))

  -- ---- all of it

  carries : HasRoomForCells m → Carries k l (gate_words ps) gs (root_numbers g) class_of node_of
  carries room = record {
    back = λ j x at. (
      back_of j (good_node m checked g sub l passed ps parts gs cov d drv j x at).0,
      λ y h. back_leaf j y x at h,
    );
    gates_are = gates_are;
    cells_are = parts.every;
    instance_of = instance_for;
    once = λ j x at. (cov.cover.gate j x at).once;
    names = one_name room;
    roots_are = λ x h. elim (root_cases g x h) [ inl o ↦ output_root x o | inr i ↦ load_root x i ];
  }

  pub tight : HasRoomForCells m → IsTight k l
  tight room = carries_tight k l (gate_words ps) gs (root_numbers g) class_of node_of (carries room) cov.tight
