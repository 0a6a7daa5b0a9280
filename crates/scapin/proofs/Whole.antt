-- The parts of a netlist with a scan path, and what is built of them.
use Rattle.std.proofs.Common.{◌≡◌, ◌≢◌, inl, inr, ℕ, ◌+◌, ◌*◌, ◌^◌, ◌<◌, ◌≤◌, false, List, [], ◌∷◌, ◌++◌, map, drop, length, refl, sym, ap, ◌∙◌, subst, arith, length-append}
use Rattle.std.specs.List.{All, flat_map}
use Rattle.std.proofs.lemmas.List.{map-append}
use Rattle.std.proofs.lemmas.Grind.{flat_map-append}
use Rattle.vlsi_base.specs.declared.name.Port.{Port}
use Rattle.vlsi_base.specs.declared.name.Terminal.{Terminal}
use Rattle.vlsi_base.specs.Names.{vdd, vss}
use Rattle.vlsi_base.specs.Member.{In, there, AllDifferent}
use Rattle.machine_core.specs.Machine.{names_of}
use Rattle.cell_model.specs.Cell.{Cell, pin_ports}
use Rattle.cell_model.specs.Library.{Library, IsUsable}
use Rattle.cell_model.proofs.Members.{In-split, In-map, In-map_back, All-In, All-from}
use Rattle.cell_pins.specs.Pins.{with_supply, all_ports}
use Rattle.cell_pins.proofs.Ports.{sorted_of, sorted_pairs, sorted_supply}
use Rattle.cell_pins.specs.Table.{IsTableOf}
use Rattle.cell_checks.specs.Checked.{IsChecked as HasPassed}
use Rattle.net_core.specs.declared.pins.ModelPins.{ModelPins}
use Rattle.net_core.specs.Places.{IsThere, NoneTwice}
use Rattle.net_core.specs.Netlist.{Instance, Netlist, IsNetlist, AreInOrder, port, pins_of, terminals, terminals_of, HasClass}
use Rattle.net_right.specs.Condition.{MeetsCondition}
use Rattle.net_theory.proofs.Basics.{length-map}
use Rattle.loon_fanout.specs.Sinks.{class_among}
use Rattle.loon_fanout.proofs.Picking.{different_append, different_of, twice_of}
use Rattle.loon_fanout.proofs.Terminals.{class_of_map}
use Rattle.scan_theory.specs.Gates.{Gate as TheoryGate, gate_instance}
use Rattle.scan_theory.specs.Scan.{Cells, Stage, gates, gate_name, scan_ports, scan_class, IsScanned}
use Rattle.scan_theory.specs.Path.{register_names, gate_numbers, added, NoneTaken, IsPath}
use Rattle.scan_theory.specs.Laws.{IsScanOf, ScannedMeets, ScannedScans}
use Rattle.scan_theory.proofs.Chain.{gates_each}
use Rattle.scan_theory.proofs.Ports.{scan_sorted}
use Rattle.scan_build.specs.declared.sketch.Entry.{Entry}
use Rattle.scan_build.specs.declared.sketch.Sketch.{Sketch}
use Rattle.scan_build.specs.Sketched.{instance_by, sketch_terminals, IsSketch, IsBuilt}
use Rattle.scan_checks.specs.declared.plan.Plan.{Plan}
use Rattle.scan_checks.specs.declared.registers.Register.{Register}
use Rattle.scan_checks.specs.Planned.{IsPlanOf}
use Rattle.scan_checks.specs.Registers.{IsScannable}
use Rattle.scan_checks.specs.Room.{HasRoomForScan}
use Rattle.scapin.specs.declared.gates.Gate.{Gate}
use Rattle.scapin.specs.Gates.{gate_of, number_of, gate_list}
use Rattle.scapin.specs.Classes.{lines_of, gate_classes, moved}
use Rattle.scapin.specs.Inserted.{IsSketchOf, StillMeets, IsScanPath}
use Rattle.scapin.proofs.Numbers.{numbers_are, numbers_many, gate_low, names_once}
use Rattle.scapin.proofs.Staged.{IsStaged, staged, as_many, places_low, gates_are, gate_named, gate_shows}
use Rattle.scapin.proofs.Bounds.{scan_low}
use Rattle.scapin.proofs.Room.{terminals_few}
use Rattle.scapin.proofs.Told.{entries_are, ports_told, pins_told, gates_told}

map_each : {A B : Type 0} (f g : A → B) (xs : List A) → ((x : A) → f x ≡ g x) → map f xs ≡ map g xs
map_each f g [] same = refl
map_each {A} {B} f g (x ∷ xs) same = ap (λ (y : B). y ∷ map f xs) (same x) ∙ ap (λ (ys : List B). g x ∷ ys) (map_each f g xs same)

map_map : {A B C : Type 0} (f : A → B) (g : B → C) (xs : List A) → map g (map f xs) ≡ map (λ x. g (f x)) xs
map_map f g [] = refl
map_map {A} {B} {C} f g (x ∷ xs) = ap (λ (ys : List C). g (f x) ∷ ys) (map_map f g xs)

-- ---- the registers and cells of a plan

module _ (l : Library) (n : Netlist) (path : List (List ℕ)) (p : Plan) (sound : IsNetlist n) (plan : IsPlanOf l n path p) (few : length p.registers.items < 2 ^ 27)
    (room : HasRoomForScan n) (through : IsPath l n path) (free : NoneTaken l n) (same_many : length p.registers.items ≡ length (register_names l n)) where
  of : IsStaged n l path p.registers.items
  of = staged n l path p.registers.items plan.registers

  abbrev cells : Cells
  cells = plan.cells.cells

  abbrev gs : List TheoryGate
  gs = gates n plan.cells.cells of.stages

  abbrev numbered : List Gate
  numbered = gate_list n.count p.registers.items

  gates_same : map (gate_of n plan.cells.cells) numbered ≡ gs
  gates_same = gates_are n plan.cells.cells p.registers.items of.stages of.matched

  many : length p.registers.items ≡ length of.stages
  many = as_many n p.registers.items of.stages of.matched

  stages_once : AllDifferent (map (λ (s : Stage). s.name) of.stages)
  stages_once = subst (λ (xs : List (List ℕ)). AllDifferent xs) (sym of.named) through.once

  pub places : (r : Register) → In r p.registers.items → r.place < length n.classes
  places r h = places_low n sound p.registers.items of.stages of.matched r h

  -- ---- names of gates

  names_same : map (λ (g : TheoryGate). g.name) gs ≡ map gate_name (gate_numbers (length p.registers.items))
  names_same =
      ap (map (λ (g : TheoryGate). g.name)) (sym gates_same)
      ∙ map_map (gate_of n plan.cells.cells) (λ (g : TheoryGate). g.name) numbered
      ∙ map_each (λ g. (gate_of n plan.cells.cells g).name) (λ g. gate_name (number_of g)) numbered (gate_named n plan.cells.cells)
      ∙ sym (map_map number_of gate_name numbered)
      ∙ ap (map gate_name) (numbers_are n.count p.registers.items)

  gates_once : AllDifferent (map (λ (g : TheoryGate). g.name) gs)
  gates_once = subst (λ (xs : List (List ℕ)). AllDifferent xs) (sym names_same) (names_once (length p.registers.items) (omega (arith, few)))

  few_gates : length gs ≤ 3 * length p.registers.items + 3
  few_gates =
      let named = length-map (λ (g : TheoryGate). g.name) gs in
      let numbers = length-map gate_name (gate_numbers (length p.registers.items)) in
      let same = ap length names_same in
      let most = numbers_many (length p.registers.items) in
      omega (arith, named, numbers, same, most)

  gate_added : (g : TheoryGate) → In g gs → In g.name (added (length (register_names l n)))
  gate_added g h =
      there (there (there (subst (λ (k : ℕ). In g.name (map gate_name (gate_numbers k))) same_many
      (subst (λ (xs : List (List ℕ)). In g.name xs) names_same (In-map (λ (x : TheoryGate). x.name) g gs h)))))

  apart : (i : Instance) → In i n.instances → (g : TheoryGate) → In g gs → i.name ≢ g.name
  apart i i_in g g_in e =
      free g.name (gate_added g g_in) (inr (subst (λ (t : List ℕ). In t (map (λ (x : Instance). x.name) n.instances)) e (In-map (λ (x : Instance). x.name) i n.instances i_in)))

  numbered_in : (g : Gate) → In g numbered → In (gate_of n plan.cells.cells g) gs
  numbered_in g h = subst (λ (xs : List TheoryGate). In (gate_of n plan.cells.cells g) xs) gates_same (In-map (gate_of n plan.cells.cells) g numbered h)

  shows_low : (g : TheoryGate) → In g gs → g.shows < n.count + 3 * length of.stages + 7
  shows_low g h =
      let r = In-map_back (gate_of n plan.cells.cells) g numbered (subst (λ (xs : List TheoryGate). In g xs) (sym gates_same) h) in
      let low = gate_low n.count p.registers.items r.0 r.1 in
      let is : g.shows ≡ n.count + 4 + number_of r.0 = sym (ap (λ (x : TheoryGate). x.shows) r.2) ∙ gate_shows n plan.cells.cells r.0 in
      let same = many in
      omega (arith, low, is, same)

  -- ---- instances

  gate_usable : (g : TheoryGate) → In g gs → IsUsable g.cell
  gate_usable = gates_each n plan.cells.cells (λ g. IsUsable g.cell) (λ m a. plan.cells.inverter.usable) (λ m a b. plan.cells.nand.usable) of.stages

  pins_sorted : (c : Cell) → IsUsable c → AreInOrder (names_of (all_ports c))
  pins_sorted c usable =
      sorted_pairs (all_ports c) (sorted_supply vss (with_supply vdd (pin_ports c)) (sorted_supply vdd (pin_ports c) (sorted_of (pin_ports c) usable.order)))

  module _ (s : Sketch) (is : IsSketchOf n p s) where
    instances_are : map instance_by s.entries.items ≡ n.instances ++ map gate_instance gs
    instances_are =
        is.entries
        ∙ ap (λ (more : List Instance). n.instances ++ more)
        (entries_are n plan.cells.cells p.parts plan.cells.parts numbered ∙ ap (map gate_instance) gates_same)

    terminals_are : sketch_terminals s ≡ terminals_of (scan_ports n.ports) (n.instances ++ map gate_instance gs)
    terminals_are = ap (λ (ps : List Port). terminals_of ps (map instance_by s.entries.items)) is.ports ∙ ap (terminals_of (scan_ports n.ports)) instances_are

    few_entries : length s.entries.items < 2 ^ 32
    few_entries =
        let here_is = length-map instance_by s.entries.items in
        let same = ap length instances_are in
        let sum = length-append n.instances (map gate_instance gs) in
        let new = length-map gate_instance gs in
        let few_new = few_gates in
        let old = room.instances in
        omega (arith, here_is, same, sum, new, few_new, old, few)

    few_terminals : length (sketch_terminals s) < 2 ^ 32
    few_terminals =
        let same = ap length terminals_are in
        let most = terminals_few n.ports n.instances gs gate_usable in
        let few_new = few_gates in
        let old = room.terminals in
        omega (arith, same, most, few_new, old, few)

    abbrev told : Terminal → ℕ
    told t = scan_class n plan.cells.cells of.stages t

    abbrev port_ends : List Terminal
    port_ends = map (λ (q : Port). port q.name) (scan_ports n.ports)

    abbrev rest : List ℕ
    rest = drop (length n.ports) (moved n.count 0 p.registers.items n.classes)

    abbrev last : List ℕ
    last = flat_map (gate_classes (lines_of n (length p.registers.items)) p.parts) (gate_list n.count p.registers.items)

    classes_are : s.classes.items ≡ map (scan_class n plan.cells.cells of.stages) (sketch_terminals s)
    classes_are =
        is.classes
        ∙ ap (λ (xs : List ℕ). xs ++ (rest ++ last)) (ports_told n plan.cells.cells of.stages (length p.registers.items) (scan_ports n.ports) many)
        ∙ ap (λ (xs : List ℕ). map told port_ends ++ (xs ++ last)) (pins_told n sound plan.cells.cells of.stages apart p.registers.items of.matched stages_once)
        ∙ ap (λ (xs : List ℕ). map told port_ends ++ (map told (flat_map pins_of n.instances) ++ xs))
        (gates_told n plan.cells.cells p.parts plan.cells.parts of.stages (length p.registers.items) gates_once numbered numbered_in
        ∙ ap (λ (xs : List TheoryGate). map told (flat_map pins_of (map gate_instance xs))) gates_same)
        ∙ ap (λ (xs : List ℕ). map told port_ends ++ xs)
        (sym (map-append told (flat_map pins_of n.instances) (flat_map pins_of (map gate_instance gs)))
        ∙ ap (map told) (sym (flat_map-append pins_of n.instances (map gate_instance gs))))
        ∙ sym (map-append told port_ends (flat_map pins_of (n.instances ++ map gate_instance gs)))
        ∙ ap (map told) (sym terminals_are)

    pins_in_order : (i : Instance) → In i (map instance_by s.entries.items) → AreInOrder i.pins
    pins_in_order i h = elim (In-split i n.instances (map gate_instance gs) (subst (λ (xs : List Instance). In i xs) instances_are h)) [
      | inl a ↦ All-In (λ (x : Instance). AreInOrder x.pins) n.instances sound.pins i a
      | inr b ↦
          let r = In-map_back gate_instance i gs b in
          subst (λ (x : Instance). AreInOrder x.pins) r.2 (pins_sorted r.0.cell (gate_usable r.0 r.1))
    ]

    names_differ : AllDifferent (map (λ (i : Instance). i.name) (n.instances ++ map gate_instance gs))
    names_differ =
        subst (λ (xs : List (List ℕ)). AllDifferent xs) (sym (map-append (λ (i : Instance). i.name) n.instances (map gate_instance gs)))
        (different_append (map (λ (i : Instance). i.name) n.instances) (map (λ (i : Instance). i.name) (map gate_instance gs))
        (different_of (map (λ (i : Instance). i.name) n.instances) sound.names)
        (subst (λ (xs : List (List ℕ)). AllDifferent xs) (sym (map_map gate_instance (λ (i : Instance). i.name) gs)) gates_once)
        (λ t a b.
        let i = In-map_back (λ (x : Instance). x.name) t n.instances a in
        let j = In-map_back (λ (x : Instance). x.name) t (map gate_instance gs) b in
        let g = In-map_back gate_instance j.0 gs j.1 in
        apart i.0 i.1 g.0 g.1 (i.2 ∙ sym j.2 ∙ ap (λ (x : Instance). x.name) (sym g.2))))

    pub sketch_is : IsSketch s
    sketch_is = record {
      order = subst (λ (ps : List Port). AreInOrder (map (λ q. q.name) ps)) (sym is.ports) (sorted_pairs (scan_ports n.ports) (scan_sorted n.ports (sorted_of n.ports sound.ports)));
      pins = All-from (λ (e : Entry). AreInOrder e.pins) s.entries.items (λ e h. pins_in_order (instance_by e) (In-map instance_by e s.entries.items h));
      names = subst (λ (xs : List (List ℕ)). NoneTwice xs) (map_map instance_by (λ (i : Instance). i.name) s.entries.items)
          (twice_of (map (λ (i : Instance). i.name) (map instance_by s.entries.items))
          (subst (λ (xs : List Instance). AllDifferent (map (λ (i : Instance). i.name) xs)) (sym instances_are) names_differ));
      many = few_entries;
      few = few_terminals;
      each = ap length classes_are ∙ length-map (scan_class n plan.cells.cells of.stages) (sketch_terminals s);
      inside = All-from (λ k. k < s.count) s.classes.items (λ k h.
          let r = In-map_back told k (sketch_terminals s) (subst (λ (xs : List ℕ). In k xs) classes_are h) in
          let low = scan_low n sound plan.cells.cells of.stages shows_low r.0 in
          let e = r.2 in let same = many in let count = is.count in
          omega (arith, low, e, same, count));
    }

    module _ (r : Netlist) (built : IsBuilt s r) where
      instances_built : r.instances ≡ n.instances ++ map gate_instance gs
      instances_built = built.instances ∙ instances_are

      terminals_built : terminals r ≡ sketch_terminals s
      terminals_built = ap (λ (ps : List Port). terminals_of ps r.instances) built.ports ∙ ap (terminals_of s.ports.items) built.instances

      at : (t : Terminal) (k : ℕ) → HasClass r t k → class_among (sketch_terminals s) s.classes.items t ≡ scan_class n plan.cells.cells of.stages t
      at t k h =
          ap (λ (xs : List ℕ). class_among (sketch_terminals s) xs t) classes_are
          ∙ class_of_map (sketch_terminals s) (scan_class n plan.cells.cells of.stages) t (subst (λ (ts : List Terminal). IsThere ts t) terminals_built (h.0, h.1))

      pub scanned_is : IsScanned n l path r
      scanned_is = record {
        cells = plan.cells.cells;
        inverter_is = plan.cells.inverter;
        nand_is = plan.cells.nand;
        stages = of.stages;
        are = of.are;
        name = built.name ∙ is.name;
        ports = built.ports ∙ is.ports;
        instances = instances_built;
        classes = λ a b j k p q. let c = built.classes a b j k p q in (
          λ e. sym (at a j p) ∙ c.0 e ∙ at b k q,
          λ e. c.1 (at a j p ∙ e ∙ sym (at b k q)),
        );
      }

-- ---- what is known of it

pub scan_of : (l : Library) (n : Netlist) (path : List (List ℕ)) (r : Netlist) → HasPassed false l → IsNetlist n → NoneTaken l n → IsPath l n path
    → IsScanned n l path r → IsNetlist r → (table : List ModelPins) → IsTableOf l false table
    → MeetsCondition table n → IsScanOf l table n path r
scan_of l n path r passed sound free through scanned after table its met = record {
  passed = passed;
  table_is = its;
  sound = sound;
  met = met;
  free = free;
  through = through;
  scanned = scanned;
  sound_after = after;
}

pub still_meets : ScannedMeets → (l : Library) (n : Netlist) (path : List (List ℕ)) (r : Netlist) → HasPassed false l → IsNetlist n → NoneTaken l n → IsPath l n path
    → IsScanned n l path r → IsNetlist r → StillMeets l n r
still_meets law l n path r passed sound free through scanned after table its met =
    law l table n path r (scan_of l n path r passed sound free through scanned after table its met)

pub is_scan_path : ScannedScans → (l : Library) (n : Netlist) (path : List (List ℕ)) (r : Netlist) → HasPassed false l → IsNetlist n → NoneTaken l n → IsPath l n path
    → IsScanned n l path r → IsNetlist r → IsScannable l n → IsScanPath l path n r
is_scan_path law l n path r passed sound free through scanned after can y x seen_n seen_r =
    law l can.table n path r y x (scan_of l n path r passed sound free through scanned after can.table can.listed can.met) seen_n seen_r

-- ---- by a plan

-- what is known behind a plan
pub record IsPlanned (l : Library) (n : Netlist) (path : List (List ℕ)) (p : Plan) : Type 0 where
  pub passed : HasPassed false l
  pub sound : IsNetlist n
  pub plan : IsPlanOf l n path p
  pub room : HasRoomForScan n
  pub few : length path < 2 ^ 27
  pub registers : length p.registers.items ≡ length path
  pub many : length path ≡ length (register_names l n)
  pub free : NoneTaken l n
  pub through : IsPath l n path

module _ (l : Library) (n : Netlist) (path : List (List ℕ)) (p : Plan) (k : IsPlanned l n path p) where
  all_few : length p.registers.items < 2 ^ 27
  all_few = let same = k.registers in let few = k.few in omega (arith, same, few)

  pub registers_few : length p.registers.items < 2 ^ 32
  registers_few = let few = all_few in omega (arith, few)

  pub places_all : All (λ r. r.place < length n.classes) p.registers.items
  places_all = All-from (λ (r : Register). r.place < length n.classes) p.registers.items (places l n path p k.sound k.plan all_few k.room k.through k.free (k.registers ∙ k.many))

  pub sketch_by : (s : Sketch) → IsSketchOf n p s → IsSketch s
  sketch_by s is = sketch_is l n path p k.sound k.plan all_few k.room k.through k.free (k.registers ∙ k.many) s is

  pub scanned_by : (s : Sketch) → IsSketchOf n p s → (r : Netlist) → IsBuilt s r → IsScanned n l path r
  scanned_by s is r built = scanned_is l n path p k.sound k.plan all_few k.room k.through k.free (k.registers ∙ k.many) s is r built
