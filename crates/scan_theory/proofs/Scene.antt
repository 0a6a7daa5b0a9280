-- What drives and what reads each class of a netlist with a scan path.
use Rattle.std.proofs.Common.{◌≡◌, ◌≢◌, ◌⊎◌, inl, inr, ℕ, ◌+◌, ◌*◌, ◌<◌, ◌≤◌, Bool, true, false, not, List, [], ◌∷◌, ◌++◌, length, map, nat_eq, Some, None, refl, sym, ap, ◌∙◌, subst, arith, if◌then◌else◌}
use Rattle.std.specs.Prelude.{IsTrue, codes}
use Rattle.std.specs.List.{list_any}
use Rattle.std.proofs.lemmas.Bool.{cond-true, cond-false}
use Rattle.std.proofs.lemmas.List.{map-append}
use Rattle.std.proofs.lemmas.Option.{same_Some}
use Rattle.vlsi_base.specs.declared.name.Name.{Name}
use Rattle.vlsi_base.specs.declared.name.Port.{Port}
use Rattle.vlsi_base.specs.declared.name.Dir.{Dir}
use Rattle.vlsi_base.specs.declared.name.Dir.TheVariants as dir
use Rattle.vlsi_base.specs.declared.name.Terminal.{Terminal}
use Rattle.vlsi_base.specs.Name.{is_supply}
use Rattle.vlsi_base.specs.Names.{scalar, vdd, vss}
use Rattle.vlsi_base.specs.Member.{In, here, there, AllDifferent}
use Rattle.machine_core.specs.Machine.{is_input, names_of}
use Rattle.machine_core.specs.Named.{is_same_name}
use Rattle.machine_core.proofs.Names.{same_name-true, same_name-itself, same_name-false}
use Rattle.cell_model.specs.Cell.{Function, flip_flop, Cell, pin_ports, cell_inputs, cell_outputs}
use Rattle.cell_model.specs.Library.{Library, cell_of, IsPlain, IsUsable}
use Rattle.cell_model.proofs.Members.{In-split, In-left, In-right, In-map, In-map_back, All-In}
use Rattle.cell_pins.specs.Pins.{supply, all_ports}
use Rattle.cell_pins.specs.Table.{ArePins}
use Rattle.cell_pins.proofs.Sound.{member_at as in_from_place}
use Rattle.net_core.specs.declared.pins.ModelPin.{ModelPin}
use Rattle.net_core.specs.declared.pins.ModelPins.{ModelPins}
use Rattle.net_core.specs.declared.tally.Role.{Role}
use Rattle.net_core.specs.declared.tally.Role.TheVariants as role
use Rattle.net_core.specs.Netlist.{Instance, Netlist, port, pin_of}
use Rattle.net_core.specs.Checks.{pins_named, Fits, port_role_of, port_role, pin_role}
use Rattle.net_right.proofs.Lists.{in_place}
use Rattle.net_right.proofs.Places.{Which, which_port, which_pin, which as which_terminal, Does, does_port, does_pin}
use Rattle.net_theory.proofs.Basics.{In-names}
use Rattle.loon_fanout.proofs.Picking.{any_in, in_any, different_of, different_right, different_apart}
use Rattle.loon_fanout.proofs.Splitting.{in_or_out}
use Rattle.loon_loads.specs.Sinks.{is_clock_of}
use Rattle.loon_fanout.specs.Sinks.{wired_of}
use Rattle.loon_fanout.proofs.RightMove.{IsSink}
use Rattle.loon_fanout.proofs.PassPins.{supply_pin, sink_role}
use Rattle.loon_fanout.proofs.OneClass.{AreGood, one_instance, pin_names_differ}
use Rattle.scan_theory.specs.Gates.{Gate, gate_instance, read_class, gate_class}
use Rattle.scan_theory.specs.Scan.{scin, test, scout, in_port, scan_ports, class_in, on_scin, on_test, shown, on_supply, on_vdd, on_vss, Stage, loads, gives, Cells, inverts, nands, chain, first_gate, gates, fed, port_class, old_class, scan_class, IsStage, AreStages, ended, next}
use Rattle.scan_theory.specs.Path.{register_names, added}
use Rattle.scan_theory.specs.Laws.{IsScanOf}
use Rattle.scan_theory.proofs.Wired.{IsDriver, IsReader, IsWired, role_once, told_below, class_of, wired_of_sound}
use Rattle.scan_theory.proofs.Cells.{Celled, celled_by, celled, made_of, output_role, inverter, nand, IsGateCell, gate_cell, GatePin, on_supply as at_supply, reads, drives, gate_pin, gate_output}
use Rattle.net_bits.proofs.Lists.{input_pin, output_pin}
use Rattle.scan_theory.proofs.Chain.{gates_each, gates_read, Climbs, gates_climb, Numbered, numbered_in, one_shown, other_told, gate_told, read_in, read_out, class_vdd, class_vss, class_signal, feeder_in, unfed, last_gate}
use Rattle.scan_theory.proofs.Ports.{port_of, PortOf, is_scout, is_test, is_scin, is_vss, is_vdd, is_old, test_in, scin_in, vdd_in, vss_in, from_both}
use Rattle.net_right.proofs.Ports.{port_stays}

-- ---- the stages of a path

pub stage_in : (n : Netlist) (l : Library) (path : List (List ℕ)) (stages : List Stage) → AreStages n l path stages → (s : Stage) → In s stages
    → (name : List ℕ) × In name path × IsStage n l name s
stage_in n l _ _ ended s h = elim h [ ]
stage_in n l _ _ (next {name = name} one rest) s here = (name, here, one)
stage_in n l _ _ (next one rest) s (there h) = let r = stage_in n l _ _ rest s h in (r.0, there r.1, r.2)

pub stage_named : (n : Netlist) (l : Library) (path : List (List ℕ)) (stages : List Stage) → AreStages n l path stages → (name : List ℕ) → In name path
    → (s : Stage) × In s stages × IsStage n l name s
stage_named n l _ _ ended name h = elim h [ ]
stage_named n l _ _ (next {s = s} one rest) name here = (s, here, one)
stage_named n l _ _ (next one rest) name (there h) = let r = stage_named n l _ _ rest name h in (r.0, there r.1, r.2)

module _ (l : Library) (table : List ModelPins) (n : Netlist) (path : List (List ℕ)) (r : Netlist) (h : IsScanOf l table n path r) where
  abbrev pub cells : Cells
  cells = h.scanned.cells

  abbrev pub stages : List Stage
  stages = h.scanned.stages

  abbrev pub gs : List Gate
  gs = gates n h.scanned.cells h.scanned.stages

  abbrev pub told : Terminal → ℕ
  told t = scan_class n h.scanned.cells h.scanned.stages t

  abbrev pub fits : Fits n table
  fits = h.met.fits

  pub cell_at : (i : Instance) → In i n.instances → Celled l table i
  cell_at i i_in = celled l table h.passed h.table_is n h.met.fits i i_in

  pub wired : IsWired (Does table n) (class_in n)
  wired = wired_of_sound table n h.sound h.met.fits h.met.passes.classes

  -- ---- gates

  pub gate_is : (g : Gate) → In g gs → IsGateCell l g.cell × (length g.reads ≡ length (cell_inputs g.cell))
  gate_is = gates_each n h.scanned.cells (λ g. IsGateCell l g.cell × (length g.reads ≡ length (cell_inputs g.cell))) of_inverter of_nand h.scanned.stages where
    of_inverter : (m a : ℕ) → IsGateCell l (inverts n h.scanned.cells m a).cell × (length (inverts n h.scanned.cells m a).reads ≡ length (cell_inputs (inverts n h.scanned.cells m a).cell))
    of_inverter m a =
        let k = inverter l h.scanned.cells.inverter h.scanned.inverter_is in
        (gate_cell l h.passed h.scanned.cells.inverter h.scanned.inverter_is.listed h.scanned.inverter_is.usable k.expr k.is, sym k.one)

    of_nand : (m a b : ℕ) → IsGateCell l (nands n h.scanned.cells m a b).cell × (length (nands n h.scanned.cells m a b).reads ≡ length (cell_inputs (nands n h.scanned.cells m a b).cell))
    of_nand m a b =
        let k = nand l h.scanned.cells.nand h.scanned.nand_is in
        (gate_cell l h.passed h.scanned.cells.nand h.scanned.nand_is.listed h.scanned.nand_is.usable k.expr k.is, sym k.two)

  pub gate_celled : (g : Gate) → In g gs → Celled l table (gate_instance g)
  gate_celled g g_in = let b = (gate_is g g_in).0 in celled_by l table h.passed h.table_is (gate_instance g) g.cell b.found b.usable refl

  pub gate_row : (g : Gate) → In g gs → ArePins g.cell.function (all_ports g.cell) (all_ports g.cell) (pins_named table g.cell.name)
  gate_row g g_in =
      let c = gate_celled g g_in in
      let same : c.cell ≡ g.cell = same_Some c.cell g.cell (sym c.found ∙ (gate_is g g_in).0.found) in
      subst (λ (x : Cell). ArePins x.function (all_ports x) (all_ports x) (pins_named table g.cell.name)) same c.row

  -- the class of its output pin
  pub out_class : (g : Gate) (g_in : In g gs) → gate_class (on_vdd n) (on_vss n) g (gate_is g g_in).0.out ≡ g.shows
  out_class g g_in =
      let b = (gate_is g g_in).0 in
      let out : In b.out (cell_outputs g.cell) = subst (λ (ns : List Name). In b.out ns) (sym b.single) here in
      let signal = b.signals b.out (In-names (λ (p : Port). not (is_input p.dir)) (pin_ports g.cell) b.out out) in
      class_signal (on_vdd n) (on_vss n) g b.out signal.0 signal.1 ∙ read_out (cell_inputs g.cell) g.reads g.shows b.out (λ into. in_or_out g.cell b.out b.usable into out)

  -- ---- instances

  pub split_instance : (i : Instance) → In i r.instances → In i n.instances ⊎ ((g : Gate) × In g gs × (gate_instance g ≡ i))
  split_instance i i_in = elim (In-split i n.instances (map gate_instance gs) (subst (λ (is : List Instance). In i is) h.scanned.instances i_in)) [
    | inl a ↦ inl a
    | inr b ↦ inr (In-map_back gate_instance i gs b)
  ]

  pub old_in : (i : Instance) → In i n.instances → In i r.instances
  old_in i i_in = subst (λ (is : List Instance). In i is) (sym h.scanned.instances) (In-left i n.instances (map gate_instance gs) i_in)

  pub gate_in : (g : Gate) → In g gs → In (gate_instance g) r.instances
  gate_in g g_in =
      subst (λ (is : List Instance). In (gate_instance g) is) (sym h.scanned.instances)
      (In-right (gate_instance g) n.instances (map gate_instance gs) (In-map gate_instance g gs g_in))

  names_after : AllDifferent (map (λ (i : Instance). i.name) r.instances)
  names_after = different_of (map (λ (i : Instance). i.name) r.instances) h.sound_after.names

  pub names_before : AllDifferent (map (λ (i : Instance). i.name) n.instances)
  names_before = different_of (map (λ (i : Instance). i.name) n.instances) h.sound.names

  both_named : AllDifferent (map (λ (i : Instance). i.name) n.instances ++ map (λ (g : Gate). g.name) gs)
  both_named = subst (λ (ns : List (List ℕ)). AllDifferent ns) names_are names_after where
    of_gates : (gs : List Gate) → map (λ (i : Instance). i.name) (map gate_instance gs) ≡ map (λ (g : Gate). g.name) gs
    of_gates [] = refl
    of_gates (g ∷ gs) = ap (λ (ns : List (List ℕ)). g.name ∷ ns) (of_gates gs)

    names_are : map (λ (i : Instance). i.name) r.instances ≡ map (λ (i : Instance). i.name) n.instances ++ map (λ (g : Gate). g.name) gs
    names_are =
        ap (map (λ (i : Instance). i.name)) h.scanned.instances
        ∙ map-append (λ (i : Instance). i.name) n.instances (map gate_instance gs)
        ∙ ap (λ (ns : List (List ℕ)). map (λ (i : Instance). i.name) n.instances ++ ns) (of_gates gs)

  gates_named : AllDifferent (map (λ (g : Gate). g.name) gs)
  gates_named = different_right (map (λ (i : Instance). i.name) n.instances) (map (λ (g : Gate). g.name) gs) both_named

  pub no_gate : (i : Instance) → In i n.instances → (g : Gate) → In g gs → i.name ≡ g.name → ⊥
  no_gate i i_in g g_in e =
      different_apart (map (λ (x : Instance). x.name) n.instances) (map (λ (x : Gate). x.name) gs) both_named g.name
      (subst (λ (t : List ℕ). In t (map (λ (x : Instance). x.name) n.instances)) e (In-map (λ (x : Instance). x.name) i n.instances i_in))
      (In-map (λ (x : Gate). x.name) g gs g_in)

  -- ---- stages

  -- the instance of a stage, with its pins in the table
  pub record Seated (s : Stage) : Type 0 where
    pub instance : Instance
    pub listed : In instance n.instances
    pub named : instance.name ≡ s.name
    pub cell : Cell
    pub found : cell_of l instance.model ≡ Some cell
    pub clock : Name
    pub is : cell.function ≡ flip_flop s.load clock
    pub out : cell_outputs cell ≡ s.output ∷ []
    pub usable : IsUsable cell

  pub seated : (s : Stage) → In s stages → Seated s
  seated s s_in =
      let k = stage_in n l path h.scanned.stages h.scanned.are s s_in in
      let c = cell_at k.2.instance k.2.listed in
      record {
        instance = k.2.instance;
        listed = k.2.listed;
        named = k.2.named ∙ sym k.2.same;
        cell = k.2.cell;
        found = k.2.found;
        clock = k.2.clock;
        is = k.2.is;
        out = k.2.out;
        usable = subst (λ (x : Cell). IsUsable x) (same_Some c.cell k.2.cell (sym c.found ∙ k.2.found)) c.usable;
      }

  -- a signal pin of an instance has a role
  pub signal_pin : (i : Instance) → In i n.instances → (c : Cell) → cell_of l i.model ≡ Some c → (pin : Name) → In pin (cell_inputs c) ⊎ In pin (cell_outputs c)
      → (q : ModelPin) × In q (pins_named table i.model) × (q.name ≡ pin)
  signal_pin i i_in c found pin which =
      let k = cell_at i i_in in
      let same : c ≡ k.cell = same_Some c k.cell (sym found ∙ k.found) in
      let named : In pin (names_of (all_ports c)) = elim which [ inl a ↦ input_pin c pin a | inr b ↦ output_pin c pin b ] in
      let mine : In pin (map (λ (p : ModelPin). p.name) (pins_named table i.model)) =
      subst (λ (ns : List Name). In pin ns) (sym k.pins ∙ All-In (λ (x : Instance). x.pins ≡ map (λ p. p.name) (pins_named table x.model)) n.instances h.met.fits.pins i i_in)
      (subst (λ (x : Cell). In pin (names_of (all_ports x))) same named) in
      In-map_back (λ (p : ModelPin). p.name) pin (pins_named table i.model) mine

  does : (i : Instance) → In i n.instances → (q : ModelPin) → In q (pins_named table i.model) → Does table n (pin_of i.name q.name) (pin_role q)
  does i i_in q q_in = does_pin i q (in_place i n.instances i_in) (in_place q (pins_named table i.model) q_in) refl refl

  good : AreGood l n.instances
  good = record {
    names = names_before;
    usable = λ i d i_in found. let k = cell_at i i_in in subst (λ (x : Cell). IsUsable x) (same_Some k.cell d (sym k.found ∙ found)) k.usable;
    pins = λ i i_in. let k = cell_at i i_in in subst (λ (ns : List Name). AllDifferent ns) (sym k.pins) (pin_names_differ k.cell k.usable);
  }

  -- what a register loads is an input pin, and what it gives an output pin
  pub data_does : (s : Stage) → In s stages → Does table n (pin_of s.name s.load) role.InputPin
  data_does s s_in =
      let k = seated s s_in in
      let plain : IsPlain k.cell (flip_flop s.load k.clock) = subst (λ (f : Function). IsPlain k.cell f) k.is k.usable.function in
      let q = signal_pin k.instance k.listed k.cell k.found s.load (inl plain.2) in
      let made = made_of l table k.instance (cell_at k.instance k.listed) in
      let off : is_clock_of k.cell.function s.load ≡ false =
      ap (λ (f : Function). is_clock_of f s.load) k.is ∙ same_name-false k.clock s.load (λ e. plain.4 (sym e)) in
      let sink : IsSink l (wired_of n) (pin_of k.instance.name q.0.name) = record {
        owner = k.instance;
        listed = k.listed;
        cell = k.cell;
        found = k.found;
        pin = s.load;
        input = plain.2;
        no_clock = off;
        is = ap (pin_of k.instance.name) q.2;
      } in
      let is_input : pin_role q.0 ≡ role.InputPin = sink_role l table (wired_of n) good k.instance k.listed made q.0 q.1 sink in
      subst (λ (t : Terminal). Does table n t role.InputPin) (ap (pin_of k.instance.name) q.2 ∙ ap (λ (o : List ℕ). pin_of o s.load) k.named)
      (subst (λ (x : Role). Does table n (pin_of k.instance.name q.0.name) x) is_input (does k.instance k.listed q.0 q.1))

  pub output_does : (s : Stage) → In s stages → Does table n (pin_of s.name s.output) role.OutputPin
  output_does s s_in =
      let k = seated s s_in in
      let out : In s.output (cell_outputs k.cell) = subst (λ (ns : List Name). In s.output ns) (sym k.out) here in
      let q = signal_pin k.instance k.listed k.cell k.found s.output (inr out) in
      let c = cell_at k.instance k.listed in
      let same : k.cell ≡ c.cell = same_Some k.cell c.cell (sym k.found ∙ c.found) in
      let mine : In q.0.name (cell_outputs c.cell) = subst (λ (n : Name). In n (cell_outputs c.cell)) (sym q.2) (subst (λ (x : Cell). In s.output (cell_outputs x)) same out) in
      let is_output : pin_role q.0 ≡ role.OutputPin = output_role l table k.instance c q.0 q.1 mine in
      subst (λ (t : Terminal). Does table n t role.OutputPin) (ap (pin_of k.instance.name) q.2 ∙ ap (λ (o : List ℕ). pin_of o s.output) k.named)
      (subst (λ (x : Role). Does table n (pin_of k.instance.name q.0.name) x) is_output (does k.instance k.listed q.0 q.1))

  below : (t : Terminal) (x : Role) → Does table n t x → class_in n t < n.count
  below t x d = told_below table n h.sound h.met.fits t x d

  pub stage_low : (s : Stage) → In s stages → (loads n s < n.count) × (gives n s < n.count)
  stage_low s s_in = (below (pin_of s.name s.load) role.InputPin (data_does s s_in), below (pin_of s.name s.output) role.OutputPin (output_does s s_in))

  pub climbs : Climbs n 0 gs
  climbs = gates_climb n h.scanned.cells h.scanned.stages stage_low

  pub number_of : (g : Gate) → In g gs → Numbered n 0 g
  number_of g g_in = numbered_in n 0 gs climbs g g_in

  -- the instance of a pin that a stage loads is the stage's
  pub fed_cell : (s : Stage) → In s stages → (i : Instance) → In i n.instances → (c : Cell) → cell_of l i.model ≡ Some c → Some i.name ≡ Some s.name
      → (clock : Name) × (c.function ≡ flip_flop s.load clock) × (cell_outputs c ≡ s.output ∷ [])
  fed_cell s s_in i i_in c found e =
      let k = seated s s_in in
      let named : i.name ≡ s.name = same_Some i.name s.name e in
      let same : k.instance ≡ i = one_instance n.instances names_before k.instance i k.listed i_in (k.named ∙ sym named) in
      let cells_same : k.cell ≡ c = same_Some k.cell c (sym k.found ∙ ap (λ (x : Instance). cell_of l x.model) same ∙ found) in
      (k.clock, subst (λ (x : Cell). x.function ≡ flip_flop s.load k.clock) cells_same k.is, subst (λ (x : Cell). cell_outputs x ≡ s.output ∷ []) cells_same k.out)

  -- ---- classes that are told

  pub told_pin : (i : Instance) → In i n.instances → (pin : Name) → told (pin_of i.name pin) ≡ fed n 0 stages (pin_of i.name pin)
  told_pin i i_in pin = other_told (on_vdd n) (on_vss n) (old_class n h.scanned.stages) gs (pin_of i.name pin) (λ g g_in e. no_gate i i_in g g_in (same_Some i.name g.name e))

  pub told_port : (name : Name) → told (port name) ≡ port_class n stages name
  told_port name = other_told (on_vdd n) (on_vss n) (old_class n h.scanned.stages) gs (port name) (λ g g_in e. let never : None ≡ Some g.name = e in absurd cc)

  pub told_gate : (g : Gate) → In g gs → (pin : Name) → told (pin_of g.name pin) ≡ gate_class (on_vdd n) (on_vss n) g pin
  told_gate g g_in pin = gate_told (on_vdd n) (on_vss n) (old_class n h.scanned.stages) gs gates_named g g_in pin

  -- a pin that is no input keeps its class
  pub kept_pin : (i : Instance) → In i n.instances → (pin : Name) (x : Role) → Does table n (pin_of i.name pin) x → x ≢ role.InputPin → told (pin_of i.name pin) ≡ class_in n (pin_of i.name pin)
  kept_pin i i_in pin x d apart =
      told_pin i i_in pin
      ∙ unfed n h.scanned.stages 0 (pin_of i.name pin) (λ s s_in e.
      apart (role_once table n h.sound h.met.fits (pin_of i.name pin) x role.InputPin d (subst (λ (t : Terminal). Does table n t role.InputPin) (sym e) (data_does s s_in))))

  -- and so does a pin of an instance that is no flip-flop
  pub kept_gate : (i : Instance) → In i n.instances → (c : Cell) → cell_of l i.model ≡ Some c → ((d k : Name) → c.function ≡ flip_flop d k → ⊥) → (pin : Name)
      → told (pin_of i.name pin) ≡ class_in n (pin_of i.name pin)
  kept_gate i i_in c found plain pin =
      told_pin i i_in pin
      ∙ unfed n h.scanned.stages 0 (pin_of i.name pin) (λ s s_in e.
      let f = fed_cell s s_in i i_in c found (ap (λ (t : Terminal). t.instance) e) in plain s.load f.0 f.1)

  -- ---- ports

  apart_from : (p : Port) → In p n.ports → (text : List ℕ) → In text (added (length (register_names l n))) → p.name ≢ scalar text
  apart_from p p_in text listed e =
      h.free text listed (inl (subst (λ (t : List ℕ). In t (map (λ (x : Port). x.name.text) n.ports)) (ap (λ (x : Name). x.text) e) (In-map (λ (x : Port). x.name.text) p n.ports p_in)))

  pub no_scin : (p : Port) → In p n.ports → p.name ≢ scin
  no_scin p p_in = apart_from p p_in (codes "scin") here

  pub no_test : (p : Port) → In p n.ports → p.name ≢ test
  no_test p p_in = apart_from p p_in (codes "test") (there here)

  pub no_scout : (p : Port) → In p n.ports → p.name ≢ scout
  no_scout p p_in = apart_from p p_in (codes "scout") (there (there here))

  port_is : (p q : Port) → p.name ≡ q.name → p.dir ≡ q.dir → p ≡ q
  port_is p q e f =
      let made : Name → Dir → Port = λ x d. record { name = x; dir = d } in
      ap (λ (x : Name). made x p.dir) e ∙ ap (made q.name) f

  -- a port of a supply is an input
  pub supply_is : (p : Port) → In p n.ports → (name : Name) → (name ≡ vdd) ⊎ (name ≡ vss) → p.name ≡ name → p ≡ supply name
  supply_is p p_in name which e = port_is p (supply name) e (h.met.supplies p (in_place p n.ports p_in) (is_true which)).1 where
    is_true : (name ≡ vdd) ⊎ (name ≡ vss) → IsTrue (is_supply p.name.text)
    is_true (inl f) = subst (λ (x : Name). IsTrue (is_supply x.text)) (sym (e ∙ f)) refl
    is_true (inr f) = subst (λ (x : Name). IsTrue (is_supply x.text)) (sym (e ∙ f)) refl

  pub has_supply : (name : Name) (new : ℕ) (p : Port) → In p n.ports → p.name ≡ name → on_supply n name new ≡ class_in n (port name)
  has_supply name new p p_in e =
      cond-true (list_any (λ x. is_same_name x.name name) n.ports) (class_in n (port name)) (n.count + new)
      (in_any (λ (x : Port). is_same_name x.name name) n.ports p p_in (subst (λ (x : Name). is_same_name x name ≡ true) (sym e) (same_name-itself name)))

  -- the class of an old port
  pub old_port : (p : Port) → In p n.ports → told (port p.name) ≡ class_in n (port p.name)
  old_port p p_in = told_port p.name ∙ first ∙ second ∙ third ∙ by (is_same_name p.name vdd) refl where
    fifth : ℕ
    fifth = if is_same_name p.name vss then on_vss n else class_in n (port p.name)

    fourth : ℕ
    fourth = if is_same_name p.name vdd then on_vdd n else fifth

    first : port_class n h.scanned.stages p.name ≡ (if is_same_name p.name test then on_test n else if is_same_name p.name scout then shown n (3 * length h.scanned.stages + 2) else fourth)
    first = cond-false (is_same_name p.name scin) (on_scin n) (if is_same_name p.name test then on_test n else if is_same_name p.name scout then shown n (3 * length h.scanned.stages + 2) else fourth)
        (same_name-false p.name scin (no_scin p p_in))

    second : (if is_same_name p.name test then on_test n else if is_same_name p.name scout then shown n (3 * length h.scanned.stages + 2) else fourth)
        ≡ (if is_same_name p.name scout then shown n (3 * length h.scanned.stages + 2) else fourth)
    second = cond-false (is_same_name p.name test) (on_test n) (if is_same_name p.name scout then shown n (3 * length h.scanned.stages + 2) else fourth)
        (same_name-false p.name test (no_test p p_in))

    third : (if is_same_name p.name scout then shown n (3 * length h.scanned.stages + 2) else fourth) ≡ fourth
    third = cond-false (is_same_name p.name scout) (shown n (3 * length h.scanned.stages + 2)) fourth (same_name-false p.name scout (no_scout p p_in))

    last : (b : Bool) → is_same_name p.name vss ≡ b → (if b then on_vss n else class_in n (port p.name)) ≡ class_in n (port p.name)
    last true e = let is = same_name-true p.name vss e in has_supply vss 3 p p_in is ∙ ap (λ (x : Name). class_in n (port x)) (sym is)
    last false e = refl

    by : (b : Bool) → is_same_name p.name vdd ≡ b → (if b then on_vdd n else fifth) ≡ class_in n (port p.name)
    by true e = let is = same_name-true p.name vdd e in has_supply vdd 2 p p_in is ∙ ap (λ (x : Name). class_in n (port x)) (sym is)
    by false e = last (is_same_name p.name vss) refl

  -- it is a port still
  pub port_kept : (p : Port) → In p n.ports → In p r.ports
  port_kept p p_in = subst (λ (ps : List Port). In p ps) (sym h.scanned.ports) (by (is_same_name p.name vdd) refl) where
    other_port : (b : Bool) → p.name ≢ vdd → is_same_name p.name vss ≡ b → In p (scan_ports n.ports)
    other_port true apart e = subst (λ (q : Port). In q (scan_ports n.ports)) (sym (supply_is p p_in vss (inr refl) (same_name-true p.name vss e))) (vss_in n.ports)
    other_port false apart e =
        from_both n.ports p
        (port_stays n.ports p p_in apart (λ f. let yes = subst (λ (x : Name). is_same_name x vss ≡ true) (sym f) (same_name-itself vss) in let never : true ≡ false = sym yes ∙ e in absurd cc))
        (no_scin p p_in) (no_test p p_in) (no_scout p p_in)

    by : (b : Bool) → is_same_name p.name vdd ≡ b → In p (scan_ports n.ports)
    by true e = subst (λ (q : Port). In q (scan_ports n.ports)) (sym (supply_is p p_in vdd (inl refl) (same_name-true p.name vdd e))) (vdd_in n.ports)
    by false e = other_port (is_same_name p.name vss) (λ f. let yes = subst (λ (x : Name). is_same_name x vdd ≡ true) (sym f) (same_name-itself vdd) in let never : true ≡ false = sym yes ∙ e in absurd cc) refl

  -- ---- what stays

  -- a terminal that is no input pin does what it did, in its class
  pub keeps : (t : Terminal) (x : Role) → Does table n t x → x ≢ role.InputPin → Does table r t x × (told t ≡ class_in n t)
  keeps t x (does_port p there_is e f) apart =
      let p_in = in_from_place n.ports there_is.0 p there_is.1 in
      (does_port p (in_place p r.ports (port_kept p p_in)) e f, subst (λ (u : Terminal). told u ≡ class_in n u) (sym e) (old_port p p_in))
  keeps t x (does_pin i q there_is known e f) apart =
      let i_in = in_from_place n.instances there_is.0 i there_is.1 in (
        does_pin i q (in_place i r.instances (old_in i i_in)) known e f,
        subst (λ (u : Terminal). told u ≡ class_in n u) (sym e)
            (kept_pin i i_in q.name x (subst (λ (u : Terminal). Does table n u x) e (does_pin i q there_is known e f)) apart),
      )

  driver_keeps : (x : Role) → IsDriver x → x ≢ role.InputPin
  driver_keeps role.InputPort d e = absurd cc
  driver_keeps role.OutputPin d e = absurd cc
  driver_keeps role.OutputPort d e = absurd d
  driver_keeps role.InputPin d e = absurd d
  driver_keeps role.ClockPin d e = absurd d

  -- ---- classes that may be read

  -- a driver is in the class, and no clock pin
  pub record IsFine (c : ℕ) : Type 0 where
    pub driver : Terminal
    pub part : Role
    pub doing : Does table r driver part
    pub drives : IsDriver part
    pub joined : told driver ≡ c
    pub apart : (t : Terminal) → Does table n t role.ClockPin → class_in n t ≡ c → ⊥

  port_does : (p : Port) → In p (scan_ports n.ports) → Does table r (port p.name) (port_role p)
  port_does p p_in = does_port p (in_place p r.ports (subst (λ (ps : List Port). In p ps) (sym h.scanned.ports) p_in)) refl refl

  beyond : (c : ℕ) → n.count ≤ c → (t : Terminal) → Does table n t role.ClockPin → class_in n t ≡ c → ⊥
  beyond c high t d e = let low = below t role.ClockPin d in omega (arith, low, high, e)

  fine_port : (p : Port) → In p (scan_ports n.ports) → p.dir ≡ dir.In → (c : ℕ) → port_class n stages p.name ≡ c → ((t : Terminal) → Does table n t role.ClockPin → class_in n t ≡ c → ⊥) → IsFine c
  fine_port p p_in d c e apart = record {
    driver = port p.name;
    part = port_role p;
    doing = port_does p p_in;
    drives = subst (λ (x : Dir). IsDriver (port_role_of x)) (sym d) tt;
    joined = told_port p.name ∙ e;
    apart = apart;
  }

  fine_scin : IsFine (on_scin n)
  fine_scin = fine_port (in_port scin) (scin_in n.ports) refl (on_scin n) refl (beyond (on_scin n) (omega arith))

  fine_test : IsFine (on_test n)
  fine_test = fine_port (in_port test) (test_in n.ports) refl (on_test n) refl (beyond (on_test n) (omega arith))

  -- a class of the given netlist that has a driver
  fine_old : (u : Terminal) (y : Role) → Does table n u y → IsDriver y → (c : ℕ) → class_in n u ≡ c → ((t : Terminal) → Does table n t role.ClockPin → class_in n t ≡ c → ⊥) → IsFine c
  fine_old u y d drive c e apart =
      let k = keeps u y d (driver_keeps y drive) in
      record { driver = u; part = y; doing = k.0; drives = drive; joined = k.1 ∙ e; apart = apart }

  fine_load : (s : Stage) → In s stages → IsFine (loads n s)
  fine_load s s_in =
      let d = data_does s s_in in
      let g = wired.driven (pin_of s.name s.load) role.InputPin d tt in
      fine_old g.0 g.1 g.2 g.3 (loads n s) g.4 (λ t c e. elim (wired.alone t (pin_of s.name s.load) role.InputPin c d (sym e)) [ inl x ↦ absurd cc | inr x ↦ absurd cc ])

  fine_give : (s : Stage) → In s stages → IsFine (gives n s)
  fine_give s s_in =
      let d = output_does s s_in in
      fine_old (pin_of s.name s.output) role.OutputPin d tt (gives n s) refl
      (λ t c e. elim (wired.alone t (pin_of s.name s.output) role.OutputPin c d (sym e)) [ inl x ↦ absurd cc | inr x ↦ absurd cc ])

  pub fine_shown : (g : Gate) → In g gs → IsFine g.shows
  fine_shown g g_in =
      let b = (gate_is g g_in).0 in
      let c = gate_celled g g_in in
      let row = gate_row g g_in in
      let q = gate_output l table g.cell b row in
      let k = number_of g g_in in
      let is = k.shows in
      record {
        driver = pin_of g.name q.0.name;
        part = role.OutputPin;
        doing = subst (λ (x : Role). Does table r (pin_of g.name q.0.name) x) q.3
            (does_pin (gate_instance g) q.0 (in_place (gate_instance g) r.instances (gate_in g g_in)) (in_place q.0 (pins_named table g.cell.name) q.1) refl refl);
        drives = tt;
        joined = told_gate g g_in q.0.name ∙ ap (gate_class (on_vdd n) (on_vss n) g) q.2 ∙ out_class g g_in;
        apart = beyond g.shows (omega (arith, is));
      }

  -- an instance's supply pins are in the classes of their ports
  pub tied_in : (i : Instance) → In i n.instances → (name : Name) → (name ≡ vdd) ⊎ (name ≡ vss) → class_in n (pin_of i.name name) ≡ class_in n (port name)
  tied_in i i_in name which =
      let both = h.met.tied i name (in_place i n.instances i_in) which in
      class_of table n h.sound h.met.fits both.of_pin.0 (pin_of i.name name) both.class both.of_pin.1 both.of_pin.2
      ∙ sym (class_of table n h.sound h.met.fits both.of_port.0 (port name) both.class both.of_port.1 both.of_port.2)

  -- where there is an instance, its supplies are ports
  pub supply_port : (i : Instance) → In i n.instances → (name : Name) → (name ≡ vdd) ⊎ (name ≡ vss) → (p : Port) × In p n.ports × (p.name ≡ name)
  supply_port i i_in name which =
      let both = h.met.tied i name (in_place i n.instances i_in) which in
      by (which_terminal n (port name) (both.of_port.0, both.of_port.1)) where
        by : Which n (port name) → (p : Port) × In p n.ports × (p.name ≡ name)
        by (which_port p there_is e) = (p, in_from_place n.ports there_is.0 p there_is.1, ap (λ (t : Terminal). t.pin) e)
        by (which_pin j x there_is known e) = let never : Some j.name ≡ None = ap (λ (t : Terminal). t.instance) e in absurd cc

  fine_supply : (name : Name) (new : ℕ) → (name ≡ vdd) ⊎ (name ≡ vss) → In (supply name) (scan_ports n.ports) → port_class n stages name ≡ on_supply n name new → IsFine (on_supply n name new)
  fine_supply name new which there_is e = fine_port (supply name) there_is refl (on_supply n name new) e apart where
    no_clock : (t : Terminal) → Does table n t role.ClockPin → (i : Instance) → In i n.instances → class_in n t ≡ on_supply n name new → ⊥
    no_clock t d i i_in f =
        let p = supply_port i i_in name which in
        let q = supply_pin l table i (made_of l table i (cell_at i i_in)) name which in
        let at_pin : Does table n (pin_of i.name q.0.name) role.InputPin = subst (λ (x : Role). Does table n (pin_of i.name q.0.name) x) q.3 (does i i_in q.0 q.1) in
        let same : class_in n (pin_of i.name q.0.name) ≡ class_in n t =
        ap (λ (x : Name). class_in n (pin_of i.name x)) q.2 ∙ tied_in i i_in name which ∙ sym (has_supply name new p.0 p.1 p.2) ∙ sym f in
        elim (wired.alone t (pin_of i.name q.0.name) role.InputPin d at_pin same) [ inl x ↦ absurd cc | inr x ↦ absurd cc ]

    port_no_clock : (d : Dir) → role.ClockPin ≡ port_role_of d → ⊥
    port_no_clock dir.In e = absurd cc
    port_no_clock dir.Out e = absurd cc

    apart : (t : Terminal) → Does table n t role.ClockPin → class_in n t ≡ on_supply n name new → ⊥
    apart t (does_port p at e f) g = port_no_clock p.dir f
    apart t (does_pin i q at known e f) g = no_clock t (does_pin i q at known e f) i (in_from_place n.instances at.0 i at.1) g

  fine_vdd : IsFine (on_vdd n)
  fine_vdd = fine_supply vdd 2 (inl refl) (vdd_in n.ports) refl

  fine_vss : IsFine (on_vss n)
  fine_vss = fine_supply vss 3 (inr refl) (vss_in n.ports) refl

  fine_read : (g : Gate) → In g gs → (c : ℕ) → In c g.reads → IsFine c
  fine_read = gates_read n h.scanned.cells IsFine h.scanned.stages (record { at_test = fine_test; at_scin = fine_scin; loaded = fine_load; given = fine_give }) fine_shown

  -- ---- what each terminal does

  -- the new inputs, by the places of their classes
  abbrev new_name : ℕ → Name
  new_name k = if nat_eq k 0 then scin else if nat_eq k 1 then test else if nat_eq k 2 then vdd else vss

  -- As before; a new input; a pin or port that reads a class; or the output pin of a gate.
  data Kind (t : Terminal) (x : Role) : Type 0 where
    as_before : Does table n t x → told t ≡ class_in n t → Kind t x
    enters : (k : ℕ) → k < 4 → t ≡ port (new_name k) → x ≡ role.InputPort → told t ≡ n.count + k → Kind t x
    takes : (x ≡ role.OutputPort) ⊎ (x ≡ role.InputPin) → IsFine (told t) → Kind t x
    shows : (g : Gate) (g_in : In g gs) → t ≡ pin_of g.name (gate_is g g_in).0.out → x ≡ role.OutputPin → told t ≡ g.shows → Kind t x

  kind_at : (t u : Terminal) (x y : Role) → t ≡ u → x ≡ y → Kind u y → Kind t x
  kind_at t u x y e f k = subst (λ (v : Terminal). Kind v x) (sym e) (subst (λ (z : Role). Kind u z) (sym f) k)

  supply_kind : (name : Name) (k : ℕ) → (name ≡ vdd) ⊎ (name ≡ vss) → new_name k ≡ name → k < 4 → port_class n stages name ≡ on_supply n name k → Kind (port name) role.InputPort
  supply_kind name k which is low e = by (list_any (λ (x : Port). is_same_name x.name name) n.ports) refl where
    by : (b : Bool) → list_any (λ (x : Port). is_same_name x.name name) n.ports ≡ b → Kind (port name) role.InputPort
    by true f =
        let p = any_in (λ (x : Port). is_same_name x.name name) n.ports f in
        let named : p.0.name ≡ name = same_name-true p.0.name name p.2 in
        let at : Does table n (port name) role.InputPort = does_port p.0 (in_place p.0 n.ports p.1) (ap port (sym named)) (ap port_role (sym (supply_is p.0 p.1 name which named))) in
        as_before at (subst (λ (x : Name). told (port x) ≡ class_in n (port x)) named (old_port p.0 p.1))
    by false f =
        enters k low (ap port (sym is)) refl
        (told_port name ∙ e ∙ cond-false (list_any (λ x. is_same_name x.name name) n.ports) (class_in n (port name)) (n.count + k) f)

  scout_kind : Kind (port scout) role.OutputPort
  scout_kind =
      let g = last_gate n h.scanned.cells h.scanned.stages 0 (on_scin n) in
      let g_in : In g.0 gs = In-right g.0 (first_gate n h.scanned.cells h.scanned.stages) (chain n h.scanned.cells 0 (on_scin n) h.scanned.stages) g.1 in
      let from : shown n (3 * length h.scanned.stages + 2) ≡ shown n (3 * (0 + length h.scanned.stages) + 2) = omega arith in
      let is : told (port scout) ≡ g.0.shows = told_port scout ∙ from ∙ g.2 in
      takes (inl refl) (subst (λ (c : ℕ). IsFine c) (sym is) (fine_shown g.0 g_in))

  port_kind : (p : Port) → PortOf n.ports p → Kind (port p.name) (port_role p)
  port_kind p (is_scout e) = subst (λ (q : Port). Kind (port q.name) (port_role q)) (sym e) scout_kind
  port_kind p (is_test e) = subst (λ (q : Port). Kind (port q.name) (port_role q)) (sym e) (enters 1 (omega arith) refl refl (told_port test))
  port_kind p (is_scin e) =
      let zero_more : n.count ≡ n.count + 0 = omega arith in
      subst (λ (q : Port). Kind (port q.name) (port_role q)) (sym e) (enters 0 (omega arith) refl refl (told_port scin ∙ zero_more))
  port_kind p (is_vss e) = subst (λ (q : Port). Kind (port q.name) (port_role q)) (sym e) (supply_kind vss 3 (inr refl) refl (omega arith) refl)
  port_kind p (is_vdd e) = subst (λ (q : Port). Kind (port q.name) (port_role q)) (sym e) (supply_kind vdd 2 (inl refl) refl (omega arith) refl)
  port_kind p (is_old i) = as_before (does_port p (in_place p n.ports i) refl refl) (old_port p i)

  old_kind : (i : Instance) → In i n.instances → (q : ModelPin) → In q (pins_named table i.model) → Kind (pin_of i.name q.name) (pin_role q)
  old_kind i i_in q q_in = elim (feeder_in n h.scanned.cells h.scanned.stages 0 (on_scin n) (pin_of i.name q.name)) [
    | inl stays ↦ as_before (does i i_in q q_in) (told_pin i i_in q.name ∙ stays)
    | inr f ↦
        let is_in : In f.3 gs = In-right f.3 (first_gate n h.scanned.cells h.scanned.stages) (chain n h.scanned.cells 0 (on_scin n) h.scanned.stages) f.4 in
        let is_input : pin_role q ≡ role.InputPin =
        role_once table n h.sound h.met.fits (pin_of i.name q.name) (pin_role q) role.InputPin (does i i_in q q_in)
        (subst (λ (t : Terminal). Does table n t role.InputPin) (sym f.2) (data_does f.0 f.1)) in
        takes (inr is_input) (subst (λ (c : ℕ). IsFine c) (sym (told_pin i i_in q.name ∙ f.5)) (fine_shown f.3 is_in))
  ]

  gate_kind : (g : Gate) (g_in : In g gs) (q : ModelPin) → In q (pins_named table g.cell.name) → Kind (pin_of g.name q.name) (pin_role q)
  gate_kind g g_in q q_in = by (gate_pin l table g.cell (gate_is g g_in).0 (gate_row g g_in) q q_in) where
    at : (pin : Name) → q.name ≡ pin → told (pin_of g.name q.name) ≡ gate_class (on_vdd n) (on_vss n) g pin
    at pin e = told_gate g g_in q.name ∙ ap (gate_class (on_vdd n) (on_vss n) g) e

    reading : (c : ℕ) → IsFine c → pin_role q ≡ role.InputPin → told (pin_of g.name q.name) ≡ c → Kind (pin_of g.name q.name) (pin_role q)
    reading c fine is e = takes (inr is) (subst (λ (k : ℕ). IsFine k) (sym e) fine)

    by : GatePin g.cell (gate_is g g_in).0.out q → Kind (pin_of g.name q.name) (pin_role q)
    by (at_supply (inl e) is) = reading (on_vdd n) fine_vdd is (at vdd e ∙ class_vdd (on_vdd n) (on_vss n) g)
    by (at_supply (inr e) is) = reading (on_vss n) fine_vss is (at vss e ∙ class_vss (on_vdd n) (on_vss n) g)
    by (reads into is) =
        let b = gate_is g g_in in
        let signal = b.0.signals q.name (In-names (λ (p : Port). is_input p.dir) (pin_ports g.cell) q.name into) in
        reading (read_class (cell_inputs g.cell) g.reads g.shows q.name)
        (fine_read g g_in (read_class (cell_inputs g.cell) g.reads g.shows q.name) (read_in (cell_inputs g.cell) g.reads g.shows q.name b.1 into)) is
        (told_gate g g_in q.name ∙ class_signal (on_vdd n) (on_vss n) g q.name signal.0 signal.1)
    by (drives e is) = shows g g_in (ap (pin_of g.name) e) is (at (gate_is g g_in).0.out e ∙ out_class g g_in)

  kind_of : (t : Terminal) (x : Role) → Does table r t x → Kind t x
  kind_of t x (does_port p there_is e f) =
      kind_at t (port p.name) x (port_role p) e f
      (port_kind p (port_of n.ports p (subst (λ (ps : List Port). In p ps) h.scanned.ports (in_from_place r.ports there_is.0 p there_is.1))))
  kind_of t x (does_pin i q there_is known e f) =
      kind_at t (pin_of i.name q.name) x (pin_role q) e f (elim (split_instance i (in_from_place r.instances there_is.0 i there_is.1)) [
        | inl old ↦ old_kind i old q (in_from_place (pins_named table i.model) known.0 q known.1)
        | inr g ↦
            subst (λ (j : Instance). Kind (pin_of j.name q.name) (pin_role q)) g.2
            (gate_kind g.0 g.1 q (subst (λ (j : Instance). In q (pins_named table j.model)) (sym g.2) (in_from_place (pins_named table i.model) known.0 q known.1)))
      ])

  -- ---- classes

  no_driver : (x : Role) → (x ≡ role.OutputPort) ⊎ (x ≡ role.InputPin) → IsDriver x → ⊥
  no_driver x (inl e) d = subst IsDriver e d
  no_driver x (inr e) d = subst IsDriver e d

  low_told : (t : Terminal) (x : Role) → Does table n t x → told t ≡ class_in n t → told t < n.count
  low_told t x d e = let low = below t x d in omega (arith, low, e)

  high_shown : (g : Gate) → In g gs → n.count + 4 ≤ g.shows
  high_shown g g_in = let k = number_of g g_in in let is = k.shows in omega (arith, is)

  one_driver : (t u : Terminal) (x y : Role) → Kind t x → Kind u y → IsDriver x → IsDriver y → told t ≡ told u → t ≡ u
  one_driver t u x y (takes w f) k dx dy e = absurd (no_driver x w dx)
  one_driver t u x y k (takes w f) dx dy e = absurd (no_driver y w dy)
  one_driver t u x y (as_before d p) (as_before b q) dx dy e = wired.one t u x y d b dx dy (sym p ∙ e ∙ q)
  one_driver t u x y (as_before d p) (enters k low is role_is q) dx dy e = absurd (let a = low_told t x d p in omega (arith, a, e, q))
  one_driver t u x y (as_before d p) (shows g g_in is role_is q) dx dy e = absurd (let a = low_told t x d p in let b = high_shown g g_in in omega (arith, a, b, e, q))
  one_driver t u x y (enters k low is role_is q) (as_before d p) dx dy e = absurd (let a = low_told u y d p in omega (arith, a, e, q))
  one_driver t u x y (enters k low is role_is q) (enters j low_j is_j role_j q_j) dx dy e =
      let same : k ≡ j = omega (arith, q, q_j, e) in is ∙ ap (λ (i : ℕ). port (new_name i)) same ∙ sym is_j
  one_driver t u x y (enters k low is role_is q) (shows g g_in is_g role_g q_g) dx dy e = absurd (let b = high_shown g g_in in omega (arith, low, b, e, q, q_g))
  one_driver t u x y (shows g g_in is role_is q) (as_before d p) dx dy e = absurd (let a = low_told u y d p in let b = high_shown g g_in in omega (arith, a, b, e, q))
  one_driver t u x y (shows g g_in is_g role_g q_g) (enters k low is role_is q) dx dy e = absurd (let b = high_shown g g_in in omega (arith, low, b, e, q, q_g))
  one_driver t u x y (shows g g_in is role_is q) (shows d d_in is_d role_d q_d) dx dy e =
      let same : g ≡ d = one_shown n 0 gs climbs g d g_in d_in (sym q ∙ e ∙ q_d) in
      let outs : (gate_is g g_in).0.out ∷ [] ≡ (gate_is d d_in).0.out ∷ [] =
      sym (gate_is g g_in).0.single ∙ ap (λ (z : Gate). cell_outputs z.cell) same ∙ (gate_is d d_in).0.single in
      let out : (gate_is g g_in).0.out ≡ (gate_is d d_in).0.out = cc in
      is ∙ ap (λ (z : Gate). pin_of z.name (gate_is g g_in).0.out) same ∙ ap (pin_of d.name) out ∙ sym is_d

  no_reader : (x y : Role) → x ≡ y → IsDriver y → IsReader x → ⊥
  no_reader x role.InputPort e d k = let never : IsReader role.InputPort = subst IsReader e k in never
  no_reader x role.OutputPin e d k = let never : IsReader role.OutputPin = subst IsReader e k in never
  no_reader x role.OutputPort e d k = d
  no_reader x role.InputPin e d k = d
  no_reader x role.ClockPin e d k = d

  has_driver : (t : Terminal) (x : Role) → Kind t x → IsReader x → (u : Terminal) × (y : Role) × Does table r u y × IsDriver y × (told u ≡ told t)
  has_driver t x (as_before d p) k =
      let g = wired.driven t x d k in
      let a = keeps g.0 g.1 g.2 (driver_keeps g.1 g.3) in
      (g.0, g.1, a.0, g.3, a.1 ∙ g.4 ∙ sym p)
  has_driver t x (enters j low is role_is q) k = absurd (no_reader x role.InputPort role_is tt k)
  has_driver t x (takes w f) k = (f.driver, f.part, f.doing, f.drives, f.joined)
  has_driver t x (shows g g_in is role_is q) k = absurd (no_reader x role.OutputPin role_is tt k)

  -- a clock pin is an old one
  old_clock : (t : Terminal) (x : Role) → x ≡ role.ClockPin → Kind t x → Does table n t role.ClockPin × (told t ≡ class_in n t)
  old_clock t x e (as_before d p) = (subst (λ (z : Role). Does table n t z) e d, p)
  old_clock t x e (enters k low is role_is q) = absurd (let never : role.InputPort ≡ role.ClockPin = sym role_is ∙ e in cc)
  old_clock t x e (takes (inl w) f) = absurd (let never : role.OutputPort ≡ role.ClockPin = sym w ∙ e in cc)
  old_clock t x e (takes (inr w) f) = absurd (let never : role.InputPin ≡ role.ClockPin = sym w ∙ e in cc)
  old_clock t x e (shows g g_in is role_is q) = absurd (let never : role.OutputPin ≡ role.ClockPin = sym role_is ∙ e in cc)

  clock_alone : (t u : Terminal) (y : Role) → Does table n t role.ClockPin → told t ≡ class_in n t → Kind u y → told u ≡ told t → (y ≡ role.ClockPin) ⊎ (y ≡ role.InputPort)
  clock_alone t u y d p (as_before b q) e = wired.alone t u y d b (sym q ∙ e ∙ p)
  clock_alone t u y d p (enters k low is role_is q) e = inr role_is
  clock_alone t u y d p (takes w f) e = absurd (f.apart t d (sym p ∙ sym e))
  clock_alone t u y d p (shows g g_in is role_is q) e = absurd (let a = low_told t role.ClockPin d p in let b = high_shown g g_in in omega (arith, a, b, e, q))

  pub wired_after : IsWired (Does table r) told
  wired_after = record {
    one = λ t u x y p q dx dy e. one_driver t u x y (kind_of t x p) (kind_of u y q) dx dy e;
    driven = λ t x p k. has_driver t x (kind_of t x p) k;
    clock = λ t u p q.
        let a = old_clock t role.ClockPin refl (kind_of t role.ClockPin p) in
        let b = old_clock u role.ClockPin refl (kind_of u role.ClockPin q) in
        a.1 ∙ wired.clock t u a.0 b.0 ∙ sym b.1;
    alone = λ t u y p q e. let a = old_clock t role.ClockPin refl (kind_of t role.ClockPin p) in clock_alone t u y a.0 a.1 (kind_of u y q) e;
  }
