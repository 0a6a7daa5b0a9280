-- The pins of instances of usable cells, by a table of pins.
use Rattle.std.proofs.Common.{◌≡◌, ◌≢◌, ◌⊎◌, inl, inr, ℕ, Bool, true, false, not, List, [], ◌∷◌, ◌++◌, length, map, filter, Some, refl, sym, ap, ◌∙◌, subst, append_assoc, append-nil}
use Rattle.std.specs.Prelude.{IsTrue}
use Rattle.std.specs.List.{flat_map}
use Rattle.std.proofs.lemmas.Grind.{flat_map-append}
use Rattle.std.proofs.lemmas.Option.{same_Some}
use Rattle.vlsi_base.specs.declared.name.Name.{Name}
use Rattle.vlsi_base.specs.declared.name.Port.{Port}
use Rattle.vlsi_base.specs.declared.name.Dir.{Dir}
use Rattle.vlsi_base.specs.declared.name.Dir.TheVariants as dir
use Rattle.vlsi_base.specs.declared.name.Terminal.{Terminal}
use Rattle.vlsi_base.specs.Names.{vdd, vss}
use Rattle.vlsi_base.specs.Member.{In, here, there, AllDifferent}
use Rattle.machine_core.specs.Machine.{is_input, names_of}
use Rattle.machine_core.specs.Named.{is_same_name}
use Rattle.machine_core.proofs.Names.{same_name-itself}
use Rattle.cell_model.specs.Cell.{Function, gate, flip_flop, other, opaque, Cell, pin_ports, cell_inputs}
use Rattle.cell_model.specs.Library.{Library, cell_of, IsPlain, IsUsable}
use Rattle.cell_model.proofs.Members.{In-split, In-map, In-map_back, In-left, In-right}
use Rattle.cell_pins.specs.Pins.{supply, all_ports, IsClockPin}
use Rattle.cell_pins.specs.Follows.{DependsAtOnce}
use Rattle.cell_pins.specs.Table.{first_places, DependsAt, IsPinOf, ArePins}
use Rattle.cell_pins.proofs.Ports.{in_filter, sorted_of, sorted_different}
use Rattle.cell_pins.proofs.Listed.{picked_has}
use Rattle.cell_pins.proofs.Sound.{pin_names, pin_at, port_of_pin, member_at as in_from_place}
use Rattle.net_core.specs.declared.pins.ModelPin.{ModelPin}
use Rattle.net_core.specs.declared.pins.ModelPins.{ModelPins}
use Rattle.net_core.specs.declared.tally.Role.{Role}
use Rattle.net_core.specs.declared.tally.Role.TheVariants as role
use Rattle.net_core.specs.Places.{Stands}
use Rattle.net_core.specs.Netlist.{Instance, port, pin_of}
use Rattle.net_core.specs.Checks.{pins_named, port_role, pin_role, pin_role_of}
use Rattle.net_core.proofs.Standing.{stands_same}
use Rattle.net_right.proofs.Lists.{in_place, filter_in}
use Rattle.net_right.proofs.Ports.{both_cases, vss_there, vdd_there, port_stays}
use Rattle.loon_loads.specs.Sinks.{is_clock_of}
use Rattle.loon_fanout.specs.Sinks.{Wired}
use Rattle.loon_fanout.proofs.Picking.{flat_in}
use Rattle.loon_fanout.proofs.RightStates.{IsGateCell}
use Rattle.loon_fanout.proofs.RightPins.{input, input_is, output, output_is, in_outputs}
use Rattle.loon_fanout.proofs.RightMove.{IsSink}
use Rattle.loon_fanout.proofs.OneClass.{AreGood, one_instance, pin_names_differ}
use Rattle.loon_fanout.proofs.PassTallies.{Mark}

-- ---- terminals with their roles

abbrev pub mark : Terminal → Role → Mark
mark t r = record { terminal = t; role = r }

abbrev pub port_mark : Port → Mark
port_mark p = mark (port p.name) (port_role p)

abbrev pub pin_mark : List ℕ → ModelPin → Mark
pin_mark owner q = mark (pin_of owner q.name) (pin_role q)

abbrev pub instance_marks : List ModelPins → Instance → List Mark
instance_marks table i = map (pin_mark i.name) (pins_named table i.model)

abbrev pub marks : List ModelPins → List Port → List Instance → List Mark
marks table ports is = map port_mark ports ++ flat_map (instance_marks table) is

pub marks_push : (table : List ModelPins) (ports : List Port) (is : List Instance) (i : Instance) → marks table ports (is ++ i ∷ []) ≡ marks table ports is ++ instance_marks table i
marks_push table ports is i =
    ap (λ (ms : List Mark). map port_mark ports ++ ms) (flat_map-append (instance_marks table) is (i ∷ []) ∙ ap (λ (ms : List Mark). flat_map (instance_marks table) is ++ ms) (append-nil (instance_marks table i)))
    ∙ sym (append_assoc (map port_mark ports) (flat_map (instance_marks table) is) (instance_marks table i))

pub data MarkOf (table : List ModelPins) (ports : List Port) (is : List Instance) (m : Mark) : Type 0 where
  of_port : (p : Port) → In p ports → port_mark p ≡ m → MarkOf table ports is m
  of_pin : (i : Instance) (q : ModelPin) → In i is → In q (pins_named table i.model) → pin_mark i.name q ≡ m → MarkOf table ports is m

pub mark_of : (table : List ModelPins) (ports : List Port) (is : List Instance) (m : Mark) → In m (marks table ports is) → MarkOf table ports is m
mark_of table ports is m h = elim (In-split m (map port_mark ports) (flat_map (instance_marks table) is) h) [
  | inl a ↦ let p = In-map_back port_mark m ports a in of_port p.0 p.1 p.2
  | inr b ↦
      let i = flat_in (instance_marks table) m is b in
      let q = In-map_back (pin_mark i.0.name) m (pins_named table i.0.model) i.2 in
      of_pin i.0 q.0 i.1 q.1 q.2
]

in_flat : {A B : Type 0} (f : A → List B) (xs : List A) (x : A) (y : B) → In x xs → In y (f x) → In y (flat_map f xs)
in_flat f [] x y i j = elim i [ ]
in_flat f (z ∷ xs) x y here j = In-left y (f z) (flat_map f xs) j
in_flat f (z ∷ xs) x y (there i) j = In-right y (f z) (flat_map f xs) (in_flat f xs x y i j)

pub pin_marked : (table : List ModelPins) (ports : List Port) (is : List Instance) (i : Instance) (q : ModelPin) → In i is → In q (pins_named table i.model) → In (pin_mark i.name q) (marks table ports is)
pin_marked table ports is i q a b =
    In-right (pin_mark i.name q) (map port_mark ports) (flat_map (instance_marks table) is)
    (in_flat (instance_marks table) is i (pin_mark i.name q) a (In-map (pin_mark i.name) q (pins_named table i.model) b))

pub port_marked : (table : List ModelPins) (ports : List Port) (is : List Instance) (p : Port) → In p ports → In (port_mark p) (marks table ports is)
port_marked table ports is p a = In-left (port_mark p) (map port_mark ports) (flat_map (instance_marks table) is) (In-map port_mark p ports a)

-- ---- instances of usable cells

abbrev pub AreSignals : Cell → Type 0
AreSignals c = (name : Name) → In name (names_of (pin_ports c)) → (name ≢ vdd) × (name ≢ vss)

-- the cell of an instance, and its pins in the table
pub record IsMade (l : Library) (table : List ModelPins) (i : Instance) : Type 0 where
  pub cell : Cell
  pub found : cell_of l i.model ≡ Some cell
  pub usable : IsUsable cell
  pub signals : AreSignals cell
  pub row : ArePins cell.function (all_ports cell) (all_ports cell) (pins_named table i.model)

pub role_in : (q : ModelPin) → q.dir ≡ dir.In → q.is_clock ≡ false → pin_role q ≡ role.InputPin
role_in q d k = ap (λ (x : Dir). pin_role_of x q.is_clock) d ∙ ap (pin_role_of dir.In) k

pub role_out : (q : ModelPin) → q.dir ≡ dir.Out → pin_role q ≡ role.OutputPin
role_out q d = ap (λ (x : Dir). pin_role_of x q.is_clock) d

in_dir : (d : Dir) → is_input d ≡ true → d ≡ dir.In
in_dir dir.In e = refl
in_dir dir.Out e = absurd (cc e)

out_dir : (d : Dir) → not (is_input d) ≡ true → d ≡ dir.Out
out_dir dir.In e = absurd (cc e)
out_dir dir.Out e = refl

no_clock_pin : (q : ModelPin) → (IsTrue q.is_clock → ⊥) → q.is_clock ≡ false
no_clock_pin q never = by q.is_clock refl where
  by : (b : Bool) → q.is_clock ≡ b → b ≡ false
  by true e = absurd (never e)
  by false e = refl

one_port : (ps : List Port) (p q : Port) → AllDifferent (names_of ps) → In p ps → In q ps → p.name ≡ q.name → p ≡ q
one_port [] p q d a b e = elim a [ ]
one_port (x ∷ ps) p q d here here e = refl
one_port (x ∷ ps) p q d here (there b) e = absurd (d.0 (subst (λ (n : Name). In n (names_of ps)) (sym e) (In-map (λ (y : Port). y.name) q ps b)))
one_port (x ∷ ps) p q d (there a) here e = absurd (d.0 (subst (λ (n : Name). In n (names_of ps)) e (In-map (λ (y : Port). y.name) p ps a)))
one_port (x ∷ ps) p q d (there a) (there b) e = one_port ps p q d.1 a b e

-- an input pin of the cell, and no clock pin
clock_named : (f : Function) (c : Cell) (name : Name) → IsPlain c f → is_clock_of f name ≡ false → IsClockPin f name → ⊥
clock_named (gate e) c name plain off k = absurd k
clock_named (flip_flop d ck) c name plain off k =
    let yes : is_same_name ck name ≡ true = subst (λ (x : Name). is_same_name ck x ≡ true) k (same_name-itself ck) in
    let never : true ≡ false = sym yes ∙ off in absurd (cc never)
clock_named (other m) c name plain off k = absurd plain
clock_named opaque c name plain off k = absurd plain

-- a supply is no clock pin
clock_supply : (f : Function) (c : Cell) (name : Name) → IsPlain c f → AreSignals c → (name ≡ vdd) ⊎ (name ≡ vss) → IsClockPin f name → ⊥
clock_supply (gate e) c name plain signals which k = absurd k
clock_supply (flip_flop d ck) c name plain signals which k =
    let p = In-map_back (λ (y : Port). y.name) ck (filter (λ p. is_input p.dir) (pin_ports c)) plain.3 in
    let q = in_filter (λ (y : Port). is_input y.dir) (pin_ports c) p.0 p.1 in
    let s = signals ck (subst (λ (n : Name). In n (names_of (pin_ports c))) p.2 (In-map (λ (y : Port). y.name) p.0 (pin_ports c) q.0)) in
    elim which [ inl e ↦ s.0 (k ∙ e) | inr e ↦ s.1 (k ∙ e) ]
clock_supply (other m) c name plain signals which k = absurd plain
clock_supply opaque c name plain signals which k = absurd plain

-- a sink is an input pin
pub sink_role : (l : Library) (table : List ModelPins) (w : Wired) → AreGood l w.instances → (i : Instance) → In i w.instances → IsMade l table i
    → (q : ModelPin) → In q (pins_named table i.model) → IsSink l w (pin_of i.name q.name) → pin_role q ≡ role.InputPin
sink_role l table w good i listed made q q_in s =
    role_in q (x.2.dir ∙ way) (no_clock_pin q (λ t. clock_named made.cell.function made.cell x.0.name made.usable.function
    (subst (λ (n : Name). is_clock_of made.cell.function n ≡ false) (sym named) off) (x.2.clock.0 t))) where
      names : Some i.name ≡ Some s.owner.name
      names = ap (λ (t : Terminal). t.instance) s.is

      name : i.name ≡ s.owner.name
      name = cc names

      same : i ≡ s.owner
      same = one_instance w.instances good.names i s.owner listed s.listed name

      cells : s.cell ≡ made.cell
      cells = same_Some s.cell made.cell (sym s.found ∙ ap (λ (y : Instance). cell_of l y.model) (sym same) ∙ made.found)

      pins : q.name ≡ s.pin
      pins = ap (λ (t : Terminal). t.pin) s.is

      x : (y : Port) × In y (all_ports made.cell) × IsPinOf made.cell.function (all_ports made.cell) y q
      x = port_of_pin made.cell.function (all_ports made.cell) (all_ports made.cell) (pins_named table i.model) q made.row q_in

      named : x.0.name ≡ s.pin
      named = sym x.2.name ∙ pins

      off : is_clock_of made.cell.function s.pin ≡ false
      off = subst (λ (c : Cell). is_clock_of c.function s.pin ≡ false) cells s.no_clock

      into : In s.pin (cell_inputs made.cell)
      into = subst (λ (c : Cell). In s.pin (cell_inputs c)) cells s.input

      way : x.0.dir ≡ dir.In
      way =
          let p = In-map_back (λ (y : Port). y.name) s.pin (filter (λ p. is_input p.dir) (pin_ports made.cell)) into in
          let p_in = in_filter (λ (y : Port). is_input y.dir) (pin_ports made.cell) p.0 p.1 in
          elim (both_cases (pin_ports made.cell) x.0 x.1) [
            | inl e ↦ ap (λ (y : Port). y.dir) e
            | inr r ↦ elim r [
              | inl e ↦ ap (λ (y : Port). y.dir) e
              | inr j ↦
                  let one = one_port (pin_ports made.cell) x.0 p.0 (sorted_different (pin_ports made.cell) (sorted_of (pin_ports made.cell) made.usable.order)) j p_in.0 (named ∙ sym p.2) in
                  ap (λ (y : Port). y.dir) one ∙ in_dir p.0.dir p_in.1
            ]
          ]

-- an instance has a pin for each supply
pub supply_pin : (l : Library) (table : List ModelPins) (i : Instance) → IsMade l table i → (name : Name) → (name ≡ vdd) ⊎ (name ≡ vss)
    → (q : ModelPin) × In q (pins_named table i.model) × (q.name ≡ name) × (pin_role q ≡ role.InputPin)
supply_pin l table i made name which = made_of (supply name) (listed which) refl refl where
  listed : (name ≡ vdd) ⊎ (name ≡ vss) → In (supply name) (all_ports made.cell)
  listed (inl e) = subst (λ (n : Name). In (supply n) (all_ports made.cell)) (sym e) (vdd_there (pin_ports made.cell))
  listed (inr e) = subst (λ (n : Name). In (supply n) (all_ports made.cell)) (sym e) (vss_there (pin_ports made.cell))

  made_of : (x : Port) → In x (all_ports made.cell) → x.name ≡ name → x.dir ≡ dir.In → (q : ModelPin) × In q (pins_named table i.model) × (q.name ≡ name) × (pin_role q ≡ role.InputPin)
  made_of x x_in e d =
      let at = in_place x (all_ports made.cell) x_in in
      let q = pin_at made.cell.function (all_ports made.cell) (all_ports made.cell) (pins_named table i.model) at.0 x made.row at.1 in (
        q.0,
        in_from_place (pins_named table i.model) at.0 q.0 q.1,
        q.2.name ∙ e,
        role_in q.0 (q.2.dir ∙ d) (no_clock_pin q.0 (λ t. clock_supply made.cell.function made.cell x.name made.usable.function made.signals
            (subst (λ (n : Name). (n ≡ vdd) ⊎ (n ≡ vss)) (sym e) which) (q.2.clock.0 t))),
      )

-- a sink has a pin in the table
pub sink_pin : (l : Library) (table : List ModelPins) (w : Wired) → ((i : Instance) → In i w.instances → IsMade l table i) → (t : Terminal) (s : IsSink l w t)
    → (q : ModelPin) × In q (pins_named table s.owner.model) × (t ≡ pin_of s.owner.name q.name)
sink_pin l table w made t s =
    let m = made s.owner s.listed in
    let cells : s.cell ≡ m.cell = same_Some s.cell m.cell (sym s.found ∙ m.found) in
    let into = subst (λ (c : Cell). In s.pin (cell_inputs c)) cells s.input in
    let p = In-map_back (λ (y : Port). y.name) s.pin (filter (λ p. is_input p.dir) (pin_ports m.cell)) into in
    let p_in = in_filter (λ (y : Port). is_input y.dir) (pin_ports m.cell) p.0 p.1 in
    let signal = m.signals p.0.name (In-map (λ (y : Port). y.name) p.0 (pin_ports m.cell) p_in.0) in
    let at = in_place p.0 (all_ports m.cell) (port_stays (pin_ports m.cell) p.0 p_in.0 signal.0 signal.1) in
    let q = pin_at m.cell.function (all_ports m.cell) (all_ports m.cell) (pins_named table s.owner.model) at.0 p.0 m.row at.1 in
    (q.0, in_from_place (pins_named table s.owner.model) at.0 q.0 q.1, s.is ∙ ap (pin_of s.owner.name) (sym p.2 ∙ sym q.2.name))

-- ---- the pins of a gate of one input

-- an output pin of a model depends at once on an input pin
pub record Arc (table : List ModelPins) (model : List ℕ) : Type 0 where
  pub output : ModelPin
  pub known : In output (pins_named table model)
  pub gives : output.dir ≡ dir.Out
  pub place : ℕ
  pub depends : In place output.depends_on
  pub input : ModelPin
  pub stands : Stands (pins_named table model) place input
  pub takes : input.dir ≡ dir.In

pub data GatePin (l : Library) (c : Cell) (b : IsGateCell l c) (q : ModelPin) : Type 0 where
  on_supply : (q.name ≡ vdd) ⊎ (q.name ≡ vss) → pin_role q ≡ role.InputPin → GatePin l c b q
  reads : q.name ≡ input l c b → pin_role q ≡ role.InputPin → GatePin l c b q
  drives : q.name ≡ output l c b → pin_role q ≡ role.OutputPin → GatePin l c b q

in_one : {A : Type 0} (x y : A) → In y (x ∷ []) → y ≡ x
in_one x y here = refl
in_one x y (there h) = elim h [ ]

module _ (l : Library) (table : List ModelPins) (c : Cell) (b : IsGateCell l c) (row : ArePins c.function (all_ports c) (all_ports c) (pins_named table c.name)) where
  port_at : (q : ModelPin) → In q (pins_named table c.name) → (y : Port) × In y (all_ports c) × IsPinOf c.function (all_ports c) y q
  port_at q h = port_of_pin c.function (all_ports c) (all_ports c) (pins_named table c.name) q row h

  no_clock : (q : ModelPin) (y : Port) → IsPinOf c.function (all_ports c) y q → q.is_clock ≡ false
  no_clock q y is = no_clock_pin q (λ t. let k = is.clock.0 t in absurd (subst (λ (f : Function). IsClockPin f y.name) b.is_gate k))

  named_in : (y : Port) → In y (pin_ports c) → y.dir ≡ dir.In → y.name ≡ input l c b
  named_in y h d =
      let f : In y (filter (λ p. is_input p.dir) (pin_ports c)) = filter_in (λ (p : Port). is_input p.dir) (pin_ports c) y h (ap is_input d) in
      in_one (input l c b) y.name (subst (λ (ns : List Name). In y.name ns) (input_is l c b) (In-map (λ (p : Port). p.name) y (filter (λ p. is_input p.dir) (pin_ports c)) f))

  named_out : (y : Port) → In y (pin_ports c) → y.dir ≡ dir.Out → y.name ≡ output l c b
  named_out y h d =
      let f : In y (filter (λ p. not (is_input p.dir)) (pin_ports c)) = filter_in (λ (p : Port). not (is_input p.dir)) (pin_ports c) y h (ap (λ (x : Dir). not (is_input x)) d) in
      in_one (output l c b) y.name (subst (λ (ns : List Name). In y.name ns) (output_is l c b) (In-map (λ (p : Port). p.name) y (filter (λ p. not (is_input p.dir)) (pin_ports c)) f))

  pub gate_pin : (q : ModelPin) → In q (pins_named table c.name) → GatePin l c b q
  gate_pin q h = by (both_cases (pin_ports c) y.0 y.1) where
    y : (z : Port) × In z (all_ports c) × IsPinOf c.function (all_ports c) z q
    y = port_at q h

    signal : (d : Dir) → y.0.dir ≡ d → In y.0 (pin_ports c) → GatePin l c b q
    signal dir.In e j = reads (y.2.name ∙ named_in y.0 j e) (role_in q (y.2.dir ∙ e) (no_clock q y.0 y.2))
    signal dir.Out e j = drives (y.2.name ∙ named_out y.0 j e) (role_out q (y.2.dir ∙ e))

    by : (y.0 ≡ supply vss) ⊎ ((y.0 ≡ supply vdd) ⊎ In y.0 (pin_ports c)) → GatePin l c b q
    by (inl e) = on_supply (inr (y.2.name ∙ ap (λ (p : Port). p.name) e)) (role_in q (y.2.dir ∙ ap (λ (p : Port). p.dir) e) (no_clock q y.0 y.2))
    by (inr (inl e)) = on_supply (inl (y.2.name ∙ ap (λ (p : Port). p.name) e)) (role_in q (y.2.dir ∙ ap (λ (p : Port). p.dir) e) (no_clock q y.0 y.2))
    by (inr (inr j)) = signal y.0.dir refl j

  -- it has an output pin
  pub gate_output : (q : ModelPin) × In q (pins_named table c.name) × (q.name ≡ output l c b) × (pin_role q ≡ role.OutputPin)
  gate_output =
      let p = In-map_back (λ (y : Port). y.name) (output l c b) (filter (λ p. not (is_input p.dir)) (pin_ports c)) (in_outputs l c b) in
      let p_in = in_filter (λ (y : Port). not (is_input y.dir)) (pin_ports c) p.0 p.1 in
      let signal = b.signals p.0.name (In-map (λ (y : Port). y.name) p.0 (pin_ports c) p_in.0) in
      let at = in_place p.0 (all_ports c) (port_stays (pin_ports c) p.0 p_in.0 signal.0 signal.1) in
      let q = pin_at c.function (all_ports c) (all_ports c) (pins_named table c.name) at.0 p.0 row at.1 in
      (q.0, in_from_place (pins_named table c.name) at.0 q.0 q.1, q.2.name ∙ p.2, role_out q.0 (q.2.dir ∙ out_dir p.0.dir p_in.1))

  -- its arc leads from its input to its output
  pub gate_arc : (a : Arc table c.name) → (a.output.name ≡ output l c b) × (a.input.name ≡ input l c b)
  gate_arc a = (from (gate_pin a.output a.known), into) where
    from : GatePin l c b a.output → a.output.name ≡ output l c b
    from (on_supply e r) = let never : role.InputPin ≡ role.OutputPin = sym r ∙ role_out a.output a.gives in absurd (cc never)
    from (reads e r) = let never : role.InputPin ≡ role.OutputPin = sym r ∙ role_out a.output a.gives in absurd (cc never)
    from (drives e r) = e

    x : (y : Port) × In y (all_ports c) × IsPinOf c.function (all_ports c) y a.output
    x = port_at a.output a.known

    d : DependsAt c.function (all_ports c) x.0 a.place
    d = picked_has (DependsAt c.function (all_ports c) x.0) (first_places (length (all_ports c))) a.output.depends_on a.place x.2.depends a.depends

    q : (p : ModelPin) × Stands (pins_named table c.name) a.place p × IsPinOf c.function (all_ports c) d.0 p
    q = pin_at c.function (all_ports c) (all_ports c) (pins_named table c.name) a.place d.0 row d.1

    apart : (d.0.name ≢ vdd) × (d.0.name ≢ vss)
    apart = subst (λ (f : Function). DependsAtOnce f x.0.name d.0.name) b.is_gate d.2.2

    named : a.input.name ≡ d.0.name
    named = ap (λ (p : ModelPin). p.name) (stands_same (pins_named table c.name) a.place a.input q.0 a.stands q.1) ∙ q.2.name

    into : a.input.name ≡ input l c b
    into = named ∙ elim (both_cases (pin_ports c) d.0 (in_from_place (all_ports c) a.place d.0 d.1)) [
      | inl e ↦ absurd (apart.1 (ap (λ (p : Port). p.name) e))
      | inr r ↦ elim r [
        | inl e ↦ absurd (apart.0 (ap (λ (p : Port). p.name) e))
        | inr j ↦ named_in d.0 j d.2.1
      ]
    ]

  -- its pins differ
  pub gate_pins_differ : (name : List ℕ) → AllDifferent (map (λ m. m.terminal) (map (pin_mark name) (pins_named table c.name)))
  gate_pins_differ name = by (pins_named table c.name) (subst (λ (ns : List Name). AllDifferent ns) (sym (pin_names c.function (all_ports c) (all_ports c) (pins_named table c.name) row)) (pin_names_differ c b.usable)) where
    back : (q : ModelPin) (qs : List ModelPin) → In (pin_of name q.name) (map (λ m. m.terminal) (map (pin_mark name) qs)) → In q.name (map (λ p. p.name) qs)
    back q qs h =
        let m = In-map_back (λ (m : Mark). m.terminal) (pin_of name q.name) (map (pin_mark name) qs) h in
        let p = In-map_back (pin_mark name) m.0 qs m.1 in
        let e : p.0.name ≡ q.name = ap (λ (t : Terminal). t.pin) (ap (λ (z : Mark). z.terminal) p.2 ∙ m.2) in
        subst (λ (n : Name). In n (map (λ p. p.name) qs)) e (In-map (λ (p : ModelPin). p.name) p.0 qs p.1)

    by : (qs : List ModelPin) → AllDifferent (map (λ p. p.name) qs) → AllDifferent (map (λ m. m.terminal) (map (pin_mark name) qs))
    by [] d = tt
    by (q ∷ qs) d = (λ h. d.0 (back q qs h), by qs d.1)
