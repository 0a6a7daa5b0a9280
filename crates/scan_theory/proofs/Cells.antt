-- The cells of instances and gates, by a table of pins.
use Rattle.std.proofs.Common.{◌≡◌, ◌≢◌, ◌⊎◌, inl, inr, ℕ, Bool, true, false, not, ◌&&◌, List, [], ◌∷◌, length, map, filter, Some, refl, sym, ap, ◌∙◌, subst, arith, if◌then◌else◌}
use Rattle.std.specs.Prelude.{IsTrue}
use Rattle.vlsi_base.specs.declared.kind.Kind.TheVariants as kind
use Rattle.vlsi_base.specs.declared.name.Name.{Name}
use Rattle.vlsi_base.specs.declared.name.Port.{Port}
use Rattle.vlsi_base.specs.declared.name.Dir.{Dir}
use Rattle.vlsi_base.specs.declared.name.Dir.TheVariants as dir
use Rattle.vlsi_base.specs.Names.{vdd, vss}
use Rattle.vlsi_base.specs.Member.{In, here, there}
use Rattle.bool_expr.specs.Expression.{Expression, val}
use Rattle.machine_core.specs.Machine.{is_input, names_of}
use Rattle.cell_model.specs.Cell.{Function, gate, flip_flop, other, opaque, Cell, pin_ports, cell_inputs, cell_outputs}
use Rattle.cell_model.specs.Library.{Library, cell_of, cell_named, IsPlain, IsUsable}
use Rattle.cell_model.specs.Usable.{IsFormed}
use Rattle.cell_model.specs.Covering.{IsFunctionOf}
use Rattle.cell_model.proofs.Members.{In-map, In-map_back, All-In}
use Rattle.cell_model.proofs.Texts.{text_itself, text_differs}
use Rattle.cell_checks.specs.Checked.{IsChecked as HasPassed}
use Rattle.cell_pins.specs.Pins.{supply, all_ports, IsClockPin}
use Rattle.cell_pins.specs.Follows.{DependsAtOnce}
use Rattle.cell_pins.specs.Table.{first_places, DependsAt, IsPinOf, ArePins, IsListed, IsTableOf}
use Rattle.cell_pins.proofs.Ports.{in_filter}
use Rattle.cell_pins.proofs.Listed.{picked_has}
use Rattle.cell_pins.proofs.Sound.{pin_names, pin_at, port_of_pin, member_at as in_from_place, Apart, apart_rest, apart_first}
use Rattle.net_core.specs.declared.pins.ModelPin.{ModelPin}
use Rattle.net_core.specs.declared.pins.ModelPins.{ModelPins}
use Rattle.net_core.specs.declared.tally.Role.TheVariants as role
use Rattle.net_core.specs.Places.{IsThere}
use Rattle.net_core.specs.Netlist.{Instance, Netlist}
use Rattle.net_core.specs.Checks.{pins_named, Fits, pin_role}
use Rattle.net_core.proofs.Standing.{stands_same}
use Rattle.net_right.proofs.Lists.{in_place, filter_in}
use Rattle.net_right.proofs.Ports.{both_cases, port_stays}
use Rattle.net_right.proofs.Models.{named_cell, model_found, cell_listed}
use Rattle.net_theory.proofs.Basics.{In-names}
use Rattle.loon_fanout.proofs.Splitting.{in_or_out}
use Rattle.loon_fanout.proofs.PassPins.{AreSignals, IsMade, Arc, role_in, role_out}
use Rattle.scan_theory.specs.Scan.{IsCellOf}

in_dir : (d : Dir) → is_input d ≡ true → d ≡ dir.In
in_dir dir.In e = refl
in_dir dir.Out e = absurd (cc e)

out_dir : (d : Dir) → not (is_input d) ≡ true → d ≡ dir.Out
out_dir dir.In e = absurd (cc e)
out_dir dir.Out e = refl

no_clock_pin : (q : ModelPin) → (IsTrue q.is_clock → ⊥) → q.is_clock ≡ false
no_clock_pin q never = by q.is_clock refl where
  by : (b : Bool) → q.is_clock ≡ b → b ≡ false
  by true e = absurd (never e)
  by false e = refl

-- ---- cells by name

-- a cell of a library is the first of its name
pub cell_itself : (cells : List Cell) (c : Cell) → Apart cells → In c cells → cell_named cells c.name ≡ Some c
cell_itself [] c apart i = elim i [ ]
cell_itself (b ∷ cells) c apart here = ap (λ (t : Bool). if t then Some b else cell_named cells b.name) (text_itself b.name)
cell_itself (b ∷ cells) c apart (there i) =
    ap (λ (t : Bool). if t then Some b else cell_named cells c.name) (text_differs b.name c.name (apart_first b c cells apart i))
    ∙ cell_itself cells c (apart_rest b cells apart) i

-- ---- instances

-- an instance has a usable cell, its pins, and a row of the table
pub record Celled (l : Library) (table : List ModelPins) (i : Instance) : Type 0 where
  pub cell : Cell
  pub found : cell_of l i.model ≡ Some cell
  pub usable : IsUsable cell
  pub signals : AreSignals cell
  pub pins : i.pins ≡ names_of (all_ports cell)
  pub row : ArePins cell.function (all_ports cell) (all_ports cell) (pins_named table i.model)
  pub known : IsThere (map (λ m. m.model) table) i.model

module _ (l : Library) (table : List ModelPins) (passed : HasPassed false l) (of : IsTableOf l false table) where
  pub celled_by : (i : Instance) (c : Cell) → cell_of l i.model ≡ Some c → IsUsable c → i.pins ≡ names_of (all_ports c) → Celled l table i
  celled_by i c found usable pins =
      let m = model_found (IsListed false) l.cells table c i.model of found (inr usable) in
      let formed : IsFormed c = All-In IsFormed l.cells passed.formed c (named_cell l.cells i.model c found).0 in
      record {
        cell = c;
        found = found;
        usable = usable;
        signals = formed.signals;
        pins = pins;
        row = subst (λ (ps : List ModelPin). ArePins c.function (all_ports c) (all_ports c) ps) (sym m.pins) m.is.pins;
        known = m.known;
      }

  usable_of : (c : Cell) → IsListed false c → IsUsable c
  usable_of c (inl e) = let never : false ≡ true = e in absurd cc
  usable_of c (inr u) = u

  pub celled : (n : Netlist) → Fits n table → (i : Instance) → In i n.instances → Celled l table i
  celled n fits i i_in =
      let known : IsThere (map (λ m. m.model) table) i.model = All-In (λ (x : Instance). IsThere (map (λ m. m.model) table) x.model) n.instances fits.listed i i_in in
      let c = cell_listed (IsListed false) l.cells table i.model passed.names of known in
      let m = model_found (IsListed false) l.cells table c.0 i.model of c.1 c.2 in
      let pins : i.pins ≡ map (λ p. p.name) (pins_named table i.model) = All-In (λ (x : Instance). x.pins ≡ map (λ p. p.name) (pins_named table x.model)) n.instances fits.pins i i_in in
      celled_by i c.0 c.1 (usable_of c.0 c.2)
      (pins ∙ ap (map (λ (p : ModelPin). p.name)) m.pins ∙ pin_names c.0.function (all_ports c.0) (all_ports c.0) m.found.pins m.is.pins)

pub made_of : (l : Library) (table : List ModelPins) (i : Instance) → Celled l table i → IsMade l table i
made_of l table i c = record { cell = c.cell; found = c.found; usable = c.usable; signals = c.signals; row = c.row }

-- an output pin of its cell is one in the table
pub output_role : (l : Library) (table : List ModelPins) (i : Instance) (k : Celled l table i) (q : ModelPin) → In q (pins_named table i.model)
    → In q.name (cell_outputs k.cell) → pin_role q ≡ role.OutputPin
output_role l table i k q q_in out = by y.0.dir refl where
  y : (z : Port) × In z (all_ports k.cell) × IsPinOf k.cell.function (all_ports k.cell) z q
  y = port_of_pin k.cell.function (all_ports k.cell) (all_ports k.cell) (pins_named table i.model) q k.row q_in

  signal : (q.name ≢ vdd) × (q.name ≢ vss)
  signal = k.signals q.name (In-names (λ (p : Port). not (is_input p.dir)) (pin_ports k.cell) q.name out)

  entering : (z : Port) → In z (pin_ports k.cell) → z.dir ≡ dir.In → In z.name (cell_inputs k.cell)
  entering z h d =
      In-map (λ (p : Port). p.name) z (filter (λ p. is_input p.dir) (pin_ports k.cell)) (filter_in (λ (p : Port). is_input p.dir) (pin_ports k.cell) z h (ap is_input d))

  by : (d : Dir) → y.0.dir ≡ d → pin_role q ≡ role.OutputPin
  by dir.Out e = role_out q (y.2.dir ∙ e)
  by dir.In e = absurd (elim (both_cases (pin_ports k.cell) y.0 y.1) [
    | inl is ↦ signal.1 (y.2.name ∙ ap (λ (p : Port). p.name) is)
    | inr rest ↦ elim rest [
      | inl is ↦ signal.0 (y.2.name ∙ ap (λ (p : Port). p.name) is)
      | inr j ↦ in_or_out k.cell q.name k.usable (subst (λ (n : Name). In n (cell_inputs k.cell)) (sym y.2.name) (entering y.0 j e)) out
    ]
  ])

-- ---- inverters and nands

pub record IsInverter (c : Cell) : Type 0 where
  pub expr : Expression
  pub is : c.function ≡ gate expr
  pub one : length (cell_inputs c) ≡ 1
  pub value : (a : Bool) → val expr (a ∷ []) ≡ not a

pub record IsNand (c : Cell) : Type 0 where
  pub expr : Expression
  pub is : c.function ≡ gate expr
  pub two : length (cell_inputs c) ≡ 2
  pub value : (a b : Bool) → val expr (a ∷ b ∷ []) ≡ not (a && b)

pub inverter : (l : Library) (c : Cell) → IsCellOf l kind.Inv c → IsInverter c
inverter l c h = by c.function refl h.kind where
  by : (f : Function) → c.function ≡ f → IsFunctionOf f (length (cell_inputs c)) kind.Inv → IsInverter c
  by (gate e) is k = record { expr = e; is = is; one = k.0; value = k.1 }
  by (flip_flop d ck) is k = absurd cc
  by (other m) is k = absurd k
  by opaque is k = absurd k

pub nand : (l : Library) (c : Cell) → IsCellOf l kind.Nand2 c → IsNand c
nand l c h = by c.function refl h.kind where
  by : (f : Function) → c.function ≡ f → IsFunctionOf f (length (cell_inputs c)) kind.Nand2 → IsNand c
  by (gate e) is k = record { expr = e; is = is; two = k.0; value = k.1 }
  by (flip_flop d ck) is k = absurd cc
  by (other m) is k = absurd k
  by opaque is k = absurd k

-- ---- the pins of a gate

-- a usable cell of the library that is a gate, and its output pin
pub record IsGateCell (l : Library) (c : Cell) : Type 0 where
  pub found : cell_of l c.name ≡ Some c
  pub usable : IsUsable c
  pub signals : AreSignals c
  pub expr : Expression
  pub is : c.function ≡ gate expr
  pub out : Name
  pub single : cell_outputs c ≡ out ∷ []

one_of : (ns : List Name) → length ns ≡ 1 → (x : Name) × (ns ≡ x ∷ [])
one_of [] h = absurd (omega (arith, h))
one_of (x ∷ []) h = (x, refl)
one_of (x ∷ y ∷ ns) h = absurd (omega (arith, h))

pub gate_cell : (l : Library) → HasPassed false l → (c : Cell) → In c l.cells → IsUsable c → (e : Expression) → c.function ≡ gate e → IsGateCell l c
gate_cell l passed c listed usable e is =
    let formed : IsFormed c = All-In IsFormed l.cells passed.formed c listed in
    let plain : IsPlain c (gate e) = subst (λ (f : Function). IsPlain c f) is usable.function in
    let o = one_of (cell_outputs c) plain.0 in
    record { found = cell_itself l.cells c passed.names listed; usable = usable; signals = formed.signals; expr = e; is = is; out = o.0; single = o.1 }

in_one : {A : Type 0} (x y : A) → In y (x ∷ []) → y ≡ x
in_one x y here = refl
in_one x y (there h) = elim h [ ]

pub data GatePin (c : Cell) (out : Name) (q : ModelPin) : Type 0 where
  on_supply : (q.name ≡ vdd) ⊎ (q.name ≡ vss) → pin_role q ≡ role.InputPin → GatePin c out q
  reads : In q.name (cell_inputs c) → pin_role q ≡ role.InputPin → GatePin c out q
  drives : q.name ≡ out → pin_role q ≡ role.OutputPin → GatePin c out q

module _ (l : Library) (table : List ModelPins) (c : Cell) (b : IsGateCell l c) (row : ArePins c.function (all_ports c) (all_ports c) (pins_named table c.name)) where
  port_at : (q : ModelPin) → In q (pins_named table c.name) → (y : Port) × In y (all_ports c) × IsPinOf c.function (all_ports c) y q
  port_at q h = port_of_pin c.function (all_ports c) (all_ports c) (pins_named table c.name) q row h

  no_clock : (q : ModelPin) (y : Port) → IsPinOf c.function (all_ports c) y q → q.is_clock ≡ false
  no_clock q y is = no_clock_pin q (λ t. let k = is.clock.0 t in absurd (subst (λ (f : Function). IsClockPin f y.name) b.is k))

  input_in : (y : Port) → In y (pin_ports c) → y.dir ≡ dir.In → In y.name (cell_inputs c)
  input_in y h d = In-map (λ (p : Port). p.name) y (filter (λ p. is_input p.dir) (pin_ports c)) (filter_in (λ (p : Port). is_input p.dir) (pin_ports c) y h (ap is_input d))

  named_out : (y : Port) → In y (pin_ports c) → y.dir ≡ dir.Out → y.name ≡ b.out
  named_out y h d =
      let f : In y (filter (λ p. not (is_input p.dir)) (pin_ports c)) = filter_in (λ (p : Port). not (is_input p.dir)) (pin_ports c) y h (ap (λ (x : Dir). not (is_input x)) d) in
      in_one b.out y.name (subst (λ (ns : List Name). In y.name ns) b.single (In-map (λ (p : Port). p.name) y (filter (λ p. not (is_input p.dir)) (pin_ports c)) f))

  pub gate_pin : (q : ModelPin) → In q (pins_named table c.name) → GatePin c b.out q
  gate_pin q h = by (both_cases (pin_ports c) y.0 y.1) where
    y : (z : Port) × In z (all_ports c) × IsPinOf c.function (all_ports c) z q
    y = port_at q h

    signal : (d : Dir) → y.0.dir ≡ d → In y.0 (pin_ports c) → GatePin c b.out q
    signal dir.In e j = reads (subst (λ (x : Name). In x (cell_inputs c)) (sym y.2.name) (input_in y.0 j e)) (role_in q (y.2.dir ∙ e) (no_clock q y.0 y.2))
    signal dir.Out e j = drives (y.2.name ∙ named_out y.0 j e) (role_out q (y.2.dir ∙ e))

    by : (y.0 ≡ supply vss) ⊎ ((y.0 ≡ supply vdd) ⊎ In y.0 (pin_ports c)) → GatePin c b.out q
    by (inl e) = on_supply (inr (y.2.name ∙ ap (λ (p : Port). p.name) e)) (role_in q (y.2.dir ∙ ap (λ (p : Port). p.dir) e) (no_clock q y.0 y.2))
    by (inr (inl e)) = on_supply (inl (y.2.name ∙ ap (λ (p : Port). p.name) e)) (role_in q (y.2.dir ∙ ap (λ (p : Port). p.dir) e) (no_clock q y.0 y.2))
    by (inr (inr j)) = signal y.0.dir refl j

  -- it has an output pin
  pub gate_output : (q : ModelPin) × In q (pins_named table c.name) × (q.name ≡ b.out) × (pin_role q ≡ role.OutputPin)
  gate_output =
      let p = In-map_back (λ (y : Port). y.name) b.out (filter (λ p. not (is_input p.dir)) (pin_ports c)) (subst (λ (ns : List Name). In b.out ns) (sym b.single) here) in
      let p_in = in_filter (λ (y : Port). not (is_input y.dir)) (pin_ports c) p.0 p.1 in
      let signal = b.signals p.0.name (In-map (λ (y : Port). y.name) p.0 (pin_ports c) p_in.0) in
      let at = in_place p.0 (all_ports c) (port_stays (pin_ports c) p.0 p_in.0 signal.0 signal.1) in
      let q = pin_at c.function (all_ports c) (all_ports c) (pins_named table c.name) at.0 p.0 row at.1 in
      (q.0, in_from_place (pins_named table c.name) at.0 q.0 q.1, q.2.name ∙ p.2, role_out q.0 (q.2.dir ∙ out_dir p.0.dir p_in.1))

-- ---- what depends at once

-- where an output pin of an instance depends at once on an input pin, its cell is a gate or a machine, and of a gate the input is no
-- supply
module _ (table : List ModelPins) (model : List ℕ) (c : Cell) (row : ArePins c.function (all_ports c) (all_ports c) (pins_named table model)) where
  pub arc_of : (a : Arc table model) → DependsAtOnce c.function a.output.name a.input.name
  arc_of a =
      let x = port_of_pin c.function (all_ports c) (all_ports c) (pins_named table model) a.output row a.known in
      let d = picked_has (DependsAt c.function (all_ports c) x.0) (first_places (length (all_ports c))) a.output.depends_on a.place x.2.depends a.depends in
      let q = pin_at c.function (all_ports c) (all_ports c) (pins_named table model) a.place d.0 row d.1 in
      let named : a.input.name ≡ d.0.name = ap (λ (p : ModelPin). p.name) (stands_same (pins_named table model) a.place a.input q.0 a.stands q.1) ∙ q.2.name in
      subst (λ (o : Name). DependsAtOnce c.function o a.input.name) (sym x.2.name)
      (subst (λ (i : Name). DependsAtOnce c.function x.0.name i) (sym named) d.2.2)
