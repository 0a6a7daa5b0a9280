-- The cells of a netlist's instances, and their pins in the table and in the netlist.
use Rattle.std.proofs.Common.{◌≡◌, ◌≢◌, ◌⊎◌, inl, inr, ℕ, zero, suc, ◌≤◌, Bool, true, false, cond, ◌&&◌, List, [], ◌∷◌, map, filter, bytes_eq, Option, None, Some, refl, sym, ap, ◌∙◌, subst, arith}
use Rattle.std.specs.Prelude.{nat_le, nat_lt, ◌||◌, nat_eq}
use Rattle.std.specs.Ordering.{is_lt, ordering_reverse}
use Rattle.std.specs.Cmp.Lexicographic.{bytes_decides}
use Rattle.std.specs.declared.cmp.Ordering.{Ordering}
use Rattle.std.specs.declared.cmp.Ordering.TheVariants.{Less, Equal, Greater}
use Rattle.std.proofs.lemmas.Bool.Decides.{nat_tests}
use Rattle.vlsi_base.specs.declared.name.Name.{Name}
use Rattle.vlsi_base.specs.declared.name.Port.{Port}
use Rattle.vlsi_base.specs.declared.name.Dir.{Dir}
use Rattle.vlsi_base.specs.declared.name.Dir.TheVariants as dir
use Rattle.vlsi_base.specs.declared.name.Terminal.{Terminal}
use Rattle.vlsi_base.specs.Name.{name_cmp}
use Rattle.vlsi_base.specs.Names.{vdd, vss, comes_before}
use Rattle.vlsi_base.specs.Member.{In, here, there}
use Rattle.vlsi_base.proofs.NameOrder.{name_total, name_exact}
use Rattle.machine_core.specs.Named.{is_same_text}
use Rattle.machine_core.proofs.Values.{In-split, In-left, In-right, In-map}
use Rattle.vlsi_model.proofs.Members.{In-cases}
use Rattle.vlsi_model.proofs.PortBits.{In-filter, filter-In}
use Rattle.vlsi_model.proofs.Assembly.{All-from_In}
use Rattle.cell_model.specs.Cell.{Function, gate, flip_flop, other, opaque, Cell, pin_ports}
use Rattle.cell_model.specs.Library.{Library, cell_named, cell_of}
use Rattle.cell_model.specs.Usable.{IsFormed}
use Rattle.cell_checks.specs.Checked.{IsChecked}
use Rattle.cell_pins.specs.Pins.{supply, with_supply, all_ports, IsClockPin}
use Rattle.cell_pins.specs.Table.{IsPinOf, ArePins, no_pins, one_pin, IsListed, AreModels, no_models, listed, left_out, IsTableOf}
use Rattle.net_core.specs.declared.pins.ModelPin.{ModelPin}
use Rattle.net_core.specs.declared.pins.ModelPins.{ModelPins}
use Rattle.net_core.specs.declared.tally.Role.{Role}
use Rattle.net_core.specs.declared.tally.Role.TheVariants as role
use Rattle.net_core.specs.declared.tally.Tally.{Tally}
use Rattle.net_core.specs.declared.tally.ClassFault.TheVariants as fault
use Rattle.net_core.specs.Places.{Stands, IsThere}
use Rattle.net_core.specs.Netlist.{Instance, Netlist as InMemory, IsNetlist, port, pin_of, terminals, HasClass}
use Rattle.net_core.specs.Checks.{pins_named, port_role, pin_role, tally, roles, all_clocks, is_misused_clock}
use Rattle.net_core.proofs.Lookups.{same_of, itself}
use Rattle.net_core.proofs.Rings.{at_place, class_below}
use Rattle.net_right.proofs.Ports.{supplies_differ}
use Rattle.net_right.specs.Condition.{MeetsCondition}
use Rattle.net_machine.specs.Signals.{IsClockPort}
use Rattle.net_machine.specs.Body.{Shown, Body, body_of, body_at}
use Rattle.net_machine.specs.Known.{clock_pin, clock_at}
use Rattle.net_machine.specs.Gathered.{HasPins, IsBodyOver, IsFine, HasClockOf}
use Rattle.net_machine.proofs.Drivers.{there_In, In_there, IsAt, a_port, a_pin, role_place, Sound, counts_in, counted_in, is_input_port, input_port_counts, is_clock_pin, clock_pin_counts}
use Rattle.net_machine.proofs.Bodies.{All_is, IsPin, reads_pin, shows_pin, clock_is_pin, body_over}
use Rattle.std.proofs.lemmas.Option.{slice_get_within}

-- ---- the table's pins of a cell

text_true : (a b : List ℕ) → is_same_text a b ≡ true → a ≡ b
text_true a b e = (bytes_decides a b).0 e

text_false : (a b : List ℕ) → is_same_text a b ≡ false → a ≢ b
text_false a b e same = let t : is_same_text a b ≡ true = (bytes_decides a b).1 same in let no : true ≡ false = sym t ∙ e in absurd cc

bytes_false : (a b : List ℕ) → a ≢ b → bytes_eq a b ≡ false
bytes_false a b apart = by (bytes_eq a b) refl where
  by : (r : Bool) → bytes_eq a b ≡ r → bytes_eq a b ≡ false
  by true e = absurd (apart (same_of a b e))
  by false e = e

bytes_true : (a b : List ℕ) → a ≡ b → bytes_eq a b ≡ true
bytes_true a b e = subst (λ (x : List ℕ). bytes_eq a x ≡ true) e (itself a)

-- a cell of the library, and its pins in the table
pub record InTable (l : Library) (table : List ModelPins) (model : List ℕ) (c : Cell) : Type 0 where
  pub found : cell_of l model ≡ Some c
  pub listed : In c l.cells
  pub named : c.name ≡ model
  pub pins : ArePins c.function (all_ports c) (all_ports c) (pins_named table model)

record Row (cells : List Cell) (table : List ModelPins) (model : List ℕ) : Type 0 where
  cell : Cell
  found : cell_named cells model ≡ Some cell
  listed : In cell cells
  named : cell.name ≡ model
  pins : ArePins cell.function (all_ports cell) (all_ports cell) (pins_named table model)

row_of : (cells : List Cell) (table : List ModelPins) (model : List ℕ) → AreModels (IsListed true) cells table → IsThere (map (λ m. m.model) table) model → Row cells table model
row_of _ _ model no_models t = absurd (nothing t.0 t.1) where
  nothing : (k : ℕ) → Stands [] k model → ⊥
  nothing k s = absurd cc
row_of _ _ model (listed {c = c} {m = m} {cells = cells} {models = models} p is rest) t = by (is_same_text c.name model) refl (row_of cells models model rest) where
  later : c.name ≢ model → IsThere (map (λ (x : ModelPins). x.model) models) model
  later apart = by_place t.0 t.1 where
    by_place : (k : ℕ) → Stands (m.model ∷ map (λ (x : ModelPins). x.model) models) k model → IsThere (map (λ (x : ModelPins). x.model) models) model
    by_place zero s = let e : m.model ≡ model = cc in absurd (apart (sym is.name ∙ e))
    by_place (suc k) s = (k, s)

  by : (b : Bool) → is_same_text c.name model ≡ b → (IsThere (map (λ (x : ModelPins). x.model) models) model → Row cells models model) → Row (c ∷ cells) (m ∷ models) model
  by true e rest =
      let same = text_true c.name model e in
      let test : bytes_eq m.model model ≡ true = bytes_true m.model model (is.name ∙ same) in
      record {
        cell = c;
        found = ap (λ b. cond b (Some c) (cell_named cells model)) e;
        listed = here;
        named = same;
        pins = subst (λ (ps : List ModelPin). ArePins c.function (all_ports c) (all_ports c) ps) (sym (ap (λ b. cond b m.pins (pins_named models model)) test)) is.pins;
      }
  by false e rest =
      let apart = text_false c.name model e in
      let test : bytes_eq m.model model ≡ false = bytes_false m.model model (λ q. apart (sym is.name ∙ q)) in
      let r = rest (later apart) in
      record {
        cell = r.cell;
        found = ap (λ b. cond b (Some c) (cell_named cells model)) e ∙ r.found;
        listed = there r.listed;
        named = r.named;
        pins = subst (λ (ps : List ModelPin). ArePins r.cell.function (all_ports r.cell) (all_ports r.cell) ps) (sym (ap (λ b. cond b m.pins (pins_named models model)) test)) r.pins;
      }
row_of _ _ model (left_out p rest) t = absurd (p (inl refl))

pub in_table : (l : Library) (table : List ModelPins) (model : List ℕ) → IsTableOf l true table → IsThere (map (λ m. m.model) table) model → (c : Cell) × InTable l table model c
in_table l table model is t = let r = row_of l.cells table model is t in (r.cell, record { found = r.found; listed = r.listed; named = r.named; pins = r.pins })

pub pin_of_port : (f : Function) (ports xs : List Port) (ps : List ModelPin) (x : Port) → ArePins f ports xs ps → In x xs → (q : ModelPin) × In q ps × IsPinOf f ports x q
pin_of_port f ports _ _ x no_pins i = absurd (elim i [ ])
pin_of_port f ports _ _ x (one_pin {port = y} {p = p} {rest = rest} {pins = pins} is more) i = elim (In-cases x y rest i) [
  | inl same ↦ (p, here, subst (λ (z : Port). IsPinOf f ports z p) same is)
  | inr j ↦ let r = pin_of_port f ports rest pins x more j in (r.0, there r.1, r.2)
]

pub port_of_pin : (f : Function) (ports xs : List Port) (ps : List ModelPin) (q : ModelPin) → ArePins f ports xs ps → In q ps → (x : Port) × In x xs × IsPinOf f ports x q
port_of_pin f ports _ _ q no_pins i = absurd (elim i [ ])
port_of_pin f ports _ _ q (one_pin {port = y} {p = p} {rest = rest} {pins = pins} is more) i = elim (In-cases q p pins i) [
  | inl same ↦ (y, here, subst (λ (z : ModelPin). IsPinOf f ports y z) same is)
  | inr j ↦ let r = port_of_pin f ports rest pins q more j in (r.0, there r.1, r.2)
]

-- ---- pins with supplies

before_or_behind : (a b : Name) → a ≢ b → (comes_before a b ≡ true) ⊎ (comes_before b a ≡ true)
before_or_behind a b apart = by (name_cmp a b) refl where
  by : (o : Ordering) → name_cmp a b ≡ o → (comes_before a b ≡ true) ⊎ (comes_before b a ≡ true)
  by Less e = inl (ap is_lt e)
  by Equal e = absurd (apart (name_exact a b e))
  by Greater e = inr (ap is_lt (name_total.antisymm b a ∙ ap ordering_reverse e))

abbrev filter_before : Name → List Port → List Port
filter_before name ps = filter (λ p. comes_before p.name name) ps

abbrev filter_behind : Name → List Port → List Port
filter_behind name ps = filter (λ p. comes_before name p.name) ps

in_supplied : (name : Name) (ps : List Port) (x : Port) → x.name ≢ name → In x ps → In x (with_supply name ps)
in_supplied name ps x apart i = elim (before_or_behind x.name name apart) [
  | inl e ↦ In-left x (filter_before name ps) (supply name ∷ filter_behind name ps) (filter-In (λ p. comes_before p.name name) ps x i e)
  | inr e ↦ In-right x (filter_before name ps) (supply name ∷ filter_behind name ps) (there (filter-In (λ p. comes_before name p.name) ps x i e))
]

supply_in : (name : Name) (ps : List Port) → In (supply name) (with_supply name ps)
supply_in name ps = In-right (supply name) (filter_before name ps) (supply name ∷ filter (λ p. comes_before name p.name) ps) here

supplied_cases : (name : Name) (ps : List Port) (x : Port) → In x (with_supply name ps) → (supply name ≡ x) ⊎ In x ps
supplied_cases name ps x i = elim (In-split x (filter_before name ps) (supply name ∷ filter (λ p. comes_before name p.name) ps) i) [
  | inl a ↦ inr (In-filter (λ p. comes_before p.name name) ps x a).0
  | inr b ↦ elim (In-cases x (supply name) (filter_behind name ps) b) [
    | inl same ↦ inl same
    | inr j ↦ inr (In-filter (λ p. comes_before name p.name) ps x j).0
  ]
]

pub signal_in : (c : Cell) → IsFormed c → (x : Port) → In x (pin_ports c) → In x (all_ports c)
signal_in c h x i =
    let s = h.signals x.name (In-map (λ (p : Port). p.name) x (pin_ports c) i) in
    in_supplied vss (with_supply vdd (pin_ports c)) x s.1 (in_supplied vdd (pin_ports c) x s.0 i)

pub all_cases : (c : Cell) (x : Port) → In x (all_ports c) → (supply vss ≡ x) ⊎ ((supply vdd ≡ x) ⊎ In x (pin_ports c))
all_cases c x i = elim (supplied_cases vss (with_supply vdd (pin_ports c)) x i) [ inl e ↦ inl e | inr j ↦ inr (supplied_cases vdd (pin_ports c) x j) ]

pub vdd_in : (c : Cell) → In (supply vdd) (all_ports c)
vdd_in c = in_supplied vss (with_supply vdd (pin_ports c)) (supply vdd) supplies_differ (supply_in vdd (pin_ports c))

pub vss_in : (c : Cell) → In (supply vss) (all_ports c)
vss_in c = supply_in vss (with_supply vdd (pin_ports c))

-- ---- a netlist of a library's cells that meets the condition

pub record Ground (n : InMemory) (l : Library) (table : List ModelPins) : Type 0 where
  pub netlist : IsNetlist n
  pub condition : MeetsCondition table n
  pub table_is : IsTableOf l true table
  pub checked : IsChecked false l

pub sound_of : (n : InMemory) (l : Library) (table : List ModelPins) → Ground n l table → Sound table n
sound_of n l table g = record { netlist = g.netlist; fits = g.condition.fits; classes = g.condition.passes.classes }

-- the cell of an instance
pub record Seated (l : Library) (table : List ModelPins) (i : Instance) : Type 0 where
  pub cell : Cell
  pub found : cell_of l i.model ≡ Some cell
  pub formed : IsFormed cell
  pub pins : ArePins cell.function (all_ports cell) (all_ports cell) (pins_named table i.model)

pub seated : (n : InMemory) (l : Library) (table : List ModelPins) → Ground n l table → (i : Instance) → In i n.instances → Seated l table i
seated n l table g i j =
    let r = in_table l table i.model g.table_is (All_is (λ (x : Instance). IsThere (map (λ m. m.model) table) x.model) n.instances g.condition.fits.listed i j) in
    record { cell = r.0; found = r.1.found; formed = All_is IsFormed l.cells g.checked.formed r.0 r.1.listed; pins = r.1.pins }

-- a pin of its cell is a terminal
pub pin_at : (n : InMemory) (l : Library) (table : List ModelPins) (i : Instance) (s : Seated l table i) → In i n.instances → (x : Port) → In x (all_ports s.cell)
    → (q : ModelPin) × IsAt table n (pin_of i.name x.name) (pin_role q) × IsPinOf s.cell.function (all_ports s.cell) x q × In q (pins_named table i.model)
pin_at n l table i s j x k =
    let r = pin_of_port s.cell.function (all_ports s.cell) (all_ports s.cell) (pins_named table i.model) x s.pins k in
    (r.0, subst (λ (m : Name). IsAt table n (pin_of i.name m) (pin_role r.0)) r.2.name (a_pin i r.0 j r.1), r.2, r.1)

pub there_is : (n : InMemory) (l : Library) (table : List ModelPins) → Ground n l table → (t : Terminal) (r : Role) → IsAt table n t r → IsThere (terminals n) t
there_is n l table g t r at = let p = role_place table n g.condition.fits t r at in (p.0, p.1)

pub class_there : (n : InMemory) (l : Library) (table : List ModelPins) → Ground n l table → (t : Terminal) → IsThere (terminals n) t → (class : ℕ) × HasClass n t class
class_there n l table g t h =
    let low = slice_get_within (terminals n) h.0 t h.1 in
    let c = at_place n.classes h.0 (omega (arith, low, g.netlist.each)) in
    (c.0, (h.0, h.1, c.1))

pub signal_there : (n : InMemory) (l : Library) (table : List ModelPins) → Ground n l table → (i : Instance) (s : Seated l table i) → In i n.instances → (name : Name) (d : Dir) → IsPin s.cell name d
    → IsThere (terminals n) (pin_of i.name name)
signal_there n l table g i s j name d p =
    let a = pin_at n l table i s j p.port (signal_in s.cell s.formed p.port p.listed) in
    subst (λ (m : Name). IsThere (terminals n) (pin_of i.name m)) p.name_is (there_is n l table g (pin_of i.name p.port.name) (pin_role a.0) a.1)

body_at_cell : (l : Library) (table : List ModelPins) (i : Instance) (s : Seated l table i) → body_at (cell_of l i.model) ≡ body_of s.cell s.cell.function
body_at_cell l table i s = ap body_at s.found

pub fine_pins : (n : InMemory) (l : Library) (table : List ModelPins) → Ground n l table → (i : Instance) → In i n.instances → HasPins n i.name (body_at (cell_of l i.model))
fine_pins n l table g i j =
    let s = seated n l table g i j in
    subst (λ (b : Body). HasPins n i.name b) (sym (body_at_cell l table i s)) (record {
      reads = All-from_In (λ (pin : Name). IsThere (terminals n) (pin_of i.name pin)) (body_of s.cell s.cell.function).reads
          (λ pin k. signal_there n l table g i s j pin dir.In (reads_pin s.cell s.cell.function s.formed.function pin k));
      shows = All-from_In (λ (x : Shown). IsThere (terminals n) (pin_of i.name x.pin)) (body_of s.cell s.cell.function).shows
          (λ x k. signal_there n l table g i s j x.pin dir.Out (shows_pin s.cell s.cell.function s.formed.function x k));
    })

pub fine_over : (n : InMemory) (l : Library) (table : List ModelPins) → Ground n l table → (i : Instance) → In i n.instances → IsBodyOver (body_at (cell_of l i.model))
fine_over n l table g i j =
    let s = seated n l table g i j in
    subst IsBodyOver (sym (body_at_cell l table i s)) (body_over s.cell s.cell.function s.formed.function)

clock_of_cell : (l : Library) (table : List ModelPins) (i : Instance) (s : Seated l table i) (pin : Name) → clock_at (cell_of l i.model) ≡ Some pin → clock_pin s.cell.function ≡ Some pin
clock_of_cell l table i s pin e = sym (ap clock_at s.found) ∙ e

is_clock_pin_of : (f : Function) (pin : Name) → clock_pin f ≡ Some pin → IsClockPin f pin
is_clock_pin_of (gate e) pin h = absurd cc
is_clock_pin_of (flip_flop d k) pin h = cc
is_clock_pin_of (other m) pin h = h
is_clock_pin_of opaque pin h = absurd cc

clock_of_pin : (f : Function) (pin : Name) → IsClockPin f pin → clock_pin f ≡ Some pin
clock_of_pin (gate e) pin h = absurd h
clock_of_pin (flip_flop d k) pin h = ap Some h
clock_of_pin (other m) pin h = h
clock_of_pin opaque pin h = absurd h

clock_role : (q : ModelPin) → q.dir ≡ dir.In → q.is_clock ≡ true → pin_role q ≡ role.ClockPin
clock_role q d k = rw (d, k) refl

-- a clock pin of an instance, by its cell
pub clock_at_pin : (n : InMemory) (l : Library) (table : List ModelPins) → Ground n l table → (i : Instance) (j : In i n.instances) (pin : Name) → clock_at (cell_of l i.model) ≡ Some pin
    → (q : ModelPin) × In q (pins_named table i.model) × (q.name ≡ pin) × (q.dir ≡ dir.In) × (q.is_clock ≡ true) × IsAt table n (pin_of i.name pin) role.ClockPin
clock_at_pin n l table g i j pin e =
    let s = seated n l table g i j in
    let k = clock_of_cell l table i s pin e in
    let p = clock_is_pin s.cell s.cell.function s.formed.function pin k in
    let a = pin_at n l table i s j p.port (signal_in s.cell s.formed p.port p.listed) in
    let d : a.0.dir ≡ dir.In = a.2.dir ∙ p.dir_is in
    let c : a.0.is_clock ≡ true = a.2.clock.1 (subst (IsClockPin s.cell.function) (sym p.name_is) (is_clock_pin_of s.cell.function pin k)) in (
      a.0,
      a.3,
      a.2.name ∙ p.name_is,
      d,
      c,
      subst (λ (r : Role). IsAt table n (pin_of i.name pin) r) (clock_role a.0 d c) (subst (λ (m : Name). IsAt table n (pin_of i.name m) (pin_role a.0)) p.name_is a.1),
    )

-- and by the table
pub clock_by_table : (n : InMemory) (l : Library) (table : List ModelPins) → Ground n l table → (i : Instance) (j : In i n.instances) (q : ModelPin) → In q (pins_named table i.model) → q.is_clock ≡ true
    → clock_at (cell_of l i.model) ≡ Some q.name
clock_by_table n l table g i j q k e =
    let s = seated n l table g i j in
    let r = port_of_pin s.cell.function (all_ports s.cell) (all_ports s.cell) (pins_named table i.model) q s.pins k in
    ap clock_at s.found ∙ clock_of_pin s.cell.function q.name (subst (IsClockPin s.cell.function) (sym r.2.name) (r.2.clock.0 e))

-- what is known of the class of a clock pin
pub record IsClockClass (table : List ModelPins) (n : InMemory) (class : ℕ) : Type 0 where
  pub input : Port
  pub listed : In input n.ports
  pub takes : input.dir ≡ dir.In
  pub of_port : HasClass n (port input.name) class
  pub no_pins : (tally table n class).input_pins ≡ 0

five : (a b c d e : Bool) → (a && (b || c || d || e)) ≡ false → a ≡ true → (b ≡ false) × (e ≡ false)
five true false false false false h k = (refl, refl)
five true false false false true h k = absurd cc
five true false false true e h k = absurd cc
five true false true d e h k = absurd cc
five true true c d e h k = absurd cc
five false b c d e h k = absurd cc

unmisused : (clocks : ℕ) (t : Tally) → 1 ≤ t.clock_pins → is_misused_clock clocks t ≡ false → (1 ≤ t.input_ports) × (t.input_pins ≡ 0)
unmisused clocks t l e =
    let some : nat_le 1 t.clock_pins ≡ true = grind (arith, nat_tests) in
    let r = five (nat_le 1 t.clock_pins) (nat_eq t.input_ports 0) (nat_lt t.clock_pins clocks) (nat_le 1 t.output_ports) (nat_le 1 t.input_pins) e some in
    (ports r.0, pins r.1) where
      ports : nat_eq t.input_ports 0 ≡ false → 1 ≤ t.input_ports
      ports h = grind (arith, nat_tests)

      pins : nat_le 1 t.input_pins ≡ false → t.input_pins ≡ 0
      pins h = grind (arith, nat_tests)

pub clock_class : (n : InMemory) (l : Library) (table : List ModelPins) → Ground n l table → (t : Terminal) (class : ℕ) → IsAt table n t role.ClockPin → HasClass n t class → IsClockClass table n class
clock_class n l table g t class at h =
    let sound = sound_of n l table g in
    let some = counts_in table n sound (λ t. t.clock_pins) is_clock_pin clock_pin_counts t role.ClockPin class at h in
    let low = class_below n g.netlist t class h in
    let right = g.condition.passes.classes fault.ClockUse class low in
    let parts = unmisused (all_clocks (roles table n)) (tally table n class) some right in
    let found = counted_in table n sound (λ t. t.input_ports) is_input_port input_port_counts class parts.0 in
    by_role found.0 found.1 found.2 found.3 found.4 parts.1 where
      by_role : (u : Terminal) (r : Role) → IsAt table n u r → HasClass n u class → 1 ≤ is_input_port r → (tally table n class).input_pins ≡ 0 → IsClockClass table n class
      by_role _ _ (a_port p i) hu one none = input (p.dir) refl where
        input : (d : Dir) → p.dir ≡ d → IsClockClass table n class
        input dir.In e = record { input = p; listed = i; takes = e; of_port = hu; no_pins = none }
        input dir.Out e = absurd (let x : is_input_port (port_role p) ≡ 0 = rw e refl in omega (arith, one, x))
      by_role _ _ (a_pin i q j k) hu one none = absurd (let x = no_pin q in omega (arith, one, x)) where
        no_pin : (q : ModelPin) → is_input_port (pin_role q) ≡ 0
        no_pin q = by q.dir q.is_clock refl refl where
          by : (d : Dir) (b : Bool) → q.dir ≡ d → q.is_clock ≡ b → is_input_port (pin_role q) ≡ 0
          by dir.In true e f = rw (e, f) refl
          by dir.In false e f = rw (e, f) refl
          by dir.Out b e f = rw e refl

pub fine : (n : InMemory) (l : Library) (table : List ModelPins) → Ground n l table → IsFine n l
fine n l table g = record {
  pins = λ i t. fine_pins n l table g i (there_In n.instances t.0 i t.1);
  over = λ i t. fine_over n l table g i (there_In n.instances t.0 i t.1);
  clock = λ i pin t e. let c = clock_at_pin n l table g i (there_In n.instances t.0 i t.1) pin e in there_is n l table g (pin_of i.name pin) role.ClockPin c.5;
  clocked = λ i pin class t e h.
      let c = clock_at_pin n l table g i (there_In n.instances t.0 i t.1) pin e in
      let k = clock_class n l table g (pin_of i.name pin) class c.5 h in (k.input.name, k.of_port);
}

-- the clock that is found is the netlist's
pub clock_found : (n : InMemory) (l : Library) (table : List ModelPins) → Ground n l table → (clock : Option Name) → HasClockOf n l clock → IsClockPort table n clock
clock_found n l table g None h = λ class p.
    let i = there_In n.instances p.listed.0 p.owner p.listed.1 in
    let e = clock_by_table n l table g p.owner i p.pin (there_In (pins_named table p.owner.model) p.known.0 p.pin p.known.1) p.clocks in
    let no : Some p.pin.name ≡ None = sym e ∙ h p.owner p.listed in absurd cc
clock_found n l table g (Some name) h =
    let i = there_In n.instances h.listed.0 h.owner h.listed.1 in
    let c = clock_at_pin n l table g h.owner i h.pin h.clocks in (
      h.class,
      h.of_port,
      record {
        owner = h.owner;
        pin = c.0;
        listed = h.listed;
        known = In_there (pins_named table h.owner.model) c.0 c.1;
        takes = c.3;
        clocks = c.4;
        joined = subst (λ (m : Name). HasClass n (pin_of h.owner.name m) h.class) (sym c.2) h.of_pin;
      },
    )
