-- What is known of each cell that its two files say.
use Rattle.std.proofs.Common.{◌≡◌, ℕ, zero, suc, ◌+◌, ◌^◌, ◌<◌, ◌≤◌, Bool, true, false, not, cond, List, [], ◌∷◌, ◌++◌, map, length, get_or, Option, None, Some, All, refl, sym, ◌∙◌, ap, subst, arith, inl, inr, ⊎_elim}
use Rattle.std.specs.Prelude.{◌≢◌, filter, ℤ}
use Rattle.std.specs.declared.cmp.Ordering.TheVariants.{Less, Greater}
use Rattle.std.specs.Ordering.{is_lt, ordering_reverse}
use Rattle.std.proofs.lemmas.Bool.{cond_both}
use Rattle.std.proofs.lemmas.Int.{ints}
use Rattle.std.proofs.lemmas.List.{map-append}
use Rattle.std.specs.List.Sorted.{IsPermutation}
use Rattle.std.proofs.lemmas.List.Sorted.{IsPermutation-sym}
use Rattle.vlsi_base.specs.declared.name.Name.{Name}
use Rattle.vlsi_base.specs.declared.name.Port.{Port}
use Rattle.vlsi_base.specs.declared.name.Dir.{Dir}
use Rattle.vlsi_base.specs.declared.range.Range.{Range}
use Rattle.vlsi_base.specs.Range.{range_bits}
use Rattle.vlsi_base.specs.Member.{In, here, there, AllDifferent}
use Rattle.vlsi_base.specs.Name.{name_cmp, is_supply}
use Rattle.vlsi_base.specs.Names.{vdd, vss}
use Rattle.vlsi_base.proofs.NameOrder.{name_total}
use Rattle.bool_expr.specs.Expression.{Expression, IsOver}
use Rattle.bool_expr.specs.View.{view}
use Rattle.machine_core.specs.Machine.{Machine, is_input, is_clock, names_of, input_ports, inputs}
use Rattle.machine_core.specs.Named.{is_same_name}
use Rattle.machine_core.specs.Checked.{AreInOrder, IsNoSupply, IsChecked}
use Rattle.machine_core.proofs.Names.{same_name-itself, same_name-false}
use Rattle.source_checks.specs.declared.statement.DesignFile.{DesignFile}
use Rattle.source_checks.specs.declared.symbol_table.Symbol.{Symbol}
use Rattle.source_checks.specs.Symbols.{symbols, symbol_names, names_in, bit_name}
use Rattle.vlsi_model.proofs.Members.{In-cases, Sub, none, keep, skip, different_Sub}
use Rattle.vlsi_model.proofs.Assembly.{In-permutation, supply_not}
use Rattle.vbe_io.specs.declared.cell_text.GenericValue.{GenericValue}
use Rattle.vbe_io.specs.declared.cell_text.CellText.{CellText}
use Rattle.vbe_io.specs.Cell.{pin_dir, pins_towards, symbol_pins, pin_bits, IsBehaviour, ArePins, IsCellText}
use Rattle.source_checks.specs.Elaboration.{port_of}
use Rattle.sym_geom.specs.Rect.{IsRect, IsCoordinate, HasCoordinates}
use Rattle.sym_geom.specs.declared.rect.Rect.{Rect}
use Rattle.sym_geom.specs.declared.item.Item.{Item}
use Rattle.sym_geom.specs.declared.item.Item.TheVariants as item
use Rattle.sym_shapes.specs.Ready.{IsReady}
use Rattle.ap_io.specs.declared.figure.Figure.{Figure}
use Rattle.ap_io.specs.ApText.{IsNear, IsItemWithin, IsApText}
use Rattle.ap_io.specs.Within.{IsWide}
use Rattle.ap_io.proofs.Within.{items_within, widths_positive, box_ready, few_items}
use Rattle.ap_io.proofs.Figures.{what_is_read}
use Rattle.cell_model.specs.declared.function.Function.{Function as Parts}
use Rattle.cell_model.specs.declared.function.Function.TheVariants as parts
use Rattle.cell_model.specs.declared.cell.Pin.{Pin}
use Rattle.cell_model.specs.Function.{Function, gate, flip_flop}
use Rattle.cell_model.specs.View.{function_view}
use Rattle.cell_model.specs.Cell.{Cell, pin_ports, cell_inputs, cell_outputs}
use Rattle.cell_model.specs.Usable.{FitsPins, IsFormed}
use Rattle.cell_model.proofs.Members.{place-In, All-In, In-left, In-split, In-map, In-map_back}
use Rattle.cell_function.specs.Function.{IsGate, IsFlipFlop, IsFunction, IsFunctionOf}
use Rattle.cell_function.specs.Timing.{pin_of}
use Rattle.cell_lib.specs.Cells.{Source}
use Rattle.cell_lib.specs.Library.{DoesAs, LooksAs, IsSaid}

-- ---- pins

measured_ports : (g : List GenericValue) (ports : List Port) → map (λ (p : Pin). p.port) (map (pin_of g) ports) ≡ ports
measured_ports g [] = refl
measured_ports g (p ∷ ports) = ap (λ (l : List Port). p ∷ l) (measured_ports g ports)

pub ports_are : (text : CellText) (c : Cell) → DoesAs text c → pin_ports c ≡ text.ports
ports_are text c d = ap (λ (l : List Pin). map (λ p. p.port) l) d.pins ∙ measured_ports text.generics text.ports

irreflexive : (n : Name) → name_cmp n n ≡ Less → ⊥
irreflexive n e =
    let r : name_cmp n n ≡ ordering_reverse (name_cmp n n) = name_total.antisymm n n in let s : Less ≡ Greater = sym e ∙ r ∙ ap ordering_reverse e in absurd cc

different_in_order : (ns : List Name) → AreInOrder ns → AllDifferent ns
different_in_order [] h = tt
different_in_order (n ∷ ns) h = (
  λ i.
      let r = place-In n ns i in
      let less : name_cmp n (get_or ns r.0 n) ≡ Less = h zero (suc r.0) n (omega arith) (omega (arith, r.1)) in
      irreflexive n (subst (λ (x : Name). name_cmp n x ≡ Less) (r.2 n) less),
  different_in_order ns (λ p q d a b. h (suc p) (suc q) d (omega arith) (omega arith)),
)

sub_filter : (p : Port → Bool) (ports : List Port) → Sub (names_of (filter p ports)) (names_of ports)
sub_filter p [] = none
sub_filter p (x ∷ ports) =
    cond_both (p x) (x ∷ filter p ports) (filter p ports) (λ (l : List Port). Sub (names_of l) (names_of (x ∷ ports)))
    (λ _. keep x.name (sub_filter p ports)) (λ _. skip x.name (sub_filter p ports))

different_inputs : (m : Machine) → IsChecked m → AllDifferent (input_ports m)
different_inputs m k =
    different_Sub (input_ports m) (names_of m.ports) (sub_filter (λ p. is_input p.dir) m.ports) (different_in_order (names_of m.ports) k.ports)

-- ---- inputs beside a clock

abbrev but : Name → List Name → List Name
but k l = filter (λ n. not (is_clock (Some k) n)) l

none_but : (k : Name) (l : List Name) → (In k l → ⊥) → but k l ≡ l
none_but k [] apart = refl
none_but k (n ∷ l) apart =
    let other : is_same_name k n ≡ false = same_name-false k n (λ e. apart (subst (λ (x : Name). In x (n ∷ l)) (sym e) here)) in
    ap (λ t. cond (not t) (n ∷ but k l) (but k l)) other ∙ ap (λ (x : List Name). n ∷ x) (none_but k l (λ h. apart (there h)))

one_less : (k : Name) (l : List Name) → AllDifferent l → In k l → length l ≡ length (but k l) + 1
one_less k [] d h = elim h [ ]
one_less k (n ∷ l) d h =
    elim (In-cases k n l h) [
      | inl e ↦
          let gone : is_same_name k n ≡ true = subst (λ (x : Name). is_same_name k x ≡ true) (sym e) (same_name-itself k) in
          let step : but k (n ∷ l) ≡ but k l = ap (λ t. cond (not t) (n ∷ but k l) (but k l)) gone in
          let rest : but k l ≡ l = none_but k l (λ i. d.0 (subst (λ (x : Name). In x l) (sym e) i)) in
          omega (arith, ap length step, ap length rest)
      | inr i ↦
          let other : is_same_name k n ≡ false = same_name-false k n (λ e. d.0 (subst (λ (x : Name). In x l) e i)) in
          let step : but k (n ∷ l) ≡ n ∷ but k l = ap (λ t. cond (not t) (n ∷ but k l) (but k l)) other in
          omega (arith, ap length step, one_less k l d.1 i)
    ]

In-filter : (p : Name → Bool) (x : Name) (l : List Name) → In x (filter p l) → In x l × (p x ≡ true)
In-filter p x [] h = elim h [ ]
In-filter p x (y ∷ l) h = by (p y) (In-filter p x l) refl h where
  by : (b : Bool) → (In x (filter p l) → In x l × (p x ≡ true)) → p y ≡ b → In x (cond b (y ∷ filter p l) (filter p l)) → In x (y ∷ l) × (p x ≡ true)
  by true rest e i =
      elim (In-cases x y (filter p l) i) [
        | inl same ↦ (subst (λ (z : Name). In z (y ∷ l)) same here, subst (λ (z : Name). p z ≡ true) same e)
        | inr j ↦ let r = rest j in (there r.0, r.1)
      ]
  by false rest e i = let r = rest i in (there r.0, r.1)

-- ---- the function fits the pins

all_kept : (l : List Name) → filter (λ n. not (is_clock None n)) l ≡ l
all_kept [] = refl
all_kept (n ∷ l) = ap (λ (x : List Name). n ∷ x) (all_kept l)

abbrev names_towards : Bool → List Port → List Name
names_towards false ports = names_of (filter (λ p. not (is_input p.dir)) ports)
names_towards true ports = names_of (filter (λ p. is_input p.dir) ports)

fits_gate : (c : Cell) (m : Machine) → pin_ports c ≡ m.ports → (e : Expression) → IsGate m e → FitsPins c (gate e)
fits_gate c m same e g =
    let outs : cell_outputs c ≡ g.output ∷ [] = ap (names_towards false) same ∙ g.one in
    let ins : inputs m ≡ cell_inputs c =
    ap (λ (o : Option Name). filter (λ n. not (is_clock o n)) (input_ports m)) g.unclocked ∙ all_kept (input_ports m) ∙ sym (ap (names_towards true) same) in
    (ap length outs, subst (λ (l : List Name). length l ≤ 6) ins g.few, subst (λ (l : List Name). IsOver e (length l)) ins g.over)

fits_flip_flop : (c : Cell) (m : Machine) → pin_ports c ≡ m.ports → IsChecked m → (d k : Name) → IsFlipFlop m d k → FitsPins c (flip_flop d k)
fits_flip_flop c m same checked d k h =
    let outs : cell_outputs c ≡ h.output ∷ [] = ap (names_towards false) same ∙ h.one in
    let ins : input_ports m ≡ cell_inputs c = sym (ap (names_towards true) same) in
    let held : but k (input_ports m) ≡ d ∷ [] = sym (ap (λ (o : Option Name). filter (λ n. not (is_clock o n)) (input_ports m)) h.clock_input) ∙ h.data_input in
    let clocked : In k (input_ports m) = (checked.clock k h.clock_input).port in
    let data_found = In-filter (λ n. not (is_clock (Some k) n)) d (input_ports m) (subst (λ (l : List Name). In d l) (sym held) here) in
    let count = one_less k (input_ports m) (different_inputs m checked) clocked in (
      ap length outs,
      omega (arith, count, ap length held, ap length ins),
      subst (λ (l : List Name). In d l) ins data_found.0,
      subst (λ (l : List Name). In k l) ins clocked,
      λ e. let itself : is_same_name k d ≡ true = subst (λ (x : Name). is_same_name k x ≡ true) (sym e) (same_name-itself k) in
          let never : false ≡ true = sym (ap not itself) ∙ data_found.1 in absurd cc,
    )

fits_machine : (c : Cell) (m : Machine) → pin_ports c ≡ m.ports → IsChecked m → (f : Parts) → IsFunction m f → FitsPins c (function_view f)
fits_machine c m same checked (parts.Gate e) h = fits_gate c m same (view e) h
fits_machine c m same checked (parts.FlipFlop d k) h = fits_flip_flop c m same checked d k h
fits_machine c m same checked (parts.Other w) h = (ap (λ (x : Machine). x.ports) h.0 ∙ sym same, subst (λ (x : Machine). IsChecked x) (sym h.0) checked)
fits_machine c m same checked parts.Opaque h = absurd h

-- ---- names of pins

names_to : (d : Dir) (names : List Name) → names_of (map (port_of d) names) ≡ names
names_to d [] = refl
names_to d (n ∷ names) = ap (λ (ns : List Name). n ∷ ns) (names_to d names)

text_among : (text : List ℕ) (bits : List ℕ) (n : Name) → In n (map (bit_name text) bits) → n.text ≡ text
text_among text bits n h = let r = In-map_back (bit_name text) n bits h in ap (λ (x : Name). x.text) (sym r.2)

text_in : (text : List ℕ) (range : Option Range) (n : Name) → In n (names_in text range) → n.text ≡ text
text_in text None n h = elim (In-cases n _ [] h) [ inl e ↦ ap (λ (x : Name). x.text) (sym e) | inr i ↦ elim i [ ] ]
text_in text (Some r) n h = text_among text (range_bits r) n h

text_towards : (o : Option Dir) (s : Symbol) (n : Name) → In n (names_of (pins_towards o (symbol_names s))) → n.text ≡ s.text
text_towards None s n h = elim h [ ]
text_towards (Some d) s n h = text_in s.text s.range n (subst (λ (l : List Name). In n l) (names_to d (symbol_names s)) h)

no_supply_of : (s : Symbol) (n : Name) → In n (names_of (symbol_pins s)) → is_supply n.text ≡ false
no_supply_of s n h = by (is_supply s.text) refl h where
  by : (b : Bool) → is_supply s.text ≡ b → In n (names_of (cond b [] (pins_towards (pin_dir s.role) (symbol_names s)))) → is_supply n.text ≡ false
  by true e i = elim i [ ]
  by false e i = ap is_supply (text_towards (pin_dir s.role) s n i) ∙ e

no_supply_bits : (known : List Symbol) (n : Name) → In n (names_of (pin_bits known)) → is_supply n.text ≡ false
no_supply_bits [] n h = elim h [ ]
no_supply_bits (s ∷ known) n h =
    ⊎_elim (λ a. no_supply_of s n a) (λ b. no_supply_bits known n b)
    (In-split n (names_of (symbol_pins s)) (names_of (pin_bits known)) (subst (λ (l : List Name). In n l) (map-append (λ (p : Port). p.name) (symbol_pins s) (pin_bits known)) h))

in_bits : (bits pins : List Port) (n : Name) → IsPermutation bits pins → In n (names_of pins) → In n (names_of bits)
in_bits bits pins n moved h =
    let r = In-map_back (λ (p : Port). p.name) n pins h in
    subst (λ (x : Name). In x (names_of bits)) r.2 (In-map (λ (p : Port). p.name) r.0 bits (In-permutation pins bits r.0 (IsPermutation-sym bits pins moved) r.1))

abbrev IsSignal : Name → Type 0
IsSignal n = (n ≢ vdd) × (n ≢ vss)

signal : (n : Name) → IsNoSupply n → IsSignal n
signal n h = (λ e. h.0 (ap (λ (x : Name). x.text) e), λ e. h.1 (ap (λ (x : Name). x.text) e))

-- ---- what is known by the text

pub record IsKnown (c : Cell) : Type 0 where
  pub function : FitsPins c c.function
  pub order : AreInOrder (names_of (pin_ports c))
  pub signals : (n : Name) → In n (names_of (pin_ports c)) → IsSignal n

known_by : (design : DesignFile) (o : Option Machine) (f : Parts) (c : Cell) → IsBehaviour design o → ArePins (pin_bits (symbols design)) o (pin_ports c)
    → IsFunctionOf o f → c.function ≡ function_view f → IsKnown c
known_by design (Some m) f c b same h is = record {
  function = subst (λ (x : Function). FitsPins c x) (sym is) (fits_machine c m same b.1.checked f h);
  order = subst (λ (l : List Port). AreInOrder (names_of l)) (sym same) b.1.checked.ports;
  signals = λ n i.
      signal n
      (All-In IsNoSupply (names_of m.ports ++ m.vars) b.1.checked.supplies n
      (In-left n (names_of m.ports) m.vars (subst (λ (l : List Port). In n (names_of l)) same i)));
}
known_by design None f c b p h is = record {
  function = subst (λ (x : Function). FitsPins c x) (sym (is ∙ ap function_view h)) tt;
  order = p.1;
  signals = λ n i. signal n (supply_not n.text (no_supply_bits (symbols design) n (in_bits (pin_bits (symbols design)) (pin_ports c) n p.0 i)));
}

known : (vbe : List ℕ) (text : CellText) (c : Cell) → IsCellText vbe text → DoesAs text c → IsKnown c
known vbe text c t d =
    known_by t.design text.machine d.computed c t.behaviour
    (subst (λ (l : List Port). ArePins (pin_bits (symbols t.design)) text.machine l) (sym (ports_are text c d)) t.pins) d.computes d.function

pub pins_different : (source : Source) (c : Cell) → IsSaid source c → AllDifferent (names_of (pin_ports c))
pins_different source c s = different_in_order (names_of (pin_ports c)) (known source.vbe s.text c s.text_read s.does).order

-- ---- what is known by the layout

coordinate : (z : ℤ) → IsNear z → IsCoordinate z
coordinate z h = record { low = omega (arith, ints, h); high = omega (arith, ints, h) }

item_ready : (one : Item) → IsItemWithin one → IsWide one → IsReady one
item_ready (item.Segment s) h w = record {
  x1 = coordinate s.x1 h.0;
  y1 = coordinate s.y1 h.1;
  x2 = coordinate s.x2 h.2;
  y2 = coordinate s.y2 h.3;
  positive = w;
  width = coordinate s.width h.4;
}
item_ready (item.Connector c) h w = record { x = coordinate c.x h.0; y = coordinate c.y h.1; positive = w; width = coordinate c.width h.2 }
item_ready (item.Via v) h w = record { x = coordinate v.x h.0; y = coordinate v.y h.1 }
item_ready (item.Instance i) h w = tt
item_ready (item.Reference r) h w = tt
item_ready (item.Remark text) h w = tt

pub record IsDrawable (bounds : Rect) (items : List Item) : Type 0 where
  pub rect : IsRect bounds
  pub coordinates : HasCoordinates bounds
  pub ready : All IsReady items
  pub few : length items < 2 ^ 31

drawable : (layout : List ℕ) (f : Figure) → IsApText layout f → IsDrawable f.bounds f.items
drawable layout f t =
    let within = items_within layout f t in
    let wide = widths_positive layout f t in
    let box = box_ready layout f t in
    let few = t.few in
    record {
      rect = (what_is_read layout f t).0.box;
      coordinates = record { x1 = coordinate f.bounds.x1 box.0; y1 = coordinate f.bounds.y1 box.1; x2 = coordinate f.bounds.x2 box.2; y2 = coordinate f.bounds.y2 box.3 };
      ready = λ k d h. item_ready (get_or f.items k d) (within k d h) (wide k d h);
      few = omega (arith, few_items layout f t, few);
    }

seen : (c : Cell) (f : Figure) → LooksAs f c → IsDrawable f.bounds f.items → IsDrawable c.bounds c.items
seen c f looks d =
    subst (λ (l : List Item). IsDrawable c.bounds l) (sym looks.items) (subst (λ (r : Rect). IsDrawable r f.items) (sym looks.bounds) d)

pub formed : (source : Source) (c : Cell) → IsSaid source c → IsFormed c
formed source c s =
    let k = known source.vbe s.text c s.text_read s.does in
    let d = seen c s.figure s.looks (drawable source.ap s.figure s.layout_read.text) in
    record {
      function = k.function;
      order = λ p q e a b. ap is_lt (k.order p q e a b);
      signals = k.signals;
      bounds = d.rect;
      coordinates = d.coordinates;
      ready = d.ready;
      few = d.few;
    }
