-- A cell of one input, as it is put in.
use Rattle.std.proofs.Common.{◌≡◌, ◌≢◌, inl, inr, ℕ, suc, ◌+◌, ◌<◌, ◌≤◌, Bool, true, false, not, ◌&&◌, ◌||◌, List, [], ◌∷◌, map, filter, length, Option, Some, refl, sym, ◌∙◌, ap, subst, arith, length-append, if◌then◌else◌}
use Rattle.std.specs.List.{list_any}
use Rattle.vlsi_base.specs.declared.name.Name.{Name}
use Rattle.vlsi_base.specs.declared.name.Port.{Port}
use Rattle.vlsi_base.specs.Names.{vdd, vss, comes_before}
use Rattle.vlsi_base.specs.Member.{In, here, there, AllDifferent}
use Rattle.bool_expr.specs.Expression.{Expression}
use Rattle.machine_core.specs.Machine.{is_input, names_of}
use Rattle.machine_core.specs.Named.{is_same_name}
use Rattle.machine_core.proofs.Names.{same_name-true, same_name-itself, same_name-false}
use Rattle.vlsi_base.specs.declared.kind.Kind.TheVariants as kind
use Rattle.cell_model.specs.Cell.{Function, gate, flip_flop, other, opaque, Cell, pin_ports, cell_inputs}
use Rattle.cell_model.specs.Covering.{IsFunctionOf}
use Rattle.cell_model.specs.Library.{Library, cell_of, cell_named, IsUsable, IsPlain}
use Rattle.cell_model.specs.Usable.{IsFormed}
use Rattle.cell_model.proofs.Members.{All-In, In-map, In-map_back}
use Rattle.cell_model.proofs.Texts.{text_itself, text_differs}
use Rattle.cell_checks.specs.Checked.{IsChecked}
use Rattle.cell_pins.specs.Pins.{supply, with_supply, all_ports}
use Rattle.cell_pins.proofs.Ports.{in_filter, all_sorted, sorted_of, sorted_pairs, sorted_different, before_trans, before_itself}
use Rattle.cell_pins.proofs.Sound.{Apart, apart_first, apart_rest, member_at}
use Rattle.net_core.specs.Netlist.{AreInOrder, port}
use Rattle.net_core.specs.Places.{Stands}
use Rattle.net_right.proofs.Ports.{both_cases, port_stays}
use Rattle.net_theory.proofs.Basics.{length-map}
use Rattle.net_right.proofs.Lists.{filter_in}
use Rattle.loon_wiring.specs.declared.repeater.Tie.TheVariants as tie
use Rattle.loon_wiring.specs.declared.wiring.Wiring.{Wiring}
use Rattle.loon_loads.specs.Sinks.{is_clock_of, is_sink_of}
use Rattle.loon_fanout.specs.Sinks.{Wired}
use Rattle.loon_fanout.specs.Wired.{pin_class}
use Rattle.loon_wiring.specs.Repeaters.{Repeater, IsRepeater, buffer, inverters, GivesItsInput, IsBufferCell, IsInverterCell}
use Rattle.loon_wiring.specs.Stages.{tie_of, is_read, read_place, ends_of, tied_class, next_class}
use Rattle.loon_fanout.proofs.Picking.{is_false, in_any, not_any, filter_none, filter_same, only_one}

-- what is needed of a cell that is put in
pub record IsGate (l : Library) (c : Cell) (input : Name) : Type 0 where
  pub found : cell_of l c.name ≡ Some c
  pub usable : IsUsable c
  pub sinks : filter (is_sink_of (cell_of l c.name)) (names_of (all_ports c)) ≡ input ∷ []
  pub different : AllDifferent (names_of (all_ports c))
  pub order : AreInOrder (names_of (all_ports c))
  pub reads : (w : Wired) (read : ℕ) → pin_class w c read input ≡ read
  pub ties : (w : Wired) (v : Wiring) (read : ℕ) → w.class (port vdd) ≡ v.high → w.class (port vss) ≡ v.low → w.count ≡ next_class v
      → map (tied_class (ends_of v read)) (map tie_of (all_ports c)) ≡ map (pin_class w c read) (names_of (all_ports c))
  pub place : (found place : ℕ) → (k : ℕ) × (read_place found place (map tie_of (all_ports c)) ≡ place + k) × Stands (names_of (all_ports c)) k input
  pub few : length (all_ports c) ≤ 4

-- ---- the place of a pin that reads

data Reading (ports : List Port) (found place : ℕ) : Type 0 where
  never : ((q : Port) → In q ports → is_read (tie_of q) ≡ false) → read_place found place (map tie_of ports) ≡ found → Reading ports found place
  once : (k : ℕ) (q : Port) → In q ports → is_read (tie_of q) ≡ true → read_place found place (map tie_of ports) ≡ place + k → Stands (names_of ports) k q.name
      → Reading ports found place

reading : (ports : List Port) (found place : ℕ) → Reading ports found place
reading [] found place = never (λ q i. elim i [ ]) refl
reading (p ∷ ports) found place = by (is_read (tie_of p)) refl (λ f. reading ports f (suc place)) where
  by : (b : Bool) → is_read (tie_of p) ≡ b → ((f : ℕ) → Reading ports f (suc place)) → Reading (p ∷ ports) found place
  by true e rest = elim (rest place) [
    | never none is ↦ once 0 p here e
        (ap (λ (b : Bool). read_place (if b then place else found) (suc place) (map tie_of ports)) e ∙ is ∙ (let n : place ≡ place + 0 = omega arith in n))
        refl
    | once k q i r is at ↦ once (suc k) q (there i) r
        (ap (λ (b : Bool). read_place (if b then place else found) (suc place) (map tie_of ports)) e ∙ is ∙ (let n : suc place + k ≡ place + suc k = omega arith in n))
        at
  ]
  by false e rest = elim (rest found) [
    | never none is ↦ never (λ q i. none_of q i none)
        (ap (λ (b : Bool). read_place (if b then place else found) (suc place) (map tie_of ports)) e ∙ is)
    | once k q i r is at ↦ once (suc k) q (there i) r
        (ap (λ (b : Bool). read_place (if b then place else found) (suc place) (map tie_of ports)) e ∙ is ∙ (let n : suc place + k ≡ place + suc k = omega arith in n))
        at
  ] where
    none_of : (q : Port) → In q (p ∷ ports) → ((r : Port) → In r ports → is_read (tie_of r) ≡ false) → is_read (tie_of q) ≡ false
    none_of q here none = e
    none_of q (there i) none = none q i

-- ---- cells by name

cell_found : (cells : List Cell) → Apart cells → (c : Cell) → In c cells → cell_named cells c.name ≡ Some c
cell_found [] apart c h = elim h [ ]
cell_found (d ∷ cells) apart c here = ap (λ (b : Bool). if b then Some d else cell_named cells d.name) (text_itself d.name)
cell_found (d ∷ cells) apart c (there h) =
    ap (λ (b : Bool). if b then Some d else cell_named cells c.name) (text_differs d.name c.name (apart_first d c cells apart h))
    ∙ cell_found cells (apart_rest d cells apart) c h

one_port : (ps : List Port) (p q : Port) → AllDifferent (names_of ps) → In p ps → In q ps → p.name ≡ q.name → p ≡ q
one_port [] p q d a b e = elim a [ ]
one_port (x ∷ ps) p q d here here e = refl
one_port (x ∷ ps) p q d here (there b) e = absurd (d.0 (subst (λ (n : Name). In n (names_of ps)) (sym e) (In-map (λ (y : Port). y.name) q ps b)))
one_port (x ∷ ps) p q d (there a) here e = absurd (d.0 (subst (λ (n : Name). In n (names_of ps)) e (In-map (λ (y : Port). y.name) p ps a)))
one_port (x ∷ ps) p q d (there a) (there b) e = one_port ps p q d.1 a b e

one_of : {A : Type 0} (xs : List A) → length xs ≡ 1 → (x : A) × (xs ≡ x ∷ [])
one_of [] h = absurd (omega (arith, h))
one_of (x ∷ []) h = (x, refl)
one_of (x ∷ y ∷ xs) h = absurd (omega (arith, h))

-- a name that stands once is found once
picked : (names : List Name) (name : Name) → AllDifferent names → In name names → filter (is_same_name name) names ≡ name ∷ []
picked [] name d i = elim i [ ]
picked (x ∷ names) name d here =
    ap (λ (b : Bool). if b then x ∷ filter (is_same_name x) names else filter (is_same_name x) names) (same_name-itself x)
    ∙ ap (λ (ns : List Name). x ∷ ns)
    (filter_none (is_same_name x) names (λ y i. is_false (is_same_name x y) (λ e. d.0 (subst (λ (n : Name). In n names) (sym (same_name-true x y e)) i))))
picked (x ∷ names) name d (there i) =
    ap (λ (b : Bool). if b then x ∷ filter (is_same_name name) names else filter (is_same_name name) names)
    (same_name-false name x (λ e. d.0 (subst (λ (n : Name). In n names) e i)))
    ∙ picked names name d.1 i

both_count : {A : Type 0} (p : A → Bool) (xs : List A) → length xs ≡ length (filter p xs) + length (filter (λ x. not (p x)) xs)
both_count p [] = omega arith
both_count {A} p (x ∷ xs) = by (p x) (both_count p xs) where
  by : (b : Bool) → length xs ≡ length (filter p xs) + length (filter (λ y. not (p y)) xs)
      → length (x ∷ xs) ≡ length (if b then x ∷ filter p xs else filter p xs) + length (if not b then x ∷ filter (λ y. not (p y)) xs else filter (λ y. not (p y)) xs)
  by true h = omega (arith, h)
  by false h = omega (arith, h)

fewer : {A : Type 0} (p : A → Bool) (xs : List A) → length (filter p xs) ≤ length xs
fewer p xs = let h = both_count p xs in omega (arith, h)

-- a supply is one pin more at most: ports before its name and behind it exclude each other
split_few : (ps : List Port) (p q : Port → Bool) → ((x : Port) → p x ≡ true → q x ≡ true → ⊥) → length (filter p ps) + length (filter q ps) ≤ length ps
split_few [] p q apart = omega arith
split_few (x ∷ ps) p q apart = by (p x) (q x) refl refl (split_few ps p q apart) where
  by : (a b : Bool) → p x ≡ a → q x ≡ b → length (filter p ps) + length (filter q ps) ≤ length ps
      → length (if a then x ∷ filter p ps else filter p ps) + length (if b then x ∷ filter q ps else filter q ps) ≤ length (x ∷ ps)
  by true true d e h = absurd (apart x d e)
  by true false d e h = omega (arith, h)
  by false true d e h = omega (arith, h)
  by false false d e h = omega (arith, h)

supplied_few : (name : Name) (ps : List Port) → length (with_supply name ps) ≤ length ps + 1
supplied_few name ps =
    let a = split_few ps (λ p. comes_before p.name name) (λ p. comes_before name p.name) (λ x p q. before_itself x.name (before_trans x.name name x.name p q)) in
    let b = length-append (filter (λ p. comes_before p.name name) ps) (supply name ∷ filter (λ p. comes_before name p.name) ps) in
    omega (arith, a, b)

-- ---- the cell

module _ (l : Library) (c : Cell) (checked : IsChecked false l) (inside : In c l.cells) (usable : IsUsable c) (e : Expression) (is_gate : c.function ≡ gate e)
    (one : length (cell_inputs c) ≡ 1) where
  formed : IsFormed c
  formed = All-In IsFormed l.cells checked.formed c inside

  abbrev input : Name
  input = (one_of (cell_inputs c) one).0

  input_is : cell_inputs c ≡ input ∷ []
  input_is = (one_of (cell_inputs c) one).1

  in_inputs : In input (cell_inputs c)
  in_inputs = subst (λ (ns : List Name). In input ns) (sym input_is) here

  found : cell_of l c.name ≡ Some c
  found = cell_found l.cells checked.names c inside

  record Input (name : Name) : Type 0 where
    pub p : Port
    pub listed : In p (pin_ports c)
    pub read : is_input p.dir ≡ true
    pub is : p.name ≡ name

  input_of : (name : Name) → In name (cell_inputs c) → Input name
  input_of name i =
      let r = In-map_back (λ (y : Port). y.name) name (filter (λ p. is_input p.dir) (pin_ports c)) i in
      let q = in_filter (λ (y : Port). is_input y.dir) (pin_ports c) r.0 r.1 in
      record { p = r.0; listed = q.0; read = q.1; is = r.2 }

  input_in : (p : Port) → In p (pin_ports c) → is_input p.dir ≡ true → In p.name (cell_inputs c)
  input_in p i read = In-map (λ (y : Port). y.name) p (filter (λ q. is_input q.dir) (pin_ports c)) (filter_in (λ q. is_input q.dir) (pin_ports c) p i read)

  own : (p : Port) → In p (pin_ports c) → (p.name ≢ vdd) × (p.name ≢ vss)
  own p i = formed.signals p.name (In-map (λ (y : Port). y.name) p (pin_ports c) i)

  in_all : (p : Port) → In p (pin_ports c) → In p (all_ports c)
  in_all p i = let o = own p i in port_stays (pin_ports c) p i o.0 o.1

  input_port : Input input
  input_port = input_of input in_inputs

  input_own : (input ≢ vdd) × (input ≢ vss)
  input_own = subst (λ (n : Name). (n ≢ vdd) × (n ≢ vss)) input_port.is (own input_port.p input_port.listed)

  -- an input by its direction is one by its name
  inputs_agree : (p : Port) → In p (pin_ports c) → is_input p.dir ≡ list_any (λ x. is_same_name x p.name) (cell_inputs c)
  inputs_agree p i = by (is_input p.dir) refl where
    by : (b : Bool) → is_input p.dir ≡ b → b ≡ list_any (λ x. is_same_name x p.name) (cell_inputs c)
    by true r = sym (in_any (λ (x : Name). is_same_name x p.name) (cell_inputs c) p.name (input_in p i r) (same_name-itself p.name))
    by false r = sym (not_any (λ (x : Name). is_same_name x p.name) (cell_inputs c) (λ x j s.
        let q = input_of x j in
        let same : q.p ≡ p = one_port (pin_ports c) q.p p (sorted_different (pin_ports c) (sorted_of (pin_ports c) formed.order)) q.listed i (q.is ∙ same_name-true x p.name s) in
        let wrong : true ≡ false = sym q.read ∙ ap (λ (y : Port). is_input y.dir) same ∙ r in cc wrong))

  tied : (w : Wired) (v : Wiring) (read : ℕ) → w.class (port vdd) ≡ v.high → w.class (port vss) ≡ v.low → w.count ≡ next_class v
      → (p : Port) → In p (all_ports c) → tied_class (ends_of v read) (tie_of p) ≡ pin_class w c read p.name
  tied w v read high low count p i =
      by (is_same_name p.name vdd) (is_same_name p.name vss) (is_input p.dir) (list_any (λ x. is_same_name x p.name) (cell_inputs c)) refl refl agree where
        agree : is_same_name p.name vdd ≡ false → is_same_name p.name vss ≡ false → is_input p.dir ≡ list_any (λ x. is_same_name x p.name) (cell_inputs c)
        agree a b = elim (both_cases (pin_ports c) p i) [
          | inl is ↦ absurd (let n = ap (λ (y : Port). is_same_name y.name vss) is in let wrong : false ≡ true = sym b ∙ n ∙ same_name-itself vss in cc wrong)
          | inr rest ↦ elim rest [
            | inl is ↦ absurd (let n = ap (λ (y : Port). is_same_name y.name vdd) is in let wrong : false ≡ true = sym a ∙ n ∙ same_name-itself vdd in cc wrong)
            | inr j ↦ inputs_agree p j
          ]
        ]

        by : (a b x y : Bool) → is_same_name p.name vdd ≡ a → is_same_name p.name vss ≡ b
            → (is_same_name p.name vdd ≡ false → is_same_name p.name vss ≡ false → x ≡ y)
            → tied_class (ends_of v read) (if a then tie.High else if b then tie.Low else if x then tie.Read else tie.Driven)
            ≡ (if a then w.class (port vdd) else if b then w.class (port vss) else if y then read else w.count)
        by true b x y d e same = sym high
        by false true x y d e same = sym low
        by false false true true d e same = refl
        by false false false false d e same = sym count
        by false false true false d e same = absurd (let wrong : true ≡ false = same d e in cc wrong)
        by false false false true d e same = absurd (let wrong : false ≡ true = same d e in cc wrong)

  map_tied : (w : Wired) (v : Wiring) (read : ℕ) (ports : List Port) → ((p : Port) → In p ports → tied_class (ends_of v read) (tie_of p) ≡ pin_class w c read p.name)
      → map (tied_class (ends_of v read)) (map tie_of ports) ≡ map (pin_class w c read) (names_of ports)
  map_tied w v read [] each = refl
  map_tied w v read (p ∷ ports) each =
      ap (λ (k : ℕ). k ∷ map (tied_class (ends_of v read)) (map tie_of ports)) (each p here)
      ∙ ap (λ (ks : List ℕ). pin_class w c read p.name ∷ ks) (map_tied w v read ports (λ q i. each q (there i)))

  reads : (w : Wired) (read : ℕ) → pin_class w c read input ≡ read
  reads w read =
      let among = in_any (λ (x : Name). is_same_name x input) (cell_inputs c) input in_inputs (same_name-itself input) in
      rw (same_name-false input vdd input_own.0, same_name-false input vss input_own.1, among) refl

  sunk : (name : Name) → is_sink_of (cell_of l c.name) name ≡ is_same_name input name
  sunk name =
      ap (λ (o : Option Cell). is_sink_of o name) found
      ∙ ap (λ (ns : List Name). list_any (λ pin. is_same_name pin name) ns && not (is_clock_of c.function name)) input_is
      ∙ ap (λ (f : Function). (is_same_name input name || false) && not (is_clock_of f name)) is_gate
      ∙ by (is_same_name input name) where
        by : (b : Bool) → ((b || false) && not false) ≡ b
        by true = refl
        by false = refl

  different : AllDifferent (names_of (all_ports c))
  different = sorted_different (all_ports c) (all_sorted c formed)

  input_listed : In input (names_of (all_ports c))
  input_listed = subst (λ (n : Name). In n (names_of (all_ports c))) input_port.is (In-map (λ (y : Port). y.name) input_port.p (all_ports c) (in_all input_port.p input_port.listed))

  sinks_are : filter (is_sink_of (cell_of l c.name)) (names_of (all_ports c)) ≡ input ∷ []
  sinks_are =
      filter_same (is_sink_of (cell_of l c.name)) (is_same_name input) (names_of (all_ports c)) (λ name i. sunk name)
      ∙ picked (names_of (all_ports c)) input different input_listed

  -- a pin that reads is the input
  read_is : (q : Port) → In q (all_ports c) → is_read (tie_of q) ≡ true → q.name ≡ input
  read_is q i r = by (is_same_name q.name vdd) (is_same_name q.name vss) (is_input q.dir) refl refl refl r where
    by : (a b x : Bool) → is_same_name q.name vdd ≡ a → is_same_name q.name vss ≡ b → is_input q.dir ≡ x
        → is_read (if a then tie.High else if b then tie.Low else if x then tie.Read else tie.Driven) ≡ true → q.name ≡ input
    by true b x d e f h = absurd (cc h)
    by false true x d e f h = absurd (cc h)
    by false false false d e f h = absurd (cc h)
    by false false true d e f h = elim (both_cases (pin_ports c) q i) [
      | inl is ↦ absurd (let n = ap (λ (y : Port). is_same_name y.name vss) is in let wrong : false ≡ true = sym e ∙ n ∙ same_name-itself vss in cc wrong)
      | inr rest ↦ elim rest [
        | inl is ↦ absurd (let n = ap (λ (y : Port). is_same_name y.name vdd) is in let wrong : false ≡ true = sym d ∙ n ∙ same_name-itself vdd in cc wrong)
        | inr j ↦ only_one q.name input (subst (λ (ns : List Name). In q.name ns) input_is (input_in q j f))
      ]
    ]

  input_reads : is_read (tie_of input_port.p) ≡ true
  input_reads =
      let o = own input_port.p input_port.listed in
      rw (same_name-false input_port.p.name vdd o.0, same_name-false input_port.p.name vss o.1, input_port.read) refl

  placed : (found place : ℕ) → (k : ℕ) × (read_place found place (map tie_of (all_ports c)) ≡ place + k) × Stands (names_of (all_ports c)) k input
  placed f place = elim (reading (all_ports c) f place) [
    | never none is ↦ absurd (let wrong : true ≡ false = sym input_reads ∙ none input_port.p (in_all input_port.p input_port.listed) in cc wrong)
    | once k q i r is at ↦ (k, is, subst (λ (n : Name). Stands (names_of (all_ports c)) k n) (read_is q i r) at)
  ]

  few_pins : length (all_ports c) ≤ 4
  few_pins =
      let plain : IsPlain c (gate e) = subst (λ (u : Function). IsPlain c u) is_gate usable.function in
      let outs = plain.0 in
      let a = both_count (λ (p : Port). is_input p.dir) (pin_ports c) in
      let ins = length-map (λ (p : Port). p.name) (filter (λ p. is_input p.dir) (pin_ports c)) in
      let others = length-map (λ (p : Port). p.name) (filter (λ p. not (is_input p.dir)) (pin_ports c)) in
      let b = supplied_few vdd (pin_ports c) in
      let d = supplied_few vss (with_supply vdd (pin_ports c)) in
      omega (arith, a, ins, others, b, d, outs, one)

  pub gate_fits : (name : Name) × IsGate l c name
  gate_fits = (
    input,
    record {
      found = found;
      usable = usable;
      sinks = sinks_are;
      different = different;
      order = sorted_pairs (all_ports c) (all_sorted c formed);
      reads = reads;
      ties = λ w v read high low count. map_tied w v read (all_ports c) (tied w v read high low count);
      place = placed;
      few = few_pins;
    },
  )

-- ---- repeaters

-- a gate of one input
record OneInput (c : Cell) : Type 0 where
  pub usable : IsUsable c
  pub e : Expression
  pub is_gate : c.function ≡ gate e
  pub one : length (cell_inputs c) ≡ 1

of_buffer : (c : Cell) → IsBufferCell c → OneInput c
of_buffer c b = by c.function refl b.1 where
  by : (f : Function) → c.function ≡ f → GivesItsInput f (length (cell_inputs c)) → OneInput c
  by (gate e) is g = record { usable = b.0; e = e; is_gate = is; one = g.0 }
  by (flip_flop data_pin clock_pin) is g = absurd g
  by (other machine) is g = absurd g
  by opaque is g = absurd g

of_inverter : (c : Cell) → IsInverterCell c → OneInput c
of_inverter c b = by c.function refl b.1 where
  by : (f : Function) → c.function ≡ f → IsFunctionOf f (length (cell_inputs c)) kind.Inv → OneInput c
  by (gate e) is g = record { usable = b.0; e = e; is_gate = is; one = g.0 }
  by (flip_flop data_pin clock_pin) is g = absurd (cc g)
  by (other machine) is g = absurd g
  by opaque is g = absurd g

-- one gate or two, of a cell that fits
pub record Chosen (l : Library) (b : Repeater) : Type 0 where
  pub input : Name
  pub fits : IsGate l b.cell input
  pub some : 0 < b.gates
  pub two : b.gates ≤ 2

pub chosen : (l : Library) (b : Repeater) → IsChecked false l → IsRepeater l.cells b → Chosen l b
chosen l b checked (buffer {c = c} first) =
    let o = of_buffer c first.holds in
    let g = gate_fits l c checked (member_at l.cells first.place c first.stands) o.usable o.e o.is_gate o.one in
    record { input = g.0; fits = g.1; some = omega arith; two = omega arith }
chosen l b checked (inverters {c = c} none first) =
    let o = of_inverter c first.holds in
    let g = gate_fits l c checked (member_at l.cells first.place c first.stands) o.usable o.e o.is_gate o.one in
    record { input = g.0; fits = g.1; some = omega arith; two = omega arith }
