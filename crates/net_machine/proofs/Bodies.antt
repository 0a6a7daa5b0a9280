-- What is known of the body of a cell that fits its pins.
use Rattle.std.proofs.Common.{◌≡◌, ℕ, suc, ◌+◌, ◌≤◌, true, not, List, [], ◌∷◌, map, length, filter, Some, refl, sym, ap, ◌∙◌, subst, arith, length-append}
use Rattle.std.specs.List.{All}
use Rattle.std.proofs.lemmas.List.{length-map}
use Rattle.vlsi_base.specs.declared.name.Name.{Name}
use Rattle.vlsi_base.specs.declared.name.Port.{Port}
use Rattle.vlsi_base.specs.declared.name.Dir.{Dir}
use Rattle.vlsi_base.specs.declared.name.Dir.TheVariants as dir
use Rattle.vlsi_base.specs.Member.{In, here, there}
use Rattle.bool_expr.specs.Expression.{Expression, constant, variable, inverse, pair, choice, IsOver}
use Rattle.machine_core.specs.Machine.{Machine, Equation, Register, is_input, is_clock, names_of, inputs, input_ports, outputs, register_names}
use Rattle.machine_core.specs.Order.{held_names, equation_names, EachReadsBelow}
use Rattle.machine_core.specs.Checked.{IsChecked}
use Rattle.machine_core.proofs.Values.{In-right}
use Rattle.source_checks.specs.Formula.{place}
use Rattle.vlsi_model.proofs.Members.{In-map_back}
use Rattle.vlsi_model.proofs.PortBits.{In-filter}
use Rattle.vlsi_model.proofs.Numbering.{place_within}
use Rattle.vlsi_model.proofs.Assembly.{All-from_In}
use Rattle.cell_model.specs.Cell.{Function, gate, flip_flop, other, opaque, Cell, pin_ports, cell_inputs, cell_outputs}
use Rattle.cell_model.specs.Usable.{FitsPins}
use Rattle.net_machine.specs.Body.{Load, Shown, body_of}
use Rattle.net_machine.specs.Known.{clock_pin}
use Rattle.net_machine.specs.Gathered.{bits_count, IsBodyOver}

pub All_is : {A : Type 0} (P : A → Type 0) (xs : List A) → All P xs → (x : A) → In x xs → P x
All_is P (y ∷ xs) all x here = all 0 y (omega arith)
All_is P (y ∷ xs) all x (there i) = All_is P xs (λ k d l. all (suc k) d (omega (arith, l))) x i
All_is P [] all x i = elim i [ ]

-- a pin of this name and direction
pub record IsPin (c : Cell) (name : Name) (d : Dir) : Type 0 where
  pub port : Port
  pub listed : In port (pin_ports c)
  pub name_is : port.name ≡ name
  pub dir_is : port.dir ≡ d

is_in : (d : Dir) → is_input d ≡ true → d ≡ dir.In
is_in dir.In e = refl
is_in dir.Out e = absurd cc

is_out : (d : Dir) → not (is_input d) ≡ true → d ≡ dir.Out
is_out dir.In e = absurd cc
is_out dir.Out e = refl

pub input_pin : (c : Cell) (name : Name) → In name (cell_inputs c) → IsPin c name dir.In
input_pin c name i =
    let r = In-map_back (λ (p : Port). p.name) name (filter (λ (p : Port). is_input p.dir) (pin_ports c)) i in
    let f = In-filter (λ (p : Port). is_input p.dir) (pin_ports c) r.0 r.1 in
    record { port = r.0; listed = f.0; name_is = r.2; dir_is = is_in r.0.dir f.1 }

pub output_pin : (c : Cell) (name : Name) → In name (cell_outputs c) → IsPin c name dir.Out
output_pin c name i =
    let r = In-map_back (λ (p : Port). p.name) name (filter (λ (p : Port). not (is_input p.dir)) (pin_ports c)) i in
    let f = In-filter (λ (p : Port). not (is_input p.dir)) (pin_ports c) r.0 r.1 in
    record { port = r.0; listed = f.0; name_is = r.2; dir_is = is_out r.0.dir f.1 }

machine_inputs : (c : Cell) (m : Machine) → m.ports ≡ pin_ports c → input_ports m ≡ cell_inputs c
machine_inputs c m e = ap (λ (ps : List Port). names_of (filter (λ p. is_input p.dir) ps)) e

pub machine_outputs : (c : Cell) (m : Machine) → m.ports ≡ pin_ports c → outputs m ≡ cell_outputs c
machine_outputs c m e = ap (λ (ps : List Port). names_of (filter (λ p. not (is_input p.dir)) ps)) e

pub reads_pin : (c : Cell) (f : Function) → FitsPins c f → (name : Name) → In name (body_of c f).reads → IsPin c name dir.In
reads_pin c (gate e) fits name i = input_pin c name i
reads_pin c (flip_flop d k) fits name here = input_pin c d fits.2
reads_pin c (flip_flop d k) fits name (there i) = absurd (elim i [ ])
reads_pin c (other m) fits name i = input_pin c name (subst (λ (ns : List Name). In name ns) (machine_inputs c m fits.0) (In-filter (λ n. not (is_clock m.clock n)) (input_ports m) name i).0)
reads_pin c opaque fits name i = absurd (elim i [ ])

shown_output : (c : Cell) (f : Name → Shown) → ((o : Name) → (f o).pin ≡ o) → (names : List Name) → names ≡ cell_outputs c → (s : Shown) → In s (map f names) → IsPin c s.pin dir.Out
shown_output c f same names e s i =
    let r = In-map_back f s names i in
    let n : r.0 ≡ s.pin = sym (same r.0) ∙ ap (λ (x : Shown). x.pin) r.2 in
    output_pin c s.pin (subst (λ (x : Name). In x (cell_outputs c)) n (subst (λ (ns : List Name). In r.0 ns) e r.1))

pub shows_pin : (c : Cell) (f : Function) → FitsPins c f → (s : Shown) → In s (body_of c f).shows → IsPin c s.pin dir.Out
shows_pin c (gate e) fits s i = shown_output c (λ o. record { pin = o; expr = e }) (λ o. refl) (cell_outputs c) refl s i
shows_pin c (flip_flop d k) fits s i = shown_output c (λ o. record { pin = o; expr = variable 1 }) (λ o. refl) (cell_outputs c) refl s i
shows_pin c (other m) fits s i = shown_output c (λ o. record { pin = o; expr = variable (place m.vars o) }) (λ o. refl) (outputs m) (machine_outputs c m fits.0) s i
shows_pin c opaque fits s i = absurd (elim i [ ])

pub clock_is_pin : (c : Cell) (f : Function) → FitsPins c f → (name : Name) → clock_pin f ≡ Some name → IsPin c name dir.In
clock_is_pin c (gate e) fits name h = absurd cc
clock_is_pin c (flip_flop d k) fits name h = let same : k ≡ name = cc in subst (λ (x : Name). IsPin c x dir.In) same (input_pin c k fits.3)
clock_is_pin c (other m) fits name h = input_pin c name (subst (λ (ns : List Name). In name ns) (machine_inputs c m fits.0) (fits.1.clock name h).port)
clock_is_pin c opaque fits name h = absurd cc

-- ---- its expressions are over its bits

pub machine_bits : (c : Cell) (m : Machine) → IsChecked m → bits_count (body_of c (other m)) ≡ length m.vars
machine_bits c m h =
    let v = ap length h.ordered.vars in
    let a = length-append (held_names m) (equation_names m) in
    let b = length-append (inputs m) (register_names m) in
    let r = length-map m.registers (λ (r : Register). r.name) in
    let e = length-map m.equations (λ (e : Equation). e.name) in
    let rl = length-map {B = Load} m.registers (λ (r : Register). record { next = r.next; enable = r.enable }) in
    let el = length-map m.equations (λ (e : Equation). e.expr) in
    omega (arith, v, a, b, r, e, rl, el)

weaken : (e : Expression) (n k : ℕ) → IsOver e n → n ≤ k → IsOver e k
weaken (constant b) n k o l = tt
weaken (variable j) n k o l = omega (arith, o, l)
weaken (inverse e) n k o l = weaken e n k o l
weaken (pair g a b) n k o l = (weaken a n k o.0 l, weaken b n k o.1 l)
weaken (choice c a b) n k o l = (weaken c n k o.0 l, (weaken a n k o.1.0 l, weaken b n k o.1.1 l))

below_over : (n total : ℕ) (es : List Equation) → EachReadsBelow n es → n + length es ≤ total → (e : Expression) → In e (map (λ (x : Equation). x.expr) es) → IsOver e total
below_over n total (x ∷ es) h l e here = weaken x.expr n total h.0 (omega (arith, l))
below_over n total (x ∷ es) h l e (there i) = below_over (n + 1) total es h.1 (omega (arith, l)) e i
below_over n total [] h l e i = elim i [ ]

pub body_over : (c : Cell) (f : Function) → FitsPins c f → IsBodyOver (body_of c f)
body_over c (gate e) fits = record {
  next = λ k d l. absurd (omega (arith, l));
  enable = λ k d l. absurd (omega (arith, l));
  inner = λ k d l. absurd (omega (arith, l));
  shows = All-from_In (λ (s : Shown). IsOver s.expr (bits_count (body_of c (gate e)))) (body_of c (gate e)).shows
      (λ s i.
      let r = In-map_back (λ (o : Name). record { pin = o; expr = e }) s (cell_outputs c) i in
      let n : length (cell_inputs c) ≡ bits_count (body_of c (gate e)) = omega arith in
      subst (λ (x : Shown). IsOver x.expr (bits_count (body_of c (gate e)))) r.2 (subst (IsOver e) n fits.2));
}
body_over c (flip_flop d k) fits = record {
  next = All-from_In (λ (l : Load). IsOver l.next 2) (body_of c (flip_flop d k)).loads (λ l i. one_load l i);
  enable = All-from_In (λ (l : Load). IsOver l.enable 2) (body_of c (flip_flop d k)).loads (λ l i. one_enable l i);
  inner = λ k d l. absurd (omega (arith, l));
  shows = All-from_In (λ (s : Shown). IsOver s.expr 2) (body_of c (flip_flop d k)).shows
      (λ s i. let r = In-map_back (λ (o : Name). record { pin = o; expr = variable 1 }) s (cell_outputs c) i in subst (λ (x : Shown). IsOver x.expr 2) r.2 (omega arith));
} where
  one_load : (l : Load) → In l (record { next = variable 0; enable = constant true } ∷ []) → IsOver l.next 2
  one_load l here = omega arith
  one_load l (there i) = elim i [ ]

  one_enable : (l : Load) → In l (record { next = variable 0; enable = constant true } ∷ []) → IsOver l.enable 2
  one_enable l here = tt
  one_enable l (there i) = elim i [ ]
body_over c (other m) fits = record {
  next = All-from_In (λ (l : Load). IsOver l.next total) loads (λ l i. (load l i).0);
  enable = All-from_In (λ (l : Load). IsOver l.enable total) loads (λ l i. (load l i).1);
  inner = All-from_In (λ (e : Expression). IsOver e total) (map (λ (x : Equation). x.expr) m.equations) inner;
  shows = All-from_In (λ (s : Shown). IsOver s.expr total) (body_of c (other m)).shows shows;
} where
  total : ℕ
  total = bits_count (body_of c (other m))

  loads : List Load
  loads = map (λ (r : Register). record { next = r.next; enable = r.enable }) m.registers

  many : length m.vars ≡ bits_count (body_of c (other m))
  many = sym (machine_bits c m fits.1)

  load : (l : Load) → In l loads → IsOver l.next total × IsOver l.enable total
  load l i =
      let r = In-map_back (λ (r : Register). record { next = r.next; enable = r.enable }) l m.registers i in
      let o = All_is (λ (r : Register). IsOver r.next (length m.vars) × IsOver r.enable (length m.vars)) m.registers fits.1.loads r.0 r.1 in
      subst (λ (x : Load). IsOver x.next total × IsOver x.enable total) r.2 (subst (IsOver r.0.next) many o.0, subst (IsOver r.0.enable) many o.1)

  inner : (e : Expression) → In e (map (λ (x : Equation). x.expr) m.equations) → IsOver e total
  inner e i =
      let v = ap length fits.1.ordered.vars in
      let a = length-append (held_names m) (equation_names m) in
      let q = length-map m.equations (λ (e : Equation). e.name) in
      below_over (length (held_names m)) total m.equations fits.1.ordered.below (omega (arith, v, a, q, many)) e i

  shows : (s : Shown) → In s (body_of c (other m)).shows → IsOver s.expr total
  shows s i =
      let r = In-map_back (λ (o : Name). record { pin = o; expr = variable (place m.vars o) }) s (outputs m) i in
      let o : In r.0 m.vars = subst (λ (ns : List Name). In r.0 ns) (sym fits.1.ordered.vars) (In-right r.0 (held_names m) (equation_names m) (fits.1.driven r.0 r.1)) in
      let w = place_within m.vars r.0 o in
      subst (λ (x : Shown). IsOver x.expr total) r.2 (omega (arith, w, many))
body_over c opaque fits = record {
  next = λ k d l. absurd (omega (arith, l));
  enable = λ k d l. absurd (omega (arith, l));
  inner = λ k d l. absurd (omega (arith, l));
  shows = λ k d l. absurd (omega (arith, l));
}
