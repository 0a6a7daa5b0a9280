-- A machine and the machine of its bits with other names settle alike.
use Rattle.std.proofs.Common.{◌≡◌, ◌⊎◌, inl, inr, ℕ, zero, suc, ◌+◌, ◌<◌, ◌≤◌, Bool, true, false, cond, not, List, [], ◌∷◌, ◌++◌, map, length, get_or, take, drop, filter, Option, None, Some, refl, sym, ap, ◌∙◌, subst, arith, append_assoc, length-append}
use Rattle.std.specs.Prelude.{slice_index}
use Rattle.std.specs.List.Sorted.{IsPermutation}
use Rattle.std.proofs.lemmas.List.{length-map, map-append, get_or-map, get_or-take, length-drop}
use Rattle.std.proofs.lemmas.List.Sorted.{IsPermutation-map}
use Rattle.vlsi_base.specs.declared.name.Name.{Name}
use Rattle.vlsi_base.specs.declared.name.Port.{Port}
use Rattle.vlsi_base.specs.declared.name.Dir.{Dir}
use Rattle.vlsi_base.specs.declared.name.Dir.TheVariants as dir
use Rattle.vlsi_base.specs.Range.{rising}
use Rattle.vlsi_base.specs.Member.{In, here, there, AllDifferent}
use Rattle.bool_expr.specs.Expression.{constant, bit, val}
use Rattle.machine_core.specs.Named.{value_at, values_at, is_same_name}
use Rattle.machine_core.specs.Machine.{Machine, Equation, Register, is_input, is_clock, names_of, inputs, input_ports, outputs, register_names}
use Rattle.machine_core.specs.Cycles.{Settles, next}
use Rattle.machine_core.specs.Order.{held_names, equation_names}
use Rattle.machine_core.specs.Checked.{IsChecked}
use Rattle.machine_core.proofs.Names.{same_name-true, same_name-false}
use Rattle.machine_core.proofs.Values.{In-map, bit-value_at}
use Rattle.source_bits.specs.Driven.{Numbered, NumberedStorage}
use Rattle.vlsi_model.specs.Numbered.{name_at}
use Rattle.vlsi_model.proofs.Members.{In-cases, In-map_back}
use Rattle.vlsi_model.proofs.PortBits.{In-filter, filter-In}
use Rattle.vlsi_model.proofs.Sorting.{place_of_In}
use Rattle.vlsi_model.proofs.Building.{map-then, map_same}
use Rattle.net_core.specs.Places.{Stands}
use Rattle.bit_machine.specs.System.{System, stored_bits, BitsSettle, bits_next, bits_shown, IsMachineOfBits}
use Rattle.bit_machine.proofs.Showing.{shown_at}
use Rattle.bit_machine.proofs.Built.{All_In}
use Rattle.net_machine.proofs.Local.{machine_equation, settled_pieces}
use Rattle.net_machine.proofs.Places.{bits_between, bit_right}
use Rattle.net_machine.proofs.Knowing.{stands_of}
use Rattle.net_flat.specs.declared.renaming.Seat.{Seat}
use Rattle.net_flat.specs.Renamed.{seat_at, register_at, stored_of, driven_from, inner_name, inner_names, is_port, IsRenamed, ComesTo, AreRenamed, AreFree}
use Rattle.net_flat.proofs.Lists.{name_left, name_right, names_whole}
use Rattle.net_flat.proofs.Bits.{Setting, system, ins, regs, eqs, inner, names_count, vars_count, held_count, equations_count, seat_is, seat_bit, stored_are, seats_named, output_kept, port_kept, clock_apart}

-- the equations' bits, one by one
record IsDrivenAt (k : ℕ) (es : List Equation) (d : Numbered) : Type 0 where
  j : ℕ
  e : Equation
  low : j < length es
  at : (o : Equation) → get_or es j o ≡ e
  bit_is : d.bit ≡ k + j
  expr_is : d.expr ≡ e.expr

driven_at : (k : ℕ) (es : List Equation) (d : Numbered) → In d (driven_from k es) → IsDrivenAt k es d
driven_at k [] d i = elim i [ ]
driven_at k (e ∷ es) d i = elim (In-cases d (record { bit = k; expr = e.expr }) (driven_from (k + 1) es) i) [
  | inl same ↦ record { j = 0; e = e; low = omega arith; at = λ o. refl; bit_is = ap (λ (x : Numbered). x.bit) (sym same) ∙ (let z : k ≡ k + 0 = omega arith in z); expr_is = ap (λ (x : Numbered). x.expr) (sym same) }
  | inr m ↦
      let r = driven_at (k + 1) es d m in
      let l = r.low in
      let b = r.bit_is in
      record { j = suc r.j; e = r.e; low = omega (arith, l); at = r.at; bit_is = omega (arith, b); expr_is = r.expr_is }
]

module _ (g : Setting) (hs i x : List Bool) (h : Settles g.m hs i x) where
  pieces : (take (length (inputs g.m)) x ≡ i) × (x ≡ i ++ drop (length (inputs g.m)) x) × (take (length g.m.registers) (drop (length (inputs g.m)) x) ≡ hs)
  pieces = settled_pieces g.m i hs x g.checked h

  input_count : length i ≡ ins g
  input_count = ap length (sym h.inputs) ∙ length-map (inputs g.m) (value_at g.m.vars x)

  -- a register's bit is what it holds
  held_bit : (k : ℕ) → k < regs g → bit x (ins g + k) ≡ bit hs k
  held_bit k l =
      let tail = drop (ins g) x in
      let n = input_count in
      let z : ins g + k ≡ length i + k = omega (arith, n) in
      ap (λ (w : List Bool). bit w (ins g + k)) pieces.1 ∙ ap (bit (i ++ drop (ins g) x)) z ∙ bit_right i (drop (ins g) x) k
      ∙ sym (get_or-take (regs g) (drop (ins g) x) k false l) ∙ ap (λ (w : List Bool). bit w k) pieces.2

  equation_holds : (k : ℕ) (e : Equation) → k < eqs g → ((o : Equation) → get_or g.m.equations k o ≡ e) → bit x (ins g + regs g + k) ≡ val e.expr x
  equation_holds k e l at =
      let s : Stands g.m.equations k e = stands_of g.m.equations k e l (sym (at e)) in
      let c = length-map g.m.registers (λ (r : Register). r.name) in
      let z : ins g + regs g + k ≡ length (inputs g.m) + length (register_names g.m) + k = omega (arith, c) in
      ap (bit x) z ∙ machine_equation g.m x g.checked h.each k e s ∙ subst (λ (y : Equation). value_at g.m.vars x y.name ≡ val y.expr x) (at e) (h.equations k e l)

  pub bits_settle : BitsSettle (system g) (map (λ (s : Seat). bit hs s.place) g.seats) i x
  bits_settle = record {
    each = h.each ∙ vars_count g ∙ sym (names_count g);
    inputs = ap (λ (w : List Bool). map (bit w) (rising 0 (ins g))) pieces.1 ∙ bits_between [] i (drop (ins g) x) 0 (ins g) refl (sym input_count);
    stored = ap (map (bit x)) (stored_are g) ∙ map-then (bit x) (seat_bit g) g.seats
        ∙ map_same (λ (s : Seat). bit x (seat_bit g s)) (λ (s : Seat). bit hs s.place) g.seats (λ s j. held_bit s.place (seat_is g s j).0);
    driven = λ d j.
        let r = driven_at (ins g + regs g) g.m.equations d j in
        ap (bit x) r.bit_is ∙ equation_holds r.j r.e r.low r.at ∙ ap (λ e. val e x) (sym r.expr_is);
  }

  -- the bit of a register by its name
  register_bit : (k : ℕ) → k < regs g → bit x (ins g + k) ≡ value_at g.m.vars x (register_at g.m.registers k).name
  register_bit k l =
      let n = vars_count g in
      let c = length-map g.m.registers (λ (r : Register). r.name) in
      let low : k < length (register_names g.m) = omega (arith, l, c) in
      let at : get_or g.m.vars (ins g + k) (register_at g.m.registers k).name ≡ (register_at g.m.registers k).name =
      ap (λ (ns : List Name). get_or ns (ins g + k) (register_at g.m.registers k).name) (g.checked.ordered.vars ∙ append_assoc (inputs g.m) (register_names g.m) (equation_names g.m))
      ∙ at_right (inputs g.m) (register_names g.m ++ equation_names g.m) k (register_at g.m.registers k).name
      ∙ at_left (register_names g.m) (equation_names g.m) k (register_at g.m.registers k).name low
      ∙ get_or-map (λ (r : Register). r.name) g.m.registers k (register_at g.m.registers k) (register_at g.m.registers k).name l
      ∙ ap (λ (r : Register). r.name) (same g.m.registers k l) in
      bit-value_at g.m.vars x (ins g + k) (register_at g.m.registers k).name g.checked.ordered.different h.each (omega (arith, l, n)) ∙ ap (value_at g.m.vars x) at where
        at_right : (xs ys : List Name) (k : ℕ) (d : Name) → get_or (xs ++ ys) (length xs + k) d ≡ get_or ys k d
        at_right [] ys k d = let e : 0 + k ≡ k = omega arith in ap (λ i. get_or ys i d) e
        at_right (x ∷ xs) ys k d = let e : length (x ∷ xs) + k ≡ suc (length xs + k) = omega arith in ap (λ i. get_or (x ∷ (xs ++ ys)) i d) e ∙ at_right xs ys k d

        at_left : (xs ys : List Name) (k : ℕ) (d : Name) → k < length xs → get_or (xs ++ ys) k d ≡ get_or xs k d
        at_left [] ys k d l = absurd (omega (arith, l))
        at_left (x ∷ xs) ys zero d l = refl
        at_left (x ∷ xs) ys (suc k) d l = at_left xs ys k d (omega (arith, l))

        same : (rs : List Register) (k : ℕ) → k < length rs → get_or rs k (register_at rs k) ≡ register_at rs k
        same [] k l = absurd (omega (arith, l))
        same (r ∷ rs) zero l = refl
        same (r ∷ rs) (suc k) l = same rs k (omega (arith, l))

  -- what the bits load is what the registers load
  pub loads_same : bits_next (system g) x ≡ map (λ (s : Seat). bit (next g.m x) s.place) g.seats
  loads_same =
      map-then (λ (r : NumberedStorage). cond (val r.enable x) (val r.next x) (bit x r.bit)) (stored_of (ins g) g.m.registers) g.seats
      ∙ map_same (λ (s : Seat). cond (val (register_at g.m.registers s.place).enable x) (val (register_at g.m.registers s.place).next x) (bit x (ins g + s.place))) (λ (s : Seat). bit (next g.m x) s.place) g.seats
      (λ s j.
      let low = (seat_is g s j).0 in
      let no_register : Register = record { name = record { text = []; bit = None }; next = constant false; enable = constant false } in
      ap (cond (val (register_at g.m.registers s.place).enable x) (val (register_at g.m.registers s.place).next x)) (register_bit s.place low)
      ∙ sym (get_or-map (λ (r : Register). cond (val r.enable x) (val r.next x) (value_at g.m.vars x r.name)) g.m.registers s.place no_register false low))

-- ---- the machine of these bits

value_absent : (names : List Name) (x : List Bool) (n : Name) → (In n names → ⊥) → value_at names x n ≡ false
value_absent [] x n h = refl
value_absent (m ∷ names) [] n h = refl
value_absent (m ∷ names) (b ∷ x) n h =
    ap (λ t. cond t b (value_at names x n)) (same_name-false m n (λ e. h (subst (λ (z : Name). In n (z ∷ names)) (sym e) here))) ∙ value_absent names x n (λ i. h (there i))

abbrev pub IsMachineOf : Setting → Machine → Type 0
IsMachineOf g o = IsMachineOfBits g.m.name g.m.ports g.m.clock (system g) o

-- a name with one number in both has one value in both
same_value : (g : Setting) (o : Machine) (x y : List Bool) → length x ≡ length g.m.vars → bits_shown (system g) o y ≡ x → (name : Name) (v : ℕ) → v < length g.m.vars
    → name_at (system g).names v ≡ name → get_or g.m.vars v name ≡ name → value_at o.vars y name ≡ value_at g.m.vars x name
same_value g o x y each shown name v low a b =
    let n : length g.m.vars ≡ length (system g).names = vars_count g ∙ sym (names_count g) in
    ap (value_at o.vars y) (sym a) ∙ sym (shown_at (system g).names o.vars y v (omega (arith, low, n))) ∙ ap (λ (w : List Bool). bit w v) shown
    ∙ bit-value_at g.m.vars x v name g.checked.ordered.different each low ∙ ap (value_at g.m.vars x) b

at_front : (xs ys : List Name) (k : ℕ) (d : Name) → k < length xs → get_or (xs ++ ys) k d ≡ get_or xs k d
at_front [] ys k d l = absurd (omega (arith, l))
at_front (x ∷ xs) ys zero d l = refl
at_front (x ∷ xs) ys (suc k) d l = at_front xs ys k d (omega (arith, l))

at_behind : (xs ys : List Name) (k : ℕ) (d : Name) → get_or (xs ++ ys) (length xs + k) d ≡ get_or ys k d
at_behind [] ys k d = let e : 0 + k ≡ k = omega arith in ap (λ i. get_or ys i d) e
at_behind (x ∷ xs) ys k d = let e : length (x ∷ xs) + k ≡ suc (length xs + k) = omega arith in ap (λ i. get_or (x ∷ (xs ++ ys)) i d) e ∙ at_behind xs ys k d

-- the number of an equation's name that stays
inner_at : (f : Name → Bool) (text : List ℕ) (k : ℕ) (ns : List Name) (j : ℕ) (x : Name) → j < length ns → ((d : Name) → get_or ns j d ≡ x) → f x ≡ true → name_at (inner_names f text k ns) j ≡ x
inner_at f text k [] j x l at e = absurd (omega (arith, l))
inner_at f text k (n ∷ ns) zero x l at e =
    let same : n ≡ x = at n in
    ap (λ (y : Name). inner_name f text k y) same ∙ ap (λ b. cond b x (record { text = text; bit = Some k })) e
inner_at f text k (n ∷ ns) (suc j) x l at e = inner_at f text (k + 1) ns j x (omega (arith, l)) at e

module _ (g : Setting) (o : Machine) (is : IsMachineOf g o) (x y : List Bool) (each : length x ≡ length g.m.vars) (shown : bits_shown (system g) o y ≡ x) where
  input_value : (name : Name) → In name (inputs g.m) → value_at o.vars y name ≡ value_at g.m.vars x name
  input_value name i =
      let r = place_of_In (inputs g.m) name i in
      let l = r.1 in
      let n = vars_count g in
      same_value g o x y each shown name r.0 (omega (arith, l, n))
      (name_left (inputs g.m) (g.names ++ inner g) r.0 l ∙ r.2 (record { text = []; bit = None }))
      (ap (λ (ns : List Name). get_or ns r.0 name) (g.checked.ordered.vars ∙ append_assoc (inputs g.m) (register_names g.m) (equation_names g.m))
      ∙ at_front (inputs g.m) (register_names g.m ++ equation_names g.m) r.0 name l ∙ r.2 name)

  output_value : (p : Port) → In p g.m.ports → p.dir ≡ dir.Out → value_at o.vars y p.name ≡ value_at g.m.vars x p.name
  output_value p i d =
      let r = place_of_In (equation_names g.m) p.name (output_kept g p i d) in
      let l = r.1 in
      let n = vars_count g in
      let c = length-map g.m.equations (λ (e : Equation). e.name) in
      let hc = held_count g in
      let a = length-append (inputs g.m) g.names in
      let e = g.free.each in
      let v : ℕ = ins g + regs g + r.0 in
      let z : ins g + regs g + r.0 ≡ length (inputs g.m) + (length g.names + r.0) = omega (arith, e) in
      let w : ins g + regs g + r.0 ≡ length (held_names g.m) + r.0 = omega (arith, hc) in
      same_value g o x y each shown p.name (ins g + regs g + r.0) (omega (arith, l, n, c))
      (ap (name_at (system g).names) z ∙ name_right (inputs g.m) (g.names ++ inner g) (length g.names + r.0) ∙ name_right g.names (inner g) r.0
      ∙ inner_at (is_port g.m) g.text 0 (equation_names g.m) r.0 p.name l r.2 (port_kept g p i))
      (ap (λ (ns : List Name). get_or ns (ins g + regs g + r.0) p.name) g.checked.ordered.vars ∙ ap (λ k. get_or (held_names g.m ++ equation_names g.m) k p.name) w
      ∙ at_behind (held_names g.m) (equation_names g.m) r.0 p.name ∙ r.2 p.name)

  clock_value : (name : Name) → g.m.clock ≡ Some name → value_at o.vars y name ≡ value_at g.m.vars x name
  clock_value name e =
      value_absent o.vars y name (is.checked.clock name (is.clock_is ∙ e)).apart ∙ sym (value_absent g.m.vars x name (g.checked.clock name e).apart)

  pub port_value : (name : Name) → In name (names_of g.m.ports) → value_at o.vars y name ≡ value_at g.m.vars x name
  port_value name i =
      let r = In-map_back (λ (p : Port). p.name) name g.m.ports i in
      subst (λ (n : Name). value_at o.vars y n ≡ value_at g.m.vars x n) r.2 (by r.0 r.1 r.0.dir refl) where
        clocked : (p : Port) (c : Option Name) → g.m.clock ≡ c → is_clock c p.name ≡ true → value_at o.vars y p.name ≡ value_at g.m.vars x p.name
        clocked p None e t = absurd cc
        clocked p (Some name) e t = subst (λ (n : Name). value_at o.vars y n ≡ value_at g.m.vars x n) (same_name-true name p.name t) (clock_value name e)

        taken : (p : Port) → In p g.m.ports → p.dir ≡ dir.In → (b : Bool) → is_clock g.m.clock p.name ≡ b → value_at o.vars y p.name ≡ value_at g.m.vars x p.name
        taken p j d true e = clocked p g.m.clock refl e
        taken p j d false e =
            let input_test : is_input p.dir ≡ true = rw d refl in
            let no_clock : not (is_clock g.m.clock p.name) ≡ true = rw e refl in
            input_value p.name
            (filter-In (λ (name : Name). not (is_clock g.m.clock name)) (input_ports g.m) p.name
            (In-map (λ (p : Port). p.name) p (filter (λ (p : Port). is_input p.dir) g.m.ports) (filter-In (λ (p : Port). is_input p.dir) g.m.ports p j input_test)) no_clock)

        by : (p : Port) → In p g.m.ports → (d : Dir) → p.dir ≡ d → value_at o.vars y p.name ≡ value_at g.m.vars x p.name
        by p j dir.Out d = output_value p j d
        by p j dir.In d = taken p j d (is_clock g.m.clock p.name) refl

seat_places : (g : Setting) → map (λ (s : Seat). s.place) (map (seat_at g.names) (rising 0 (length g.names))) ≡ rising 0 (length g.names)
seat_places g = map-then (λ (s : Seat). s.place) (seat_at g.names) (rising 0 (length g.names)) ∙ itself (rising 0 (length g.names)) where
  itself : (ks : List ℕ) → map (λ (k : ℕ). k) ks ≡ ks
  itself [] = refl
  itself (k ∷ ks) = ap (λ (js : List ℕ). k ∷ js) (itself ks)

pub is_renamed : (g : Setting) (o : Machine) → IsMachineOf g o → IsRenamed g.m g.names o
is_renamed g o is = record {
  text = is.text;
  ports = is.ports_are;
  clock = is.clock_is;
  checked = is.checked;
  places = map (λ (s : Seat). s.place) g.seats;
  moved = subst (λ (ks : List ℕ). IsPermutation ks (map (λ (s : Seat). s.place) g.seats)) (seat_places g)
      (IsPermutation-map (λ (s : Seat). s.place) (map (seat_at g.names) (rising 0 (length g.names))) g.seats g.moved);
  named = is.named ∙ seats_named g ∙ map_same (λ (s : Seat). s.name) (λ (s : Seat). name_at g.names s.place) g.seats (λ s j. (seat_is g s j).1)
      ∙ sym (map-then (name_at g.names) (λ (s : Seat). s.place) g.seats);
  shown = bits_shown (system g) o;
  forth = forth;
} where
  forth : (s i x : List Bool) → Settles g.m s i x → (y : List Bool) × ComesTo g.m o (map (λ (s : Seat). s.place) g.seats) (bits_shown (system g) o) s i x y
  forth s i x h =
      let held = map (λ (t : Seat). bit s t.place) g.seats in
      let b = is.back held i x (bits_settle g s i x h) in
      let same : map (λ (t : Seat). bit s t.place) g.seats ≡ map (bit s) (map (λ (t : Seat). t.place) g.seats) = sym (map-then (bit s) (λ (t : Seat). t.place) g.seats) in (
        b.0,
        record {
          settles = subst (λ (w : List Bool). Settles o w i b.0) same b.1;
          back = b.2;
          ports = port_value g o is x b.0 h.each b.2;
          loads = is.loads held i b.0 b.1 ∙ ap (bits_next (system g)) b.2 ∙ loads_same g s i x h ∙ sym (map-then (bit (next g.m x)) (λ (t : Seat). t.place) g.seats);
        },
      )
