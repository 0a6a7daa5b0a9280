-- The bits of a machine with other names for its registers are a system.
use Rattle.std.proofs.Common.{◌≡◌, ◌≢◌, ◌⊎◌, inl, inr, ℕ, zero, suc, ◌+◌, ◌-◌, ◌<◌, ◌≤◌, Bool, true, false, cond, not, List, [], ◌∷◌, ◌++◌, map, length, get_or, filter, Option, None, Some, refl, sym, ap, ◌∙◌, subst, arith, append_assoc, length-append}
use Rattle.std.specs.Prelude.{slice_index, codes}
use Rattle.std.specs.List.{All, list_any}
use Rattle.std.specs.List.Sorted.{IsPermutation}
use Rattle.std.proofs.lemmas.List.{length-map, map-append, get_or-map}
use Rattle.std.proofs.lemmas.List.Sorted.{IsPermutation-map, IsPermutation-sym}
use Rattle.std.proofs.lemmas.Bool.{cases_lt}
use Rattle.vlsi_base.specs.declared.name.Name.{Name}
use Rattle.vlsi_base.specs.declared.name.Port.{Port}
use Rattle.vlsi_base.specs.declared.name.Dir.{Dir}
use Rattle.vlsi_base.specs.declared.name.Dir.TheVariants as dir
use Rattle.vlsi_base.specs.Range.{rising}
use Rattle.vlsi_base.specs.Member.{In, here, there, AllDifferent}
use Rattle.bool_expr.specs.Expression.{Expression, constant, variable, inverse, pair, choice, variables, IsOver}
use Rattle.machine_core.specs.Named.{is_same_name}
use Rattle.machine_core.specs.Machine.{Machine, Equation, Register, is_input, is_clock, names_of, inputs, input_ports, outputs, register_names}
use Rattle.machine_core.specs.Order.{held_names, equation_names, EachReadsBelow}
use Rattle.machine_core.specs.Checked.{IsChecked, IsNoSupply, AreInOrder}
use Rattle.machine_core.proofs.Names.{same_name-itself}
use Rattle.machine_core.proofs.Values.{In-split, In-left, In-right, In-map}
use Rattle.machine_core.proofs.Known.{IsOver-In}
use Rattle.source_bits.specs.Driven.{Numbered, NumberedStorage}
use Rattle.vlsi_model.specs.Numbered.{name_at}
use Rattle.vlsi_model.specs.Laid.{inputs_of}
use Rattle.vlsi_model.proofs.Members.{In-cases, In-map_back, different_left, different_right, different_append, different_map}
use Rattle.vlsi_model.proofs.Bits.{In-rising, rising-In, different_rising}
use Rattle.vlsi_model.proofs.PortBits.{In-filter, filter-In}
use Rattle.vlsi_model.proofs.Sorting.{In-at, place_of_In, different_names}
use Rattle.vlsi_model.proofs.Building.{map-then, map_same}
use Rattle.vlsi_model.proofs.Assembly.{In-permutation}
use Rattle.bit_machine.specs.System.{System, stored_bits, driven_bits, held_bits, all_bits, IsSystem, Falls, FitsPorts}
use Rattle.bit_machine.proofs.Built.{All_In}
use Rattle.net_flat.specs.declared.renaming.Seat.{Seat}
use Rattle.net_flat.specs.Renamed.{seat_at, register_at, stored_of, driven_from, inner_name, inner_names, is_port, new_names, renamed_system, IsLongerThan, AreFree}
use Rattle.net_flat.proofs.Lists.{name_left, name_right, names_between, names_whole, unmap_different, rising_count}
use Rattle.net_flat.proofs.Taking.{any_in, in_any}

-- a machine, and other names for its registers, in their order
pub record Setting : Type 0 where
  pub m : Machine
  pub names : List Name
  pub text : List ℕ
  pub seats : List Seat
  pub checked : IsChecked m
  pub free : AreFree m names
  pub shown : IsLongerThan (names_of m.ports) text
  pub held : IsLongerThan names text
  pub supplies : 3 < length text
  pub moved : IsPermutation (map (seat_at names) (rising 0 (length names))) seats
  pub ordered : AreInOrder (map (λ s. s.name) seats)

abbrev pub system : Setting → System
system g = renamed_system g.m g.names g.text g.seats

-- how many inputs, registers and equations there are
abbrev pub ins : Setting → ℕ
ins g = length (inputs g.m)

abbrev pub regs : Setting → ℕ
regs g = length g.m.registers

abbrev pub eqs : Setting → ℕ
eqs g = length g.m.equations

abbrev pub inner : Setting → List Name
inner g = inner_names (is_port g.m) g.text 0 (equation_names g.m)

-- ---- how many

pub inner_count : (f : Name → Bool) (text : List ℕ) (k : ℕ) (ns : List Name) → length (inner_names f text k ns) ≡ length ns
inner_count f text k [] = refl
inner_count f text k (n ∷ ns) = let r = inner_count f text (k + 1) ns in omega (arith, r)

pub equations_count : (g : Setting) → length (inner g) ≡ eqs g
equations_count g = inner_count (is_port g.m) g.text 0 (equation_names g.m) ∙ length-map g.m.equations (λ (e : Equation). e.name)

pub names_count : (g : Setting) → length (system g).names ≡ ins g + regs g + eqs g
names_count g =
    let a = length-append (inputs g.m) (g.names ++ inner g) in
    let b = length-append g.names (inner g) in
    let c = equations_count g in
    let e = g.free.each in
    omega (arith, a, b, c, e)

pub vars_count : (g : Setting) → length g.m.vars ≡ ins g + regs g + eqs g
vars_count g =
    let v = ap length g.checked.ordered.vars in
    let a = length-append (held_names g.m) (equation_names g.m) in
    let b = length-append (inputs g.m) (register_names g.m) in
    let c = length-map g.m.registers (λ (r : Register). r.name) in
    let d = length-map g.m.equations (λ (e : Equation). e.name) in
    omega (arith, v, a, b, c, d)

pub held_count : (g : Setting) → length (held_names g.m) ≡ ins g + regs g
held_count g =
    let b = length-append (inputs g.m) (register_names g.m) in
    let c = length-map g.m.registers (λ (r : Register). r.name) in
    omega (arith, b, c)

-- ---- seats

pub seat_is : (g : Setting) (s : Seat) → In s g.seats → (s.place < regs g) × (s.name ≡ name_at g.names s.place)
seat_is g s i =
    let made = map (seat_at g.names) (rising 0 (length g.names)) in
    let r = In-map_back (seat_at g.names) s (rising 0 (length g.names)) (In-permutation g.seats made s (IsPermutation-sym made g.seats g.moved) i) in
    let l = (In-rising 0 (length g.names) r.0 r.1).1 in
    let e = g.free.each in
    (subst (λ (x : Seat). x.place < regs g) r.2 (omega (arith, l, e)), subst (λ (x : Seat). x.name ≡ name_at g.names x.place) r.2 refl)

pub seat_there : (g : Setting) (k : ℕ) → k < regs g → In (seat_at g.names k) g.seats
seat_there g k l =
    let e = g.free.each in
    In-permutation (map (seat_at g.names) (rising 0 (length g.names))) g.seats (seat_at g.names k) g.moved
    (In-map (seat_at g.names) k (rising 0 (length g.names)) (rising-In 0 (length g.names) k (omega arith) (omega (arith, l, e))))

seat_names : (g : Setting) → map (λ (s : Seat). s.name) (map (seat_at g.names) (rising 0 (length g.names))) ≡ g.names
seat_names g = map-then (λ (s : Seat). s.name) (seat_at g.names) (rising 0 (length g.names)) ∙ names_whole g.names

pub seats_different : (g : Setting) → AllDifferent g.seats
seats_different g =
    let made = map (seat_at g.names) (rising 0 (length g.names)) in
    let key = λ (s : Seat). s.name in
    unmap_different key g.seats
    (different_names (map key made) (map key g.seats) (IsPermutation-map key made g.seats g.moved)
    (subst (λ (ns : List Name). AllDifferent ns) (sym (seat_names g)) g.free.different))

abbrev pub seat_bit : Setting → Seat → ℕ
seat_bit g s = ins g + s.place

pub stored_are : (g : Setting) → stored_bits (system g) ≡ map (seat_bit g) g.seats
stored_are g = map-then (λ (r : NumberedStorage). r.bit) (stored_of (ins g) g.m.registers) g.seats

pub driven_are : (k : ℕ) (es : List Equation) → map (λ (d : Numbered). d.bit) (driven_from k es) ≡ rising k (length es)
driven_are k [] = refl
driven_are k (e ∷ es) = ap (λ (ks : List ℕ). k ∷ ks) (driven_are (k + 1) es)

pub bits_are : (g : Setting) → all_bits (system g) ≡ (rising 0 (ins g) ++ map (seat_bit g) g.seats) ++ rising (ins g + regs g) (eqs g)
bits_are g =
    ap (λ (xs : List ℕ). (rising 0 (ins g) ++ xs) ++ driven_bits (system g)) (stored_are g)
    ∙ ap (λ (xs : List ℕ). (rising 0 (ins g) ++ map (seat_bit g) g.seats) ++ xs) (driven_are (ins g + regs g) g.m.equations)

seat_low : (g : Setting) (x : ℕ) → In x (map (seat_bit g) g.seats) → (ins g ≤ x) × (x < ins g + regs g)
seat_low g x i =
    let r = In-map_back (seat_bit g) x g.seats i in
    let l = (seat_is g r.0 r.1).0 in
    let e = r.2 in
    (omega (arith, e), omega (arith, e, l))

all_once : (g : Setting) → AllDifferent (all_bits (system g))
all_once g =
    subst (λ (xs : List ℕ). AllDifferent xs) (sym (bits_are g))
    (different_append (rising 0 (ins g) ++ map (seat_bit g) g.seats) (rising (ins g + regs g) (eqs g))
    (different_append (rising 0 (ins g)) (map (seat_bit g) g.seats) (different_rising 0 (ins g)) (different_map (seat_bit g) g.seats tells (seats_different g))
    (λ x a b. let l = (In-rising 0 (ins g) x a).1 in let h = (seat_low g x b).0 in omega (arith, l, h)))
    (different_rising (ins g + regs g) (eqs g))
    (λ x a b.
    let high = (In-rising (ins g + regs g) (eqs g) x b).0 in
    elim (In-split x (rising 0 (ins g)) (map (seat_bit g) g.seats) a) [
      | inl c ↦ let l = (In-rising 0 (ins g) x c).1 in omega (arith, l, high)
      | inr c ↦ let l = (seat_low g x c).1 in omega (arith, l, high)
    ])) where
      made : Name → ℕ → Seat
      made n k = record { name = n; place = k }

      tells : (s t : Seat) → In s g.seats → In t g.seats → seat_bit g s ≡ seat_bit g t → s ≡ t
      tells s t i j e =
          let places : s.place ≡ t.place = omega (arith, e) in
          let a = (seat_is g s i).1 in
          let b = (seat_is g t j).1 in
          let named : s.name ≡ t.name = a ∙ ap (name_at g.names) places ∙ sym b in
          ap (λ (n : Name). made n s.place) named ∙ ap (made t.name) places

all_inside : (g : Setting) (x : ℕ) → In x (all_bits (system g)) → x < length (system g).names
all_inside g x i =
    let n = names_count g in
    elim (In-split x (rising 0 (ins g) ++ map (seat_bit g) g.seats) (rising (ins g + regs g) (eqs g)) (subst (λ (xs : List ℕ). In x xs) (bits_are g) i)) [
      | inl a ↦ elim (In-split x (rising 0 (ins g)) (map (seat_bit g) g.seats) a) [
        | inl b ↦ let l = (In-rising 0 (ins g) x b).1 in omega (arith, l, n)
        | inr b ↦ let l = (seat_low g x b).1 in omega (arith, l, n)
      ]
      | inr a ↦ let l = (In-rising (ins g + regs g) (eqs g) x a).1 in omega (arith, l, n)
    ]

all_complete : (g : Setting) (x : ℕ) → x < length (system g).names → In x (all_bits (system g))
all_complete g x l = subst (λ (xs : List ℕ). In x xs) (sym (bits_are g)) (by (cases_lt x (ins g)) (cases_lt x (ins g + regs g))) where
  held : List ℕ
  held = rising 0 (ins g) ++ map (seat_bit g) g.seats

  by : (x < ins g) ⊎ (ins g ≤ x) → (x < ins g + regs g) ⊎ (ins g + regs g ≤ x) → In x ((rising 0 (ins g) ++ map (seat_bit g) g.seats) ++ rising (ins g + regs g) (eqs g))
  by (inl a) b = In-left x held (rising (ins g + regs g) (eqs g)) (In-left x (rising 0 (ins g)) (map (seat_bit g) g.seats) (rising-In 0 (ins g) x (omega arith) (omega (arith, a))))
  by (inr a) (inl b) =
      let k = x - ins g in
      let low : k < regs g = omega (arith, a, b) in
      let e : ins g + k ≡ x = omega (arith, a) in
      In-left x held (rising (ins g + regs g) (eqs g)) (In-right x (rising 0 (ins g)) (map (seat_bit g) g.seats)
      (subst (λ (y : ℕ). In y (map (seat_bit g) g.seats)) e (In-map (seat_bit g) (seat_at g.names k) g.seats (seat_there g k low))))
  by (inr a) (inr b) = let n = names_count g in In-right x held (rising (ins g + regs g) (eqs g)) (rising-In (ins g + regs g) (eqs g) x b (omega (arith, l, n)))

-- ---- expressions

over_more : (e : Expression) (n k : ℕ) → n ≤ k → IsOver e n → IsOver e k
over_more (constant b) n k l h = tt
over_more (variable j) n k l h = omega (arith, l, h)
over_more (inverse e) n k l h = over_more e n k l h
over_more (pair o a b) n k l h = (over_more a n k l h.0, over_more b n k l h.1)
over_more (choice c a b) n k l h = (over_more c n k l h.0, (over_more a n k l h.1.0, over_more b n k l h.1.1))

driven_reads : (n : ℕ) (es : List Equation) → EachReadsBelow n es → (d : Numbered) → In d (driven_from n es) → IsOver d.expr d.bit × (d.bit < n + length es)
driven_reads n [] h d i = elim i [ ]
driven_reads n (e ∷ es) h d i = elim (In-cases d (record { bit = n; expr = e.expr }) (driven_from (n + 1) es) i) [
  | inl same ↦ subst (λ (x : Numbered). IsOver x.expr x.bit × (x.bit < n + suc (length es))) same (h.0, omega arith)
  | inr j ↦ let r = driven_reads (n + 1) es h.1 d j in let l = r.1 in (r.0, omega (arith, l))
]

reads : (g : Setting) (d : Numbered) → In d (system g).driven → IsOver d.expr d.bit × (d.bit < ins g + regs g + eqs g)
reads g d i = driven_reads (ins g + regs g) g.m.equations (subst (λ (k : ℕ). EachReadsBelow k g.m.equations) (held_count g) g.checked.ordered.below) d i

pub register_named : (g : Setting) (k : ℕ) → k < regs g → IsOver (register_at g.m.registers k).next (length g.m.vars) × IsOver (register_at g.m.registers k).enable (length g.m.vars)
register_named g k l = g.checked.loads k (record { name = record { text = []; bit = None }; next = constant false; enable = constant false }) l

-- ---- names

input_port : (g : Setting) (n : Name) → In n (inputs g.m) → (p : Port) × In p g.m.ports × (p.name ≡ n) × (is_clock g.m.clock n ≡ false)
input_port g n i =
    let a = In-filter (λ (name : Name). not (is_clock g.m.clock name)) (input_ports g.m) n i in
    let b = In-map_back (λ (p : Port). p.name) n (filter (λ (p : Port). is_input p.dir) g.m.ports) a.0 in
    let c = In-filter (λ (p : Port). is_input p.dir) g.m.ports b.0 b.1 in
    (b.0, c.0, b.2, not_true (is_clock g.m.clock n) a.1) where
      not_true : (b : Bool) → not b ≡ true → b ≡ false
      not_true true e = absurd cc
      not_true false e = refl

port_of : (g : Setting) (n : Name) → is_port g.m n ≡ true → (p : Port) × In p g.m.ports × (p.name ≡ n)
port_of g n e = In-map_back (λ (p : Port). p.name) n g.m.ports (any_in (names_of g.m.ports) n e)

port_short : (g : Setting) (p : Port) → In p g.m.ports → length p.name.text < length g.text
port_short g p i = All_In (λ (n : Name). length n.text < length g.text) (names_of g.m.ports) g.shown p.name (In-map (λ (p : Port). p.name) p g.m.ports i)

name_short : (g : Setting) (n : Name) → In n g.names → length n.text < length g.text
name_short g n i = All_In (λ (n : Name). length n.text < length g.text) g.names g.held n i

-- what a name of the equations' bits is
pub data InnerIs (f : Name → Bool) (text : List ℕ) (k : ℕ) (ns : List Name) (x : Name) : Type 0 where
  kept : In x ns → f x ≡ true → InnerIs f text k ns x
  own : (j : ℕ) → k ≤ j → x ≡ record { text = text; bit = Some j } → InnerIs f text k ns x

pub inner_is : (f : Name → Bool) (text : List ℕ) (k : ℕ) (ns : List Name) (x : Name) → In x (inner_names f text k ns) → InnerIs f text k ns x
inner_is f text k [] x i = elim i [ ]
inner_is f text k (n ∷ ns) x i = elim (In-cases x (inner_name f text k n) (inner_names f text (k + 1) ns) i) [
  | inl same ↦ by (f n) refl same
  | inr j ↦ later (inner_is f text (k + 1) ns x j)
] where
  by : (b : Bool) → f n ≡ b → cond b n (record { text = text; bit = Some k }) ≡ x → InnerIs f text k (n ∷ ns) x
  by true e s = kept (subst (λ (y : Name). In y (n ∷ ns)) s here) (subst (λ (y : Name). f y ≡ true) s e)
  by false e s = own k (omega arith) (sym s)

  later : InnerIs f text (k + 1) ns x → InnerIs f text k (n ∷ ns) x
  later (kept i e) = kept (there i) e
  later (own j l e) = own j (omega (arith, l)) e

-- an equation that is a port keeps its name
pub inner_kept : (f : Name → Bool) (text : List ℕ) (k : ℕ) (ns : List Name) (x : Name) → In x ns → f x ≡ true → In x (inner_names f text k ns)
inner_kept f text k (n ∷ ns) _ here e = subst (λ (b : Bool). In n (cond b n (record { text = text; bit = Some k }) ∷ inner_names f text (k + 1) ns)) (sym e) here
inner_kept f text k (n ∷ ns) x (there i) e = there (inner_kept f text (k + 1) ns x i e)
inner_kept f text k [] x i e = elim i [ ]

inner_different : (f : Name → Bool) (text : List ℕ) (k : ℕ) (ns : List Name) → ((n : Name) → f n ≡ true → length n.text < length text) → AllDifferent ns → AllDifferent (inner_names f text k ns)
inner_different f text k [] short d = tt
inner_different f text k (n ∷ ns) short d = (λ i. head (f n) refl (inner_is f text (k + 1) ns _ i), inner_different f text (k + 1) ns short d.1) where
  head : (b : Bool) → f n ≡ b → InnerIs f text (k + 1) ns (cond b n (record { text = text; bit = Some k })) → ⊥
  head true e (kept i t) = d.0 i
  head true e (own j l s) = let h = short n e in let z = ap (λ (x : Name). length x.text) s in omega (arith, h, z)
  head false e (kept i t) = let h = short (record { text = text; bit = Some k }) t in omega (arith, h)
  head false e (own j l s) = let t : Some k ≡ Some j = ap (λ (x : Name). x.bit) s in let z : k ≡ j = cc in omega (arith, l, z)

inner_cases : (g : Setting) (x : Name) → In x (inner g) → ((p : Port) × In p g.m.ports × (p.name ≡ x) × In x (equation_names g.m)) ⊎ (x.text ≡ g.text)
inner_cases g x i = by (inner_is (is_port g.m) g.text 0 (equation_names g.m) x i) where
  by : InnerIs (is_port g.m) g.text 0 (equation_names g.m) x → ((p : Port) × In p g.m.ports × (p.name ≡ x) × In x (equation_names g.m)) ⊎ (x.text ≡ g.text)
  by (kept j e) = let p = port_of g x e in inl (p.0, p.1, p.2, j)
  by (own j l e) = inr (ap (λ (n : Name). n.text) e)

shorter : (a b : List ℕ) → length a < length b → a ≡ b → ⊥
shorter a b l e = let z = ap length e in omega (arith, l, z)

parts_different : (g : Setting) → AllDifferent (inputs g.m) × AllDifferent (equation_names g.m) × ((x : Name) → In x (inputs g.m) → In x (equation_names g.m) → ⊥)
parts_different g =
    let d = subst (λ (ns : List Name). AllDifferent ns) g.checked.ordered.vars g.checked.ordered.different in (
      different_left (inputs g.m) (register_names g.m) (different_left (held_names g.m) (equation_names g.m) d),
      different_right (held_names g.m) (equation_names g.m) d,
      λ x i j. apart (held_names g.m) (equation_names g.m) d x (In-left x (inputs g.m) (register_names g.m) i) j,
    ) where
      apart : (xs ys : List Name) → AllDifferent (xs ++ ys) → (x : Name) → In x xs → In x ys → ⊥
      apart (z ∷ xs) ys d _ here j = d.0 (In-right z xs ys j)
      apart (z ∷ xs) ys d x (there i) j = apart xs ys d.1 x i j
      apart [] ys d x i j = elim i [ ]

names_different : (g : Setting) → AllDifferent (system g).names
names_different g =
    let parts = parts_different g in
    different_append (inputs g.m) (g.names ++ inner g) parts.0
    (different_append g.names (inner g) g.free.different
    (inner_different (is_port g.m) g.text 0 (equation_names g.m) (λ n e. let p = port_of g n e in subst (λ (x : Name). length x.text < length g.text) p.2 (port_short g p.0 p.1)) parts.1)
    (λ x a b. elim (inner_cases g x b) [
      | inl p ↦ g.free.apart p.0 x p.1 a (ap (λ (n : Name). n.text) p.2)
      | inr e ↦ shorter x.text g.text (name_short g x a) e
    ]))
    (λ x a b.
    let p = input_port g x a in
    elim (In-split x g.names (inner g) b) [
      | inl c ↦ g.free.apart p.0 x p.1 c (ap (λ (n : Name). n.text) p.2)
      | inr c ↦ elim (inner_cases g x c) [
        | inl q ↦ parts.2 x a q.3
        | inr e ↦ shorter x.text g.text (subst (λ (n : Name). length n.text < length g.text) p.2 (port_short g p.0 p.1)) e
      ]
    ])

pub is_system : (g : Setting) → IsSystem (system g)
is_system g = record {
  names = names_different g;
  once = all_once g;
  inside = all_inside g;
  complete = all_complete g;
  over = λ d i. let r = reads g d i in let l = r.1 in let n = names_count g in over_more d.expr d.bit (length (system g).names) (omega (arith, l, n)) r.0;
  loads = λ r i.
      let u = In-map_back (stored_of (ins g) g.m.registers) r g.seats i in
      let o = register_named g u.0.place (seat_is g u.0 u.1).0 in
      let n : length g.m.vars ≡ length (system g).names = vars_count g ∙ sym (names_count g) in
      subst (λ (x : NumberedStorage). IsOver x.next (length (system g).names) × IsOver x.enable (length (system g).names)) u.2
      (subst (λ (k : ℕ). IsOver (register_at g.m.registers u.0.place).next k × IsOver (register_at g.m.registers u.0.place).enable k) n o);
}

pub falls : (g : Setting) → Falls (system g).driven
falls g = record { measure = λ k. k; falls = λ d e i j k. IsOver-In d.expr d.bit (reads g d i).0 e.bit k }

-- ---- ports

pub seat_name : (g : Setting) (s : Seat) → In s g.seats → name_at (system g).names (seat_bit g s) ≡ s.name
seat_name g s i =
    let r = seat_is g s i in
    let l = r.0 in
    let e = g.free.each in
    name_right (inputs g.m) (g.names ++ inner g) s.place ∙ name_left g.names (inner g) s.place (omega (arith, l, e)) ∙ sym r.1

pub seats_named : (g : Setting) → map (name_at (system g).names) (stored_bits (system g)) ≡ map (λ (s : Seat). s.name) g.seats
seats_named g =
    ap (map (name_at (system g).names)) (stored_are g) ∙ map-then (name_at (system g).names) (seat_bit g) g.seats
    ∙ map_same (λ (s : Seat). name_at (system g).names (seat_bit g s)) (λ (s : Seat). s.name) g.seats (seat_name g)

inputs_named : (g : Setting) → map (name_at (system g).names) (rising 0 (ins g)) ≡ inputs g.m
inputs_named g = names_between [] (inputs g.m) (g.names ++ inner g) 0 (ins g) refl refl

pub inner_named : (g : Setting) → map (name_at (system g).names) (driven_bits (system g)) ≡ inner g
inner_named g =
    ap (map (name_at (system g).names)) (driven_are (ins g + regs g) g.m.equations)
    ∙ ap (λ (ns : List Name). map (name_at ns) (rising (ins g + regs g) (eqs g))) form
    ∙ names_between (inputs g.m ++ g.names) (inner g) [] (ins g + regs g) (eqs g) count (sym (equations_count g)) where
      whole : (xs : List Name) → xs ++ [] ≡ xs
      whole [] = refl
      whole (x ∷ xs) = ap (λ (ys : List Name). x ∷ ys) (whole xs)

      form : (system g).names ≡ (inputs g.m ++ g.names) ++ (inner g ++ [])
      form = sym (append_assoc (inputs g.m) g.names (inner g)) ∙ ap (λ (ns : List Name). (inputs g.m ++ g.names) ++ ns) (sym (whole (inner g)))

      count : ins g + regs g ≡ length (inputs g.m ++ g.names)
      count = let a = length-append (inputs g.m) g.names in let e = g.free.each in omega (arith, a, e)

own_no_supply : (g : Setting) (n : Name) → n.text ≡ g.text → IsNoSupply n
own_no_supply g n e = (
  λ h. let x = ap length (sym e ∙ h) in let l = g.supplies in omega (arith, x, l),
  λ h. let x = ap length (sym e ∙ h) in let l = g.supplies in omega (arith, x, l),
)

port_no_supply : (g : Setting) (p : Port) → In p g.m.ports → IsNoSupply p.name
port_no_supply g p i =
    All_In IsNoSupply (names_of g.m.ports ++ g.m.vars) g.checked.supplies p.name (In-left p.name (names_of g.m.ports) g.m.vars (In-map (λ (p : Port). p.name) p g.m.ports i))

signals : (g : Setting) (name : Name) → In name (names_of g.m.ports ++ (system g).names) → IsNoSupply name
signals g name i = elim (In-split name (names_of g.m.ports) (system g).names i) [
  | inl a ↦ let r = In-map_back (λ (p : Port). p.name) name g.m.ports a in subst IsNoSupply r.2 (port_no_supply g r.0 r.1)
  | inr b ↦ elim (In-split name (inputs g.m) (g.names ++ inner g) b) [
    | inl c ↦ let p = input_port g name c in subst IsNoSupply p.2 (port_no_supply g p.0 p.1)
    | inr c ↦ elim (In-split name g.names (inner g) c) [
      | inl d ↦ g.free.signals name d
      | inr d ↦ elim (inner_cases g name d) [ inl p ↦ subst IsNoSupply p.2 (port_no_supply g p.0 p.1) | inr e ↦ own_no_supply g name e ]
    ]
  ]
]

pub port_kept : (g : Setting) (p : Port) → In p g.m.ports → is_port g.m p.name ≡ true
port_kept g p i = in_any (names_of g.m.ports) p.name (In-map (λ (p : Port). p.name) p g.m.ports i)

pub output_kept : (g : Setting) (p : Port) → In p g.m.ports → p.dir ≡ dir.Out → In p.name (equation_names g.m)
output_kept g p i d =
    let out_test : not (is_input p.dir) ≡ true = rw d refl in
    g.checked.driven p.name (In-map (λ (p : Port). p.name) p (filter (λ (p : Port). not (is_input p.dir)) g.m.ports) (filter-In (λ (p : Port). not (is_input p.dir)) g.m.ports p i out_test))

pub clock_apart : (g : Setting) (name : Name) → g.m.clock ≡ Some name → In name (system g).names → ⊥
clock_apart g name e i = elim (In-split name (inputs g.m) (g.names ++ inner g) i) [
  | inl a ↦
      let p = input_port g name a in
      let on : is_clock g.m.clock name ≡ true = ap (λ (o : Option Name). is_clock o name) e ∙ same_name-itself name in
      let no : true ≡ false = sym on ∙ p.3 in absurd cc
  | inr a ↦ elim (In-split name g.names (inner g) a) [
    | inl b ↦ let p = port in g.free.apart p.0 name p.1 b (ap (λ (n : Name). n.text) p.2)
    | inr b ↦ elim (inner_cases g name b) [
      | inl q ↦ (g.checked.clock name e).apart (subst (λ (ns : List Name). In name ns) (sym g.checked.ordered.vars) (In-right name (held_names g.m) (equation_names g.m) q.3))
      | inr t ↦ let p = port in shorter name.text g.text (subst (λ (n : Name). length n.text < length g.text) p.2 (port_short g p.0 p.1)) t
    ]
  ]
] where
  port : (p : Port) × In p g.m.ports × (p.name ≡ name)
  port =
      let r = In-map_back (λ (p : Port). p.name) name (filter (λ (p : Port). is_input p.dir) g.m.ports) (g.checked.clock name e).port in
      (r.0, (In-filter (λ (p : Port). is_input p.dir) g.m.ports r.0 r.1).0, r.2)

clock_listed : (g : Setting) (name : Name) → g.m.clock ≡ Some name → In (record { name = name; dir = dir.In }) g.m.ports
clock_listed g name e =
    let r = In-map_back (λ (p : Port). p.name) name (filter (λ (p : Port). is_input p.dir) g.m.ports) (g.checked.clock name e).port in
    let f = In-filter (λ (p : Port). is_input p.dir) g.m.ports r.0 r.1 in
    subst (λ (p : Port). In p g.m.ports) (same r.0 r.2 (takes r.0.dir f.1)) f.0 where
      made : Name → Dir → Port
      made n d = record { name = n; dir = d }

      takes : (d : Dir) → is_input d ≡ true → d ≡ dir.In
      takes dir.In e = refl
      takes dir.Out e = absurd cc

      same : (p : Port) → p.name ≡ name → p.dir ≡ dir.In → p ≡ record { name = name; dir = dir.In }
      same p a b = ap (λ (n : Name). made n p.dir) a ∙ ap (made name) b

no_seats : (g : Setting) → g.m.clock ≡ None → (system g).stored ≡ []
no_seats g e = by g.seats (λ s i. let l = (seat_is g s i).0 in let z : regs g ≡ 0 = ap length (g.checked.clocked e) in omega (arith, l, z)) where
  by : (ss : List Seat) → ((s : Seat) → In s ss → ⊥) → map (stored_of (ins g) g.m.registers) ss ≡ []
  by [] h = refl
  by (s ∷ ss) h = absurd (h s here)

pub fits_ports : (g : Setting) → FitsPorts g.m.ports g.m.clock (system g)
fits_ports g = record {
  order = g.checked.ports;
  registers = subst (λ (ns : List Name). AreInOrder ns) (sym (seats_named g)) g.ordered;
  signals = signals g;
  outputs = λ p i d.
      subst (λ (ns : List Name). In p.name ns) (sym (inner_named g)) (inner_kept (is_port g.m) g.text 0 (equation_names g.m) p.name (output_kept g p i d) (port_kept g p i));
  inputs = inputs_named g;
  listed = clock_listed g;
  apart = clock_apart g;
  clocked = no_seats g;
}
