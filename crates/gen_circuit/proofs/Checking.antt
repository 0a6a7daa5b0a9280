-- Every circuit is checked.
use Rattle.std.proofs.Common.{◌≡◌, ℕ, zero, suc, ◌+◌, ◌-◌, ◌/◌, ◌%◌, ◌<◌, ◌≤◌, ◌^◌, Bool, true, false, List, [], ◌∷◌, ◌++◌, map, length, codes, Option, None, Some, nat_lt, ◌⊎◌, inl, inr, slice_index, refl, sym, ap, subst, mod-lt, length-append, arith, if◌then◌else◌}
use Rattle.std.specs.Fmt.{decimal}
use Rattle.std.specs.List.{All}
use Rattle.std.specs.declared.cmp.Ordering.TheVariants.{Less}
use Rattle.std.proofs.lemmas.Fmt.{decimal_injective}
use Rattle.std.proofs.lemmas.Bool.{ltb-true, ltb-false}
use Rattle.std.proofs.lemmas.List.{length-map}
use Rattle.std.proofs.lemmas.List.Elements.{All-nil, All-cons, All-append}
use Rattle.std.proofs.lemmas.List.Kept.{AllPairs-cons}
use Rattle.rand_core.specs.Pcg32Seed.{pcg32_seed}
use Rattle.rand_core.specs.Steps.{first_words}
use Rattle.rand_pcg.specs.Pcg.{pcg32, pcg32_of_seed}
use Rattle.vlsi_base.specs.declared.name.Name.{Name}
use Rattle.vlsi_base.specs.Name.{name_cmp}
use Rattle.vlsi_base.specs.Member.{In, here, there, AllDifferent}
use Rattle.vlsi_base.specs.Range.{rising}
use Rattle.bool_expr.specs.Expression.{IsOver, variable}
use Rattle.machine_core.specs.Machine.{Equation, Register, names_of}
use Rattle.machine_core.specs.Order.{EachReadsBelow, IsOrdered}
use Rattle.machine_core.specs.Checked.{AreInOrder, IsNoSupply, IsClockOf, IsChecked}
use Rattle.gen_circuit.specs.Generated.{clock, bit_of, four_bits, gate_name, ports, of_gate, choices, operand, gate_by, gates, output, register, circuit_by, words_of, generated}
use Rattle.gen_circuit.specs.Laws.{CircuitsAreChecked}
use Rattle.gen_circuit.proofs.Lists.{in_cons, in_either, in_second, joined_differ, map_behind}

-- ---- reading

operand_over : (j n : ℕ) → n < choices j → IsOver (operand j n) (8 + j)
operand_over j n small = by (nat_lt n 8) refl where
  by : (b : Bool) → nat_lt n 8 ≡ b → IsOver (if b then variable n else of_gate (j - 1 - (n - 8))) (8 + j)
  by true e = let l = ltb-true n 8 e in omega arith
  by false e = let l = ltb-false n 8 e in omega arith

gate_over : (j w : ℕ) → IsOver (gate_by j w).expr (8 + j)
gate_over j w = (
  operand_over j (w / 2 ^ 8 % choices j) (mod-lt (w / 2 ^ 8) (omega arith)),
  operand_over j (w / 2 ^ 20 % choices j) (mod-lt (w / 2 ^ 20) (omega arith)),
)

gates_below : (j n : ℕ) (ws : List ℕ) (rest : List Equation) → n ≡ 8 + j → EachReadsBelow (n + length ws) rest → EachReadsBelow n (gates j ws ++ rest)
gates_below j n [] rest e h = subst (λ k. EachReadsBelow k rest) (omega arith) h
gates_below j n (w ∷ ws) rest e h = (
  subst (IsOver (gate_by j w).expr) (sym e) (gate_over j w),
  gates_below (j + 1) (n + 1) ws rest (omega arith) (subst (λ k. EachReadsBelow k rest) (omega arith) h),
)

outputs_below : (size n : ℕ) → 8 ≤ size → n ≡ 8 + size → EachReadsBelow n (map (output size) (rising 0 4))
outputs_below size n least e = (omega arith, (omega arith, (omega arith, (omega arith, tt))))

-- ---- names

in_bits : (t : List ℕ) (x : Name) (k n : ℕ) → In x (map (bit_of t) (rising k n)) → (j : ℕ) × (k ≤ j) × (x ≡ bit_of t j)
in_bits t x k zero i = elim i [ ]
in_bits t x k (suc n) i = by (in_bits t x (k + 1) n) (in_cons x (bit_of t k) (map (bit_of t) (rising (k + 1) n)) i) where
  by : (In x (map (bit_of t) (rising (k + 1) n)) → (j : ℕ) × (k + 1 ≤ j) × (x ≡ bit_of t j)) → (x ≡ bit_of t k) ⊎ In x (map (bit_of t) (rising (k + 1) n)) → (j : ℕ) × (k ≤ j) × (x ≡ bit_of t j)
  by later (inl e) = (k, omega arith, e)
  by later (inr i) = let h = later i in let l = h.1 in (h.0, omega arith, h.2)

abbrev number : Option ℕ → ℕ
number None = 0
number (Some k) = k

bits_differ : (t : List ℕ) (k n : ℕ) → AllDifferent (map (bit_of t) (rising k n))
bits_differ t k zero = tt
bits_differ t k (suc n) = (
  λ i. (let h = in_bits t (bit_of t k) (k + 1) n i in
      let l = h.1 in
      let same : k ≡ h.0 = ap (λ (x : Name). number x.bit) h.2 in absurd (omega arith)),
  bits_differ t (k + 1) n,
)

-- the first letter of a name
abbrev letter : Name → ℕ
letter n = slice_index n.text 0

bits_letter : (t : List ℕ) (x : Name) → In x (four_bits t) → letter x ≡ slice_index t 0
bits_letter t x i = ap letter (in_bits t x 0 4 i).2

abbrev gate_names : ℕ → List ℕ → List Name
gate_names j ws = map (λ (e : Equation). e.name) (gates j ws)

in_gates : (x : Name) (j : ℕ) (ws : List ℕ) → In x (gate_names j ws) → (i : ℕ) × (j ≤ i) × (i < j + length ws) × (x ≡ gate_name i)
in_gates x j [] i = elim i [ ]
in_gates x j (w ∷ ws) i = by (in_gates x (j + 1) ws) (in_cons x (gate_name j) (gate_names (j + 1) ws) i) where
  by : (In x (gate_names (j + 1) ws) → (i : ℕ) × (j + 1 ≤ i) × (i < j + 1 + length ws) × (x ≡ gate_name i)) → (x ≡ gate_name j) ⊎ In x (gate_names (j + 1) ws)
      → (i : ℕ) × (j ≤ i) × (i < j + suc (length ws)) × (x ≡ gate_name i)
  by later (inl e) = (j, omega arith, omega arith, e)
  by later (inr i) = let h = later i in let l = h.1 in let m = h.2 in (h.0, omega arith, omega arith, h.3)

behind : List ℕ → List ℕ
behind [] = []
behind (c ∷ cs) = cs

gates_differ : (j : ℕ) (ws : List ℕ) → j + length ws ≤ 2 ^ 32 → AllDifferent (gate_names j ws)
unfolding behind
gates_differ j [] few = tt
gates_differ j (w ∷ ws) few = (
  λ i. (let h = in_gates (gate_name j) (j + 1) ws i in
      let l = h.1 in
      let m = h.2 in
      let digits : decimal j ≡ decimal h.0 = ap (λ (x : Name). behind x.text) h.3 in
      let same = decimal_injective j h.0 (omega arith) (omega arith) digits in absurd (omega arith)),
  gates_differ (j + 1) ws (omega arith),
)

gates_letter : (x : Name) (ws : List ℕ) → In x (gate_names 0 ws) → letter x ≡ 103
gates_letter x ws i = ap letter (in_gates x 0 ws i).3

-- the names of the equations
pub names_are : (ws : List ℕ) (size : ℕ) → map (λ (e : Equation). e.name) (gates 0 ws ++ map (output size) (rising 0 4)) ≡ gate_names 0 ws ++ four_bits (codes "y")
names_are ws size = map_behind (λ (e : Equation). e.name) (gates 0 ws) (map (output size) (rising 0 4))

held_letter : (x : Name) → In x (four_bits (codes "x") ++ four_bits (codes "r")) → (letter x ≡ 120) ⊎ (letter x ≡ 114)
held_letter x i = elim (in_either x (four_bits (codes "x")) (four_bits (codes "r")) i) [ inl a ↦ inl (bits_letter (codes "x") x a) | inr b ↦ inr (bits_letter (codes "r") x b) ]

driven_letter : (x : Name) (ws : List ℕ) → In x (gate_names 0 ws ++ four_bits (codes "y")) → (letter x ≡ 103) ⊎ (letter x ≡ 121)
driven_letter x ws i = elim (in_either x (gate_names 0 ws) (four_bits (codes "y")) i) [ inl a ↦ inl (gates_letter x ws a) | inr b ↦ inr (bits_letter (codes "y") x b) ]

apart : (a b : ℕ) → (a ≡ 120) ⊎ (a ≡ 114) → (a ≡ 103) ⊎ (a ≡ 121) → a ≡ b → (b ≡ 103) ⊎ (b ≡ 121)
apart a b x (inl e) s = inl (omega arith)
apart a b x (inr e) s = inr (omega arith)

never : (a : ℕ) → (a ≡ 120) ⊎ (a ≡ 114) → (a ≡ 103) ⊎ (a ≡ 121) → ⊥
never a (inl e) (inl f) = absurd (omega arith)
never a (inl e) (inr f) = absurd (omega arith)
never a (inr e) (inl f) = absurd (omega arith)
never a (inr e) (inr f) = absurd (omega arith)

two_letters : (a : ℕ) (m n : ℕ) → a ≡ m → a ≡ n → m < n → ⊥
two_letters a m n e f l = absurd (omega arith)

vars_differ : (ws : List ℕ) (size : ℕ) → length ws ≤ 2 ^ 32 → AllDifferent (circuit_by ws size).vars
vars_differ ws size few =
    subst (λ (ns : List Name). AllDifferent ((four_bits (codes "x") ++ four_bits (codes "r")) ++ ns)) (sym (names_are ws size))
    (joined_differ (four_bits (codes "x") ++ four_bits (codes "r")) (gate_names 0 ws ++ four_bits (codes "y"))
    (joined_differ (four_bits (codes "x")) (four_bits (codes "r")) (bits_differ (codes "x") 0 4) (bits_differ (codes "r") 0 4)
    (λ n i j. two_letters (letter n) 114 120 (bits_letter (codes "r") n j) (bits_letter (codes "x") n i) (omega arith)))
    (joined_differ (gate_names 0 ws) (four_bits (codes "y")) (gates_differ 0 ws (omega arith)) (bits_differ (codes "y") 0 4)
    (λ n i j. two_letters (letter n) 103 121 (gates_letter n ws i) (bits_letter (codes "y") n j) (omega arith)))
    (λ n i j. never (letter n) (held_letter n i) (driven_letter n ws j)))

no_supply : (n : Name) → letter n < 118 → IsNoSupply n
no_supply n l = (λ e. (let f : letter n ≡ 118 = ap (λ t. slice_index t 0) e in absurd (omega arith)), λ e. (let f : letter n ≡ 118 = ap (λ t. slice_index t 0) e in absurd (omega arith)))

abbrev IsOther : ℕ → Type 0
IsOther c = (c < 118) ⊎ (118 < c)

free : (n : Name) → IsOther (letter n) → IsNoSupply n
free n (inl l) = no_supply n l
free n (inr l) = (λ e. (let f : letter n ≡ 118 = ap (λ t. slice_index t 0) e in absurd (omega arith)), λ e. (let f : letter n ≡ 118 = ap (λ t. slice_index t 0) e in absurd (omega arith)))

all_by : {A : Type 0} (P : A → Type 0) (xs : List A) → ((x : A) → In x xs → P x) → All P xs
all_by P [] h = All-nil P
all_by P (x ∷ xs) h = All-cons P x xs (h x here) (all_by P xs (λ y g. h y (there g)))

bits_free : (t : List ℕ) → IsOther (slice_index t 0) → All IsNoSupply (four_bits t)
bits_free t other = all_by IsNoSupply (four_bits t) (λ n i. free n (subst IsOther (sym (bits_letter t n i)) other))

ports_free : All IsNoSupply (names_of ports)
ports_free =
    All-cons IsNoSupply clock (four_bits (codes "x") ++ four_bits (codes "y")) (free clock (inl (omega arith)))
    (All-append IsNoSupply (four_bits (codes "x")) (four_bits (codes "y")) (bits_free (codes "x") (inr (omega arith))) (bits_free (codes "y") (inr (omega arith))))

vars_free : (ws : List ℕ) (size : ℕ) → All IsNoSupply (circuit_by ws size).vars
vars_free ws size =
    All-append IsNoSupply (four_bits (codes "x") ++ four_bits (codes "r")) (map (λ (e : Equation). e.name) (gates 0 ws ++ map (output size) (rising 0 4)))
    (All-append IsNoSupply (four_bits (codes "x")) (four_bits (codes "r")) (bits_free (codes "x") (inr (omega arith))) (bits_free (codes "r") (inl (omega arith))))
    (subst (All IsNoSupply) (sym (names_are ws size))
    (All-append IsNoSupply (gate_names 0 ws) (four_bits (codes "y"))
    (all_by IsNoSupply (gate_names 0 ws) (λ n i. free n (inl (let e = gates_letter n ws i in omega arith))))
    (bits_free (codes "y") (inr (omega arith)))))

-- ---- order

all_less : (n : Name) (ns : List Name) → All (λ m. name_cmp n m ≡ Less) ns → AreInOrder ns → AreInOrder (n ∷ ns)
all_less n ns h rest = AllPairs-cons (λ a b. name_cmp a b ≡ Less) n ns h rest

none_in_order : AreInOrder []
none_in_order i j d l m = absurd (omega arith)

abbrev EachBefore : Name → List Name → Type 0
EachBefore n [] = Unit {0}
EachBefore n (m ∷ ms) = (name_cmp n m ≡ Less) × EachBefore n ms

each_before : (n : Name) (ms : List Name) → EachBefore n ms → All (λ m. name_cmp n m ≡ Less) ms
each_before n [] h = All-nil (λ m. name_cmp n m ≡ Less)
each_before n (m ∷ ms) h = All-cons (λ m. name_cmp n m ≡ Less) m ms h.0 (each_before n ms h.1)

abbrev EachInOrder : List Name → Type 0
EachInOrder [] = Unit {0}
EachInOrder (n ∷ ns) = EachBefore n ns × EachInOrder ns

in_order : (ns : List Name) → EachInOrder ns → AreInOrder ns
in_order [] h = none_in_order
in_order (n ∷ ns) h = all_less n ns (each_before n ns h.0) (in_order ns h.1)

ports_in_order : AreInOrder (names_of ports)
ports_in_order = in_order (names_of ports) (
  (refl, (refl, (refl, (refl, (refl, (refl, (refl, (refl, tt)))))))),
  (
    (refl, (refl, (refl, (refl, (refl, (refl, (refl, tt))))))),
    (
      (refl, (refl, (refl, (refl, (refl, (refl, tt)))))),
      (
        (refl, (refl, (refl, (refl, (refl, tt))))),
        ((refl, (refl, (refl, (refl, tt)))), ((refl, (refl, (refl, tt))), ((refl, (refl, tt)), ((refl, tt), (tt, tt))))),
      ),
    ),
  ),
)

registers_in_order : AreInOrder (four_bits (codes "r"))
registers_in_order = in_order (four_bits (codes "r")) ((refl, (refl, (refl, tt))), ((refl, (refl, tt)), ((refl, tt), (tt, tt))))

-- ---- checked

pub length_gates : (j : ℕ) (ws : List ℕ) → length (gates j ws) ≡ length ws
length_gates j [] = refl
length_gates j (w ∷ ws) = let h = length_gates (j + 1) ws in omega arith

pub length_vars : (ws : List ℕ) (size : ℕ) → length (circuit_by ws size).vars ≡ length ws + 12
length_vars ws size =
    let outs : List Equation = map (output size) (rising 0 4) in
    let a = length-append (four_bits (codes "x") ++ four_bits (codes "r")) (map (λ (e : Equation). e.name) (gates 0 ws ++ outs)) in
    let b = length-map (gates 0 ws ++ outs) (λ (e : Equation). e.name) in
    let c = length-append (gates 0 ws) outs in
    let d = length_gates 0 ws in
    omega arith

clock_apart : (ws : List ℕ) (size : ℕ) → In clock (circuit_by ws size).vars → ⊥
clock_apart ws size i =
    elim (in_either clock (four_bits (codes "x") ++ four_bits (codes "r")) (map (λ (e : Equation). e.name) (gates 0 ws ++ map (output size) (rising 0 4))) i)
    [ inl a ↦ held (held_letter clock a) | inr b ↦ driven (driven_letter clock ws (subst (In clock) (names_are ws size) b)) ] where
      held : (letter clock ≡ 120) ⊎ (letter clock ≡ 114) → ⊥
      held (inl e) = absurd (omega arith)
      held (inr e) = absurd (omega arith)

      driven : (letter clock ≡ 103) ⊎ (letter clock ≡ 121) → ⊥
      driven (inl e) = absurd (omega arith)
      driven (inr e) = absurd (omega arith)

the_clock : (n : Name) → Some clock ≡ Some n → clock ≡ n
the_clock n e = ap (λ (o : Option Name). by o) e where
  by : Option Name → Name
  by None = clock
  by (Some n) = n

pub is_ordered : (ws : List ℕ) (size : ℕ) → length ws ≡ size → 8 ≤ size → size ≤ 4000 → IsOrdered (circuit_by ws size)
is_ordered ws size each least most = record {
  vars = refl;
  different = vars_differ ws size (omega arith);
  below = gates_below 0 8 ws (map (output size) (rising 0 4)) refl (outputs_below size (8 + length ws) least (omega arith));
}

loads_over : (ws : List ℕ) (size : ℕ) → length ws ≡ size → 8 ≤ size
    → All (λ r. IsOver r.next (length (circuit_by ws size).vars) × IsOver r.enable (length (circuit_by ws size).vars)) (map (register size) (rising 0 4))
loads_over ws size each least =
    let n = length (circuit_by ws size).vars in
    let many : n ≡ length ws + 12 = length_vars ws size in
    let P : Register → Type 0 = λ r. IsOver r.next n × IsOver r.enable n in
    All-cons P (register size 0) (map (register size) (rising 1 3)) (omega arith, tt)
    (All-cons P (register size 1) (map (register size) (rising 2 2)) (omega arith, tt)
    (All-cons P (register size 2) (map (register size) (rising 3 1)) (omega arith, tt)
    (All-cons P (register size 3) [] (omega arith, tt) (All-nil P))))

pub is_checked : (ws : List ℕ) (size : ℕ) → length ws ≡ size → 8 ≤ size → size ≤ 4000 → IsChecked (circuit_by ws size)
is_checked ws size each least most = record {
  ports = ports_in_order;
  registers = registers_in_order;
  supplies = All-append IsNoSupply (names_of ports) (circuit_by ws size).vars ports_free (vars_free ws size);
  driven = λ name i. subst (In name) (sym (names_are ws size)) (in_second name (gate_names 0 ws) (four_bits (codes "y")) i);
  clock = λ name is. subst (IsClockOf (circuit_by ws size)) (the_clock name is) (record { port = here; apart = clock_apart ws size });
  clocked = λ none. absurd cc;
  ordered = is_ordered ws size each least most;
  loads = loads_over ws size each least;
}

-- ---- of a seed

pub words_each : {S : Type 0} (step : S → ℕ × S) (n : ℕ) (s : S) → length (first_words step n s) ≡ n
unfolding first_words
words_each step zero s = refl
words_each step (suc n) s = let h = words_each step n (step s).1 in omega arith

pub circuits_are_checked : CircuitsAreChecked
unfolding generated
circuits_are_checked seed size least most =
    is_checked (words_of seed size) size (words_each pcg32 size (pcg32_of_seed (pcg32_seed 16 seed))) least most
