-- Names of a machine: ports stand in order, so they differ; what is inside has texts that no port has.
use Rattle.std.proofs.Common.{◌≡◌, ℕ, zero, suc, ◌+◌, ◌<◌, ◌≤◌, Bool, true, false, not, List, [], ◌∷◌, map, filter, length, codes, Option, None, Some, bytes_eq, if◌then◌else◌, ◌⊎◌, inl, inr, refl, sym, ap, subst, ◌∙◌, arith}
use Rattle.std.specs.List.{slice_index_or}
use Rattle.std.specs.Cmp.{nat_cmp_is}
use Rattle.std.specs.Cmp.Lexicographic.{slice_cmp}
use Rattle.std.specs.Ordering.{nat_cmp, ordering_reverse}
use Rattle.std.specs.declared.cmp.Ordering.{Ordering}
use Rattle.std.specs.declared.cmp.Ordering.TheVariants.{Less, Equal, Greater}
use Rattle.std.proofs.lemmas.Bool.{and_parts}
use Rattle.std.proofs.lemmas.Cmp.{nat_cmp_total, lists_total}
use Rattle.std.proofs.lemmas.Slice.Eq.{bytes_eq-Decides}
use Rattle.vlsi_base.specs.declared.name.Name.{Name}
use Rattle.vlsi_base.specs.declared.name.Port.{Port}
use Rattle.vlsi_base.specs.declared.name.Dir.{Dir}
use Rattle.vlsi_base.specs.Member.{In, there, AllDifferent}
use Rattle.vlsi_base.specs.Name.{name_cmp}
use Rattle.vlsi_base.proofs.NameOrder.{name_total}
use Rattle.machine_core.specs.Machine.{is_input, names_of}
use Rattle.machine_core.specs.Checked.{AreInOrder, IsNoSupply}
use Rattle.text_names.specs.Free.{is_free, numbered, candidate, IsFirstFree}
use Rattle.fsm_machine.specs.MachineOf.{up, code_names}
use Rattle.syf_machine.specs.Named.{texts_of}
use Rattle.syf_machine.proofs.Lists.{in_cons, here_by, in_map, map_in, in_filter, in_contains}

-- ---- order

own_order : (o : Ordering) → o ≡ ordering_reverse o → o ≡ Equal
own_order Less e = absurd cc
own_order Equal e = refl
own_order Greater e = absurd cc

itself : (n : Name) → name_cmp n n ≡ Equal
itself n = own_order (name_cmp n n) (name_total.antisymm n n)

pub in_order_differ : (names : List Name) → AreInOrder names → AllDifferent names
in_order_differ [] h = tt
in_order_differ (n ∷ names) h = (
  λ i. (let c = in_contains n names i in
      let l = c.1 in
      let less : name_cmp n (slice_index_or names c.0 n) ≡ Less = h 0 (suc c.0) n (omega arith) (omega arith) in
      let P : Name → Type 0 = λ x. name_cmp n x ≡ Less in
      let never : Equal ≡ Less = sym (itself n) ∙ subst P c.2 less in absurd cc),
  in_order_differ names (λ i j d a b. h (suc i) (suc j) d (omega arith) (omega arith)),
)

-- a bit of this text
abbrev pub bit_of : List ℕ → ℕ → Name
bit_of st k = record { text = st; bit = Some k }

bit_at : (st : List ℕ) (k n i : ℕ) (d : Name) → i < n → slice_index_or (map (bit_of st) (up k n)) i d ≡ bit_of st (k + i)
bit_at st k zero i d l = absurd (omega arith)
bit_at st k (suc n) zero d l = ap (bit_of st) (omega arith)
bit_at st k (suc n) (suc i) d l = bit_at st (suc k) n i d (omega arith) ∙ ap (bit_of st) (omega arith)

bits_each : (st : List ℕ) (k n : ℕ) → length (map (bit_of st) (up k n)) ≡ n
bits_each st k zero = refl
bits_each st k (suc n) = let h = bits_each st (suc k) n in omega arith

pub bits_in_order : (st : List ℕ) (width : ℕ) → AreInOrder (code_names st width)
bits_in_order st width i j d a b =
    let n = bits_each st 0 width in
    let e = bit_at st 0 width i d (omega arith) in
    let g = bit_at st 0 width j d (omega arith) in
    let text : slice_cmp nat_cmp st st ≡ Equal = own_order (slice_cmp nat_cmp st st) ((lists_total nat_cmp_total).antisymm st st) in
    let less : nat_cmp (0 + i) (0 + j) ≡ Less = sym (nat_cmp_is (0 + i) (0 + j) Less (omega arith)) in
    rw (e, g, text) less

number_in : (st : List ℕ) (x : Name) (k n : ℕ) → In x (map (bit_of st) (up k n)) → (j : ℕ) × (k ≤ j) × (x ≡ bit_of st j)
number_in st x k zero i = elim i [ ]
number_in st x k (suc n) i = by (number_in st x (suc k) n) (in_cons x (bit_of st k) (map (bit_of st) (up (suc k) n)) i) where
  by : (In x (map (bit_of st) (up (suc k) n)) → (j : ℕ) × (suc k ≤ j) × (x ≡ bit_of st j)) → (x ≡ bit_of st k) ⊎ In x (map (bit_of st) (up (suc k) n)) → (j : ℕ) × (k ≤ j) × (x ≡ bit_of st j)
  by later (inl e) = (k, omega arith, e)
  by later (inr i) = let h = later i in let l = h.1 in (h.0, omega arith, h.2)

abbrev number : Option ℕ → ℕ
number None = 0
number (Some k) = k

pub bits_differ : (st : List ℕ) (k n : ℕ) → AllDifferent (map (bit_of st) (up k n))
bits_differ st k zero = tt
bits_differ st k (suc n) = (
  λ i. (let h = number_in st (bit_of st k) (suc k) n i in
      let l = h.1 in
      let same : k ≡ h.0 = ap (λ (x : Name). number x.bit) h.2 in absurd (omega arith)),
  bits_differ st (suc k) n,
)

pub bit_text : (st : List ℕ) (width : ℕ) (x : Name) → In x (code_names st width) → x.text ≡ st
bit_text st width x i = let h = number_in st x 0 width i in ap (λ (n : Name). n.text) h.2

-- ---- ports

pub port_in : (q : Dir → Bool) (name : Name) (ps : List Port) → In name (names_of (filter (λ p. q p.dir) ps)) → In name (names_of ps)
port_in q name ps i =
    let found = in_map (λ (p : Port). p.name) name (filter (λ p. q p.dir) ps) i in
    let P : Name → Type 0 = λ n. In n (names_of ps) in
    subst P (sym found.2) (map_in (λ (p : Port). p.name) found.0 ps (in_filter (λ (p : Port). q p.dir) found.0 ps found.1).0)

pub ports_differ : (q : Dir → Bool) (ps : List Port) → AllDifferent (names_of ps) → AllDifferent (names_of (filter (λ p. q p.dir) ps))
ports_differ q [] h = tt
ports_differ q (p ∷ ps) h = by (ports_differ q ps h.1) (q p.dir) where
  by : AllDifferent (names_of (filter (λ p. q p.dir) ps)) → (t : Bool) → AllDifferent (names_of (if t then p ∷ filter (λ p. q p.dir) ps else filter (λ p. q p.dir) ps))
  by later true = (λ i. h.0 (port_in q p.name ps i), later)
  by later false = later

pub apart_dirs : (name : Name) (ps : List Port) → AllDifferent (names_of ps) → In name (names_of (filter (λ p. is_input p.dir) ps)) → In name (names_of (filter (λ p. not (is_input p.dir)) ps)) → ⊥
apart_dirs name [] h i j = elim i [ ]
apart_dirs name (p ∷ ps) h i j = by (apart_dirs name ps h.1) (is_input p.dir) i j where
  by : (In name (names_of (filter (λ p. is_input p.dir) ps)) → In name (names_of (filter (λ p. not (is_input p.dir)) ps)) → ⊥) → (t : Bool)
      → In name (names_of (if t then p ∷ filter (λ p. is_input p.dir) ps else filter (λ p. is_input p.dir) ps))
      → In name (names_of (if not t then p ∷ filter (λ p. not (is_input p.dir)) ps else filter (λ p. not (is_input p.dir)) ps)) → ⊥
  by later true i j =
      let Q : Name → Type 0 = λ n. In n (names_of ps) in
      elim (in_cons name p.name (names_of (filter (λ p. is_input p.dir) ps)) i)
      [ inl e ↦ h.0 (subst Q e (port_in (λ d. not (is_input d)) name ps j)) | inr k ↦ later k j ]
  by later false i j =
      let Q : Name → Type 0 = λ n. In n (names_of ps) in
      elim (in_cons name p.name (names_of (filter (λ p. not (is_input p.dir)) ps)) j)
      [ inl e ↦ h.0 (subst Q e (port_in is_input name ps i)) | inr k ↦ later i k ]

-- a port is an input or an output
pub either_dir : (name : Name) (ps : List Port) → In name (names_of ps) → In name (names_of (filter (λ p. is_input p.dir) ps)) ⊎ In name (names_of (filter (λ p. not (is_input p.dir)) ps))
either_dir name [] i = elim i [ ]
either_dir name (p ∷ ps) i = by (either_dir name ps) (is_input p.dir) (in_cons name p.name (names_of ps) i) where
  by : (In name (names_of ps) → In name (names_of (filter (λ p. is_input p.dir) ps)) ⊎ In name (names_of (filter (λ p. not (is_input p.dir)) ps))) → (t : Bool) → (name ≡ p.name) ⊎ In name (names_of ps)
      → In name (names_of (if t then p ∷ filter (λ p. is_input p.dir) ps else filter (λ p. is_input p.dir) ps))
      ⊎ In name (names_of (if not t then p ∷ filter (λ p. not (is_input p.dir)) ps else filter (λ p. not (is_input p.dir)) ps))
  by later true (inl e) = inl (here_by name p.name (names_of (filter (λ p. is_input p.dir) ps)) e)
  by later false (inl e) = inr (here_by name p.name (names_of (filter (λ p. not (is_input p.dir)) ps)) e)
  by later true (inr i) = elim (later i) [ inl a ↦ inl (there a) | inr b ↦ inr b ]
  by later false (inr i) = elim (later i) [ inl a ↦ inl a | inr b ↦ inr (there b) ]

pub text_in : (x : Name) (ps : List Port) → In x (names_of ps) → In x.text (texts_of ps)
text_in x ps i =
    let found = in_map (λ (p : Port). p.name) x ps i in
    let P : Name → Type 0 = λ n. In n.text (texts_of ps) in
    subst P (sym found.2) (map_in (λ (p : Port). p.name.text) found.0 ps found.1)

-- ---- texts

not_true : (a : Bool) → not a ≡ true → a ≡ true → ⊥
not_true true e g = absurd cc
not_true false e g = absurd cc

pub free_not_in : (taken : List (List ℕ)) (t : List ℕ) → is_free taken t ≡ true → In t taken → ⊥
free_not_in [] t e i = elim i [ ]
free_not_in (x ∷ taken) t e i =
    let parts = and_parts (not (bytes_eq x t)) (is_free taken t) e in
    elim (in_cons t x taken i) [ inl s ↦ not_true (bytes_eq x t) parts.0 ((bytes_eq-Decides x t).1 (sym s)) | inr j ↦ free_not_in taken t parts.1 j ]

abbrev pub first : List ℕ → ℕ
first [] = 0
first (x ∷ xs) = x

first_candidate : (k : ℕ) → first (candidate (codes "st") k) ≡ 115
first_candidate zero = refl
first_candidate (suc k) = refl

pub first_of_st : (taken : List (List ℕ)) (st : List ℕ) → IsFirstFree (codes "st") taken st → first st ≡ 115
first_of_st taken st h = ap first h.is ∙ first_candidate h.place

pub first_of_inner : (ks : List ℕ) (t : List ℕ) → In t (map (numbered (codes "n")) ks) → first t ≡ 110
first_of_inner ks t i = let found = in_map (numbered (codes "n")) t ks i in ap first found.2

pub no_supply : (n : Name) (c : ℕ) → first n.text ≡ c → c < 118 → IsNoSupply n
no_supply n c e l = (
  λ s. (let g : first n.text ≡ 118 = ap first s in omega arith),
  λ s. (let g : first n.text ≡ 118 = ap first s in omega arith),
)
