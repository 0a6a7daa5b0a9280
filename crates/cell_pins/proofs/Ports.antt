-- The pins of a cell with its supplies stand in the order of names, and there are few.
use Rattle.std.proofs.Common.{◌≡◌, ◌⊎◌, inl, inr, ℕ, suc, ◌+◌, ◌<◌, ◌≤◌, ◌^◌, Bool, true, false, List, [], ◌∷◌, ◌++◌, length, filter, refl, sym, ◌∙◌, ap, subst, arith, length-append, Option, Some, None, cond}
use Rattle.std.specs.Prelude.{IsTrue, AllPairs}
use Rattle.std.specs.Ordering.{is_lt, ordering_reverse}
use Rattle.std.specs.declared.cmp.Ordering.{Ordering}
use Rattle.std.specs.declared.cmp.Ordering.TheVariants.{Less, Equal, Greater}
use Rattle.std.proofs.lemmas.List.{length-map}
use Rattle.std.proofs.lemmas.List.Kept.{AllPairs-cons}
use Rattle.vlsi_base.specs.declared.name.Name.{Name}
use Rattle.vlsi_base.specs.declared.name.Port.{Port}
use Rattle.vlsi_base.specs.Name.{name_cmp}
use Rattle.vlsi_base.specs.Names.{vdd, vss, comes_before}
use Rattle.vlsi_base.specs.Member.{In, here, there, AllDifferent}
use Rattle.vlsi_base.proofs.NameOrder.{name_total}
use Rattle.machine_core.specs.Machine.{names_of}
use Rattle.sym_geom.specs.declared.item.Item.{Item}
use Rattle.sym_geom.specs.declared.item.Item.TheVariants as item
use Rattle.sym_shapes.specs.Shape.{wire_name, label, connector_name, connector_names}
use Rattle.cell_model.specs.Cell.{Cell, pin_ports}
use Rattle.cell_model.specs.Usable.{IsFormed}
use Rattle.cell_model.specs.Connectors.{PinsAreConnectors}
use Rattle.cell_model.proofs.Members.{In-split, In-map, In-map_back, place-In, All-from}
use Rattle.cell_pins.specs.Pins.{supply, with_supply, all_ports}

-- ---- the order of names

pub before_less : (a b : Name) → IsTrue (comes_before a b) → name_cmp a b ≡ Less
before_less a b h = by (name_cmp a b) h where
  by : (o : Ordering) → is_lt o ≡ true → o ≡ Less
  by Less e = refl
  by Equal e = absurd cc
  by Greater e = absurd cc

pub before_trans : (a b c : Name) → IsTrue (comes_before a b) → IsTrue (comes_before b c) → IsTrue (comes_before a c)
before_trans a b c p q = ap is_lt (name_total.trans a b c (before_less a b p) (before_less b c q))

pub before_itself : (a : Name) → IsTrue (comes_before a a) → ⊥
before_itself a h =
    let less = before_less a a h in
    let turned : Less ≡ Greater = sym less ∙ name_total.antisymm a a ∙ ap ordering_reverse less in absurd cc

-- each port stands before all later ones
abbrev pub Sorted : List Port → Type 0
Sorted [] = Unit {0}
Sorted (p ∷ ps) = ((q : Port) → In q ps → IsTrue (comes_before p.name q.name)) × Sorted ps

pub sorted_of : (ps : List Port) → AllPairs (λ a b. IsTrue (comes_before a b)) (names_of ps) → Sorted ps
sorted_of [] h = tt
sorted_of (p ∷ ps) h = (
  λ q i. let r = place-In q.name (names_of ps) (In-map (λ x. x.name) q ps i) in
      subst (λ n. IsTrue (comes_before p.name n)) (r.2 p.name) (h 0 (suc r.0) p.name (omega arith) (omega (arith, r.1))),
  sorted_of ps (λ i j d low high. h (suc i) (suc j) d (omega (arith, low)) (omega (arith, high))),
)

pub sorted_pairs : (ps : List Port) → Sorted ps → AllPairs (λ a b. IsTrue (comes_before a b)) (names_of ps)
sorted_pairs [] s = λ i j d low high. absurd (omega (arith, high))
sorted_pairs (p ∷ ps) s =
    AllPairs-cons (λ a b. IsTrue (comes_before a b)) p.name (names_of ps)
    (All-from (λ n. IsTrue (comes_before p.name n)) (names_of ps) (λ n i. let r = In-map_back (λ x. x.name) n ps i in subst (λ x. IsTrue (comes_before p.name x)) r.2 (s.0 r.0 r.1)))
    (sorted_pairs ps s.1)

first : {A : Type 0} (q p : A) (xs ps : List A) (t : A → Bool) → t p ≡ true → In q (p ∷ xs) → (In q xs → In q ps × (t q ≡ true)) → In q (p ∷ ps) × (t q ≡ true)
first q p xs ps t is here later = (here, is)
first q p xs ps t is (there j) later = let r = later j in (there r.0, r.1)

pub in_filter : {A : Type 0} (t : A → Bool) (ps : List A) (q : A) → In q (filter t ps) → In q ps × (t q ≡ true)
in_filter t [] q i = elim i [ ]
in_filter t (p ∷ ps) q i = by (t p) refl i (λ j. in_filter t ps q j) where
  by : (b : Bool) → t p ≡ b → In q (cond b (p ∷ filter t ps) (filter t ps)) → (In q (filter t ps) → In q ps × (t q ≡ true)) → In q (p ∷ ps) × (t q ≡ true)
  by true is j later = first q p (filter t ps) ps t is j later
  by false is j later = let r = later j in (there r.0, r.1)

pub sorted_filter : (t : Port → Bool) (ps : List Port) → Sorted ps → Sorted (filter t ps)
sorted_filter t [] s = tt
sorted_filter t (p ∷ ps) s = by (t p) (sorted_filter t ps s.1) where
  by : (b : Bool) → Sorted (filter t ps) → Sorted (cond b (p ∷ filter t ps) (filter t ps))
  by true rest = (λ q i. s.0 q (in_filter t ps q i).0, rest)
  by false rest = rest

sorted_append : (xs ys : List Port) → Sorted xs → Sorted ys → ((x y : Port) → In x xs → In y ys → IsTrue (comes_before x.name y.name)) → Sorted (xs ++ ys)
sorted_append [] ys s t cross = t
sorted_append (x ∷ xs) ys s t cross = (
  λ q i. elim (In-split q xs ys i) [ inl a ↦ s.0 q a | inr b ↦ cross x q here b ],
  sorted_append xs ys s.1 t (λ a b i j. cross a b (there i) j),
)

behind_cases : (name : Name) (p q : Port) (g : List Port) → IsTrue (comes_before p.name name)
    → ((r : Port) → In r g → IsTrue (comes_before name r.name)) → In q (supply name ∷ g) → IsTrue (comes_before p.name q.name)
behind_cases name p q g low high here = low
behind_cases name p q g low high (there i) = before_trans p.name name q.name low (high q i)

pub sorted_supply : (name : Name) (ps : List Port) → Sorted ps → Sorted (with_supply name ps)
sorted_supply name ps s =
    let high = λ (r : Port) (i : In r (filter (λ p. comes_before name p.name) ps)). (in_filter (λ p. comes_before name p.name) ps r i).1 in
    sorted_append (filter (λ p. comes_before p.name name) ps) (supply name ∷ filter (λ p. comes_before name p.name) ps)
    (sorted_filter (λ p. comes_before p.name name) ps s)
    (high, sorted_filter (λ p. comes_before name p.name) ps s)
    (λ p q i j. behind_cases name p q (filter (λ p. comes_before name p.name) ps) (in_filter (λ p. comes_before p.name name) ps p i).1 high j)

pub all_sorted : (c : Cell) → IsFormed c → Sorted (all_ports c)
all_sorted c h = sorted_supply vss (with_supply vdd (pin_ports c)) (sorted_supply vdd (pin_ports c) (sorted_of (pin_ports c) h.order))

-- ---- how many there are

supply_cases : (name : Name) (q : Port) (g : List Port) → In q (supply name ∷ g) → (q ≡ supply name) ⊎ In q g
supply_cases name q g here = inl refl
supply_cases name q g (there i) = inr i

pub with_cases : (name : Name) (ps : List Port) (q : Port) → In q (with_supply name ps) → (q ≡ supply name) ⊎ In q ps
with_cases name ps q i =
    elim (In-split q (filter (λ p. comes_before p.name name) ps) (supply name ∷ filter (λ p. comes_before name p.name) ps) i) [
      | inl a ↦ inr (in_filter (λ p. comes_before p.name name) ps q a).0
      | inr b ↦ elim (supply_cases name q (filter (λ p. comes_before name p.name) ps) b) [
        | inl is ↦ inl is
        | inr j ↦ inr (in_filter (λ p. comes_before name p.name) ps q j).0
      ]
    ]

port_connected : (c : Cell) → PinsAreConnectors c → (q : Port) → In q (all_ports c) → In q.name (connector_names c.items)
port_connected c h q i = elim (with_cases vss (with_supply vdd (pin_ports c)) q i) [
  | inl is ↦ (h q.name).1 (inr (inl (ap (λ (p : Port). p.name) is)))
  | inr j ↦ elim (with_cases vdd (pin_ports c) q j) [
    | inl is ↦ (h q.name).1 (inl (ap (λ (p : Port). p.name) is))
    | inr k ↦ (h q.name).1 (inr (inr (In-map (λ p. p.name) q (pin_ports c) k)))
  ]
]

pub sorted_different : (ps : List Port) → Sorted ps → AllDifferent (names_of ps)
sorted_different [] s = tt
sorted_different (p ∷ ps) s = (
  λ i. let r = In-map_back (λ x. x.name) p.name ps i in before_itself p.name (subst (λ n. IsTrue (comes_before p.name n)) r.2 (s.0 r.0 r.1)),
  sorted_different ps s.1,
)

-- a list without one of its members
record Cut (x : Name) (ys : List Name) : Type 0 where
  pub rest : List Name
  pub many : length ys ≡ length rest + 1
  pub cases : (n : Name) → In n ys → (n ≡ x) ⊎ In n rest

head_cases : (n x : Name) (ys : List Name) → In n (x ∷ ys) → (n ≡ x) ⊎ In n ys
head_cases n x ys here = inl refl
head_cases n x ys (there i) = inr i

tail_cases : (n x y : Name) (rest ys : List Name) → ((m : Name) → In m ys → (m ≡ x) ⊎ In m rest) → In n (y ∷ ys) → (n ≡ x) ⊎ In n (y ∷ rest)
tail_cases n x y rest ys cases here = inr here
tail_cases n x y rest ys cases (there i) = elim (cases n i) [ inl e ↦ inl e | inr j ↦ inr (there j) ]

cut : (x : Name) (ys : List Name) → In x ys → Cut x ys
cut x [] i = elim i [ ]
cut x (y ∷ ys) here = record { rest = ys; many = omega arith; cases = λ n i. head_cases n x ys i }
cut x (y ∷ ys) (there i) =
    let r = cut x ys i in
    record { rest = y ∷ r.rest; many = omega (arith, r.many); cases = λ n j. tail_cases n x y r.rest ys r.cases j }

fits : (xs ys : List Name) → AllDifferent xs → ((n : Name) → In n xs → In n ys) → length xs ≤ length ys
fits [] ys d within = omega arith
fits (x ∷ xs) ys d within =
    let r = cut x ys (within x here) in
    let rest = fits xs r.rest d.1 (λ n i. elim (r.cases n (within n (there i))) [ inl is ↦ absurd (d.0 (subst (λ m. In m xs) is i)) | inr j ↦ j ]) in
    omega (arith, rest, r.many)

label_one : (o : Option Name) → length (label o) ≤ 1
label_one None = omega arith
label_one (Some n) = omega arith

one_name : (i : Item) → length (connector_name i) ≤ 1
one_name (item.Segment s) = label_one (wire_name s.layer s.name)
one_name (item.Connector c) = label_one c.name
one_name (item.Via v) = omega arith
one_name (item.Instance i) = omega arith
one_name (item.Reference r) = omega arith
one_name (item.Remark t) = omega arith

few_names : (items : List Item) → length (connector_names items) ≤ length items
few_names [] = omega arith
few_names (i ∷ items) = omega (arith, length-append (connector_name i) (connector_names items), one_name i, few_names items)

few : (c : Cell) → IsFormed c → PinsAreConnectors c → length (all_ports c) ≤ length c.items
few c h k =
    let a = fits (names_of (all_ports c)) (connector_names c.items) (sorted_different (all_ports c) (all_sorted c h))
    (λ n i. let r = In-map_back (λ p. p.name) n (all_ports c) i in subst (λ m. In m (connector_names c.items)) r.2 (port_connected c k r.0 r.1)) in
    omega (arith, a, few_names c.items, length-map (all_ports c) (λ p. p.name))

pub few_ports : (c : Cell) (ports : List Port) → IsFormed c → PinsAreConnectors c → ports ≡ all_ports c → length ports < 2 ^ 32
few_ports c ports h k is = subst (λ (ps : List Port). length ps < 2 ^ 32) (sym is) (by (length (all_ports c)) (length c.items) (few c h k) h.few) where
  by : (a b : ℕ) → a ≤ b → b < 2 ^ 31 → a < 2 ^ 32
  by a b p q = omega (arith, p, q)
