-- The bits of ranges, by name.
use Rattle.std.proofs.Common.{◌≡◌, ℕ, zero, suc, ◌+◌, ◌-◌, ◌<◌, ◌≤◌, Bool, true, false, ◌&&◌, nat_le, List, [], ◌∷◌, length, Option, Some, None, refl, sym, ap, subst, ◌∙◌, inl, inr, arith}
use Rattle.std.specs.List.{All, list_all}
use Rattle.std.proofs.str.Laws.{order}
use Rattle.std.proofs.lemmas.List.Elements.{All-nil, All-cons, All-head, All-tail}
use Rattle.std.proofs.lemmas.Bool.{le-leb, leb-true}
use Rattle.std.proofs.lemmas.Bool.Decides.{leb_tells}
use Rattle.vlsi_base.specs.declared.name.Name.{Name}
use Rattle.vlsi_base.specs.declared.range.Range.{Range}
use Rattle.machine_core.specs.Order.{In, here, there, AllDifferent}
use Rattle.pat_meaning.specs.declared.patterns.BitRange.{BitRange}
use Rattle.pat_meaning.specs.Columns.{range_bits, bits_named, names_of_range}
use Rattle.vlsi_base.specs.Range.{rising, falling, least, greatest}
use Rattle.vlsi_base.proofs.Ranges.{length_of_rising, length_of_falling}
use Rattle.pat_io.specs.Apart.{overlap}
use Rattle.pat_io.specs.Digits.{column_width, bit_range}

pub and_parts : (a b : Bool) → (a && b) ≡ true → (a ≡ true) × (b ≡ true)
and_parts true true h = (refl, refl)
and_parts true false h = (refl, h)
and_parts false b h = absurd cc

pub all_in : {A : Type 0} (P : A → Type 0) (xs : List A) → All P xs → (x : A) → In x xs → P x
all_in P (y ∷ xs) h x here = All-head P y xs h
all_in P (y ∷ xs) h x (there i) = all_in P xs (All-tail P y xs h) x i
all_in P [] h x i = elim i [ ]

abbrev pub bit_name : List ℕ → ℕ → Name
bit_name text k = record { text = text; bit = Some k }

-- what holds of each bit holds of all that rise, and of all that fall
rising_all : (P : Name → Type 0) (text : List ℕ) (n k : ℕ) → ((j : ℕ) → k ≤ j → j < k + n → P (bit_name text j)) → All P (bits_named text (rising k n))
rising_all P text zero k h = All-nil P
rising_all P text (suc n) k h = All-cons P (bit_name text k) (bits_named text (rising (k + 1) n)) (h k (omega arith) (omega arith)) (rising_all P text n (k + 1) (λ j a b. h j (omega arith) (omega arith)))

falling_all : (P : Name → Type 0) (text : List ℕ) (n k : ℕ) → ((j : ℕ) → k ≤ j → j < k + n → P (bit_name text j)) → All P (bits_named text (falling k n))
falling_all P text zero k h = All-nil P
falling_all P text (suc n) k h = All-cons P (bit_name text (k + n)) (bits_named text (falling k n)) (h (k + n) (omega arith) (omega arith)) (falling_all P text n k (λ j a b. h j a (omega arith)))

-- the two ends, where the left one is the least, and where it isn't
pub record Ends (r : Range) (low high : ℕ) : Type 0 where
  pub low_is : least r ≡ low
  pub high_is : greatest r ≡ high
  pub order : low ≤ high

pub up_ends : (r : Range) → nat_le r.left r.right ≡ true → r.left ≤ r.right → Ends r r.left r.right
up_ends r e up = record { low_is = rw e refl; high_is = rw e refl; order = up }

pub down_ends : (r : Range) → nat_le r.left r.right ≡ false → r.right < r.left → Ends r r.right r.left
down_ends r e down = record { low_is = rw e refl; high_is = rw e refl; order = omega arith }

abbrev pub bounds : Range → BitRange
bounds r = record { left = r.left; right = r.right }

pub up_range : (r : Range) → nat_le r.left r.right ≡ true → range_bits (bounds r) ≡ rising r.left (r.right - r.left + 1)
up_range r e = rw e refl

pub down_range : (r : Range) → nat_le r.left r.right ≡ false → range_bits (bounds r) ≡ falling r.right (r.left - r.right + 1)
down_range r e = rw e refl

pub range_all : (P : Name → Type 0) (text : List ℕ) (r : Range) → ((j : ℕ) → least r ≤ j → j ≤ greatest r → P (bit_name text j)) → All P (bits_named text (range_bits (record { left = r.left; right = r.right })))
range_all P text r h = elim (leb_tells r.left r.right) [
  | inl t ↦
      let e = up_ends r t.0 t.1 in
      let Every : List ℕ → Type 0 = λ ks. All P (bits_named text ks) in
      subst Every (sym (up_range r t.0)) (rising_all P text (r.right - r.left + 1) r.left (λ j a b. h j (omega (arith, e.low_is)) (omega (arith, e.high_is, t.1))))
  | inr t ↦
      let e = down_ends r t.0 t.1 in
      let Every : List ℕ → Type 0 = λ ks. All P (bits_named text ks) in
      subst Every (sym (down_range r t.0)) (falling_all P text (r.left - r.right + 1) r.right (λ j a b. h j (omega (arith, e.low_is)) (omega (arith, e.high_is, t.1))))
]

-- the test of each bit that rises
pub rising_test : (p : ℕ → Bool) (n k : ℕ) → list_all p (rising k n) ≡ true → (j : ℕ) → k ≤ j → j < k + n → p j ≡ true
rising_test p zero k h j a b = absurd (omega arith)
rising_test p (suc n) k h j a b =
    let parts = and_parts (p k) (list_all p (rising (k + 1) n)) h in
    elim (order k j) [
      | inl later ↦ rising_test p n (k + 1) parts.1 j (omega arith) (omega arith)
      | inr first ↦ let e : j ≡ k = omega arith in ap p e ∙ parts.0
    ]

pub range_test : (p : ℕ → Bool) (r : Range) → list_all p (rising (least r) (column_width (Some r))) ≡ true → (j : ℕ) → least r ≤ j → j ≤ greatest r → p j ≡ true
range_test p r h j a b = rising_test p (column_width (Some r)) (least r) h j a (omega arith)

-- ---- how many

length_named : (text : List ℕ) (ks : List ℕ) → length (bits_named text ks) ≡ length ks
length_named text [] = refl
length_named text (k ∷ ks) = ap suc (length_named text ks)

pub length_names : (text : List ℕ) (r : Option Range) → length (names_of_range text (bit_range r)) ≡ column_width r
length_names text None = refl
length_names text (Some r) = length_named text (range_bits (record { left = r.left; right = r.right })) ∙ elim (leb_tells r.left r.right) [
  | inl t ↦ let e = up_ends r t.0 t.1 in ap length (up_range r t.0) ∙ length_of_rising r.left (r.right - r.left + 1) ∙ omega (arith, e.low_is, e.high_is)
  | inr t ↦ let e = down_ends r t.0 t.1 in ap length (down_range r t.0) ∙ length_of_falling r.right (r.left - r.right + 1) ∙ omega (arith, e.low_is, e.high_is)
]

-- ---- which names

-- the bit is of the range; a scalar has none
abbrev pub InRange : Option ℕ → Option Range → Type 0
InRange None None = Unit {0}
InRange None (Some r) = ⊥
InRange (Some k) None = ⊥
InRange (Some k) (Some r) = (least r ≤ k) × (k ≤ greatest r)

pub record IsListed (n : Name) (text : List ℕ) (r : Option Range) : Type 0 where
  pub text_is : n.text ≡ text
  pub bit : InRange n.bit r

pub listed_all : (text : List ℕ) (r : Option Range) → All (λ n. IsListed n text r) (names_of_range text (bit_range r))
listed_all text None = All-cons (λ n. IsListed n text None) (record { text = text; bit = None }) [] (record { text_is = refl; bit = tt }) (All-nil (λ n. IsListed n text None))
listed_all text (Some r) = range_all (λ n. IsListed n text (Some r)) text r (λ j a b. record { text_is = refl; bit = (a, b) })

-- two ranges that have a bit overlap
pub overlap_of : (b : Option ℕ) (r s : Option Range) → InRange b r → InRange b s → overlap r s ≡ true
overlap_of None None None i j = refl
overlap_of None None (Some s) i j = absurd j
overlap_of None (Some r) s i j = absurd i
overlap_of (Some k) None s i j = absurd i
overlap_of (Some k) (Some r) None i j = absurd j
overlap_of (Some k) (Some r) (Some s) i j =
    let a = i.0 in let b = i.1 in let c = j.0 in let d = j.1 in
    rw (le-leb (least r) (greatest s) (omega arith), le-leb (least s) (greatest r) (omega arith)) refl

-- ---- no bit twice

record From (k : ℕ) (n : Name) : Type 0 where
  pub j : ℕ
  pub bit : n.bit ≡ Some j
  pub least : k ≤ j

record Below (k : ℕ) (n : Name) : Type 0 where
  pub j : ℕ
  pub bit : n.bit ≡ Some j
  pub less : j < k

some_same : (a b : ℕ) → Some a ≡ Some b → a ≡ b
some_same a b e = cc

rising_different : (text : List ℕ) (n k : ℕ) → AllDifferent (bits_named text (rising k n))
rising_different text zero k = tt
rising_different text (suc n) k = (
  λ i. let f = all_in (From (k + 1)) (bits_named text (rising (k + 1) n)) (rising_all (From (k + 1)) text n (k + 1) (λ j a b. record { j = j; bit = refl; least = a })) (bit_name text k) i in
      let e = some_same k f.j f.bit in let g = f.least in omega arith,
  rising_different text n (k + 1),
)

falling_different : (text : List ℕ) (n k : ℕ) → AllDifferent (bits_named text (falling k n))
falling_different text zero k = tt
falling_different text (suc n) k = (
  λ i. let f = all_in (Below (k + n)) (bits_named text (falling k n)) (falling_all (Below (k + n)) text n k (λ j a b. record { j = j; bit = refl; less = b })) (bit_name text (k + n)) i in
      let e = some_same (k + n) f.j f.bit in let g = f.less in omega arith,
  falling_different text n k,
)

pub names_different : (text : List ℕ) (r : Option Range) → AllDifferent (names_of_range text (bit_range r))
names_different text None = (λ i. elim i [ ], tt)
names_different text (Some r) = elim (leb_tells r.left r.right) [
  | inl t ↦ let Different : List ℕ → Type 0 = λ ks. AllDifferent (bits_named text ks) in subst Different (sym (up_range r t.0)) (rising_different text (r.right - r.left + 1) r.left)
  | inr t ↦ let Different : List ℕ → Type 0 = λ ks. AllDifferent (bits_named text ks) in subst Different (sym (down_range r t.0)) (falling_different text (r.left - r.right + 1) r.right)
]

-- ---- each bit is there

rising_in : (text : List ℕ) (n k j : ℕ) → k ≤ j → j < k + n → In (bit_name text j) (bits_named text (rising k n))
rising_in text zero k j a b = absurd (omega arith)
rising_in text (suc n) k j a b = elim (order k j) [
  | inl later ↦ there (rising_in text n (k + 1) j (omega arith) (omega arith))
  | inr first ↦ let e : k ≡ j = omega arith in let P : ℕ → Type 0 = λ i. In (bit_name text i) (bits_named text (rising k (suc n))) in subst P e here
]

falling_in : (text : List ℕ) (n k j : ℕ) → k ≤ j → j < k + n → In (bit_name text j) (bits_named text (falling k n))
falling_in text zero k j a b = absurd (omega arith)
falling_in text (suc n) k j a b = elim (order j (k + n)) [
  | inl later ↦ there (falling_in text n k j a later)
  | inr first ↦ let e : k + n ≡ j = omega arith in let P : ℕ → Type 0 = λ i. In (bit_name text i) (bits_named text (falling k (suc n))) in subst P e here
]

range_in : (text : List ℕ) (r : Range) (j : ℕ) → least r ≤ j → j ≤ greatest r → In (bit_name text j) (bits_named text (range_bits (bounds r)))
range_in text r j a b = elim (leb_tells r.left r.right) [
  | inl t ↦
      let e = up_ends r t.0 t.1 in
      let There : List ℕ → Type 0 = λ ks. In (bit_name text j) (bits_named text ks) in
      subst There (sym (up_range r t.0)) (rising_in text (r.right - r.left + 1) r.left j (omega (arith, e.low_is)) (omega (arith, e.high_is, t.1)))
  | inr t ↦
      let e = down_ends r t.0 t.1 in
      let There : List ℕ → Type 0 = λ ks. In (bit_name text j) (bits_named text ks) in
      subst There (sym (down_range r t.0)) (falling_in text (r.left - r.right + 1) r.right j (omega (arith, e.low_is)) (omega (arith, e.high_is, t.1)))
]

pub names_in : (text : List ℕ) (b : Option ℕ) (r : Option Range) → InRange b r → In (record { text = text; bit = b }) (names_of_range text (bit_range r))
names_in text None None i = here
names_in text None (Some r) i = absurd i
names_in text (Some k) None i = absurd i
names_in text (Some k) (Some r) i = range_in text r k i.0 i.1

pub ends_order : (r : Range) → least r ≤ greatest r
ends_order r = elim (leb_tells r.left r.right) [
  | inl t ↦ let e = up_ends r t.0 t.1 in omega (arith, e.low_is, e.high_is, t.1)
  | inr t ↦ let e = down_ends r t.0 t.1 in omega (arith, e.low_is, e.high_is, t.1)
]

-- ranges that overlap have a bit in common
pub record Common (r s : Option Range) : Type 0 where
  pub bit : Option ℕ
  pub in_first : InRange bit r
  pub in_second : InRange bit s

pub common : (r s : Option Range) → overlap r s ≡ true → Common r s
common None None h = record { bit = None; in_first = tt; in_second = tt }
common None (Some s) h = absurd cc
common (Some r) None h = absurd cc
common (Some r) (Some s) h =
    let parts = and_parts (nat_le (least r) (greatest s)) (nat_le (least s) (greatest r)) h in
    let a = leb-true (least r) (greatest s) parts.0 in
    let b = leb-true (least s) (greatest r) parts.1 in
    let c = ends_order r in
    let d = ends_order s in
    elim (order (least r) (least s)) [
      | inl less ↦ record { bit = Some (least s); in_first = (omega arith, b); in_second = (omega arith, d) }
      | inr more ↦ record { bit = Some (least r); in_first = (omega arith, c); in_second = (more, a) }
    ]
