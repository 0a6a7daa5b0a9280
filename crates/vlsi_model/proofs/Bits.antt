-- The bits of declared names: which they are, and that they are all different.
use Rattle.std.proofs.Common.{◌≡◌, inl, inr, ℕ, zero, suc, ◌+◌, ◌-◌, ◌≤◌, ◌<◌, Bool, true, false, cond, ◌&&◌, leb, List, [], ◌∷◌, map, Option, None, Some, refl, sym, ap, ◌∙◌, subst, bytes_eq, arith}
use Rattle.std.specs.Prelude.{◌||◌}
use Rattle.std.specs.List.{list_any}
use Rattle.std.proofs.lemmas.Bool.Decides.{nat_tests}
use Rattle.vlsi_base.specs.declared.name.Name.{Name}
use Rattle.vlsi_base.specs.declared.range.Range.{Range}
use Rattle.machine_core.specs.Order.{In, here, there, AllDifferent}
use Rattle.machine_core.proofs.Values.{In-split, In-left, In-right, In-map}
use Rattle.source_checks.specs.declared.symbol_table.Symbol.{Symbol}
use Rattle.vlsi_base.specs.Range.{rising, falling, range_bits}
use Rattle.source_checks.specs.Symbols.{find, has_bit, names_in, bit_name, symbol_names, all_names}
use Rattle.source_checks.specs.Checks.{first_repeated}
use Rattle.source_checks.proofs.Lookups.{same_of, itself}
use Rattle.vlsi_model.proofs.Members.{In-map_back, different_append, different_map}

-- numbers of bits

pub In-rising : (k n m : ℕ) → In m (rising k n) → (k ≤ m) × (m < k + n)
In-rising k zero m h = elim h [ ]
In-rising k (suc n) m here = (omega arith, omega arith)
In-rising k (suc n) m (there h) = let r = In-rising (k + 1) n m h in (omega (arith, r.0), omega (arith, r.1))

pub In-falling : (k n m : ℕ) → In m (falling k n) → (k ≤ m) × (m < k + n)
In-falling k zero m h = elim h [ ]
In-falling k (suc n) m here = (omega arith, omega arith)
In-falling k (suc n) m (there h) = let r = In-falling k n m h in (omega (arith, r.0), omega (arith, r.1))

pub different_rising : (k n : ℕ) → AllDifferent (rising k n)
different_rising k zero = tt
different_rising k (suc n) = (λ h. let r = In-rising (k + 1) n k h in absurd (omega (arith, r.0)), different_rising (k + 1) n)

different_falling : (k n : ℕ) → AllDifferent (falling k n)
different_falling k zero = tt
different_falling k (suc n) = (λ h. let r = In-falling k n (k + n) h in absurd (omega (arith, r.1)), different_falling k n)

pub rising-In : (k n m : ℕ) → k ≤ m → m < k + n → In m (rising k n)
rising-In k zero m low high = absurd (omega arith)
rising-In k (suc n) m low high = by (leb m k) refl (λ above. rising-In (k + 1) n m above (omega arith)) where
  by : (b : Bool) → leb m k ≡ b → (k + 1 ≤ m → In m (rising (k + 1) n)) → In m (k ∷ rising (k + 1) n)
  by true e rest = let same : k ≡ m = grind (arith, nat_tests) in subst (λ x. In x (k ∷ rising (k + 1) n)) same here
  by false e rest = let above : k + 1 ≤ m = grind (arith, nat_tests) in there (rest above)

falling-In : (k n m : ℕ) → k ≤ m → m < k + n → In m (falling k n)
falling-In k zero m low high = absurd (omega arith)
falling-In k (suc n) m low high = by (leb (k + n) m) refl (falling-In k n m low) where
  by : (b : Bool) → leb (k + n) m ≡ b → (m < k + n → In m (falling k n)) → In m ((k + n) ∷ falling k n)
  by true e rest = let same : k + n ≡ m = grind (arith, nat_tests) in subst (λ x. In x ((k + n) ∷ falling k n)) same here
  by false e rest = let below : m < k + n = grind (arith, nat_tests) in there (rest below)

different_range : (r : Range) → AllDifferent (range_bits r)
different_range r = by r.falls where
  by : (b : Bool) → AllDifferent (cond b (falling r.right (r.left + 1 - r.right)) (rising r.left (r.right + 1 - r.left)))
  by true = different_falling r.right (r.left + 1 - r.right)
  by false = different_rising r.left (r.right + 1 - r.left)

pub both_le : (a b c d : ℕ) → a ≤ b → c ≤ d → (leb a b && leb c d) ≡ true
both_le a b c d p q = grind (arith, nat_tests)

pub le_both : (a b c d : ℕ) → (leb a b && leb c d) ≡ true → (a ≤ b) × (c ≤ d)
le_both a b c d e = by (leb a b) (leb c d) refl refl e where
  by : (p q : Bool) → leb a b ≡ p → leb c d ≡ q → (p && q) ≡ true → (a ≤ b) × (c ≤ d)
  by true true x y e = (grind (arith, nat_tests), grind (arith, nat_tests))
  by true false x y e = absurd cc
  by false q x y e = absurd cc

pub range-has : (r : Range) (k : ℕ) → In k (range_bits r) → has_bit r k ≡ true
range-has r k h = by r.falls h where
  by : (b : Bool) → In k (cond b (falling r.right (r.left + 1 - r.right)) (rising r.left (r.right + 1 - r.left))) → cond b (leb r.right k && leb k r.left) (leb r.left k && leb k r.right) ≡ true
  by true h = let p = In-falling r.right (r.left + 1 - r.right) k h in both_le r.right k k r.left p.0 (omega (arith, p.1))
  by false h = let p = In-rising r.left (r.right + 1 - r.left) k h in both_le r.left k k r.right p.0 (omega (arith, p.1))

pub has-range : (r : Range) (k : ℕ) → has_bit r k ≡ true → In k (range_bits r)
has-range r k e = by r.falls e where
  by : (b : Bool) → cond b (leb r.right k && leb k r.left) (leb r.left k && leb k r.right) ≡ true → In k (cond b (falling r.right (r.left + 1 - r.right)) (rising r.left (r.right + 1 - r.left)))
  by true e = let p = le_both r.right k k r.left e in falling-In r.right (r.left + 1 - r.right) k p.0 (omega (arith, p.0, p.1))
  by false e = let p = le_both r.left k k r.right e in rising-In r.left (r.right + 1 - r.left) k p.0 (omega (arith, p.0, p.1))

-- the bits of one name

pub different_names_in : (text : List ℕ) (range : Option Range) → AllDifferent (names_in text range)
different_names_in text None = (λ h. elim h [ ], tt)
different_names_in text (Some r) = different_map (bit_name text) (range_bits r) (λ x y i j e. let h : Some x ≡ Some y = ap (λ (n : Name). n.bit) e in cc) (different_range r)

pub text_in : (text : List ℕ) (range : Option Range) (n : Name) → In n (names_in text range) → n.text ≡ text
text_in text None n here = refl
text_in text None n (there h) = elim h [ ]
text_in text (Some r) n h = let p = In-map_back (bit_name text) n (range_bits r) h in ap (λ (m : Name). m.text) (sym p.2)

-- declared names

abbrev pub texts : List Symbol → List (List ℕ)
texts known = map (λ s. s.text) known

any_of : (t : List ℕ) (before : List (List ℕ)) → In t before → list_any (bytes_eq t) before ≡ true
any_of t (b ∷ before) here = ap (λ x. x || list_any (bytes_eq t) before) (itself t)
any_of t (b ∷ before) (there h) = by (any_of t before h) (bytes_eq t b) where
  by : list_any (bytes_eq t) before ≡ true → (x : Bool) → (x || list_any (bytes_eq t) before) ≡ true
  by rest true = refl
  by rest false = rest
any_of t [] h = elim h [ ]

-- where no name is declared again, the texts are different
not_repeated : (before : List (List ℕ)) (known : List Symbol) → first_repeated before known ≡ None → AllDifferent (texts known) × ((t : List ℕ) → In t before → In t (texts known) → ⊥)
not_repeated before [] e = (tt, λ t h g. elim g [ ])
not_repeated before (s ∷ known) e = by (list_any (bytes_eq s.text) before) refl e (not_repeated (s.text ∷ before) known) where
  apart_from : (list_any (bytes_eq s.text) before ≡ false) → ((t : List ℕ) → In t (s.text ∷ before) → In t (texts known) → ⊥) → (t : List ℕ) → In t before → In t (s.text ∷ texts known) → ⊥
  apart_from none apart t h here = let both : true ≡ false = sym (any_of t before h) ∙ none in absurd cc
  apart_from none apart t h (there g) = apart t (there h) g

  by : (b : Bool) → list_any (bytes_eq s.text) before ≡ b → cond b (Some s) (first_repeated (s.text ∷ before) known) ≡ None
      → (first_repeated (s.text ∷ before) known ≡ None → AllDifferent (texts known) × ((t : List ℕ) → In t (s.text ∷ before) → In t (texts known) → ⊥))
      → AllDifferent (texts (s ∷ known)) × ((t : List ℕ) → In t before → In t (texts (s ∷ known)) → ⊥)
  by true is e rest = absurd cc
  by false is e rest = let r = rest e in ((λ h. r.1 s.text here h, r.0), apart_from is r.1)

pub different_texts : (known : List Symbol) → first_repeated [] known ≡ None → AllDifferent (texts known)
different_texts known e = (not_repeated [] known e).0

pub found_in : (known : List Symbol) (t : List ℕ) (s : Symbol) → find known t ≡ Some s → In s known
found_in [] t s e = absurd cc
found_in (x ∷ known) t s e = by (bytes_eq x.text t) e (found_in known t s) where
  by : (b : Bool) → cond b (Some x) (find known t) ≡ Some s → (find known t ≡ Some s → In s known) → In s (x ∷ known)
  by true e rest = let same : x ≡ s = cc in subst (λ (y : Symbol). In y (x ∷ known)) same here
  by false e rest = there (rest e)

-- where the texts are different, each symbol is found by its text
pub in_found : (known : List Symbol) (s : Symbol) → AllDifferent (texts known) → In s known → find known s.text ≡ Some s
in_found (x ∷ known) s different here = ap (λ b. cond b (Some s) (find known s.text)) (itself s.text)
in_found (x ∷ known) s different (there h) = by (bytes_eq x.text s.text) refl (in_found known s different.1 h) where
  by : (b : Bool) → bytes_eq x.text s.text ≡ b → find known s.text ≡ Some s → cond b (Some x) (find known s.text) ≡ Some s
  by true is rest = let same : s.text ≡ x.text = sym (same_of x.text s.text is) in absurd (different.0 (subst (λ (t : List ℕ). In t (texts known)) same (In-map (λ (y : Symbol). y.text) s known h)))
  by false is rest = rest
in_found [] s different h = elim h [ ]

-- n is a bit of the declared name s
pub record IsBit (known : List Symbol) (n : Name) (s : Symbol) : Type 0 where
  pub found : find known n.text ≡ Some s
  pub among : In n (symbol_names s)

In-all : (known : List Symbol) (n : Name) (s : Symbol) → In s known → In n (symbol_names s) → In n (all_names known)
In-all (x ∷ known) n s here h = In-left n (symbol_names s) (all_names known) h
In-all (x ∷ known) n s (there g) h = In-right n (symbol_names x) (all_names known) (In-all known n s g h)
In-all [] n s g h = elim g [ ]

pub bit_all : (known : List Symbol) (n : Name) (s : Symbol) → IsBit known n s → In n (all_names known)
bit_all known n s b = In-all known n s (found_in known n.text s b.found) b.among

all_In : (known : List Symbol) (n : Name) → In n (all_names known) → (s : Symbol) × In s known × In n (symbol_names s)
all_In [] n h = elim h [ ]
all_In (x ∷ known) n h = elim (In-split n (symbol_names x) (all_names known) h) [
  | inl left ↦ (x, here, left)
  | inr right ↦ let r = all_In known n right in (r.0, there r.1, r.2)
]

pub bit_of_symbol : (known : List Symbol) (n : Name) (s : Symbol) → AllDifferent (texts known) → In s known → In n (symbol_names s) → IsBit known n s
bit_of_symbol known n s different h g = record {
  found = ap (find known) (text_in s.text s.range n g) ∙ in_found known s different h;
  among = g;
}

pub all_bit : (known : List Symbol) (n : Name) → AllDifferent (texts known) → In n (all_names known) → (s : Symbol) × IsBit known n s
all_bit known n different h = let r = all_In known n h in (r.0, bit_of_symbol known n r.0 different r.1 r.2)

-- all bits are different
pub different_bits : (known : List Symbol) → AllDifferent (texts known) → AllDifferent (all_names known)
different_bits [] different = tt
different_bits (x ∷ known) different =
    different_append (symbol_names x) (all_names known) (different_names_in x.text x.range) (different_bits known different.1)
    (λ n h g. let r = all_In known n g in
    let same : r.0.text ≡ x.text = sym (text_in r.0.text r.0.range n r.2) ∙ text_in x.text x.range n h in
    different.0 (subst (λ (t : List ℕ). In t (texts known)) same (In-map (λ (y : Symbol). y.text) r.0 known r.1)))
