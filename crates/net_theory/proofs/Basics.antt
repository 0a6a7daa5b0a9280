-- Numbers of a list's elements, and bits by number.
use Rattle.std.proofs.Common.{◌≡◌, ◌⊎◌, inl, inr, ℕ, zero, suc, ◌<◌, Bool, true, false, not, List, [], ◌∷◌, length, map, filter, Option, None, Some, refl, sym, ◌∙◌, ap, subst, arith, if◌then◌else◌}
use Rattle.vlsi_base.specs.declared.name.Name.{Name}
use Rattle.vlsi_base.specs.declared.name.Port.{Port}
use Rattle.bool_expr.specs.Expression.{bit}
use Rattle.machine_core.specs.Machine.{is_input, is_clock, names_of}
use Rattle.machine_core.proofs.Names.{same_name-true}
use Rattle.vlsi_base.specs.Member.{In, here, there}
use Rattle.machine_core.specs.Order.{In as Held, here as held_here, there as held_later}
use Rattle.net_theory.specs.Sources.{IsNumber}

-- n bits, where bit k is f k
abbrev pub listed : ℕ → (ℕ → Bool) → List Bool
listed zero f = []
listed (suc n) f = f 0 ∷ listed n (λ k. f (suc k))

pub length-listed : (n : ℕ) (f : ℕ → Bool) → length (listed n f) ≡ n
length-listed zero f = refl
length-listed (suc n) f = let h = length-listed n (λ k. f (suc k)) in omega (arith, h)

pub bit-listed : (n : ℕ) (f : ℕ → Bool) (k : ℕ) → k < n → bit (listed n f) k ≡ f k
bit-listed zero f k h = absurd (omega arith)
bit-listed (suc n) f zero h = refl
bit-listed (suc n) f (suc k) h = bit-listed n (λ j. f (suc j)) k (omega arith)

-- bits that are f's
pub is_listed : (n : ℕ) (f : ℕ → Bool) (w : List Bool) → length w ≡ n → ((k : ℕ) → k < n → bit w k ≡ f k) → w ≡ listed n f
is_listed zero f [] size each = refl
is_listed zero f (b ∷ w) size each = absurd (omega arith)
is_listed (suc n) f [] size each = absurd (omega arith)
is_listed (suc n) f (b ∷ w) size each =
    let first : b ≡ f 0 = each 0 (omega arith) in
    let rest : w ≡ listed n (λ k. f (suc k)) = is_listed n (λ k. f (suc k)) w (omega arith) (λ k h. each (suc k) (omega arith)) in
    ap (λ x. x ∷ w) first ∙ ap (λ xs. f 0 ∷ xs) rest

pub same_bits : (w v : List Bool) → length w ≡ length v → ((k : ℕ) → k < length v → bit w k ≡ bit v k) → w ≡ v
same_bits [] [] size each = refl
same_bits [] (c ∷ v) size each = absurd (omega arith)
same_bits (b ∷ w) [] size each = absurd (omega arith)
same_bits (b ∷ w) (c ∷ v) size each =
    let first : b ≡ c = each 0 (omega arith) in
    let rest : w ≡ v = same_bits w v (omega arith) (λ k h. each (suc k) (omega arith)) in
    ap (λ x. x ∷ w) first ∙ ap (λ xs. c ∷ xs) rest

pub number_of : {A : Type 0} (x : A) (xs : List A) → In x xs → (k : ℕ) × IsNumber xs k x
number_of x (y ∷ xs) here = (0, refl)
number_of x (y ∷ xs) (there h) = let r = number_of x xs h in (suc r.0, r.1)
number_of x [] h = elim h [ ]

pub at_number : {A : Type 0} (xs : List A) (k : ℕ) → k < length xs → (x : A) × IsNumber xs k x
at_number [] k h = absurd (omega arith)
at_number (y ∷ xs) zero h = (y, refl)
at_number (y ∷ xs) (suc k) h = at_number xs k (omega arith)

pub number_below : {A : Type 0} (xs : List A) (k : ℕ) (x : A) → IsNumber xs k x → k < length xs
number_below [] k x h = absurd h
number_below (y ∷ xs) zero x h = omega arith
number_below (y ∷ xs) (suc k) x h = let r = number_below xs k x h in omega (arith, r)

pub number_once : {A : Type 0} (xs : List A) (k : ℕ) (x y : A) → IsNumber xs k x → IsNumber xs k y → x ≡ y
number_once [] k x y p q = absurd p
number_once (z ∷ xs) zero x y p q = p ∙ sym q
number_once (z ∷ xs) (suc k) x y p q = number_once xs k x y p q

pub number_in : {A : Type 0} (xs : List A) (k : ℕ) (x : A) → IsNumber xs k x → In x xs
number_in [] k x h = absurd h
number_in {A} (y ∷ xs) zero x h = subst (λ (z : A). In z (y ∷ xs)) (sym h) here
number_in (y ∷ xs) (suc k) x h = there (number_in xs k x h)

-- a list mapped to bits, by number
pub bit-map : {A : Type 0} (f : A → Bool) (xs : List A) (k : ℕ) (x : A) → IsNumber xs k x → bit (map f xs) k ≡ f x
bit-map f [] k x h = absurd h
bit-map f (y ∷ xs) zero x h = ap f (sym h)
bit-map f (y ∷ xs) (suc k) x h = bit-map f xs k x h

pub length-map : {A B : Type 0} (f : A → B) (xs : List A) → length (map f xs) ≡ length xs
length-map f [] = refl
length-map f (x ∷ xs) = let h = length-map f xs in omega (arith, h)

pub map_is : {A : Type 0} (f : A → Bool) (xs : List A) (i : List Bool) → length i ≡ length xs
    → ((k : ℕ) (x : A) → IsNumber xs k x → f x ≡ bit i k) → map f xs ≡ i
map_is f [] [] size each = refl
map_is f [] (b ∷ i) size each = absurd (omega arith)
map_is f (x ∷ xs) [] size each = absurd (omega arith)
map_is f (x ∷ xs) (b ∷ i) size each =
    let first : f x ≡ b = each 0 x refl in
    let rest : map f xs ≡ i = map_is f xs i (omega arith) (λ k y h. each (suc k) y h) in
    ap (λ y. y ∷ map f xs) first ∙ ap (λ ys. b ∷ ys) rest

pub In-map : {A B : Type 0} (f : A → B) (x : A) (xs : List A) → In x xs → In (f x) (map f xs)
In-map f x (y ∷ xs) here = here
In-map f x (y ∷ xs) (there h) = there (In-map f x xs h)
In-map f x [] h = elim h [ ]

pub In-map_back : {A B : Type 0} (f : A → B) (y : B) (xs : List A) → In y (map f xs) → (x : A) × In x xs × (f x ≡ y)
In-map_back f y [] h = elim h [ ]
In-map_back f y (x ∷ xs) here = (x, here, refl)
In-map_back f y (x ∷ xs) (there h) = let r = In-map_back f y xs h in (r.0, there r.1, r.2)

pub clock_is : (clock : Option Name) (name : Name) → is_clock clock name ≡ true → clock ≡ Some name
clock_is None name h = absurd (cc h)
clock_is (Some c) name h = ap (λ (x : Name). Some x) (same_name-true c name h)

abbrev unclocked : Option Name → List Name → List Name
unclocked clock names = filter (λ x. not (is_clock clock x)) names

skip_one : (clock : Option Name) (one : Name) (names : List Name) (name : Name) → In name (unclocked clock names) → In name (unclocked clock (one ∷ names))
skip_one clock one names name h = by (is_clock clock one) h where
  by : (c : Bool) → In name (unclocked clock names) → In name (if not c then one ∷ unclocked clock names else unclocked clock names)
  by true h = h
  by false h = there h

take_one : (clock : Option Name) (one : Name) (names : List Name) → In one (unclocked clock (one ∷ names)) ⊎ (clock ≡ Some one)
take_one clock one names = by (is_clock clock one) refl where
  by : (c : Bool) → is_clock clock one ≡ c → In one (if not c then one ∷ unclocked clock names else unclocked clock names) ⊎ (clock ≡ Some one)
  by true e = inr (clock_is clock one e)
  by false e = inl here

-- a port's name is an input's, the clock or an output's
abbrev pub IsPortName : Option Name → List Port → Name → Type 0
IsPortName clock ports name =
    (In name (unclocked clock (names_of (filter (λ p. is_input p.dir) ports))) ⊎ (clock ≡ Some name))
    ⊎ In name (names_of (filter (λ p. not (is_input p.dir)) ports))

pub In-ports : (clock : Option Name) (ports : List Port) (name : Name) → In name (names_of ports) → IsPortName clock ports name
In-ports clock [] name h = elim h [ ]
In-ports clock (p ∷ ports) name here = by (is_input p.dir) where
  by : (d : Bool) → (In p.name (unclocked clock (names_of (if d then p ∷ filter (λ q. is_input q.dir) ports else filter (λ q. is_input q.dir) ports))) ⊎ (clock ≡ Some p.name))
      ⊎ In p.name (names_of (if not d then p ∷ filter (λ q. not (is_input q.dir)) ports else filter (λ q. not (is_input q.dir)) ports))
  by true = inl (take_one clock p.name (names_of (filter (λ q. is_input q.dir) ports)))
  by false = inr here
In-ports clock (p ∷ ports) name (there h) = by (is_input p.dir) (In-ports clock ports name h) where
  by : (d : Bool) → IsPortName clock ports name
      → (In name (unclocked clock (names_of (if d then p ∷ filter (λ q. is_input q.dir) ports else filter (λ q. is_input q.dir) ports))) ⊎ (clock ≡ Some name))
      ⊎ In name (names_of (if not d then p ∷ filter (λ q. not (is_input q.dir)) ports else filter (λ q. not (is_input q.dir)) ports))
  by true r = elim r [
    | inl a ↦ elim a [ inl x ↦ inl (inl (skip_one clock p.name (names_of (filter (λ q. is_input q.dir) ports)) name x)) | inr y ↦ inl (inr y) ]
    | inr z ↦ inr z
  ]
  by false r = elim r [ inl a ↦ inl a | inr z ↦ inr (there z) ]

In-filtered : {A : Type 0} (b : Bool) (x y : A) (kept xs : List A) → (In x kept → In x xs) → In x (if b then y ∷ kept else kept) → In x (y ∷ xs)
In-filtered true x y kept xs g here = here
In-filtered true x y kept xs g (there h) = there (g h)
In-filtered false x y kept xs g h = there (g h)

In-filter : {A : Type 0} (p : A → Bool) (x : A) (xs : List A) → In x (filter p xs) → In x xs
In-filter p x [] h = elim h [ ]
In-filter p x (y ∷ xs) h = In-filtered (p y) x y (filter p xs) xs (In-filter p x xs) h

pub In-names : (q : Port → Bool) (ports : List Port) (name : Name) → In name (names_of (filter q ports)) → In name (names_of ports)
In-names q ports name h =
    let r = In-map_back (λ (p : Port). p.name) name (filter q ports) h in
    subst (λ (x : Name). In x (names_of ports)) r.2 (In-map (λ (p : Port). p.name) r.0 ports (In-filter q r.0 ports r.1))

pub In-inputs : (clock : Option Name) (ports : List Port) (name : Name) → In name (unclocked clock (names_of (filter (λ p. is_input p.dir) ports))) → In name (names_of ports)
In-inputs clock ports name h = In-names (λ p. is_input p.dir) ports name (In-filter (λ x. not (is_clock clock x)) name (names_of (filter (λ p. is_input p.dir) ports)) h)

-- each pin of a cell is an input or an output
pub In-pins : (ports : List Port) (name : Name) → In name (names_of ports)
    → In name (names_of (filter (λ p. is_input p.dir) ports)) ⊎ In name (names_of (filter (λ p. not (is_input p.dir)) ports))
In-pins ports name h = elim (In-ports None ports name h) [
  | inl a ↦ elim a [
    | inl x ↦ inl (In-filter (λ x. not (is_clock None x)) name (names_of (filter (λ p. is_input p.dir) ports)) x)
    | inr y ↦ absurd (cc y)
  ]
  | inr z ↦ inr z
]

-- membership, as machines say it
pub In-held : {A : Type 0} (x : A) (xs : List A) → Held x xs → In x xs
In-held x (y ∷ xs) held_here = here
In-held x (y ∷ xs) (held_later h) = there (In-held x xs h)
In-held x [] h = elim h [ ]
