-- Lists that tests pick from, in which nothing stands twice, and what stands at places of them.
use Rattle.std.proofs.Common.{◌≡◌, inl, inr, ℕ, zero, suc, Bool, true, false, ◌&&◌, ◌||◌, List, [], ◌∷◌, ◌++◌, map, filter, length, refl, sym, ◌∙◌, ap, subst, arith, if◌then◌else◌}
use Rattle.std.specs.List.{flat_map, list_any}
use Rattle.vlsi_base.specs.Member.{In, here, there, AllDifferent}
use Rattle.cell_model.proofs.Members.{In-split, In-left, In-right, In-map_back}
use Rattle.cell_pins.proofs.Ports.{in_filter}
use Rattle.cell_pins.proofs.Sound.{member_at}
use Rattle.net_core.specs.Places.{Stands, NoneTwice}
use Rattle.net_core.proofs.Standing.{stands_left}
use Rattle.net_right.proofs.Lists.{in_place}

-- ---- tests

pub is_false : (b : Bool) → (b ≡ true → ⊥) → b ≡ false
is_false true h = absurd (h refl)
is_false false h = refl

pub any_in : {A : Type 0} (test : A → Bool) (xs : List A) → list_any test xs ≡ true → (x : A) × In x xs × (test x ≡ true)
any_in test [] h = absurd (cc h)
any_in {A = A} test (x ∷ xs) h = by (test x) refl h (any_in test xs) where
  by : (b : Bool) → test x ≡ b → (b || list_any test xs) ≡ true → (list_any test xs ≡ true → (y : A) × In y xs × (test y ≡ true)) → (y : A) × In y (x ∷ xs) × (test y ≡ true)
  by true e h rest = (x, here, e)
  by false e h rest = let r = rest h in (r.0, there r.1, r.2)

pub in_any : {A : Type 0} (test : A → Bool) (xs : List A) (x : A) → In x xs → test x ≡ true → list_any test xs ≡ true
in_any test (y ∷ xs) x here h = ap (λ (b : Bool). b || list_any test xs) h
in_any test (y ∷ xs) x (there k) h = by (test y) (in_any test xs x k h) where
  by : (b : Bool) → list_any test xs ≡ true → (b || list_any test xs) ≡ true
  by true r = refl
  by false r = r
in_any test [] x h k = elim h [ ]

pub not_any : {A : Type 0} (test : A → Bool) (xs : List A) → ((x : A) → In x xs → test x ≡ true → ⊥) → list_any test xs ≡ false
not_any test xs never = is_false (list_any test xs) (λ e. let r = any_in test xs e in never r.0 r.1 r.2)

pub only_one : {A : Type 0} (x y : A) → In x (y ∷ []) → x ≡ y
only_one x y here = refl
only_one x y (there k) = elim k [ ]

-- ---- filters

pub filter_append : {A : Type 0} (test : A → Bool) (xs ys : List A) → filter test (xs ++ ys) ≡ filter test xs ++ filter test ys
filter_append test [] ys = refl
filter_append {A} test (x ∷ xs) ys = by (test x) (filter_append test xs ys) where
  by : (b : Bool) → filter test (xs ++ ys) ≡ filter test xs ++ filter test ys
      → (if b then x ∷ filter test (xs ++ ys) else filter test (xs ++ ys)) ≡ (if b then x ∷ filter test xs else filter test xs) ++ filter test ys
  by true h = ap (λ (zs : List A). x ∷ zs) h
  by false h = h

pub filter_same : {A : Type 0} (p q : A → Bool) (xs : List A) → ((x : A) → In x xs → p x ≡ q x) → filter p xs ≡ filter q xs
filter_same p q [] h = refl
filter_same {A} p q (x ∷ xs) h =
    ap (λ (b : Bool). if b then x ∷ filter p xs else filter p xs) (h x here)
    ∙ ap (λ (zs : List A). if q x then x ∷ zs else zs) (filter_same p q xs (λ y i. h y (there i)))

pub filter_twice : {A : Type 0} (p q : A → Bool) (xs : List A) → filter p (filter q xs) ≡ filter (λ x. q x && p x) xs
filter_twice p q [] = refl
filter_twice {A} p q (x ∷ xs) = by (q x) (filter_twice p q xs) where
  by : (b : Bool) → filter p (filter q xs) ≡ filter (λ y. q y && p y) xs
      → filter p (if b then x ∷ filter q xs else filter q xs) ≡ (if b && p x then x ∷ filter (λ y. q y && p y) xs else filter (λ y. q y && p y) xs)
  by true h = ap (λ (zs : List A). if p x then x ∷ zs else zs) h
  by false h = h

pub filter_all : {A : Type 0} (p : A → Bool) (xs : List A) → ((x : A) → In x xs → p x ≡ true) → filter p xs ≡ xs
filter_all p [] h = refl
filter_all {A} p (x ∷ xs) h =
    ap (λ (b : Bool). if b then x ∷ filter p xs else filter p xs) (h x here)
    ∙ ap (λ (zs : List A). x ∷ zs) (filter_all p xs (λ y i. h y (there i)))

pub filter_none : {A : Type 0} (p : A → Bool) (xs : List A) → ((x : A) → In x xs → p x ≡ false) → filter p xs ≡ []
filter_none p [] h = refl
filter_none {A} p (x ∷ xs) h =
    ap (λ (b : Bool). if b then x ∷ filter p xs else filter p xs) (h x here)
    ∙ filter_none p xs (λ y i. h y (there i))

pub map_same : {A B : Type 0} (f g : A → B) (xs : List A) → ((x : A) → In x xs → f x ≡ g x) → map f xs ≡ map g xs
map_same f g [] h = refl
map_same {A} {B} f g (x ∷ xs) h =
    ap (λ (y : B). y ∷ map f xs) (h x here)
    ∙ ap (λ (ys : List B). g x ∷ ys) (map_same f g xs (λ y i. h y (there i)))

-- ---- what functions gather

pub flat_in : {A B : Type 0} (f : A → List B) (y : B) (xs : List A) → In y (flat_map f xs) → (x : A) × In x xs × In y (f x)
flat_in f y [] h = elim h [ ]
flat_in f y (x ∷ xs) h = elim (In-split y (f x) (flat_map f xs) h) [
  | inl front ↦ (x, here, front)
  | inr later ↦ let r = flat_in f y xs later in (r.0, there r.1, r.2)
]

pub in_flat : {A B : Type 0} (f : A → List B) (x : A) (y : B) (xs : List A) → In x xs → In y (f x) → In y (flat_map f xs)
in_flat f x y [] i j = elim i [ ]
in_flat f x y (z ∷ xs) here j = In-left y (f z) (flat_map f xs) j
in_flat f x y (z ∷ xs) (there i) j = In-right y (f z) (flat_map f xs) (in_flat f x y xs i j)

-- ---- nothing stands twice

pub different_append : {A : Type 0} (xs ys : List A) → AllDifferent xs → AllDifferent ys → ((x : A) → In x xs → In x ys → ⊥) → AllDifferent (xs ++ ys)
different_append [] ys a b h = b
different_append (x ∷ xs) ys a b h = (
  λ i. elim (In-split x xs ys i) [ inl p ↦ a.0 p | inr q ↦ h x here q ],
  different_append xs ys a.1 b (λ y p q. h y (there p) q),
)

pub different_left : {A : Type 0} (xs ys : List A) → AllDifferent (xs ++ ys) → AllDifferent xs
different_left [] ys d = tt
different_left (x ∷ xs) ys d = (λ i. d.0 (In-left x xs ys i), different_left xs ys d.1)

pub different_right : {A : Type 0} (xs ys : List A) → AllDifferent (xs ++ ys) → AllDifferent ys
different_right [] ys d = d
different_right (x ∷ xs) ys d = different_right xs ys d.1

pub different_apart : {A : Type 0} (xs ys : List A) → AllDifferent (xs ++ ys) → (x : A) → In x xs → In x ys → ⊥
different_apart [] ys d x i j = elim i [ ]
different_apart (y ∷ xs) ys d x here j = d.0 (In-right y xs ys j)
different_apart (y ∷ xs) ys d x (there i) j = different_apart xs ys d.1 x i j

pub different_filter : {A : Type 0} (p : A → Bool) (xs : List A) → AllDifferent xs → AllDifferent (filter p xs)
different_filter p [] d = tt
different_filter p (x ∷ xs) d = by (p x) (different_filter p xs d.1) where
  by : (b : Bool) → AllDifferent (filter p xs) → AllDifferent (if b then x ∷ filter p xs else filter p xs)
  by true r = (λ i. d.0 (in_filter p xs x i).0, r)
  by false r = r

pub different_map : {A B : Type 0} (f : A → B) (xs : List A) → ((x y : A) → f x ≡ f y → x ≡ y) → AllDifferent xs → AllDifferent (map f xs)
different_map f [] once d = tt
different_map {A} f (x ∷ xs) once d = (
  λ i. let r = In-map_back f (f x) xs i in d.0 (subst (λ (y : A). In y xs) (once r.0 x r.2) r.1),
  different_map f xs once d.1,
)

pub different_of : {A : Type 0} (xs : List A) → NoneTwice xs → AllDifferent xs
different_of [] once = tt
different_of {A} (x ∷ xs) once = (
  λ i. let r = in_place x xs i in let e : 0 ≡ suc r.0 = once 0 (suc r.0) x refl r.1 in absurd (omega (arith, e)),
  different_of xs (λ i j y p q. let e : suc i ≡ suc j = once (suc i) (suc j) y p q in omega (arith, e)),
)

pub twice_of : {A : Type 0} (xs : List A) → AllDifferent xs → NoneTwice xs
twice_of [] d i j x s t = absurd cc
twice_of (y ∷ xs) d zero zero x s t = refl
twice_of {A} (y ∷ xs) d zero (suc j) x s t = let same : y ≡ x = cc in absurd (d.0 (subst (λ (z : A). In z xs) (sym same) (member_at xs j x t)))
twice_of {A} (y ∷ xs) d (suc i) zero x s t = let same : y ≡ x = cc in absurd (d.0 (subst (λ (z : A). In z xs) (sym same) (member_at xs i x s)))
twice_of (y ∷ xs) d (suc i) (suc j) x s t = ap suc (twice_of xs d.1 i j x s t)

-- ---- what stands at places of a list

abbrev pub AtPlaces : {A : Type 0} → List A → List ℕ → List A → Type 0
AtPlaces xs [] [] = Unit {0}
AtPlaces xs [] (y ∷ ys) = ⊥
AtPlaces xs (p ∷ ps) [] = ⊥
AtPlaces xs (p ∷ ps) (y ∷ ys) = Stands xs p y × AtPlaces xs ps ys

pub at_more : {A : Type 0} (xs more : List A) (ps : List ℕ) (ys : List A) → AtPlaces xs ps ys → AtPlaces (xs ++ more) ps ys
at_more xs more [] [] h = tt
at_more xs more [] (y ∷ ys) h = absurd h
at_more xs more (p ∷ ps) [] h = absurd h
at_more xs more (p ∷ ps) (y ∷ ys) h = (stands_left xs more p y h.0, at_more xs more ps ys h.1)

pub at_append : {A : Type 0} (xs : List A) (ps qs : List ℕ) (ys zs : List A) → AtPlaces xs ps ys → AtPlaces xs qs zs → AtPlaces xs (ps ++ qs) (ys ++ zs)
at_append xs [] qs [] zs h k = k
at_append xs [] qs (y ∷ ys) zs h k = absurd h
at_append xs (p ∷ ps) qs [] zs h k = absurd h
at_append xs (p ∷ ps) qs (y ∷ ys) zs h k = (h.0, at_append xs ps qs ys zs h.1 k)

pub at_many : {A : Type 0} (xs : List A) (ps : List ℕ) (ys : List A) → AtPlaces xs ps ys → length ps ≡ length ys
at_many xs [] [] h = refl
at_many xs [] (y ∷ ys) h = absurd h
at_many xs (p ∷ ps) [] h = absurd h
at_many xs (p ∷ ps) (y ∷ ys) h = let r = at_many xs ps ys h.1 in omega (arith, r)

pub record Halves {A : Type 0} (xs : List A) (ps qs : List ℕ) (ys : List A) : Type 0 where
  pub front : List A
  pub back : List A
  pub parts : ys ≡ front ++ back
  pub first : AtPlaces xs ps front
  pub second : AtPlaces xs qs back

pub at_halves : {A : Type 0} (xs : List A) (ps qs : List ℕ) (ys : List A) → AtPlaces xs (ps ++ qs) ys → Halves xs ps qs ys
at_halves xs [] qs ys h = record { front = []; back = ys; parts = refl; first = tt; second = h }
at_halves xs (p ∷ ps) qs [] h = absurd h
at_halves {A} xs (p ∷ ps) qs (y ∷ ys) h =
    let r = at_halves xs ps qs ys h.1 in
    record { front = y ∷ r.front; back = r.back; parts = ap (λ (zs : List A). y ∷ zs) r.parts; first = (h.0, r.first); second = r.second }
