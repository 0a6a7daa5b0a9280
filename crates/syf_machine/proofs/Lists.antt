-- Members of lists, and lists in which nothing stands twice.
use Rattle.std.proofs.Common.{◌≡◌, ℕ, zero, suc, ◌<◌, Bool, true, false, List, [], ◌∷◌, ◌++◌, map, filter, length, Option, None, Some, is_some, unwrap_or, if◌then◌else◌, ◌⊎◌, inl, inr, refl, sym, ap, ◌∙◌, subst, arith}
use Rattle.std.specs.List.{All, Contains, slice_get, slice_index_or}
use Rattle.vlsi_base.specs.Member.{In, here, there, AllDifferent}

pub in_cons : {A : Type 0} (x y : A) (xs : List A) → In x (y ∷ xs) → (x ≡ y) ⊎ In x xs
in_cons x y xs here = inl refl
in_cons x y xs (there i) = inr i

pub here_by : {A : Type 0} (x y : A) (xs : List A) → x ≡ y → In x (y ∷ xs)
here_by {A} x y xs e = let P : A → Type 0 = λ z. In x (z ∷ xs) in subst P e here

pub in_either : {A : Type 0} (x : A) (xs ys : List A) → In x (xs ++ ys) → In x xs ⊎ In x ys
in_either x [] ys i = inr i
in_either {A} x (z ∷ xs) ys i = by z xs (in_either x xs ys) (in_cons x z (xs ++ ys) i) where
  by : (z : A) (xs : List A) → (In x (xs ++ ys) → In x xs ⊎ In x ys) → (x ≡ z) ⊎ In x (xs ++ ys) → In x (z ∷ xs) ⊎ In x ys
  by z xs later (inl e) = inl (here_by x z xs e)
  by z xs later (inr j) = elim (later j) [ inl a ↦ inl (there a) | inr b ↦ inr b ]

pub in_second : {A : Type 0} (x : A) (xs ys : List A) → In x ys → In x (xs ++ ys)
in_second x [] ys i = i
in_second x (z ∷ xs) ys i = there (in_second x xs ys i)

pub joined_differ : {A : Type 0} (xs ys : List A) → AllDifferent xs → AllDifferent ys → ((x : A) → In x xs → In x ys → ⊥) → AllDifferent (xs ++ ys)
joined_differ [] ys a b h = b
joined_differ (x ∷ xs) ys a b h = (
  λ i. elim (in_either x xs ys i) [ inl p ↦ a.0 p | inr q ↦ h x here q ],
  joined_differ xs ys a.1 b (λ y p q. h y (there p) q),
)

pub in_filter : {A : Type 0} (p : A → Bool) (x : A) (xs : List A) → In x (filter p xs) → In x xs × (p x ≡ true)
in_filter p x [] i = elim i [ ]
in_filter {A} p x (y ∷ ys) i = by y ys (in_filter p x ys) (p y) refl i where
  by : (y : A) (ys : List A) → (In x (filter p ys) → In x ys × (p x ≡ true)) → (t : Bool) → p y ≡ t → In x (if t then y ∷ filter p ys else filter p ys) → In x (y ∷ ys) × (p x ≡ true)
  by y ys later false e i = let h = later i in (there h.0, h.1)
  by y ys later true e here = (here, e)
  by y ys later true e (there i) = let h = later i in (there h.0, h.1)

pub filter_differs : {A : Type 0} (p : A → Bool) (xs : List A) → AllDifferent xs → AllDifferent (filter p xs)
filter_differs p [] h = tt
filter_differs p (x ∷ xs) h = by (filter_differs p xs h.1) (p x) where
  by : AllDifferent (filter p xs) → (t : Bool) → AllDifferent (if t then x ∷ filter p xs else filter p xs)
  by later true = (λ i. h.0 (in_filter p x xs i).0, later)
  by later false = later

pub in_map : {A B : Type 0} (g : A → B) (y : B) (xs : List A) → In y (map g xs) → (x : A) × In x xs × (y ≡ g x)
in_map g y [] i = elim i [ ]
in_map {A} {B} g y (x ∷ xs) i = by x xs (in_map g y xs) (in_cons y (g x) (map g xs) i) where
  by : (x : A) (xs : List A) → (In y (map g xs) → (z : A) × In z xs × (y ≡ g z)) → (y ≡ g x) ⊎ In y (map g xs) → (z : A) × In z (x ∷ xs) × (y ≡ g z)
  by x xs later (inl e) = (x, here, e)
  by x xs later (inr j) = let h = later j in (h.0, there h.1, h.2)

pub map_in : {A B : Type 0} (g : A → B) (x : A) (xs : List A) → In x xs → In (g x) (map g xs)
map_in g x [] i = elim i [ ]
map_in g x (y ∷ ys) here = here
map_in g x (y ∷ ys) (there i) = there (map_in g x ys i)

pub map_differs : {A B : Type 0} (g : A → B) (xs : List A) → ((x y : A) → g x ≡ g y → x ≡ y) → AllDifferent xs → AllDifferent (map g xs)
map_differs g [] inj h = tt
map_differs {A} g (x ∷ xs) inj h = (
  λ i. (let found = in_map g (g x) xs i in let P : A → Type 0 = λ z. In z xs in h.0 (subst P (sym (inj x found.0 found.2)) found.1)),
  map_differs g xs inj h.1,
)

pub contains_in : {A : Type 0} (xs : List A) (x : A) → Contains xs x → In x xs
contains_in [] x (k, l, e) = absurd (omega arith)
contains_in {A} (y ∷ xs) x (zero, l, e) = here_by x y xs (sym e)
contains_in (y ∷ xs) x (suc k, l, e) = there (contains_in xs x (k, omega arith, e))

pub in_contains : {A : Type 0} (x : A) (xs : List A) → In x xs → Contains xs x
in_contains x [] i = elim i [ ]
in_contains x (y ∷ xs) here = (0, omega arith, refl)
in_contains x (y ∷ xs) (there i) = let h = in_contains x xs i in let l = h.1 in (suc h.0, omega arith, h.2)

pub all_in : {A : Type 0} (P : A → Type 0) (xs : List A) → All P xs → (x : A) → In x xs → P x
all_in P xs h x i = let c = in_contains x xs i in subst P c.2 (h c.0 x c.1)

pub all_by : {A : Type 0} (P : A → Type 0) (xs : List A) → ((x : A) → In x xs → P x) → All P xs
all_by P [] h k d l = absurd (omega arith)
all_by P (x ∷ xs) h zero d l = h x here
all_by P (x ∷ xs) h (suc k) d l = all_by P xs (λ y i. h y (there i)) k d (omega arith)

pub got_in : {A : Type 0} (x : A) (k : ℕ) (xs : List A) → slice_get xs k ≡ Some x → In x xs
got_in x k [] e = absurd cc
got_in x zero (y ∷ xs) e = here_by x y xs (ap (λ o. unwrap_or o x) (sym e))
got_in x (suc k) (y ∷ xs) e = there (got_in x k xs e)

pub got_below : {A : Type 0} (x : A) (k : ℕ) (xs : List A) → slice_get xs k ≡ Some x → k < length xs
got_below x k [] e = absurd cc
got_below x zero (y ∷ xs) e = omega arith
got_below x (suc k) (y ∷ xs) e = let h = got_below x k xs e in omega arith

pub map_got : {A B : Type 0} (g : A → B) (x : A) (k : ℕ) (xs : List A) (d : B) → slice_get xs k ≡ Some x → slice_index_or (map g xs) k d ≡ g x
map_got g x k [] d e = absurd cc
map_got g x zero (y ∷ xs) d e = ap g (ap (λ o. unwrap_or o x) e)
map_got g x (suc k) (y ∷ xs) d e = map_got g x k xs d e

pub some_value : {A : Type 0} (o : Option A) → is_some o ≡ true → (a : A) × (o ≡ Some a)
some_value None e = absurd cc
some_value (Some a) e = (a, refl)

-- a value for each member
pub all_known : {A B : Type 0} (g : A → Option B) (xs : List A) → ((x : A) → In x xs → is_some (g x) ≡ true) → (ys : List B) × (map g xs ≡ map (λ y. Some y) ys)
all_known g [] h = ([], refl)
all_known {A} {B} g (x ∷ xs) h =
    let first = some_value (g x) (h x here) in
    let later = all_known g xs (λ y i. h y (there i)) in
    (first.0 ∷ later.0, ap (λ (o : Option B). o ∷ map g xs) first.1 ∙ ap (λ (os : List (Option B)). Some first.0 ∷ os) later.1)
