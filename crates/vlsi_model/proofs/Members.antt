-- Members of lists, and lists in which nothing stands twice.
use Rattle.std.proofs.Common.{◌≡◌, ◌⊎◌, inl, inr, List, [], ◌∷◌, ◌++◌, map, refl, subst}
use Rattle.machine_core.specs.Order.{In, here, there, AllDifferent}
use Rattle.machine_core.proofs.Values.{In-split, In-left}

pub In-cases : {A : Type 0} (x y : A) (xs : List A) → In x (y ∷ xs) → (y ≡ x) ⊎ In x xs
In-cases x y xs here = inl refl
In-cases x y xs (there h) = inr h

pub In-map_back : {A B : Type 0} (f : A → B) (y : B) (xs : List A) → In y (map f xs) → (x : A) × In x xs × (f x ≡ y)
In-map_back f y [] h = elim h [ ]
In-map_back f y (x ∷ xs) here = (x, here, refl)
In-map_back f y (x ∷ xs) (there h) = let r = In-map_back f y xs h in (r.0, there r.1, r.2)

pub different_left : {A : Type 0} (xs ys : List A) → AllDifferent (xs ++ ys) → AllDifferent xs
different_left [] ys h = tt
different_left (x ∷ xs) ys h = (λ g. h.0 (In-left x xs ys g), different_left xs ys h.1)

pub different_right : {A : Type 0} (xs ys : List A) → AllDifferent (xs ++ ys) → AllDifferent ys
different_right [] ys h = h
different_right (x ∷ xs) ys h = different_right xs ys h.1

pub different_append : {A : Type 0} (xs ys : List A) → AllDifferent xs → AllDifferent ys → ((x : A) → In x xs → In x ys → ⊥) → AllDifferent (xs ++ ys)
different_append [] ys a b apart = b
different_append (x ∷ xs) ys a b apart = (
  λ h. elim (In-split x xs ys h) [ inl left ↦ a.0 left | inr right ↦ apart x here right ],
  different_append xs ys a.1 b (λ y h g. apart y (there h) g),
)

-- a function that tells the members apart leaves them different
pub different_map : {A B : Type 0} (f : A → B) (xs : List A) → ((x y : A) → In x xs → In y xs → f x ≡ f y → x ≡ y) → AllDifferent xs → AllDifferent (map f xs)
different_map f [] tells h = tt
different_map f (x ∷ xs) tells h = (
  λ g. let r = In-map_back f (f x) xs g in h.0 (subst (λ y. In y xs) (tells r.0 x (there r.1) here r.2) r.1),
  different_map f xs (λ y z i j. tells y z (there i) (there j)) h.1,
)

-- some members of a list, in its order
pub data Sub {A : Type 0} : List A → List A → Type 0 where
  none : Sub [] []
  keep : (x : A) {xs ys : List A} → Sub xs ys → Sub (x ∷ xs) (x ∷ ys)
  skip : (y : A) {xs ys : List A} → Sub xs ys → Sub xs (y ∷ ys)

pub In-Sub : {A : Type 0} (x : A) (xs ys : List A) → Sub xs ys → In x xs → In x ys
In-Sub x _ _ none h = elim h [ ]
In-Sub x _ _ (keep y s) here = here
In-Sub x _ _ (keep y s) (there h) = there (In-Sub x _ _ s h)
In-Sub x _ _ (skip y s) h = there (In-Sub x _ _ s h)

pub different_Sub : {A : Type 0} (xs ys : List A) → Sub xs ys → AllDifferent ys → AllDifferent xs
different_Sub _ _ none h = tt
different_Sub _ _ (keep y s) h = (λ g. h.0 (In-Sub y _ _ s g), different_Sub _ _ s h.1)
different_Sub _ _ (skip y s) h = different_Sub _ _ s h.1

pub Sub-append : {A : Type 0} (xs ys us vs : List A) → Sub xs ys → Sub us vs → Sub (xs ++ us) (ys ++ vs)
Sub-append _ _ us vs none t = t
Sub-append _ _ us vs (keep y s) t = keep y (Sub-append _ _ us vs s t)
Sub-append _ _ us vs (skip y s) t = skip y (Sub-append _ _ us vs s t)

pub Sub-nothing : {A : Type 0} (ys : List A) → Sub [] ys
Sub-nothing [] = none
Sub-nothing (y ∷ ys) = skip y (Sub-nothing ys)

pub Sub-itself : {A : Type 0} (ys : List A) → Sub ys ys
Sub-itself [] = none
Sub-itself (y ∷ ys) = keep y (Sub-itself ys)
