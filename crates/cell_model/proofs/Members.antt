-- Members of lists.
use Rattle.std.proofs.Common.{◌≡◌, ℕ, zero, suc, ◌<◌, ◌⊎◌, inl, inr, List, [], ◌∷◌, ◌++◌, map, length, get_or, refl, All, arith, subst, ⊎_elim}
use Rattle.vlsi_base.specs.Member.{In, here, there}

pub In-at : {A : Type 0} (xs : List A) (k : ℕ) (d : A) → k < length xs → In (get_or xs k d) xs
In-at [] k d h = absurd (omega arith)
In-at (x ∷ xs) zero d h = here
In-at (x ∷ xs) (suc k) d h = there (In-at xs k d (omega arith))

-- the place of a member
pub place-In : {A : Type 0} (x : A) (xs : List A) → In x xs → (k : ℕ) × (k < length xs) × ((d : A) → get_or xs k d ≡ x)
place-In x [] h = elim h [ ]
place-In x (y ∷ xs) here = (zero, omega arith, λ d. refl)
place-In x (y ∷ xs) (there h) = let r = place-In x xs h in (suc r.0, omega (arith, r.1), r.2)

pub All-In : {A : Type 0} (P : A → Type 0) (xs : List A) → All P xs → (x : A) → In x xs → P x
All-In P xs all x h = let r = place-In x xs h in subst P (r.2 x) (all r.0 x r.1)

pub All-from : {A : Type 0} (P : A → Type 0) (xs : List A) → ((x : A) → In x xs → P x) → All P xs
All-from P xs each k d h = each (get_or xs k d) (In-at xs k d h)

pub In-split : {A : Type 0} (x : A) (xs ys : List A) → In x (xs ++ ys) → In x xs ⊎ In x ys
In-split x [] ys h = inr h
In-split x (y ∷ xs) ys here = inl here
In-split x (y ∷ xs) ys (there h) = ⊎_elim (λ a. inl (there a)) (λ b. inr b) (In-split x xs ys h)

pub In-left : {A : Type 0} (x : A) (xs ys : List A) → In x xs → In x (xs ++ ys)
In-left x [] ys h = elim h [ ]
In-left x (y ∷ xs) ys here = here
In-left x (y ∷ xs) ys (there h) = there (In-left x xs ys h)

pub In-right : {A : Type 0} (x : A) (xs ys : List A) → In x ys → In x (xs ++ ys)
In-right x [] ys h = h
In-right x (y ∷ xs) ys h = there (In-right x xs ys h)

pub In-map : {A B : Type 0} (f : A → B) (x : A) (xs : List A) → In x xs → In (f x) (map f xs)
In-map f x [] h = elim h [ ]
In-map f x (y ∷ xs) here = here
In-map f x (y ∷ xs) (there h) = there (In-map f x xs h)

pub In-map_back : {A B : Type 0} (f : A → B) (y : B) (xs : List A) → In y (map f xs) → (x : A) × In x xs × (f x ≡ y)
In-map_back f y [] h = elim h [ ]
In-map_back f y (x ∷ xs) here = (x, here, refl)
In-map_back f y (x ∷ xs) (there h) = let r = In-map_back f y xs h in (r.0, there r.1, r.2)
