-- Places of a list's elements.
use Rattle.std.proofs.Common.{◌≡◌, ℕ, zero, suc, ◌+◌, ◌<◌, ◌≤◌, List, [], ◌∷◌, ◌++◌, length, map, take, Some, refl, sym, ap, ◌∙◌, arith, get_or, drop, drop-cons, add-one}
use Rattle.std.proofs.lemmas.Option.{slice_get_within, get_or_from_slice_get}
use Rattle.vlsi_base.specs.Member.{In, here, there}
use Rattle.net_core.specs.Places.{Stands, IsThere}
use Rattle.net_theory.specs.Sources.{IsNumber}
use Rattle.net_theory.proofs.Basics.{at_number, number_in}

pub number_stands : {A : Type 0} (xs : List A) (k : ℕ) (x : A) → IsNumber xs k x → Stands xs k x
number_stands [] k x h = absurd h
number_stands (y ∷ xs) zero x h = ap Some (sym h)
number_stands (y ∷ xs) (suc k) x h = number_stands xs k x h

pub stands_number : {A : Type 0} (xs : List A) (k : ℕ) (x : A) → Stands xs k x → IsNumber xs k x
stands_number [] k x h = absurd cc
stands_number (y ∷ xs) zero x h = let e : y ≡ x = cc in sym e
stands_number (y ∷ xs) (suc k) x h = stands_number xs k x h

pub in_there : {A : Type 0} (x : A) (xs : List A) → In x xs → IsThere xs x
in_there x [] h = elim h [ ]
in_there x (y ∷ xs) here = (0, refl)
in_there x (y ∷ xs) (there h) = let r = in_there x xs h in (suc r.0, r.1)

pub there_in : {A : Type 0} (xs : List A) (k : ℕ) (x : A) → Stands xs k x → In x xs
there_in xs k x h = number_in xs k x (stands_number xs k x h)

pub stands_at : {A : Type 0} (xs : List A) (k : ℕ) → k < length xs → (x : A) × Stands xs k x
stands_at xs k h = let r = at_number xs k h in (r.0, number_stands xs k r.0 r.1)

pub within : {A : Type 0} (xs : List A) (k : ℕ) (x : A) → Stands xs k x → k < length xs
within xs k x h = slice_get_within xs k x h

pub got : {A : Type 0} (xs : List A) (k : ℕ) (x d : A) → Stands xs k x → get_or xs k d ≡ x
got xs k x d h = get_or_from_slice_get xs k x d h

-- one element more in the middle
pub in_insert : {A : Type 0} (x y : A) (xs ys : List A) → In x (xs ++ ys) → In x (xs ++ y ∷ ys)
in_insert x y [] ys h = there h
in_insert x y (z ∷ xs) ys here = here
in_insert x y (z ∷ xs) ys (there h) = there (in_insert x y xs ys h)

pub in_middle : {A : Type 0} (y : A) (xs ys : List A) → In y (xs ++ y ∷ ys)
in_middle y [] ys = here
in_middle y (z ∷ xs) ys = there (in_middle y xs ys)

-- what is left from an element on
pub drop_next : {A : Type 0} (xs : List A) (i : ℕ) (x : A) → i < length xs → x ≡ get_or xs i x → drop i xs ≡ x ∷ drop (i + 1) xs
drop_next {A} xs i x low is = drop-cons xs i x low ∙ ap (λ (y : A). y ∷ drop (suc i) xs) (sym is) ∙ ap (λ (j : ℕ). x ∷ drop j xs) (sym (add-one i))

-- two lists that are mapped to one
pub mapped_same : {A B C : Type 0} (f : A → C) (h : B → C) (xs : List A) (ys : List B) → length xs ≡ length ys
    → ((k : ℕ) (x : A) (y : B) → IsNumber xs k x → IsNumber ys k y → f x ≡ h y) → map f xs ≡ map h ys
mapped_same f h [] [] size each = refl
mapped_same f h [] (y ∷ ys) size each = absurd (omega (arith, size))
mapped_same f h (x ∷ xs) [] size each = absurd (omega (arith, size))
mapped_same {A} {B} {C} f h (x ∷ xs) (y ∷ ys) size each =
    ap (λ (z : C). z ∷ map f xs) (each 0 x y refl refl)
    ∙ ap (λ (zs : List C). h y ∷ zs) (mapped_same f h xs ys (omega (arith, size)) (λ k a b p q. each (suc k) a b p q))

pub mapped_number : {A B : Type 0} (f : A → B) (xs : List A) (k : ℕ) (x : A) → IsNumber xs k x → IsNumber (map f xs) k (f x)
mapped_number f [] k x h = absurd h
mapped_number f (y ∷ xs) zero x h = ap f h
mapped_number f (y ∷ xs) (suc k) x h = mapped_number f xs k x h

pub take_all : {A : Type 0} (xs : List A) (i : ℕ) → length xs ≤ i → take i xs ≡ xs
take_all [] zero h = refl
take_all [] (suc i) h = refl
take_all (x ∷ xs) zero h = absurd (omega (arith, h))
take_all {A} (x ∷ xs) (suc i) h = ap (λ (ys : List A). x ∷ ys) (take_all xs i (omega (arith, h)))

-- what is read where an element stands doesn't hang on what is read elsewhere
pub read_same : {A : Type 0} (xs : List A) (i : ℕ) (d e : A) → i < length xs → get_or xs i d ≡ get_or xs i e
read_same [] i d e low = absurd (omega (arith, low))
read_same (x ∷ xs) zero d e low = refl
read_same (x ∷ xs) (suc i) d e low = read_same xs i d e (omega (arith, low))
