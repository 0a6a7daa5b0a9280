-- Members of lists, and lists in which nothing stands twice.
use Rattle.std.proofs.Common.{◌≡◌, ℕ, zero, suc, List, [], ◌∷◌, ◌++◌, map, Some, All, refl, sym, ap, subst}
use Rattle.std.specs.Prelude.{flat_map, slice_get}
use Rattle.std.proofs.lemmas.List.Elements.{All-head, All-tail}
use Rattle.vlsi_base.specs.Member.{In, here, there, AllDifferent}
use Rattle.grid_core.proofs.Lists.{In_first, In_last}

pub all_in : {A : Type 0} (P : A → Type 0) (xs : List A) (x : A) → All P xs → In x xs → P x
all_in P (y ∷ xs) x a here = All-head P y xs a
all_in P (y ∷ xs) x a (there i) = all_in P xs x (All-tail P y xs a) i
all_in P [] x a i = elim i [ ]

pub all_get : {A : Type 0} (P : A → Type 0) (xs : List A) (k : ℕ) (x : A) → All P xs → slice_get xs k ≡ Some x → P x
all_get P [] k x a e = absurd (cc e)
all_get P (y ∷ xs) zero x a e = let same : y ≡ x = cc in subst P same (All-head P y xs a)
all_get P (y ∷ xs) (suc k) x a e = all_get P xs k x (All-tail P y xs a) e

pub map_back : {A B : Type 0} (f : A → B) (xs : List A) (y : B) → In y (map f xs) → (x : A) × In x xs × (y ≡ f x)
map_back f (x ∷ xs) y here = (x, here, refl)
map_back f (x ∷ xs) y (there i) = let r = map_back f xs y i in (r.0, there r.1, r.2)
map_back f [] y i = elim i [ ]

different_first : {A : Type 0} (xs ys : List A) → AllDifferent (xs ++ ys) → AllDifferent xs
different_first [] ys d = tt
different_first (x ∷ xs) ys d = (λ i. d.0 (In_first xs ys x i), different_first xs ys d.1)

different_last : {A : Type 0} (xs ys : List A) → AllDifferent (xs ++ ys) → AllDifferent ys
different_last [] ys d = d
different_last (x ∷ xs) ys d = different_last xs ys d.1

different_apart : {A : Type 0} (x : A) (xs ys : List A) → AllDifferent (xs ++ ys) → In x xs → In x ys → ⊥
different_apart x (y ∷ xs) ys d here j = d.0 (In_last xs ys x j)
different_apart x (y ∷ xs) ys d (there i) j = different_apart x xs ys d.1 i j
different_apart x [] ys d i j = elim i [ ]

pub different_map : {A B : Type 0} (f : A → B) (xs : List A) → ((x y : A) → f x ≡ f y → x ≡ y) → AllDifferent xs → AllDifferent (map f xs)
different_map f [] one d = tt
different_map f (x ∷ xs) one d = (
  λ i. let r = map_back f xs (f x) i in d.0 (subst (λ z. In z xs) (sym (one x r.0 r.2)) r.1),
  different_map f xs one d.1,
)

-- ---- lists one behind another
pub flat_in : {X A : Type 0} (f : X → List A) (xs : List X) (k : ℕ) (n : X) (x : A) → slice_get xs k ≡ Some n → In x (f n) → In x (flat_map f xs)
flat_in f [] k n x e i = absurd (cc e)
flat_in f (y ∷ xs) zero n x e i =
    let same : y ≡ n = cc in
    In_first (f y) (flat_map f xs) x (subst (λ z. In x (f z)) (sym same) i)
flat_in f (y ∷ xs) (suc k) n x e i = In_last (f y) (flat_map f xs) x (flat_in f xs k n x e i)

pub flat_each : {X A : Type 0} (f : X → List A) (xs : List X) (k : ℕ) (n : X) → AllDifferent (flat_map f xs) → slice_get xs k ≡ Some n → AllDifferent (f n)
flat_each f [] k n d e = absurd (cc e)
flat_each f (y ∷ xs) zero n d e = let same : y ≡ n = cc in subst (λ z. AllDifferent (f z)) same (different_first (f y) (flat_map f xs) d)
flat_each f (y ∷ xs) (suc k) n d e = flat_each f xs k n (different_last (f y) (flat_map f xs) d) e

pub flat_alone : {X A : Type 0} (f : X → List A) (xs : List X) (j k : ℕ) (m n : X) (x : A) → AllDifferent (flat_map f xs)
    → slice_get xs j ≡ Some m → slice_get xs k ≡ Some n → In x (f m) → In x (f n) → j ≡ k
flat_alone f [] j k m n x d e g a b = absurd (cc e)
flat_alone f (y ∷ xs) zero zero m n x d e g a b = refl
flat_alone f (y ∷ xs) zero (suc k) m n x d e g a b =
    let same : y ≡ m = cc in
    absurd (different_apart x (f y) (flat_map f xs) d (subst (λ z. In x (f z)) (sym same) a) (flat_in f xs k n x g b))
flat_alone f (y ∷ xs) (suc j) zero m n x d e g a b =
    let same : y ≡ n = cc in
    absurd (different_apart x (f y) (flat_map f xs) d (subst (λ z. In x (f z)) (sym same) b) (flat_in f xs j m x e a))
flat_alone f (y ∷ xs) (suc j) (suc k) m n x d e g a b = ap suc (flat_alone f xs j k m n x (different_last (f y) (flat_map f xs) d) e g a b)
