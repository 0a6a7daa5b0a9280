-- Members of lists, lists in which nothing stands twice, and lists that grow at their end.
use Rattle.std.proofs.Common.{◌≡◌, ℕ, zero, suc, ◌+◌, List, [], ◌∷◌, ◌++◌, map, ◌⊎◌, inl, inr, refl, ap, ◌∙◌, arith, add-one, zero-add}
use Rattle.vlsi_base.specs.Member.{In, here, there, AllDifferent}
use Rattle.vlsi_base.specs.Range.{rising}

pub in_cons : {A : Type 0} (x y : A) (xs : List A) → In x (y ∷ xs) → (x ≡ y) ⊎ In x xs
in_cons x y xs here = inl refl
in_cons x y xs (there i) = inr i

pub in_either : {A : Type 0} (x : A) (xs ys : List A) → In x (xs ++ ys) → In x xs ⊎ In x ys
in_either x [] ys i = inr i
in_either x (z ∷ xs) ys here = inl here
in_either x (z ∷ xs) ys (there i) = elim (in_either x xs ys i) [ inl a ↦ inl (there a) | inr b ↦ inr b ]

pub in_second : {A : Type 0} (x : A) (xs ys : List A) → In x ys → In x (xs ++ ys)
in_second x [] ys i = i
in_second x (z ∷ xs) ys i = there (in_second x xs ys i)

pub joined_differ : {A : Type 0} (xs ys : List A) → AllDifferent xs → AllDifferent ys → ((x : A) → In x xs → In x ys → ⊥) → AllDifferent (xs ++ ys)
joined_differ [] ys a b h = b
joined_differ (x ∷ xs) ys a b h = (
  λ i. elim (in_either x xs ys i) [ inl p ↦ a.0 p | inr q ↦ h x here q ],
  joined_differ xs ys a.1 b (λ y p q. h y (there p) q),
)

pub map_behind : {A B : Type 0} (g : A → B) (xs ys : List A) → map g (xs ++ ys) ≡ map g xs ++ map g ys
map_behind g [] ys = refl
map_behind {A} {B} g (x ∷ xs) ys = ap (λ (zs : List B). g x ∷ zs) (map_behind g xs ys)

pub rising_more : (k n : ℕ) → rising k (n + 1) ≡ rising k n ++ (k + n) ∷ []
rising_more k n = rw (add-one n) (more k n) where
  more : (k n : ℕ) → rising k (suc n) ≡ rising k n ++ (k + n) ∷ []
  more k zero = ap (λ (m : ℕ). m ∷ []) (omega arith)
  more k (suc n) = ap (λ (ms : List ℕ). k ∷ ms) (more (k + 1) n ∙ ap (λ (m : ℕ). rising (k + 1) n ++ m ∷ []) (omega arith))

pub rising_map : {B : Type 0} (g : ℕ → B) (n : ℕ) → map g (rising 0 (n + 1)) ≡ map g (rising 0 n) ++ g n ∷ []
rising_map {B} g n = ap (map g) (rising_more 0 n) ∙ map_behind g (rising 0 n) ((0 + n) ∷ []) ∙ ap (λ m. map g (rising 0 n) ++ g m ∷ []) (zero-add n)
