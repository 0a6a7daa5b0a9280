-- How far the points of a net reach.
use Rattle.std.proofs.Common.{◌≡◌, ℕ, zero, suc, ◌+◌, ◌-◌, ◌≤◌, min, max, List, [], ◌∷◌, map, drop, length, Some, refl, sym, ap, ◌∙◌, arith}
use Rattle.std.specs.Prelude.{slice_get}
use Rattle.std.proofs.lemmas.List.{drop_all, length-map}
use Rattle.maze_nets.specs.Nets.{least, greatest, extent}

pub drop_next : {A : Type 0} (f : A → ℕ) (xs : List A) (at : ℕ) (x : A) → slice_get xs at ≡ Some x → drop at (map f xs) ≡ f x ∷ drop (at + 1) (map f xs)
drop_next f [] at x e = absurd (cc e)
drop_next f (y ∷ xs) zero x e = let same : y ≡ x = cc in ap (λ z. f z ∷ map f xs) same
drop_next f (y ∷ xs) (suc at) x e = let two : suc at + 1 ≡ suc (at + 1) = omega arith in rw two (drop_next f xs at x e)

pub least_next : {A : Type 0} (f : A → ℕ) (xs : List A) (at low first : ℕ) (x : A) → slice_get xs at ≡ Some x
    → least low (drop at (map f xs)) ≡ least first (drop 1 (map f xs)) → least (min low (f x)) (drop (at + 1) (map f xs)) ≡ least first (drop 1 (map f xs))
least_next f xs at low first x e h = ap (least low) (sym (drop_next f xs at x e)) ∙ h

pub greatest_next : {A : Type 0} (f : A → ℕ) (xs : List A) (at high first : ℕ) (x : A) → slice_get xs at ≡ Some x
    → greatest high (drop at (map f xs)) ≡ greatest first (drop 1 (map f xs)) → greatest (max high (f x)) (drop (at + 1) (map f xs)) ≡ greatest first (drop 1 (map f xs))
greatest_next f xs at high first x e h = ap (greatest high) (sym (drop_next f xs at x e)) ∙ h

pub extent_of : {A : Type 0} (f : A → ℕ) (xs : List A) (at low high first : ℕ) (x : A) → slice_get xs 0 ≡ Some x → first ≡ f x → length xs ≤ at
    → least low (drop at (map f xs)) ≡ least first (drop 1 (map f xs)) → greatest high (drop at (map f xs)) ≡ greatest first (drop 1 (map f xs)) → high - low ≡ extent (map f xs)
extent_of f xs at low high first x e is le l h =
    let none : drop at (map f xs) ≡ [] = drop_all at (map f xs) (let n = length-map xs f in omega arith) in
    let low_is : low ≡ least (f x) (drop 1 (map f xs)) = ap (least low) (sym none) ∙ (l ∙ ap (λ n. least n (drop 1 (map f xs))) is) in
    let high_is : high ≡ greatest (f x) (drop 1 (map f xs)) = ap (greatest high) (sym none) ∙ (h ∙ ap (λ n. greatest n (drop 1 (map f xs))) is) in
    ap (λ n. n - low) high_is ∙ (ap (λ n. greatest (f x) (drop 1 (map f xs)) - n) low_is ∙ ap extent (sym (drop_next f xs 0 x e)))

pub extent_none : {A : Type 0} (f : A → ℕ) (xs : List A) → length xs ≡ 0 → 0 ≡ extent (map f xs)
extent_none f [] e = refl
extent_none f (x ∷ xs) e = absurd (let no : ⊥ = omega arith in no)
