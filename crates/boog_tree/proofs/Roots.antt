-- The roots of trees, number by number.
use Rattle.std.proofs.Common.{◌≡◌, ℕ, ◌+◌, Bool, true, false, List, [], ◌∷◌, ◌++◌, filter, ap, refl, ◌∙◌, arith, if◌then◌else◌}
use Prim.Native.Nat.{zero, suc}
use Rattle.std.specs.List.{range_with_len}

range_end : (a n : ℕ) → range_with_len a (suc n) ≡ range_with_len a n ++ (a + n) ∷ []
range_end a zero = ap (λ (k : ℕ). k ∷ []) (let e : a ≡ a + 0 = omega arith in e)
range_end a (suc n) =
    ap (λ (l : List ℕ). a ∷ l) (range_end (a + 1) n ∙ ap (λ (k : ℕ). range_with_len (a + 1) n ++ k ∷ []) (let e : a + 1 + n ≡ a + suc n = omega arith in e))

filter_end : (f : ℕ → Bool) (xs : List ℕ) (x : ℕ) → filter f (xs ++ x ∷ []) ≡ filter f xs ++ (if f x then x ∷ [] else [])
filter_end f [] x = go (f x) where
  go : (b : Bool) → (if b then x ∷ [] else []) ≡ [] ++ (if b then x ∷ [] else [])
  go true = refl
  go false = refl
filter_end f (y ∷ xs) x = go (f y) (filter_end f xs x) where
  go : (b : Bool) → filter f (xs ++ x ∷ []) ≡ filter f xs ++ (if f x then x ∷ [] else [])
      → (if b then y ∷ filter f (xs ++ x ∷ []) else filter f (xs ++ x ∷ [])) ≡ (if b then y ∷ filter f xs else filter f xs) ++ (if f x then x ∷ [] else [])
  go true e = ap (λ (l : List ℕ). y ∷ l) e
  go false e = e

pub filter_more : (f : ℕ → Bool) (n : ℕ) → filter f (range_with_len 0 (n + 1)) ≡ filter f (range_with_len 0 n) ++ (if f n then n ∷ [] else [])
filter_more f n =
    ap (λ (k : ℕ). filter f (range_with_len 0 k)) (let e : n + 1 ≡ suc n = omega arith in e)
    ∙ ap (λ (l : List ℕ). filter f l) (range_end 0 n ∙ ap (λ (k : ℕ). range_with_len 0 n ++ k ∷ []) (let e : 0 + n ≡ n = omega arith in e))
    ∙ filter_end f (range_with_len 0 n) n

pub kept_yes : (b : Bool) (xs : List ℕ) (n : ℕ) → b ≡ true → xs ++ (if b then n ∷ [] else []) ≡ xs ++ n ∷ []
kept_yes true xs n e = refl
kept_yes false xs n e = cc

pub kept_no : (b : Bool) (xs : List ℕ) (n : ℕ) → b ≡ false → xs ++ (if b then n ∷ [] else []) ≡ xs
kept_no true xs n e = cc
kept_no false xs n e = none xs where
  none : (xs : List ℕ) → xs ++ [] ≡ xs
  none [] = refl
  none (x ∷ xs) = ap (λ (l : List ℕ). x ∷ l) (none xs)
