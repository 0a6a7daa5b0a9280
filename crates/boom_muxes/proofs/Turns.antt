-- Loops that put one more behind the others.
use Rattle.std.proofs.Common.{◌≡◌, ℕ, suc, ◌+◌, ◌-◌, ◌<◌, List, [], ◌∷◌, ◌++◌, map, sym, ap, ◌∙◌, append_assoc, arith}
use Rattle.vlsi_base.specs.Range.{rising}

pub piece_turn : {A : Type 0} (xs ys piece rest total : List A) → ys ≡ xs ++ piece → xs ++ (piece ++ rest) ≡ total → ys ++ rest ≡ total
piece_turn {A} xs ys piece rest total e h = ap (λ (zs : List A). zs ++ rest) e ∙ append_assoc xs piece rest ∙ h

pub rising_less : (k end : ℕ) → k < end → rising k (end - k) ≡ k ∷ rising (k + 1) (end - (k + 1))
rising_less k end low = let n : end - k ≡ suc (end - (k + 1)) = omega (arith, low) in ap (rising k) n

pub rising_turn : {A : Type 0} (f : ℕ → A) (k end : ℕ) (xs ys total : List A) → k < end → ys ≡ xs ++ f k ∷ [] → xs ++ map f (rising k (end - k)) ≡ total
    → ys ++ map f (rising (k + 1) (end - (k + 1))) ≡ total
rising_turn {A} f k end xs ys total low e h =
    piece_turn xs ys (f k ∷ []) (map f (rising (k + 1) (end - (k + 1)))) total e (ap (λ (ks : List ℕ). xs ++ map f ks) (sym (rising_less k end low)) ∙ h)
