-- How many bits ranges have, and the bits one behind another.
use Rattle.std.proofs.Common.{◌≡◌, ℕ, zero, suc, ◌+◌, ◌-◌, ◌<◌, cond, Bool, true, false, List, [], ◌∷◌, ◌++◌, length, refl, ap, ◌∙◌, append_assoc, arith}
use Rattle.vlsi_base.specs.declared.range.Range.{Range}
use Rattle.vlsi_base.specs.Range.{rising, falling, range_bits}

pub length_of_rising : (k n : ℕ) → length (rising k n) ≡ n
length_of_rising k zero = refl
length_of_rising k (suc n) = omega (arith, length_of_rising (k + 1) n)

pub length_of_falling : (k n : ℕ) → length (falling k n) ≡ n
length_of_falling k zero = refl
length_of_falling k (suc n) = omega (arith, length_of_falling k n)

pub length_of_range : (r : Range) → length (range_bits r) ≡ cond r.falls (r.left + 1 - r.right) (r.right + 1 - r.left)
length_of_range r = by r.falls where
  by : (b : Bool) → length (cond b (falling r.right (r.left + 1 - r.right)) (rising r.left (r.right + 1 - r.left))) ≡ cond b (r.left + 1 - r.right) (r.right + 1 - r.left)
  by true = length_of_falling r.right (r.left + 1 - r.right)
  by false = length_of_rising r.left (r.right + 1 - r.left)

pub falling_turn : (last n : ℕ) (bits items total : List ℕ) → 0 < n → items ≡ bits ++ (last + (n - 1)) ∷ [] → bits ++ falling last n ≡ total → items ++ falling last (n - 1) ≡ total
falling_turn last zero bits items total some pushed so_far = absurd (omega arith)
falling_turn last (suc m) bits items total some pushed so_far =
    let same : suc m - 1 ≡ m = omega arith in
    ap (λ (xs : List ℕ). xs ++ falling last (suc m - 1)) pushed
    ∙ append_assoc bits ((last + (suc m - 1)) ∷ []) (falling last (suc m - 1))
    ∙ ap (λ j. bits ++ ((last + j) ∷ falling last j)) same ∙ so_far

pub rising_turn : (next n : ℕ) (bits items total : List ℕ) → 0 < n → items ≡ bits ++ next ∷ [] → bits ++ rising next n ≡ total → items ++ rising (next + 1) (n - 1) ≡ total
rising_turn next zero bits items total some pushed so_far = absurd (omega arith)
rising_turn next (suc m) bits items total some pushed so_far =
    let same : suc m - 1 ≡ m = omega arith in
    ap (λ (xs : List ℕ). xs ++ rising (next + 1) (suc m - 1)) pushed
    ∙ append_assoc bits (next ∷ []) (rising (next + 1) (suc m - 1))
    ∙ ap (λ j. bits ++ (next ∷ rising (next + 1) j)) same ∙ so_far
