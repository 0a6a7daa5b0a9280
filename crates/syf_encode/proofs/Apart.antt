-- In how many bits two numbers differ.
use Rattle.std.proofs.Common.{◌≡◌, ℕ, zero, suc, ◌*◌, ◌/◌, ◌%◌, ◌^◌, ◌==◌, ◌<◌, Bool, true, false, List, [], ◌∷◌, bit_xor, count_ones, refl, sym, ap, ◌∙◌, arith, if◌then◌else◌}
use Rattle.std.proofs.lemmas.Nat.{xor_shr, xor_mod}
use Rattle.std.proofs.Math.Nat.{pow-succ'}
use lib.Count.{ones_step}
use Rattle.fsm_machine.specs.Encoding.{bits_of, apart}

abbrev differ : Bool → Bool → ℕ
differ a b = if a then (if b then 0 else 1) else (if b then 1 else 0)

-- one bit of the two numbers
one_bit : (a b : ℕ) → differ (a % 2 == 1) (b % 2 == 1) ≡ bit_xor a b % 2
one_bit a b = by (a % 2) (b % 2) (omega arith) (omega arith) ∙ sym (xor_mod a b 1) where
  by : (x y : ℕ) → x < 2 → y < 2 → differ (x == 1) (y == 1) ≡ bit_xor x y
  by zero zero l m = refl
  by zero (suc zero) l m = refl
  by (suc zero) zero l m = refl
  by (suc zero) (suc zero) l m = refl
  by (suc (suc x)) y l m = absurd (omega arith)
  by zero (suc (suc y)) l m = absurd (omega arith)
  by (suc zero) (suc (suc y)) l m = absurd (omega arith)

-- numbers of w bits differ in as many bits as their xor has ones
pub ones_apart : (w a b : ℕ) → a < 2 ^ w → b < 2 ^ w → apart (bits_of w a) (bits_of w b) ≡ count_ones (bit_xor a b)
unfolding lib.Count.ones
ones_apart zero zero zero la lb = refl
ones_apart zero (suc a) b la lb = absurd (omega arith)
ones_apart zero a (suc b) la lb = absurd (omega arith)
ones_apart (suc w) a b la lb =
    let p : 2 ^ suc w ≡ 2 * 2 ^ w = pow-succ' 2 w in
    let later : apart (bits_of w (a / 2)) (bits_of w (b / 2)) ≡ count_ones (bit_xor (a / 2) (b / 2)) = ones_apart w (a / 2) (b / 2) (omega arith) (omega arith) in
    let half : count_ones (bit_xor (a / 2) (b / 2)) ≡ count_ones (bit_xor a b / 2) = ap count_ones (sym (xor_shr a b 1)) in
    let bit = one_bit a b in
    let step = ones_step (bit_xor a b) in
    omega arith

-- which of the two stands first doesn't count
pub apart_turned : (xs ys : List Bool) → apart xs ys ≡ apart ys xs
apart_turned [] [] = refl
apart_turned [] (y ∷ ys) = refl
apart_turned (x ∷ xs) [] = refl
apart_turned (x ∷ xs) (y ∷ ys) = let h = bit_turned x y in let g = apart_turned xs ys in omega arith where
  bit_turned : (a b : Bool) → differ a b ≡ differ b a
  bit_turned true true = refl
  bit_turned true false = refl
  bit_turned false true = refl
  bit_turned false false = refl
