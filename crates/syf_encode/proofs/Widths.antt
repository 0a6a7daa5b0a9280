-- The search for the least width, step by step, and the bits of a number.
use Rattle.std.proofs.Common.{◌≡◌, ℕ, zero, suc, ◌+◌, ◌-◌, ◌*◌, ◌/◌, ◌%◌, ◌^◌, ◌<◌, ◌≤◌, ◌==◌, Bool, List, [], ◌∷◌, ◌++◌, sym, ap, ◌∙◌, add-one, append_assoc, inl, inr, arith, if◌then◌else◌}
use Rattle.std.proofs.lemmas.Bool.{lt-leb, cases_lt}
use Rattle.std.proofs.lemmas.Nat.{pow_pos}
use Rattle.std.proofs.Math.Nat.{pow-succ'}
use Rattle.fsm_machine.specs.Encoding.{width_from, bits_of}

-- where there is no room for so many, the next width is tried
width_more : (n b more : ℕ) → 2 ^ b < n → width_from n (suc b) more ≡ width_from n b (suc more)
width_more n b more l = sym (ap (λ (t : Bool). if t then b else width_from n (suc b) more) (lt-leb n (2 ^ b) l))

power_above : (w : ℕ) → w ≤ 2 ^ w
power_above zero = omega arith
power_above (suc w) =
    let h = power_above w in
    let a = pow_pos w in
    let p : 2 ^ suc w ≡ 2 * 2 ^ w = pow-succ' 2 w in omega arith

-- one step of the search, for as many states as 8 bits have room for
pub width_step : (n w : ℕ) → 2 ^ w < n → width_from n (w + 1) (n - (w + 1)) ≡ width_from n w (n - w)
width_step n w l =
    let a = power_above w in
    let e : n - w ≡ suc (n - (w + 1)) = omega arith in
    ap (λ (b : ℕ). width_from n b (n - (w + 1))) (add-one w) ∙ width_more n w (n - (w + 1)) l ∙ ap (width_from n w) (sym e)

pub width_below : (n w : ℕ) → n ≤ 256 → w ≤ 8 → 2 ^ w < n → w < 8
width_below n w few small l = elim (cases_lt w 8) [
  | inl h ↦ h
  | inr h ↦ (let e : w ≡ 8 = omega arith in let p = ap (λ (k : ℕ). 2 ^ k) e in absurd (omega arith))
]

-- the lowest bit, and then those of half of the number
pub bits_more : (front : List Bool) (left number : ℕ) → 0 < left
    → (front ++ ((number % 2 == 1) ∷ [])) ++ bits_of (left - 1) (number / 2) ≡ front ++ bits_of left number
bits_more front zero number l = absurd (omega arith)
bits_more front (suc left) number l =
    let e : suc left - 1 ≡ left = omega arith in
    ap (λ (k : ℕ). (front ++ ((number % 2 == 1) ∷ [])) ++ bits_of k (number / 2)) e
    ∙ append_assoc front ((number % 2 == 1) ∷ []) (bits_of left (number / 2))
