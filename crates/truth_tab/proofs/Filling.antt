-- A word that is filled row by row.
use Rattle.std.proofs.Common.{◌≡◌, ◌≢◌, ℕ, ◌+◌, ◌*◌, ◌%◌, ◌^◌, ◌<◌, ◌≤◌, Bool, true, false, bit_or, List, length, ap, sym, subst, ◌∙◌, arith, w64}
use Rattle.std.proofs.lemmas.Nat.Bits.{bit_at-zero, bit_at_set_same, bit_at_set_other}
use Rattle.std.proofs.lemmas.Bool.{cases_lt}
use Rattle.std.proofs.Common.{inl, inr}
use Rattle.truth_tab.specs.Table.{row_of, row_bit, value_of}
use Rattle.truth_tab.proofs.Lists.{row_within}
use Rattle.truth_tab.proofs.Words.{is_one}

-- the rows below this one have the values of f, and the others 0
pub record Filled (f : ℕ → Bool) (word row : ℕ) : Type 0 where
  pub below : (n : ℕ) → n < row → row_bit word n ≡ f n
  pub above : (n : ℕ) → row ≤ n → row_bit word n ≡ false

pub filled_start : (f : ℕ → Bool) → Filled f 0 0
filled_start f = record { below = λ n h. absurd (omega arith); above = λ n h. ap is_one (bit_at-zero n) }

pub filled_set : (f : ℕ → Bool) (word row : ℕ) → row < 64 → f row ≡ true → Filled f word row
    → Filled f (bit_or word (1 * 2 ^ row % 2 ^ 64)) (row + 1)
filled_set f word row low value old = record {
  below = λ n h. elim (cases_lt n row) [
    | inl less ↦ let other : n ≢ row = omega arith in ap is_one (bit_at_set_other w64 word row low n other) ∙ old.below n less
    | inr not_less ↦ let same : row ≡ n = omega arith in
        subst (λ (j : ℕ). row_bit (bit_or word (1 * 2 ^ row % 2 ^ 64)) j ≡ f j) same (ap is_one (bit_at_set_same w64 word row low) ∙ sym value)
  ];
  above = λ n h. let other : n ≢ row = omega arith in let less : row ≤ n = omega arith in
      ap is_one (bit_at_set_other w64 word row low n other) ∙ old.above n less;
}

pub filled_skip : (f : ℕ → Bool) (word row : ℕ) → f row ≡ false → Filled f word row → Filled f word (row + 1)
filled_skip f word row value old = record {
  below = λ n h. elim (cases_lt n row) [
    | inl less ↦ old.below n less
    | inr not_less ↦ let same : row ≡ n = omega arith in
        subst (λ (j : ℕ). row_bit word j ≡ f j) same (old.above row (omega arith) ∙ sym value)
  ];
  above = λ n h. old.above n (omega arith);
}

-- so it is the table of f for lists of k bits and fewer
pub filled_value : (f : ℕ → Bool) (word k : ℕ) → Filled f word (2 ^ k) → (w : List Bool) → length w ≤ k → value_of word w ≡ f (row_of w)
filled_value f word k all w few = all.below (row_of w) (row_within w k few)
