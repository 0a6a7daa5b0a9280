-- Names of instances differ where their numbers do.
use Rattle.std.proofs.Common.{◌≡◌, ℕ, zero, suc, ◌+◌, ◌/◌, ◌%◌, ◌^◌, ◌<◌, ◌≤◌, Bool, true, false, List, [], ◌∷◌, length, refl, sym, ◌∙◌, ap, arith, decimal, if◌then◌else◌, ◌⊎◌, inl, inr, pow-suc, ◌==◌, eqb-true}
use Rattle.std.proofs.lemmas.Fmt.{decimal_injective, decimal_is_IsNumeral_wide, length-decimal-le}
use Rattle.std.proofs.lemmas.Bool.{cases_lt}
use Rattle.std.specs.Str.Parse.{digits_value}
use Rattle.std.specs.Fmt.{digits_onto, digits, digit_glyph}
use Rattle.net_meaning.specs.Agreement.{register_instance}
use Rattle.net_meaning.specs.Well.{gate_instance, buffer_instance}

pub register_names : (j k : ℕ) → j < 2 ^ 64 → k < 2 ^ 64 → register_instance j ≡ register_instance k → j ≡ k
register_names j k p q same = let rest : decimal j ≡ decimal k = cc same in decimal_injective j k p q rest

pub gate_names : (j k : ℕ) → j < 2 ^ 64 → k < 2 ^ 64 → gate_instance j ≡ gate_instance k → j ≡ k
gate_names j k p q same = let rest : decimal j ≡ decimal k = cc same in decimal_injective j k p q rest

abbrev first : List ℕ → ℕ
first [] = 0
first (x ∷ xs) = x

pub not_both : (j k : ℕ) → register_instance j ≡ gate_instance k → ⊥
not_both j k same = absurd (omega (arith, ap first same))

pub no_register_buffers : (j k : ℕ) → register_instance j ≡ buffer_instance k → ⊥
no_register_buffers j k same = absurd (omega (arith, ap first same))

pub no_gate_buffers : (j k : ℕ) → gate_instance j ≡ buffer_instance k → ⊥
no_gate_buffers j k same = absurd (omega (arith, ap first same))

ten_pos : (k : ℕ) → 0 < 10 ^ k
ten_pos zero = omega arith
ten_pos (suc k) = let h = ten_pos k in omega (arith, h, pow-suc 10 k)

-- `decimal` writes at most 64 digits, and of a number that has more it writes that many
all_digits : (k n : ℕ) (acc : List ℕ) → 10 ^ k ≤ n → length (digits_onto k 10 false n acc) ≡ k + length acc
all_digits zero n acc h = omega arith
all_digits (suc k) n acc h =
    let some : 0 < 10 ^ k = ten_pos k in
    let enough : 10 ^ k ≤ n / 10 = omega (arith, h, pow-suc 10 k) in
    by (n / 10 == 0) refl (all_digits k (n / 10) (digit_glyph false (n % 10) ∷ acc) enough) some enough where
      by : (b : Bool) → (n / 10 == 0) ≡ b → length (digits_onto k 10 false (n / 10) (digit_glyph false (n % 10) ∷ acc)) ≡ k + length (digit_glyph false (n % 10) ∷ acc)
          → 0 < 10 ^ k → 10 ^ k ≤ n / 10
          → length (if b then digit_glyph false (n % 10) ∷ acc else digits_onto k 10 false (n / 10) (digit_glyph false (n % 10) ∷ acc)) ≡ suc k + length acc
      by true e rest some enough = let none : n / 10 ≡ 0 = eqb-true (n / 10) 0 e in absurd (omega (arith, none, some, enough))
      by false e rest some enough = omega (arith, rest)

long_decimal : (n : ℕ) → 10 ^ 64 ≤ n → length (decimal n) ≡ 64
unfolding digits
long_decimal n h = let all = all_digits 64 n [] h in omega (arith, all)

-- so a number below 2 ^ 64 is told from every other one
pub decimal_apart : (j k : ℕ) → j < 2 ^ 64 → decimal j ≡ decimal k → j ≡ k
decimal_apart j k small same = by (cases_lt k (10 ^ 64)) where
  by : (k < 10 ^ 64) ⊎ (10 ^ 64 ≤ k) → j ≡ k
  by (inl low) = sym (decimal_is_IsNumeral_wide j (omega (arith, small))).1 ∙ ap (digits_value 10) same ∙ (decimal_is_IsNumeral_wide k low).1
  by (inr high) =
      let long = long_decimal k high in
      let short : length (decimal j) ≤ 20 = length-decimal-le 20 j (omega arith) (omega (arith, small)) small in
      let sizes : length (decimal j) ≡ length (decimal k) = ap length same in absurd (omega (arith, long, short, sizes))

pub gate_apart : (j k : ℕ) → j < 2 ^ 64 → gate_instance j ≡ gate_instance k → j ≡ k
gate_apart j k small same = let rest : decimal j ≡ decimal k = cc same in decimal_apart j k small rest
