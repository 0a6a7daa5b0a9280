-- A letter with a number behind it is an identifier, however large the number: no reserved word has a digit.
use Rattle.std.proofs.Common.{◌≡◌, ℕ, suc, zero, ◌+◌, ◌/◌, ◌%◌, ◌<◌, ◌==◌, nat_lt, Bool, true, false, not, cond, List, [], ◌∷◌, None, Some, bytes_eq, slice_index, refl, sym, ap, ◌∙◌, arith}
use Rattle.std.specs.List.{list_all}
use Rattle.std.specs.Char.{is_ascii_digit}
use Rattle.std.specs.Fmt.{decimal, digits, digits_onto, digit_glyph}
use Rattle.std.proofs.lemmas.Bool.{and_parts}
use Rattle.std.proofs.lemmas.Bool.Decides.{nat_tests}
use Rattle.std.proofs.lemmas.Slice.Eq.{bytes_eq-Decides}
use Rattle.vhdl_token.specs.declared.keyword.Keyword.{Keyword}
use Rattle.vhdl_token.specs.Keyword.{keyword_text, keyword_among, keyword_of, keywords}
use Rattle.spell_theory.specs.Words.{is_small_letter, is_in_small_word}
use Rattle.spell_theory.proofs.Letters.{by_bytes, small_digit, all_implied, both, digit_of_ten}
use Rattle.text_names.specs.Words.{IsIdentifier}

none_among : (w : List ℕ) (ks : List Keyword) → list_all (λ k. not (is_ascii_digit (slice_index (keyword_text k) 1))) ks ≡ true
    → is_ascii_digit (slice_index w 1) ≡ true → keyword_among w ks ≡ None
none_among w [] all digit = refl
none_among w (k ∷ ks) all digit = by (none_among w ks parts.1 digit) (bytes_eq (keyword_text k) w) refl where
  parts : (not (is_ascii_digit (slice_index (keyword_text k) 1)) ≡ true) × (list_all (λ k. not (is_ascii_digit (slice_index (keyword_text k) 1))) ks ≡ true)
  parts = and_parts (not (is_ascii_digit (slice_index (keyword_text k) 1))) (list_all (λ k. not (is_ascii_digit (slice_index (keyword_text k) 1))) ks) all

  by : keyword_among w ks ≡ None → (b : Bool) → bytes_eq (keyword_text k) w ≡ b → cond b (Some k) (keyword_among w ks) ≡ None
  by rest false e = rest
  by rest true e =
      let d : is_ascii_digit (slice_index (keyword_text k) 1) ≡ true = ap (λ (t : List ℕ). is_ascii_digit (slice_index t 1)) ((bytes_eq-Decides (keyword_text k) w).0 e) ∙ digit in
      let never : false ≡ true = sym (ap not d) ∙ parts.0 in absurd cc

-- digits, at least one
record AreDigits (ds : List ℕ) : Type 0 where
  pub first : is_ascii_digit (slice_index ds 0) ≡ true
  pub all : list_all is_ascii_digit ds ≡ true

one_more : (d : ℕ) (ds : List ℕ) → is_ascii_digit d ≡ true → list_all is_ascii_digit ds ≡ true → AreDigits (d ∷ ds)
one_more d ds h all = record { first = h; all = both (is_ascii_digit d) (list_all is_ascii_digit ds) h all }

glyph_is : (d : ℕ) → d < 10 → is_ascii_digit (digit_glyph false d) ≡ true
glyph_is d h = by (nat_lt d 10) refl where
  by : (b : Bool) → nat_lt d 10 ≡ b → is_ascii_digit (cond b (48 + d) (87 + d)) ≡ true
  by true e = digit_of_ten d h
  by false e = absurd (grind (arith, nat_tests))

with_glyph : (n : ℕ) (ds : List ℕ) → list_all is_ascii_digit ds ≡ true → AreDigits (digit_glyph false (n % 10) ∷ ds)
with_glyph n ds all = one_more (digit_glyph false (n % 10)) ds (glyph_is (n % 10) (omega arith)) all

digits_from : (k n : ℕ) (ds : List ℕ) → list_all is_ascii_digit ds ≡ true → AreDigits (digits_onto (suc k) 10 false n ds)
digits_from zero n ds all = by (n / 10 == 0) where
  by : (b : Bool) → AreDigits (cond b (digit_glyph false (n % 10) ∷ ds) (digits_onto zero 10 false (n / 10) (digit_glyph false (n % 10) ∷ ds)))
  by true = with_glyph n ds all
  by false = with_glyph n ds all
digits_from (suc k) n ds all = by (n / 10 == 0) (digits_from k (n / 10) (digit_glyph false (n % 10) ∷ ds) (with_glyph n ds all).all) where
  by : (b : Bool) → AreDigits (digits_onto (suc k) 10 false (n / 10) (digit_glyph false (n % 10) ∷ ds))
      → AreDigits (cond b (digit_glyph false (n % 10) ∷ ds) (digits_onto (suc k) 10 false (n / 10) (digit_glyph false (n % 10) ∷ ds)))
  by true later = with_glyph n ds all
  by false later = later

decimal_digits : (n : ℕ) → AreDigits (decimal n)
unfolding digits
decimal_digits n = digits_from 63 n [] refl

digit_in_word : (c : ℕ) → is_ascii_digit c ≡ true → is_in_small_word c ≡ true
digit_in_word c h = by_bytes is_ascii_digit is_in_small_word refl c (small_digit c h) h

pub numbered_word : (letter k : ℕ) → is_small_letter letter ≡ true → is_in_small_word letter ≡ true → IsIdentifier (letter ∷ decimal k)
unfolding keyword_of
numbered_word letter k small within =
    let d = decimal_digits k in
    let letters = both (is_in_small_word letter) (list_all is_in_small_word (decimal k)) within (all_implied is_ascii_digit is_in_small_word digit_in_word (decimal k) d.all) in (
      both (is_small_letter letter) (list_all is_in_small_word (letter ∷ decimal k)) small letters,
      none_among (letter ∷ decimal k) keywords refl d.first,
    )
