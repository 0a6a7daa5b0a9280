-- A letter with a number behind it is an identifier: no reserved word has a digit.
use Rattle.std.proofs.Common.{◌≡◌, ℕ, ◌+◌, ◌<◌, ◌≤◌, ◌^◌, Bool, true, false, not, cond, ◌&&◌, List, [], ◌∷◌, length, Option, None, Some, bytes_eq, slice_index, refl, sym, ap, ◌∙◌, arith}
use Rattle.std.specs.List.{list_all}
use Rattle.std.specs.Char.{is_ascii_digit}
use Rattle.std.specs.Fmt.{decimal}
use Rattle.std.proofs.lemmas.Bool.{and_parts}
use Rattle.std.proofs.lemmas.Slice.Eq.{bytes_eq-Decides}
use Rattle.vhdl_token.specs.declared.keyword.Keyword.{Keyword}
use Rattle.vhdl_token.specs.Keyword.{keyword_text, keyword_among, keyword_of, keywords}
use Rattle.spell_theory.specs.Words.{is_small_letter, is_in_small_word}
use Rattle.spell_theory.proofs.Letters.{by_bytes, small_digit, all_implied, both, decimal_is}
use Rattle.text_names.specs.Words.{is_word, IsIdentifier}

same_text : (a b : List ℕ) → bytes_eq a b ≡ true → a ≡ b
same_text a b e = (bytes_eq-Decides a b).0 e

none_among : (w : List ℕ) (ks : List Keyword) → list_all (λ k. not (is_ascii_digit (slice_index (keyword_text k) 1))) ks ≡ true → is_ascii_digit (slice_index w 1) ≡ true → keyword_among w ks ≡ None
none_among w [] all digit = refl
none_among w (k ∷ ks) all digit = by (none_among w ks parts.1 digit) (bytes_eq (keyword_text k) w) refl where
  parts : (not (is_ascii_digit (slice_index (keyword_text k) 1)) ≡ true) × (list_all (λ k. not (is_ascii_digit (slice_index (keyword_text k) 1))) ks ≡ true)
  parts = and_parts (not (is_ascii_digit (slice_index (keyword_text k) 1))) (list_all (λ k. not (is_ascii_digit (slice_index (keyword_text k) 1))) ks) all

  by : keyword_among w ks ≡ None → (b : Bool) → bytes_eq (keyword_text k) w ≡ b → cond b (Some k) (keyword_among w ks) ≡ None
  by rest false e = rest
  by rest true e =
      let d : is_ascii_digit (slice_index (keyword_text k) 1) ≡ true = ap (λ (t : List ℕ). is_ascii_digit (slice_index t 1)) (same_text (keyword_text k) w e) ∙ digit in
      let no : false ≡ true = sym (ap not d) ∙ parts.0 in absurd cc

first_digit : (ds : List ℕ) → list_all is_ascii_digit ds ≡ true → 0 < length ds → is_ascii_digit (slice_index ds 0) ≡ true
first_digit [] all some = absurd (omega arith)
first_digit (d ∷ ds) all some = (and_parts (is_ascii_digit d) (list_all is_ascii_digit ds) all).0

digit_in_word : (c : ℕ) → is_ascii_digit c ≡ true → is_in_small_word c ≡ true
digit_in_word c h = by_bytes is_ascii_digit is_in_small_word refl c (small_digit c h) h

pub numbered : (letter k : ℕ) → is_small_letter letter ≡ true → is_in_small_word letter ≡ true → k < 2 ^ 64 → IsIdentifier (letter ∷ decimal k)
unfolding keyword_of
numbered letter k small within few =
    let d = decimal_is k few in
    let letters = both (is_in_small_word letter) (list_all is_in_small_word (decimal k)) within (all_implied is_ascii_digit is_in_small_word digit_in_word (decimal k) d.digits) in (
      both (is_small_letter letter) (list_all is_in_small_word (letter ∷ decimal k)) small letters,
      none_among (letter ∷ decimal k) keywords refl (first_digit (decimal k) d.digits d.some),
    )
