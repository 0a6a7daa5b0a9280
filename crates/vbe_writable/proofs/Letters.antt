-- Identifiers in lower case.
use Rattle.std.proofs.Common.{◌≡◌, ◌+◌, ◌<◌, ◌==◌, ◌&&◌, ◌||◌, inl, inr, ℕ, suc, Bool, true, false, cond, nat_le, List, [], ◌∷◌, map, take, slice_index, None, refl, sym, subst, arith}
use Rattle.std.specs.List.{list_all, prefix_len}
use Rattle.std.specs.Char.{is_ascii_alphabetic, is_ascii_digit, to_ascii_lowercase}
use Rattle.std.proofs.lemmas.Bool.{and_parts, leb-true, eqb-true}
use Rattle.vhdl_token.specs.Keyword.{keyword_of}
use Rattle.lexer_base.specs.Bytes.{is_in_word}
use Rattle.spell_theory.specs.Words.{is_small_letter, is_in_small_word}
use Rattle.spell_theory.proofs.Letters.{both, by_bytes, either_of, small_digit}
use Rattle.text_names.specs.Words.{IsIdentifier}

-- ---- bytes, one by one

below_top : (low high c : ℕ) → (nat_le low c && nat_le c high) ≡ true → high < 128 → c < 128
below_top low high c h top = let most = leb-true c high (and_parts (nat_le low c) (nat_le c high) h).1 in omega (arith, most, top)

letter_below : (c : ℕ) → is_ascii_alphabetic c ≡ true → c < 128
letter_below c h = elim (either_of (nat_le 65 c && nat_le c 90) (nat_le 97 c && nat_le c 122) h) [
  | inl g ↦ below_top 65 90 c g (omega arith)
  | inr g ↦ below_top 97 122 c g (omega arith)
]

in_word_below : (c : ℕ) → is_in_word c ≡ true → c < 128
in_word_below c h = elim (either_of (is_ascii_alphabetic c || is_ascii_digit c) (c == 95) h) [
  | inl g ↦ elim (either_of (is_ascii_alphabetic c) (is_ascii_digit c) g) [
    | inl a ↦ letter_below c a
    | inr d ↦ small_digit c d
  ]
  | inr e ↦ let same = eqb-true c 95 e in omega (arith, same)
]

letter_in_word : (c : ℕ) → is_ascii_alphabetic c ≡ true → is_in_word c ≡ true
letter_in_word c h = by_bytes is_ascii_alphabetic is_in_word refl c (letter_below c h) h

lower_letter : (c : ℕ) → is_ascii_alphabetic c ≡ true → is_small_letter (to_ascii_lowercase c) ≡ true
lower_letter c h = by_bytes is_ascii_alphabetic (λ c. is_small_letter (to_ascii_lowercase c)) refl c (letter_below c h) h

lower_in_word : (c : ℕ) → is_in_word c ≡ true → is_in_small_word (to_ascii_lowercase c) ≡ true
lower_in_word c h = by_bytes is_in_word (λ c. is_in_small_word (to_ascii_lowercase c)) refl c (in_word_below c h) h

-- ---- texts

all_lower : (s : List ℕ) → list_all is_in_word s ≡ true → list_all is_in_small_word (map to_ascii_lowercase s) ≡ true
all_lower [] h = refl
all_lower (c ∷ cs) h =
    let parts = and_parts (is_in_word c) (list_all is_in_word cs) h in
    both (is_in_small_word (to_ascii_lowercase c)) (list_all is_in_small_word (map to_ascii_lowercase cs)) (lower_in_word c parts.0) (all_lower cs parts.1)

first_lower : (s : List ℕ) → is_ascii_alphabetic (slice_index s 0) ≡ true → is_small_letter (slice_index (map to_ascii_lowercase s) 0) ≡ true
first_lower [] h = absurd cc
first_lower (c ∷ cs) h = lower_letter c h

-- an identifier in lower case is a word, unless it is reserved
pub word_of : (s : List ℕ) → is_ascii_alphabetic (slice_index s 0) ≡ true → list_all is_in_word s ≡ true → keyword_of (map to_ascii_lowercase s) ≡ None → IsIdentifier (map to_ascii_lowercase s)
word_of s first letters free =
    let text = map to_ascii_lowercase s in
    (both (is_small_letter (slice_index text 0)) (list_all is_in_small_word text) (first_lower s first) (all_lower s letters), free)

-- ---- the longest identifier at the front of a text

pub taken_all : (p : ℕ → Bool) (s : List ℕ) → list_all p (take (prefix_len p s) s) ≡ true
taken_all p [] = refl
taken_all p (c ∷ cs) = by (p c) refl (taken_all p cs) where
  by : (b : Bool) → p c ≡ b → list_all p (take (prefix_len p cs) cs) ≡ true → list_all p (take (cond b (1 + prefix_len p cs) 0) (c ∷ cs)) ≡ true
  by true is rest =
      let one : 1 + prefix_len p cs ≡ suc (prefix_len p cs) = omega arith in
      subst (λ (n : ℕ). list_all p (take n (c ∷ cs)) ≡ true) (sym one) (both (p c) (list_all p (take (prefix_len p cs) cs)) is rest)
  by false is rest = refl

longer : (p : ℕ → Bool) (c : ℕ) (cs : List ℕ) → p c ≡ true → prefix_len p (c ∷ cs) ≡ suc (prefix_len p cs)
longer p c cs h = rw h (omega arith)

pub taken_first : (s : List ℕ) → is_ascii_alphabetic (slice_index s 0) ≡ true → is_ascii_alphabetic (slice_index (take (prefix_len is_in_word s) s) 0) ≡ true
taken_first [] h = absurd cc
taken_first (c ∷ cs) h =
    subst (λ (n : ℕ). is_ascii_alphabetic (slice_index (take n (c ∷ cs)) 0) ≡ true) (sym (longer is_in_word c cs (letter_in_word c h))) h
