-- Tests of bytes: what passes one passes another.
use Rattle.std.proofs.Common.{◌≡◌, ℕ, zero, suc, ◌<◌, ◌==◌, ◌⊎◌, inl, inr, Bool, true, false, not, ◌&&◌, ◌||◌, nat_le, nat_eq, List, [], ◌∷◌, ◌++◌, map, refl, ap, ◌∙◌, arith, length, slice_index}
use Rattle.std.specs.List.{list_all, prefix_len}
use Rattle.std.specs.Char.{is_ascii_digit, is_ascii_alphabetic, to_ascii_lowercase}
use Rattle.std.proofs.str.Laws.{order}
use Rattle.std.proofs.lemmas.Bool.{and_parts, leb-true, eqb-true}
use Rattle.ap_io.specs.Fields.{is_in_field, is_text_byte, is_in_word}
use Rattle.ap_io.specs.ApText.{is_letter, is_digit, is_word_byte, is_field_byte}

abbrev below : ℕ → List ℕ
below zero = []
below (suc n) = n ∷ below n

pub both : (a b : Bool) → a ≡ true → b ≡ true → (a && b) ≡ true
both a b h g = rw (h, g) refl

each_below : (f : ℕ → Bool) (n : ℕ) → list_all f (below n) ≡ true → (c : ℕ) → c < n → f c ≡ true
each_below f zero h c less = absurd (omega arith)
each_below f (suc n) h c less =
    let parts = and_parts (f n) (list_all f (below n)) h in
    elim (order c n) [
      | inl smaller ↦ each_below f n parts.1 c smaller
      | inr least ↦ let same : c ≡ n = omega arith in ap f same ∙ parts.0
    ]

implied : (a b : Bool) → a ≡ true → (not a || b) ≡ true → b ≡ true
implied true b h g = g
implied false b h g = absurd cc

-- each byte of 7 bits that passes the first test passes the second
by_bytes : (a b : ℕ → Bool) → list_all (λ c. not (a c) || b c) (below 128) ≡ true → (c : ℕ) → c < 128 → a c ≡ true → b c ≡ true
by_bytes a b h c small is = implied (a c) (b c) is (each_below (λ c. not (a c) || b c) 128 h c small)

pub not_so : (a : Bool) → not a ≡ true → a ≡ false
not_so false h = refl
not_so true h = absurd cc

either_of : (a b : Bool) → (a || b) ≡ true → (a ≡ true) ⊎ (b ≡ true)
either_of true b h = inl refl
either_of false b h = inr h

small_letter : (c : ℕ) → is_letter c ≡ true → c < 128
small_letter c h = let most = leb-true c 122 (and_parts (nat_le 97 c) (nat_le c 122) h).1 in omega (arith, most)

small_digit : (c : ℕ) → is_digit c ≡ true → c < 128
small_digit c h = let most = leb-true c 57 (and_parts (nat_le 48 c) (nat_le c 57) h).1 in omega (arith, most)

small_word : (c : ℕ) → is_word_byte c ≡ true → c < 128
small_word c h = elim (either_of (is_letter c) (is_digit c || nat_eq c 95) h) [
  | inl h ↦ small_letter c h
  | inr h ↦ elim (either_of (is_digit c) (nat_eq c 95) h) [
    | inl h ↦ small_digit c h
    | inr h ↦ let same = eqb-true c 95 h in omega (arith, same)
  ]
]

-- ---- bytes

pub letter_in_word : (c : ℕ) → is_letter c ≡ true → is_word_byte c ≡ true
letter_in_word c h = by_bytes is_letter is_word_byte refl c (small_letter c h) h

pub letter_begins : (c : ℕ) → is_letter c ≡ true → is_ascii_alphabetic c ≡ true
letter_begins c h = by_bytes is_letter is_ascii_alphabetic refl c (small_letter c h) h

pub letter_no_star : (c : ℕ) → is_letter c ≡ true → (c == 42) ≡ false
letter_no_star c h = not_so (c == 42) (by_bytes is_letter (λ c. not (c == 42)) refl c (small_letter c h) h)

pub word_byte_in_word : (c : ℕ) → is_word_byte c ≡ true → is_in_word c ≡ true
word_byte_in_word c h = by_bytes is_word_byte is_in_word refl c (small_word c h) h

pub word_byte_in_field : (c : ℕ) → is_word_byte c ≡ true → is_field_byte c ≡ true
word_byte_in_field c h = by_bytes is_word_byte is_field_byte refl c (small_word c h) h

pub word_byte_lower : (c : ℕ) → is_word_byte c ≡ true → to_ascii_lowercase c ≡ c
word_byte_lower c h = eqb-true (to_ascii_lowercase c) c (by_bytes is_word_byte (λ c. to_ascii_lowercase c == c) refl c (small_word c h) h)

pub digit_in_field : (c : ℕ) → is_ascii_digit c ≡ true → is_field_byte c ≡ true
digit_in_field c h = by_bytes is_ascii_digit is_field_byte refl c (small_digit c h) h

in_field : (c : ℕ) → is_field_byte c ≡ true → is_in_field c ≡ true
in_field c h = (and_parts (is_in_field c) (is_text_byte c) h).0

in_text : (c : ℕ) → is_field_byte c ≡ true → is_text_byte c ≡ true
in_text c h = (and_parts (is_in_field c) (is_text_byte c) h).1

-- ---- runs of bytes

pub all_implied : (a b : ℕ → Bool) → ((c : ℕ) → a c ≡ true → b c ≡ true) → (s : List ℕ) → list_all a s ≡ true → list_all b s ≡ true
all_implied a b h [] g = refl
all_implied a b h (c ∷ cs) g = let parts = and_parts (a c) (list_all a cs) g in both (b c) (list_all b cs) (h c parts.0) (all_implied a b h cs parts.1)

pub all_append : (p : ℕ → Bool) (xs ys : List ℕ) → list_all p xs ≡ true → list_all p ys ≡ true → list_all p (xs ++ ys) ≡ true
all_append p [] ys h g = g
all_append p (x ∷ xs) ys h g = let parts = and_parts (p x) (list_all p xs) h in both (p x) (list_all p (xs ++ ys)) parts.0 (all_append p xs ys parts.1 g)

pub all_same : (s : List ℕ) → list_all is_word_byte s ≡ true → map to_ascii_lowercase s ≡ s
all_same [] g = refl
all_same (c ∷ cs) g =
    let parts = and_parts (is_word_byte c) (list_all is_word_byte cs) g in
    ap (λ x. x ∷ map to_ascii_lowercase cs) (word_byte_lower c parts.0) ∙ ap (λ (xs : List ℕ). c ∷ xs) (all_same cs parts.1)

pub prefix_all : (p : ℕ → Bool) (s rest : List ℕ) → list_all p s ≡ true → p (slice_index rest 0) ≡ false → prefix_len p (s ++ rest) ≡ length s
prefix_all p [] [] h g = refl
prefix_all p [] (b ∷ bs) h g = rw g refl
prefix_all p (c ∷ cs) rest h g = let parts = and_parts (p c) (list_all p cs) h in rw (parts.0) (omega (arith, prefix_all p cs rest parts.1 g))

pub fields_have : (s : List ℕ) → list_all is_field_byte s ≡ true → list_all is_in_field s ≡ true
fields_have s h = all_implied is_field_byte is_in_field in_field s h

pub texts_have : (s : List ℕ) → list_all is_field_byte s ≡ true → list_all is_text_byte s ≡ true
texts_have s h = all_implied is_field_byte is_text_byte in_text s h
