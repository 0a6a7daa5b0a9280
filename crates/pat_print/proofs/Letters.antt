-- The tokens that words, numbers, digits and signs are.
use Rattle.std.proofs.Common.{◌≡◌, ℕ, zero, suc, ◌+◌, ◌-◌, ◌*◌, ◌%◌, ◌^◌, ◌<◌, ◌≤◌, ◌==◌, ◌⊎◌, inl, inr, Bool, true, false, not, ◌&&◌, ◌||◌, nat_le, nat_lt, min, List, [], ◌∷◌, ◌++◌, map, length, take, slice_index, refl, ap, ◌∙◌, arith, length-append, if◌then◌else◌}
use Rattle.std.specs.List.{list_all, prefix_len}
use Rattle.std.specs.Char.{is_ascii_alphabetic, is_ascii_digit, to_ascii_lowercase}
use Rattle.std.specs.Fmt.{decimal}
use Rattle.std.proofs.str.Laws.{order}
use Rattle.std.proofs.lemmas.Fmt.{decimal_by_steps}
use Rattle.std.proofs.lemmas.Bool.{and_parts, lt-ltb, le-ltb, le-leb, leb-true, eqb-true}
use Rattle.std.proofs.Math.Seq.{take-append_seam}
use Rattle.vlsi_base.specs.Number.{value_of, value_from}
use Rattle.vhdl_token.specs.Keyword.{keyword_of}
use Rattle.vhdl_token.specs.declared.token.Token.TheVariants as token
use Rattle.lexer_base.specs.declared.piece.Piece.TheVariants as piece
use Rattle.lexer_base.specs.Bytes.{is_blank, is_in_word}
use Rattle.lexer_base.specs.Lexical.{number_at}
use Rattle.pat_lexer.specs.Lexical.{is_letter_or_digit, word_token, word_at, digits_at, piece_at}
use Rattle.pat_print.specs.WrittenAgain.{is_small_letter, is_in_small_word, IsSmallWord}

-- ---- bytes, one by one

abbrev below : ℕ → List ℕ
below zero = []
below (suc n) = n ∷ below n

pub both : (a b : Bool) → a ≡ true → b ≡ true → (a && b) ≡ true
both a b h g = rw (h, g) refl

each_below : (f : ℕ → Bool) (n : ℕ) → list_all f (below n) ≡ true → (c : ℕ) → c < n → f c ≡ true
each_below f zero h c less = absurd (omega arith)
each_below f (suc n) h c less =
    let parts = and_parts (f n) (list_all f (below n)) h in
    elim (order c n) [
      | inl smaller ↦ each_below f n parts.1 c smaller
      | inr least ↦ let same : c ≡ n = omega arith in ap f same ∙ parts.0
    ]

-- each byte of 7 bits that passes the first test passes the second
implied : (a b : Bool) → a ≡ true → (not a || b) ≡ true → b ≡ true
implied true b h g = g
implied false b h g = absurd cc

by_bytes : (a b : ℕ → Bool) → list_all (λ c. not (a c) || b c) (below 128) ≡ true → (c : ℕ) → c < 128 → a c ≡ true → b c ≡ true
by_bytes a b h c small is = implied (a c) (b c) is (each_below (λ c. not (a c) || b c) 128 h c small)

not_so : (a : Bool) → not a ≡ true → a ≡ false
not_so false h = refl
not_so true h = absurd cc

either_of : (a b : Bool) → (a || b) ≡ true → (a ≡ true) ⊎ (b ≡ true)
either_of true b h = inl refl
either_of false b h = inr h

small_letter : (c : ℕ) → is_small_letter c ≡ true → c < 128
small_letter c h = let most = leb-true c 122 (and_parts (nat_le 97 c) (nat_le c 122) h).1 in omega (arith, most)

small_digit : (c : ℕ) → is_ascii_digit c ≡ true → c < 128
small_digit c h = let most = leb-true c 57 (and_parts (nat_le 48 c) (nat_le c 57) h).1 in omega (arith, most)

small_in_word : (c : ℕ) → is_in_small_word c ≡ true → c < 128
small_in_word c h = elim (either_of (is_small_letter c || is_ascii_digit c) (c == 95) h) [
  | inl h ↦ elim (either_of (is_small_letter c) (is_ascii_digit c) h) [
    | inl h ↦ small_letter c h
    | inr h ↦ small_digit c h
  ]
  | inr h ↦ let same = eqb-true c 95 h in omega (arith, same)
]

-- ---- runs of bytes

prefix_all : (p : ℕ → Bool) (s rest : List ℕ) → list_all p s ≡ true → p (slice_index rest 0) ≡ false → prefix_len p (s ++ rest) ≡ length s
prefix_all p [] [] h g = refl
prefix_all p [] (b ∷ bs) h g = rw g refl
prefix_all p (c ∷ cs) rest h g = let parts = and_parts (p c) (list_all p cs) h in rw (parts.0) (omega (arith, prefix_all p cs rest parts.1 g))

all_implied : (a b : ℕ → Bool) → ((c : ℕ) → a c ≡ true → b c ≡ true) → (s : List ℕ) → list_all a s ≡ true → list_all b s ≡ true
all_implied a b h [] g = refl
all_implied a b h (c ∷ cs) g = let parts = and_parts (a c) (list_all a cs) g in both (b c) (list_all b cs) (h c parts.0) (all_implied a b h cs parts.1)

all_same : (a : ℕ → Bool) (f : ℕ → ℕ) → ((c : ℕ) → a c ≡ true → f c ≡ c) → (s : List ℕ) → list_all a s ≡ true → map f s ≡ s
all_same a f h [] g = refl
all_same a f h (c ∷ cs) g = let parts = and_parts (a c) (list_all a cs) g in ap (λ x. x ∷ map f cs) (h c parts.0) ∙ ap (λ (xs : List ℕ). c ∷ xs) (all_same a f h cs parts.1)

all_append : (p : ℕ → Bool) (xs ys : List ℕ) → list_all p xs ≡ true → list_all p ys ≡ true → list_all p (xs ++ ys) ≡ true
all_append p [] ys h g = g
all_append p (x ∷ xs) ys h g = let parts = and_parts (p x) (list_all p xs) h in both (p x) (list_all p (xs ++ ys)) parts.0 (all_append p xs ys parts.1 g)

front_of : (p : ℕ → Bool) (s rest : List ℕ) → list_all p s ≡ true → p (slice_index rest 0) ≡ false → take (prefix_len p (s ++ rest)) (s ++ rest) ≡ s
front_of p s rest h g = ap (λ n. take n (s ++ rest)) (prefix_all p s rest h g) ∙ take-append_seam s rest

-- ---- words

in_word : (c : ℕ) → is_in_small_word c ≡ true → is_in_word c ≡ true
in_word c h = by_bytes is_in_small_word is_in_word refl c (small_in_word c h) h

lower_in_word : (c : ℕ) → is_in_small_word c ≡ true → to_ascii_lowercase c ≡ c
lower_in_word c h = eqb-true (to_ascii_lowercase c) c (by_bytes is_in_small_word (λ c. to_ascii_lowercase c == c) refl c (small_in_word c h) h)

at_letter : (c : ℕ) (rest : List ℕ) → is_small_letter c ≡ true → piece_at false (c ∷ rest) ≡ word_at (c ∷ rest)
unfolding piece_at
at_letter c rest h =
    let small = small_letter c h in
    let blank : (is_blank c || c == 13) ≡ false = not_so (is_blank c || c == 13) (by_bytes is_small_letter (λ c. not (is_blank c || c == 13)) refl c small h) in
    let ends : (c == 10) ≡ false = not_so (c == 10) (by_bytes is_small_letter (λ c. not (c == 10)) refl c small h) in
    let letter : is_ascii_alphabetic c ≡ true = by_bytes is_small_letter is_ascii_alphabetic refl c small h in
    rw (blank, ends, letter) refl

word_whole : (s rest : List ℕ) → list_all is_in_small_word s ≡ true → length s ≤ 64 → is_in_word (slice_index rest 0) ≡ false
    → word_at (s ++ rest) ≡ piece.Token (word_token (keyword_of s) s) (length s)
unfolding word_at
word_whole s rest h short stops =
    let all = all_implied is_in_small_word is_in_word in_word s h in
    let count = prefix_all is_in_word s rest all stops in
    let name : map to_ascii_lowercase (take (prefix_len is_in_word (s ++ rest)) (s ++ rest)) ≡ s = ap (map to_ascii_lowercase) (front_of is_in_word s rest all stops) ∙ all_same is_in_small_word to_ascii_lowercase lower_in_word s h in
    let few : nat_lt 64 (prefix_len is_in_word (s ++ rest)) ≡ false = ap (λ n. nat_lt 64 n) count ∙ le-ltb 64 (length s) short in
    ap (λ (b : Bool). if b then piece.TooLong (prefix_len is_in_word (s ++ rest)) else piece.Token (word_token (keyword_of (map to_ascii_lowercase (take (prefix_len is_in_word (s ++ rest)) (s ++ rest)))) (map to_ascii_lowercase (take (prefix_len is_in_word (s ++ rest)) (s ++ rest)))) (prefix_len is_in_word (s ++ rest))) few
    ∙ ap (λ (x : List ℕ). piece.Token (word_token (keyword_of x) x) (prefix_len is_in_word (s ++ rest))) name
    ∙ ap (λ n. piece.Token (word_token (keyword_of s) s) n) count

pub word_piece : (s rest : List ℕ) → IsSmallWord s → is_in_word (slice_index rest 0) ≡ false → piece_at false (s ++ rest) ≡ piece.Token (word_token (keyword_of s) s) (length s)
word_piece [] rest w stops = let e = w.begins in absurd cc
word_piece (c ∷ cs) rest w stops = at_letter c (cs ++ rest) w.begins ∙ word_whole (c ∷ cs) rest w.letters w.short stops

pub word_some : (s : List ℕ) → IsSmallWord s → 0 < length s
word_some [] w = let e = w.begins in absurd cc
word_some (c ∷ cs) w = omega arith

-- ---- digits of values

abbrev pub is_hexadecimal : ℕ → Bool
is_hexadecimal c = (nat_le 48 c && nat_le c 57) || (nat_le 97 c && nat_le c 102)

small_hexadecimal : (c : ℕ) → is_hexadecimal c ≡ true → c < 128
small_hexadecimal c h = elim (either_of (nat_le 48 c && nat_le c 57) (nat_le 97 c && nat_le c 102) h) [
  | inl h ↦ let most = leb-true c 57 (and_parts (nat_le 48 c) (nat_le c 57) h).1 in omega (arith, most)
  | inr h ↦ let most = leb-true c 102 (and_parts (nat_le 97 c) (nat_le c 102) h).1 in omega (arith, most)
]

in_digits : (c : ℕ) → is_hexadecimal c ≡ true → is_letter_or_digit c ≡ true
in_digits c h = by_bytes is_hexadecimal is_letter_or_digit refl c (small_hexadecimal c h) h

lower_in_digits : (c : ℕ) → is_hexadecimal c ≡ true → to_ascii_lowercase c ≡ c
lower_in_digits c h = eqb-true (to_ascii_lowercase c) c (by_bytes is_hexadecimal (λ c. to_ascii_lowercase c == c) refl c (small_hexadecimal c h) h)

at_digit : (c : ℕ) (rest : List ℕ) → is_hexadecimal c ≡ true → piece_at true (c ∷ rest) ≡ digits_at (c ∷ rest)
unfolding piece_at
at_digit c rest h =
    let small = small_hexadecimal c h in
    let blank : (is_blank c || c == 13) ≡ false = not_so (is_blank c || c == 13) (by_bytes is_hexadecimal (λ c. not (is_blank c || c == 13)) refl c small h) in
    let ends : (c == 10) ≡ false = not_so (c == 10) (by_bytes is_hexadecimal (λ c. not (c == 10)) refl c small h) in
    rw (blank, ends, in_digits c h) refl

pub digits_piece : (s rest : List ℕ) → 0 < length s → list_all is_hexadecimal s ≡ true → is_letter_or_digit (slice_index rest 0) ≡ false → piece_at true (s ++ rest) ≡ piece.Token (token.Digits s) (length s)
unfolding digits_at
digits_piece [] rest some h stops = absurd (omega arith)
digits_piece (c ∷ cs) rest some h stops =
    let s = c ∷ cs in
    let all = all_implied is_hexadecimal is_letter_or_digit in_digits (c ∷ cs) h in
    let name : map to_ascii_lowercase (take (prefix_len is_letter_or_digit (s ++ rest)) (s ++ rest)) ≡ s = ap (map to_ascii_lowercase) (front_of is_letter_or_digit s rest all stops) ∙ all_same is_hexadecimal to_ascii_lowercase lower_in_digits s h in
    at_digit c (cs ++ rest) (and_parts (is_hexadecimal c) (list_all is_hexadecimal cs) h).0
    ∙ ap (λ (x : List ℕ). piece.Token (token.Digits x) (prefix_len is_letter_or_digit (s ++ rest))) name
    ∙ ap (λ n. piece.Token (token.Digits s) n) (prefix_all is_letter_or_digit s rest all stops)

-- ---- numbers

value_more : (m : ℕ) (ds : List ℕ) (d : ℕ) → value_from m (ds ++ (48 + d) ∷ []) ≡ value_from m ds * 10 + d
value_more m [] d = omega arith
value_more m (c ∷ cs) d = value_more (m * 10 + (c - 48)) cs d

pub record IsDecimal (n : ℕ) (ds : List ℕ) : Type 0 where
  pub digits : list_all is_ascii_digit ds ≡ true
  pub value : value_of ds ≡ n
  pub some : 0 < length ds

digit_of_ten : (d : ℕ) → d < 10 → is_ascii_digit (48 + d) ≡ true
digit_of_ten d h = both (nat_le 48 (48 + d)) (nat_le (48 + d) 57) (le-leb 48 (48 + d) (omega arith)) (le-leb (48 + d) 57 (omega arith))

pub decimal_is : (n : ℕ) → n < 2 ^ 64 → IsDecimal n (decimal n)
decimal_is n h = decimal_by_steps IsDecimal
    (λ n less. record { digits = both (is_ascii_digit (48 + n)) true (digit_of_ten n less) refl; value = omega arith; some = omega arith })
    (λ n ds least front. record {
      digits = all_append is_ascii_digit ds ((48 + n % 10) ∷ []) front.digits (both (is_ascii_digit (48 + n % 10)) true (digit_of_ten (n % 10) (omega arith)) refl);
      value = value_more 0 ds (n % 10) ∙ ap (λ m. m * 10 + n % 10) front.value ∙ omega arith;
      some = omega (arith, length-append ds ((48 + n % 10) ∷ []));
    })
    n h

at_number : (c : ℕ) (rest : List ℕ) → is_ascii_digit c ≡ true → piece_at false (c ∷ rest) ≡ number_at (c ∷ rest)
unfolding piece_at
at_number c rest h =
    let small = small_digit c h in
    let blank : (is_blank c || c == 13) ≡ false = not_so (is_blank c || c == 13) (by_bytes is_ascii_digit (λ c. not (is_blank c || c == 13)) refl c small h) in
    let ends : (c == 10) ≡ false = not_so (c == 10) (by_bytes is_ascii_digit (λ c. not (c == 10)) refl c small h) in
    let plain : is_ascii_alphabetic c ≡ false = not_so (is_ascii_alphabetic c) (by_bytes is_ascii_digit (λ c. not (is_ascii_alphabetic c)) refl c small h) in
    rw (blank, ends, plain, h) refl

number_whole : (n : ℕ) (s rest : List ℕ) → n < 2 ^ 32 → IsDecimal n s → is_ascii_digit (slice_index rest 0) ≡ false → number_at (s ++ rest) ≡ piece.Token (token.Number n) (length s)
unfolding number_at
number_whole n s rest less d stops =
    let value : value_of (take (prefix_len is_ascii_digit (s ++ rest)) (s ++ rest)) ≡ n = ap value_of (front_of is_ascii_digit s rest d.digits stops) ∙ d.value in
    let k = prefix_len is_ascii_digit (s ++ rest) in
    ap (λ m. if nat_lt m (2 ^ 32) then piece.Token (token.Number m) k else piece.TooGreat (min m (2 ^ 64 - 1))) value
    ∙ ap (λ (b : Bool). if b then piece.Token (token.Number n) k else piece.TooGreat (min n (2 ^ 64 - 1))) (lt-ltb n (2 ^ 32) less)
    ∙ ap (λ m. piece.Token (token.Number n) m) (prefix_all is_ascii_digit s rest d.digits stops)

number_front : (n : ℕ) (s rest : List ℕ) → n < 2 ^ 32 → IsDecimal n s → is_ascii_digit (slice_index rest 0) ≡ false → piece_at false (s ++ rest) ≡ piece.Token (token.Number n) (length s)
number_front n [] rest less d stops = let some = d.some in absurd (omega arith)
number_front n (c ∷ cs) rest less d stops = at_number c (cs ++ rest) (and_parts (is_ascii_digit c) (list_all is_ascii_digit cs) d.digits).0 ∙ number_whole n (c ∷ cs) rest less d stops

pub number_piece : (n : ℕ) (rest : List ℕ) → n < 2 ^ 32 → is_ascii_digit (slice_index rest 0) ≡ false → piece_at false (decimal n ++ rest) ≡ piece.Token (token.Number n) (length (decimal n))
number_piece n rest less stops = number_front n (decimal n) rest less (decimal_is n (omega arith)) stops
