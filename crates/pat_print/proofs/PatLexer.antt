-- The lexer of pattern files cuts tokens as they are written.
use Rattle.std.proofs.Common.{◌≡◌, ℕ, ◌^◌, ◌<◌, ◌≤◌, ◌==◌, inl, inr, Bool, true, false, not, ◌&&◌, ◌||◌, nat_le, nat_lt, nat_eq, List, [], ◌∷◌, ◌++◌, map, length, take, slice_index, refl, ap, ◌∙◌, arith, if◌then◌else◌}
use Rattle.std.specs.List.{list_all, prefix_len}
use Rattle.std.specs.Char.{is_ascii_alphabetic, is_ascii_digit, to_ascii_lowercase}
use Rattle.std.specs.Fmt.{decimal}
use Rattle.std.proofs.lemmas.Bool.{and_parts, le-ltb, leb-true, eqb-true}
use Rattle.vhdl_token.specs.Keyword.{keyword_of, keyword_text}
use Rattle.vhdl_token.specs.declared.token.Token.{Token}
use Rattle.vhdl_token.specs.declared.token.Token.TheVariants as token
use Rattle.vhdl_token.specs.declared.token.Sign.{Sign}
use Rattle.vhdl_token.specs.declared.token.Sign.TheVariants as sign
use Rattle.vhdl_token.specs.Signs.{sign_text}
use Rattle.lexer_base.specs.declared.piece.Piece.TheVariants as piece
use Rattle.lexer_base.specs.Bytes.{is_blank, is_in_word}
use Rattle.lexer_base.specs.Lexical.{number_at, sign_at}
use Rattle.pat_lexer.specs.Lexical.{is_letter_or_digit, word_token, word_at, digits_at, piece_at, value_behind}
use Rattle.spell_theory.specs.Words.{is_small_letter, is_in_small_word, IsSmallWord}
use Rattle.spell_theory.specs.Layout.{spelling}
use Rattle.spell_theory.proofs.Letters.{by_bytes, not_so, either_of, small_letter, small_digit, prefix_all, all_implied, all_same, front_of, in_word, lower_in_word, word_some, IsDecimal, decimal_is, number_whole}
use Rattle.spell_theory.proofs.Layouts.{Lexer}
use Rattle.pat_print.specs.Said.{is_hexadecimal, sign_stops, IsWordOf, FitsPat}

-- ---- words

at_letter : (c : ℕ) (rest : List ℕ) → is_small_letter c ≡ true → piece_at false (c ∷ rest) ≡ word_at (c ∷ rest)
unfolding piece_at
at_letter c rest h =
    let small = small_letter c h in
    let blank : (is_blank c || c == 13) ≡ false = not_so (is_blank c || c == 13) (by_bytes is_small_letter (λ c. not (is_blank c || c == 13)) refl c small h) in
    let ends : (c == 10) ≡ false = not_so (c == 10) (by_bytes is_small_letter (λ c. not (c == 10)) refl c small h) in
    let letter : is_ascii_alphabetic c ≡ true = by_bytes is_small_letter is_ascii_alphabetic refl c small h in
    rw (blank, ends, letter) refl

word_whole : (s rest : List ℕ) → list_all is_in_small_word s ≡ true → length s ≤ 64 → is_in_word (slice_index rest 0) ≡ false
    → word_at (s ++ rest) ≡ piece.Token (word_token (keyword_of s) s) (length s)
unfolding word_at
word_whole s rest h short stops =
    let all = all_implied is_in_small_word is_in_word in_word s h in
    let count = prefix_all is_in_word s rest all stops in
    let name : map to_ascii_lowercase (take (prefix_len is_in_word (s ++ rest)) (s ++ rest)) ≡ s = ap (map to_ascii_lowercase) (front_of is_in_word s rest all stops) ∙ all_same is_in_small_word to_ascii_lowercase lower_in_word s h in
    let few : nat_lt 64 (prefix_len is_in_word (s ++ rest)) ≡ false = ap (λ n. nat_lt 64 n) count ∙ le-ltb 64 (length s) short in
    ap (λ (b : Bool). if b then piece.TooLong (prefix_len is_in_word (s ++ rest)) else piece.Token (word_token (keyword_of (map to_ascii_lowercase (take (prefix_len is_in_word (s ++ rest)) (s ++ rest)))) (map to_ascii_lowercase (take (prefix_len is_in_word (s ++ rest)) (s ++ rest)))) (prefix_len is_in_word (s ++ rest))) few
    ∙ ap (λ (x : List ℕ). piece.Token (word_token (keyword_of x) x) (prefix_len is_in_word (s ++ rest))) name
    ∙ ap (λ n. piece.Token (word_token (keyword_of s) s) n) count

pub word_piece : (s rest : List ℕ) → IsSmallWord s → is_in_word (slice_index rest 0) ≡ false → piece_at false (s ++ rest) ≡ piece.Token (word_token (keyword_of s) s) (length s)
word_piece [] rest w stops = let e = w.begins in absurd cc
word_piece (c ∷ cs) rest w stops = at_letter c (cs ++ rest) w.begins ∙ word_whole (c ∷ cs) rest w.letters w.short stops

-- ---- digits

small_hexadecimal : (c : ℕ) → is_hexadecimal c ≡ true → c < 128
small_hexadecimal c h = elim (either_of (nat_le 48 c && nat_le c 57) (nat_le 97 c && nat_le c 102) h) [
  | inl h ↦ let most = leb-true c 57 (and_parts (nat_le 48 c) (nat_le c 57) h).1 in omega (arith, most)
  | inr h ↦ let most = leb-true c 102 (and_parts (nat_le 97 c) (nat_le c 102) h).1 in omega (arith, most)
]

in_digits : (c : ℕ) → is_hexadecimal c ≡ true → is_letter_or_digit c ≡ true
in_digits c h = by_bytes is_hexadecimal is_letter_or_digit refl c (small_hexadecimal c h) h

lower_in_digits : (c : ℕ) → is_hexadecimal c ≡ true → to_ascii_lowercase c ≡ c
lower_in_digits c h = eqb-true (to_ascii_lowercase c) c (by_bytes is_hexadecimal (λ c. to_ascii_lowercase c == c) refl c (small_hexadecimal c h) h)

at_digit : (c : ℕ) (rest : List ℕ) → is_hexadecimal c ≡ true → piece_at true (c ∷ rest) ≡ digits_at (c ∷ rest)
unfolding piece_at
at_digit c rest h =
    let small = small_hexadecimal c h in
    let blank : (is_blank c || c == 13) ≡ false = not_so (is_blank c || c == 13) (by_bytes is_hexadecimal (λ c. not (is_blank c || c == 13)) refl c small h) in
    let ends : (c == 10) ≡ false = not_so (c == 10) (by_bytes is_hexadecimal (λ c. not (c == 10)) refl c small h) in
    rw (blank, ends, in_digits c h) refl

pub digits_piece : (s rest : List ℕ) → 0 < length s → list_all is_hexadecimal s ≡ true → is_letter_or_digit (slice_index rest 0) ≡ false → piece_at true (s ++ rest) ≡ piece.Token (token.Digits s) (length s)
unfolding digits_at
digits_piece [] rest some h stops = absurd (omega arith)
digits_piece (c ∷ cs) rest some h stops =
    let s = c ∷ cs in
    let all = all_implied is_hexadecimal is_letter_or_digit in_digits (c ∷ cs) h in
    let name : map to_ascii_lowercase (take (prefix_len is_letter_or_digit (s ++ rest)) (s ++ rest)) ≡ s = ap (map to_ascii_lowercase) (front_of is_letter_or_digit s rest all stops) ∙ all_same is_hexadecimal to_ascii_lowercase lower_in_digits s h in
    at_digit c (cs ++ rest) (and_parts (is_hexadecimal c) (list_all is_hexadecimal cs) h).0
    ∙ ap (λ (x : List ℕ). piece.Token (token.Digits x) (prefix_len is_letter_or_digit (s ++ rest))) name
    ∙ ap (λ n. piece.Token (token.Digits s) n) (prefix_all is_letter_or_digit s rest all stops)

-- ---- numbers

at_number : (c : ℕ) (rest : List ℕ) → is_ascii_digit c ≡ true → piece_at false (c ∷ rest) ≡ number_at (c ∷ rest)
unfolding piece_at
at_number c rest h =
    let small = small_digit c h in
    let blank : (is_blank c || c == 13) ≡ false = not_so (is_blank c || c == 13) (by_bytes is_ascii_digit (λ c. not (is_blank c || c == 13)) refl c small h) in
    let ends : (c == 10) ≡ false = not_so (c == 10) (by_bytes is_ascii_digit (λ c. not (c == 10)) refl c small h) in
    let plain : is_ascii_alphabetic c ≡ false = not_so (is_ascii_alphabetic c) (by_bytes is_ascii_digit (λ c. not (is_ascii_alphabetic c)) refl c small h) in
    rw (blank, ends, plain, h) refl

number_front : (n : ℕ) (s rest : List ℕ) → n < 2 ^ 32 → IsDecimal n s → is_ascii_digit (slice_index rest 0) ≡ false → piece_at false (s ++ rest) ≡ piece.Token (token.Number n) (length s)
number_front n [] rest less d stops = let some = d.some in absurd (omega arith)
number_front n (c ∷ cs) rest less d stops = at_number c (cs ++ rest) (and_parts (is_ascii_digit c) (list_all is_ascii_digit cs) d.digits).0 ∙ number_whole n (c ∷ cs) rest less d stops

-- ---- signs

sign_piece : (v : Bool) (s : Sign) (rest : List ℕ) → sign_stops s (slice_index rest 0) ≡ true → piece_at v (sign_text s ++ rest) ≡ piece.Token (token.Sign s) (length (sign_text s))
unfolding piece_at sign_at
sign_piece true sign.Colon [] h = refl
sign_piece false sign.Colon [] h = refl
sign_piece true sign.Colon (b ∷ rest) h = let no : nat_eq 61 b ≡ false = not_so (61 == b) h in rw no refl
sign_piece false sign.Colon (b ∷ rest) h = let no : nat_eq 61 b ≡ false = not_so (61 == b) h in rw no refl
sign_piece true sign.Less [] h = refl
sign_piece false sign.Less [] h = refl
sign_piece true sign.Less (b ∷ rest) h = let no : nat_eq 61 b ≡ false = not_so (61 == b) h in rw no refl
sign_piece false sign.Less (b ∷ rest) h = let no : nat_eq 61 b ≡ false = not_so (61 == b) h in rw no refl
sign_piece true sign.Equal [] h = refl
sign_piece false sign.Equal [] h = refl
sign_piece true sign.Equal (b ∷ rest) h = let no : nat_eq 62 b ≡ false = not_so (62 == b) h in rw no refl
sign_piece false sign.Equal (b ∷ rest) h = let no : nat_eq 62 b ≡ false = not_so (62 == b) h in rw no refl
sign_piece true sign.Tick rest h = refl
sign_piece false sign.Tick rest h = refl
sign_piece true sign.LeftParen rest h = refl
sign_piece false sign.LeftParen rest h = refl
sign_piece true sign.RightParen rest h = refl
sign_piece false sign.RightParen rest h = refl
sign_piece true sign.Comma rest h = refl
sign_piece false sign.Comma rest h = refl
sign_piece true sign.Semicolon rest h = refl
sign_piece false sign.Semicolon rest h = refl
sign_piece true sign.Assign rest h = refl
sign_piece false sign.Assign rest h = refl
sign_piece true sign.Arrow rest h = refl
sign_piece false sign.Arrow rest h = refl
sign_piece true sign.Default rest h = refl
sign_piece false sign.Default rest h = refl
sign_piece true sign.Unequal rest h = refl
sign_piece false sign.Unequal rest h = refl
sign_piece true sign.Ampersand rest h = refl
sign_piece false sign.Ampersand rest h = refl
sign_piece true sign.Bar rest h = refl
sign_piece false sign.Bar rest h = refl
sign_piece true sign.Greater rest h = refl
sign_piece false sign.Greater rest h = refl
sign_piece true sign.Plus rest h = refl
sign_piece false sign.Plus rest h = refl
sign_piece true sign.Question rest h = refl
sign_piece false sign.Question rest h = refl
sign_piece true sign.Star rest h = refl
sign_piece false sign.Star rest h = refl

some_sign : (s : Sign) → 0 < length (sign_text s)
some_sign sign.LeftParen = omega arith
some_sign sign.RightParen = omega arith
some_sign sign.Comma = omega arith
some_sign sign.Semicolon = omega arith
some_sign sign.Colon = omega arith
some_sign sign.Assign = omega arith
some_sign sign.Arrow = omega arith
some_sign sign.Default = omega arith
some_sign sign.Equal = omega arith
some_sign sign.Unequal = omega arith
some_sign sign.Ampersand = omega arith
some_sign sign.Bar = omega arith
some_sign sign.Tick = omega arith
some_sign sign.Less = omega arith
some_sign sign.Greater = omega arith
some_sign sign.Plus = omega arith
some_sign sign.Question = omega arith
some_sign sign.Star = omega arith

-- ---- tokens

pub some_bytes : (v : Bool) (t : Token) (next : ℕ) → FitsPat v t next → 0 < length (spelling t)
some_bytes true (token.Sign s) next h = some_sign s
some_bytes false (token.Sign s) next h = some_sign s
some_bytes true (token.Digits s) next h = h.0
some_bytes false (token.Identifier name) next h = word_some name h.0
some_bytes false (token.Keyword k) next h = word_some (keyword_text k) h.0
some_bytes false (token.Number n) next h = let less : n < 2 ^ 32 = h.0 in (decimal_is n (omega (arith, less))).some
some_bytes true (token.Identifier name) next h = absurd h
some_bytes true (token.Keyword k) next h = absurd h
some_bytes true (token.Number n) next h = absurd h
some_bytes true (token.Bit b) next h = absurd h
some_bytes true (token.Quoted s) next h = absurd h
some_bytes true (token.BitString b s) next h = absurd h
some_bytes false (token.Bit b) next h = absurd h
some_bytes false (token.Quoted s) next h = absurd h
some_bytes false (token.BitString b s) next h = absurd h
some_bytes false (token.Digits s) next h = absurd h

word_token_piece : (t : Token) (s rest : List ℕ) → IsWordOf t s (slice_index rest 0) → piece_at false (s ++ rest) ≡ piece.Token t (length s)
word_token_piece t s rest h = word_piece s rest h.0 h.2 ∙ ap (λ (u : Token). piece.Token u (length s)) h.1

pub token_piece : (v : Bool) (t : Token) (rest : List ℕ) → FitsPat v t (slice_index rest 0) → piece_at v (spelling t ++ rest) ≡ piece.Token t (length (spelling t))
token_piece true (token.Sign s) rest h = sign_piece true s rest h
token_piece false (token.Sign s) rest h = sign_piece false s rest h
token_piece true (token.Digits s) rest h = digits_piece s rest h.0 h.1 h.2
token_piece false (token.Identifier name) rest h = word_token_piece (token.Identifier name) name rest h
token_piece false (token.Keyword k) rest h = word_token_piece (token.Keyword k) (keyword_text k) rest h
token_piece false (token.Number n) rest h = let less : n < 2 ^ 32 = h.0 in number_front n (decimal n) rest less (decimal_is n (omega (arith, less))) h.1
token_piece true (token.Identifier name) rest h = absurd h
token_piece true (token.Keyword k) rest h = absurd h
token_piece true (token.Number n) rest h = absurd h
token_piece true (token.Bit b) rest h = absurd h
token_piece true (token.Quoted s) rest h = absurd h
token_piece true (token.BitString b s) rest h = absurd h
token_piece false (token.Bit b) rest h = absurd h
token_piece false (token.Quoted s) rest h = absurd h
token_piece false (token.BitString b s) rest h = absurd h
token_piece false (token.Digits s) rest h = absurd h

pub gap_piece : (v : Bool) (rest : List ℕ) → piece_at v (32 ∷ rest) ≡ piece.Blank
unfolding piece_at
gap_piece v rest = refl

pub turn_piece : (v : Bool) (rest : List ℕ) → piece_at v (10 ∷ rest) ≡ piece.NewLine
unfolding piece_at
turn_piece v rest = refl

abbrev pub pat : Lexer
pat = record {
  cut = piece_at;
  behind = value_behind;
  Fits = FitsPat;
  at_gap = gap_piece;
  at_turn = turn_piece;
  keeps_gap = λ v. refl;
  keeps_turn = λ v. refl;
  some = some_bytes;
  at_token = token_piece;
}
