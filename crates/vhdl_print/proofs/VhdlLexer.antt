-- The lexer of VHDL texts cuts tokens as they are written.
use Rattle.std.proofs.Common.{◌≡◌, ℕ, ◌+◌, ◌^◌, ◌<◌, ◌≤◌, ◌==◌, Bool, true, false, not, ◌&&◌, ◌||◌, nat_le, nat_lt, nat_eq, List, [], ◌∷◌, ◌++◌, map, length, take, codes, slice_index, refl, sym, ap, ◌∙◌, arith, length-append, append_assoc, if◌then◌else◌, Option, None, Some, unwrap_or}
use Rattle.std.specs.List.{list_all, prefix_len}
use Rattle.std.specs.Str.{bytes_eq}
use Rattle.std.specs.Char.{is_ascii_alphabetic, is_ascii_digit, to_ascii_lowercase}
use Rattle.std.specs.Fmt.{decimal}
use Rattle.std.proofs.lemmas.Bool.{and_parts, le-ltb, leb-true}
use Rattle.std.proofs.Math.Seq.{take-append_seam}
use Rattle.vhdl_token.specs.declared.keyword.Keyword.{Keyword}
use Rattle.vhdl_token.specs.Keyword.{keyword_text, keyword_among, keyword_of, keywords}
use Rattle.vhdl_token.proofs.Words.{keyword_of-keyword_text}
use Rattle.vlsi_base.specs.declared.radix.Radix.{Radix}
use Rattle.vlsi_base.specs.declared.radix.Radix.TheVariants as base
use Rattle.vhdl_token.specs.declared.token.Token.{Token}
use Rattle.vhdl_token.specs.declared.token.Token.TheVariants as token
use Rattle.vhdl_token.specs.declared.token.Sign.{Sign}
use Rattle.vhdl_token.specs.declared.token.Sign.TheVariants as sign
use Rattle.vhdl_token.specs.Signs.{sign_text}
use Rattle.lexer_base.specs.declared.piece.Piece.{Piece}
use Rattle.lexer_base.specs.declared.piece.Piece.TheVariants as piece
use Rattle.lexer_base.specs.Bytes.{is_blank, is_in_word, is_in_quotes}
use Rattle.lexer_base.specs.Lexical.{number_at, quoted_length, quotation_of, quotation_at, sign_at}
use Rattle.vhdl_lexer.specs.Lexical.{word_token, word_at, bit_string_of, bit_string_at, piece_at}
use Rattle.vhdl_lexer.specs.Listing.{cut, behind}
use Rattle.spell_theory.specs.Words.{is_small_letter, is_in_small_word, IsSmallWord}
use Rattle.spell_theory.specs.Layout.{Written, gap, turn, says, spelling, base_letter}
use Rattle.spell_theory.proofs.Letters.{by_bytes, not_so, small_letter, small_digit, small_in_word, prefix_all, all_implied, all_same, front_of, in_word, lower_in_word, word_some, IsDecimal, decimal_is, number_whole}
use Rattle.spell_theory.proofs.Layouts.{Lexer, AreFit, first_byte, state_behind, fit_append}
use Rattle.vhdl_print.specs.Said.{sign_stops, stops, FitsVhdl}

-- ---- words

at_letter : (c : ℕ) (rest : List ℕ) → is_small_letter c ≡ true → piece_at (c ∷ rest) ≡ unwrap_or (bit_string_at (c ∷ rest)) (word_at (c ∷ rest))
unfolding piece_at
at_letter c rest h =
    let small = small_letter c h in
    let blank : (is_blank c || c == 13) ≡ false = not_so (is_blank c || c == 13) (by_bytes is_small_letter (λ c. not (is_blank c || c == 13)) refl c small h) in
    let ends : (c == 10) ≡ false = not_so (c == 10) (by_bytes is_small_letter (λ c. not (c == 10)) refl c small h) in
    let letter : is_ascii_alphabetic c ≡ true = by_bytes is_small_letter is_ascii_alphabetic refl c small h in
    rw (blank, ends, letter) refl

no_quote : (s rest : List ℕ) → list_all is_in_small_word s ≡ true → (slice_index rest 0 == 34) ≡ false → (slice_index (s ++ rest) 0 == 34) ≡ false
no_quote [] rest h g = g
no_quote (c ∷ cs) rest h g =
    let one = (and_parts (is_in_small_word c) (list_all is_in_small_word cs) h).0 in
    not_so (c == 34) (by_bytes is_in_small_word (λ c. not (c == 34)) refl c (small_in_word c one) one)

no_bits : (c : ℕ) (rest : List ℕ) → (slice_index rest 0 == 34) ≡ false → bit_string_at (c ∷ rest) ≡ None
unfolding bit_string_at
no_bits c rest h = rw h refl

word_whole : (s rest : List ℕ) → list_all is_in_small_word s ≡ true → length s ≤ 64 → is_in_word (slice_index rest 0) ≡ false
    → word_at (s ++ rest) ≡ piece.Token (word_token (keyword_of s) s) (length s)
unfolding word_at
word_whole s rest h short stops =
    let all = all_implied is_in_small_word is_in_word in_word s h in
    let count = prefix_all is_in_word s rest all stops in
    let name : map to_ascii_lowercase (take (prefix_len is_in_word (s ++ rest)) (s ++ rest)) ≡ s = ap (map to_ascii_lowercase) (front_of is_in_word s rest all stops) ∙ all_same is_in_small_word to_ascii_lowercase lower_in_word s h in
    let few : nat_lt 64 (prefix_len is_in_word (s ++ rest)) ≡ false = ap (λ n. nat_lt 64 n) count ∙ le-ltb 64 (length s) short in
    ap (λ (b : Bool). if b then piece.TooLong (prefix_len is_in_word (s ++ rest)) else piece.Token (word_token (keyword_of (map to_ascii_lowercase (take (prefix_len is_in_word (s ++ rest)) (s ++ rest)))) (map to_ascii_lowercase (take (prefix_len is_in_word (s ++ rest)) (s ++ rest)))) (prefix_len is_in_word (s ++ rest))) few
    ∙ ap (λ (x : List ℕ). piece.Token (word_token (keyword_of x) x) (prefix_len is_in_word (s ++ rest))) name
    ∙ ap (λ n. piece.Token (word_token (keyword_of s) s) n) count

pub word_piece : (s rest : List ℕ) → IsSmallWord s → (not (is_in_word (slice_index rest 0)) && not (slice_index rest 0 == 34)) ≡ true → piece_at (s ++ rest) ≡ piece.Token (word_token (keyword_of s) s) (length s)
word_piece [] rest w stops = let e = w.begins in absurd cc
word_piece (c ∷ cs) rest w stops =
    let b = slice_index rest 0 in
    let parts = and_parts (not (is_in_word b)) (not (b == 34)) stops in
    let letters = (and_parts (is_in_small_word c) (list_all is_in_small_word cs) w.letters).1 in
    at_letter c (cs ++ rest) w.begins
    ∙ ap (λ (o : Option Piece). unwrap_or o (word_at (c ∷ cs ++ rest))) (no_bits c (cs ++ rest) (no_quote cs rest letters (not_so (b == 34) parts.1)))
    ∙ word_whole (c ∷ cs) rest w.letters w.short (not_so (is_in_word b) parts.0)

-- each reserved word is a word in lower case
abbrev is_small_word : List ℕ → Bool
is_small_word s = is_small_letter (slice_index s 0) && (list_all is_in_small_word s && nat_le (length s) 64)

found_passes : (q : Keyword → Bool) (w : List ℕ) (ks : List Keyword) (k : Keyword) → list_all q ks ≡ true → keyword_among w ks ≡ Some k → q k ≡ true
found_passes q w [] k all h = absurd cc
found_passes q w (x ∷ xs) k all h = by (λ e. found_passes q w xs k parts.1 e) (bytes_eq (keyword_text x) w) h where
  parts : (q x ≡ true) × (list_all q xs ≡ true)
  parts = and_parts (q x) (list_all q xs) all

  by : (keyword_among w xs ≡ Some k → q k ≡ true) → (b : Bool) → (if b then Some x else keyword_among w xs) ≡ Some k → q k ≡ true
  by later true e = let same : x ≡ k = cc in ap q (sym same) ∙ parts.0
  by later false e = later e

small_keyword : (k : Keyword) → IsSmallWord (keyword_text k)
unfolding keyword_of
small_keyword k =
    let s = keyword_text k in
    let is = found_passes (λ k. is_small_word (keyword_text k)) s keywords k refl (keyword_of-keyword_text k) in
    let parts = and_parts (is_small_letter (slice_index s 0)) (list_all is_in_small_word s && nat_le (length s) 64) is in
    let others = and_parts (list_all is_in_small_word s) (nat_le (length s) 64) parts.1 in
    record { begins = parts.0; letters = others.0; short = leb-true (length s) 64 others.1 }

-- ---- numbers

at_number : (c : ℕ) (rest : List ℕ) → is_ascii_digit c ≡ true → piece_at (c ∷ rest) ≡ number_at (c ∷ rest)
unfolding piece_at
at_number c rest h =
    let small = small_digit c h in
    let blank : (is_blank c || c == 13) ≡ false = not_so (is_blank c || c == 13) (by_bytes is_ascii_digit (λ c. not (is_blank c || c == 13)) refl c small h) in
    let ends : (c == 10) ≡ false = not_so (c == 10) (by_bytes is_ascii_digit (λ c. not (c == 10)) refl c small h) in
    let plain : is_ascii_alphabetic c ≡ false = not_so (is_ascii_alphabetic c) (by_bytes is_ascii_digit (λ c. not (is_ascii_alphabetic c)) refl c small h) in
    rw (blank, ends, plain, h) refl

number_front : (n : ℕ) (s rest : List ℕ) → n < 2 ^ 32 → IsDecimal n s → is_ascii_digit (slice_index rest 0) ≡ false → piece_at (s ++ rest) ≡ piece.Token (token.Number n) (length s)
number_front n [] rest less d stops = let some = d.some in absurd (omega arith)
number_front n (c ∷ cs) rest less d stops = at_number c (cs ++ rest) (and_parts (is_ascii_digit c) (list_all is_ascii_digit cs) d.digits).0 ∙ number_whole n (c ∷ cs) rest less d stops

-- ---- texts between quotes

at_seam : (s : List ℕ) (b : ℕ) (rest : List ℕ) → slice_index (s ++ b ∷ rest) (length s) ≡ b
at_seam [] b rest = refl
at_seam (c ∷ cs) b rest = at_seam cs b rest

quoted_all : (s rest : List ℕ) → list_all is_in_quotes s ≡ true → quoted_length (s ++ 34 ∷ rest) ≡ Some (length s)
unfolding quoted_length
quoted_all s rest h = rw (prefix_all is_in_quotes s (34 ∷ rest) h refl, at_seam s 34 rest) refl

quoted_size : (s : List ℕ) → length (34 ∷ s ++ 34 ∷ []) ≡ length s + 2
quoted_size s = omega (arith, length-append s (34 ∷ []))

quoted_piece : (s rest : List ℕ) → list_all is_in_quotes s ≡ true → piece_at ((34 ∷ s ++ 34 ∷ []) ++ rest) ≡ piece.Token (token.Quoted s) (length (34 ∷ s ++ 34 ∷ []))
unfolding piece_at quotation_at
quoted_piece s rest h =
    ap (λ (x : List ℕ). quotation_of (quoted_length x) x) (append_assoc s (34 ∷ []) rest)
    ∙ ap (λ (o : Option ℕ). quotation_of o (s ++ 34 ∷ rest)) (quoted_all s rest h)
    ∙ ap (λ (x : List ℕ). piece.Token (token.Quoted x) (length s + 2)) (take-append_seam s (34 ∷ rest))
    ∙ ap (λ n. piece.Token (token.Quoted s) n) (sym (quoted_size s))

bits_from : (b : Radix) (s rest : List ℕ) → list_all is_in_quotes s ≡ true → bit_string_of (Some b) (quoted_length ((s ++ 34 ∷ []) ++ rest)) ((s ++ 34 ∷ []) ++ rest) ≡ Some (piece.Token (token.BitString b s) (length (base_letter b ∷ 34 ∷ s ++ 34 ∷ [])))
bits_from b s rest h =
    ap (λ (x : List ℕ). bit_string_of (Some b) (quoted_length x) x) (append_assoc s (34 ∷ []) rest)
    ∙ ap (λ (o : Option ℕ). bit_string_of (Some b) o (s ++ 34 ∷ rest)) (quoted_all s rest h)
    ∙ ap (λ (x : List ℕ). Some (piece.Token (token.BitString b x) (length s + 3))) (take-append_seam s (34 ∷ rest))
    ∙ ap (λ n. Some (piece.Token (token.BitString b s) n)) (omega (arith, length-append s (34 ∷ [])))

bits_piece : (b : Radix) (s rest : List ℕ) → list_all is_in_quotes s ≡ true → piece_at ((base_letter b ∷ 34 ∷ s ++ 34 ∷ []) ++ rest) ≡ piece.Token (token.BitString b s) (length (base_letter b ∷ 34 ∷ s ++ 34 ∷ []))
unfolding piece_at bit_string_at
bits_piece base.Binary s rest h = ap (λ (o : Option Piece). unwrap_or o (word_at ((98 ∷ 34 ∷ s ++ 34 ∷ []) ++ rest))) (bits_from base.Binary s rest h)
bits_piece base.Octal s rest h = ap (λ (o : Option Piece). unwrap_or o (word_at ((111 ∷ 34 ∷ s ++ 34 ∷ []) ++ rest))) (bits_from base.Octal s rest h)
bits_piece base.Hexadecimal s rest h = ap (λ (o : Option Piece). unwrap_or o (word_at ((120 ∷ 34 ∷ s ++ 34 ∷ []) ++ rest))) (bits_from base.Hexadecimal s rest h)

-- ---- signs

neither_left : (a b : Bool) → not (a || b) ≡ true → a ≡ false
neither_left false b h = refl
neither_left true b h = absurd cc

neither_right : (a b : Bool) → not (a || b) ≡ true → b ≡ false
neither_right false false h = refl
neither_right false true h = absurd cc
neither_right true b h = absurd cc

sign_piece : (s : Sign) (rest : List ℕ) → sign_stops s (slice_index rest 0) ≡ true → piece_at (sign_text s ++ rest) ≡ piece.Token (token.Sign s) (length (sign_text s))
unfolding piece_at sign_at
sign_piece sign.Colon [] h = refl
sign_piece sign.Colon (b ∷ rest) h = let no : nat_eq 61 b ≡ false = not_so (61 == b) h in rw no refl
sign_piece sign.Less [] h = refl
sign_piece sign.Less (b ∷ rest) h = let no : nat_eq 61 b ≡ false = not_so (61 == b) h in rw no refl
sign_piece sign.Equal [] h = refl
sign_piece sign.Equal (b ∷ rest) h = let no : nat_eq 62 b ≡ false = not_so (62 == b) h in rw no refl
sign_piece sign.Tick [] h = refl
sign_piece sign.Tick (b ∷ rest) h =
    let one : nat_eq 48 b ≡ false = neither_left (48 == b) (49 == b) h in
    let two : nat_eq 49 b ≡ false = neither_right (48 == b) (49 == b) h in
    rw (one, two) refl
sign_piece sign.LeftParen rest h = refl
sign_piece sign.RightParen rest h = refl
sign_piece sign.Comma rest h = refl
sign_piece sign.Semicolon rest h = refl
sign_piece sign.Assign rest h = refl
sign_piece sign.Arrow rest h = refl
sign_piece sign.Default rest h = refl
sign_piece sign.Unequal rest h = refl
sign_piece sign.Ampersand rest h = refl
sign_piece sign.Bar rest h = refl
sign_piece sign.Greater rest h = refl
sign_piece sign.Plus rest h = refl
sign_piece sign.Question rest h = refl
sign_piece sign.Star rest h = refl

-- ---- bits and blanks

bit_off : (rest : List ℕ) → piece_at (codes "'0'" ++ rest) ≡ piece.Token (token.Bit false) 3
unfolding piece_at
bit_off rest = refl

bit_on : (rest : List ℕ) → piece_at (codes "'1'" ++ rest) ≡ piece.Token (token.Bit true) 3
unfolding piece_at
bit_on rest = refl

pub gap_piece : (rest : List ℕ) → piece_at (32 ∷ rest) ≡ piece.Blank
unfolding piece_at
gap_piece rest = refl

pub turn_piece : (rest : List ℕ) → piece_at (10 ∷ rest) ≡ piece.NewLine
unfolding piece_at
turn_piece rest = refl

-- ---- tokens

some_sign : (s : Sign) → 0 < length (sign_text s)
some_sign sign.LeftParen = omega arith
some_sign sign.RightParen = omega arith
some_sign sign.Comma = omega arith
some_sign sign.Semicolon = omega arith
some_sign sign.Colon = omega arith
some_sign sign.Assign = omega arith
some_sign sign.Arrow = omega arith
some_sign sign.Default = omega arith
some_sign sign.Equal = omega arith
some_sign sign.Unequal = omega arith
some_sign sign.Ampersand = omega arith
some_sign sign.Bar = omega arith
some_sign sign.Tick = omega arith
some_sign sign.Less = omega arith
some_sign sign.Greater = omega arith
some_sign sign.Plus = omega arith
some_sign sign.Question = omega arith
some_sign sign.Star = omega arith

pub some_bytes : (t : Token) (next : ℕ) → FitsVhdl t next → 0 < length (spelling t)
some_bytes (token.Identifier name) next h = word_some name h.0.0
some_bytes (token.Keyword k) next h = word_some (keyword_text k) (small_keyword k)
some_bytes (token.Number n) next h = let less : n < 2 ^ 32 = h.0 in (decimal_is n (omega (arith, less))).some
some_bytes (token.Bit false) next h = omega arith
some_bytes (token.Bit true) next h = omega arith
some_bytes (token.Quoted s) next h = omega arith
some_bytes (token.BitString b s) next h = omega arith
some_bytes (token.Digits s) next h = absurd (h.0)
some_bytes (token.Sign s) next h = some_sign s

pub token_piece : (t : Token) (rest : List ℕ) → FitsVhdl t (slice_index rest 0) → piece_at (spelling t ++ rest) ≡ piece.Token t (length (spelling t))
token_piece (token.Identifier name) rest h = word_piece name rest h.0.0 h.1 ∙ ap (λ (o : Option Keyword). piece.Token (word_token o name) (length name)) h.0.1
token_piece (token.Keyword k) rest h = word_piece (keyword_text k) rest (small_keyword k) h.1 ∙ ap (λ (o : Option Keyword). piece.Token (word_token o (keyword_text k)) (length (keyword_text k))) (keyword_of-keyword_text k)
token_piece (token.Number n) rest h = let less : n < 2 ^ 32 = h.0 in number_front n (decimal n) rest less (decimal_is n (omega (arith, less))) (not_so (is_ascii_digit (slice_index rest 0)) h.1)
token_piece (token.Bit false) rest h = bit_off rest
token_piece (token.Bit true) rest h = bit_on rest
token_piece (token.Quoted s) rest h = quoted_piece s rest h.0
token_piece (token.BitString b s) rest h = bits_piece b s rest h.0
token_piece (token.Digits s) rest h = absurd (h.0)
token_piece (token.Sign s) rest h = sign_piece s rest h.1

abbrev pub vhdl : Lexer
vhdl = record {
  cut = cut;
  behind = behind;
  Fits = λ v. FitsVhdl;
  at_gap = λ v rest. gap_piece rest;
  at_turn = λ v rest. turn_piece rest;
  keeps_gap = λ v. refl;
  keeps_turn = λ v. refl;
  some = λ v. some_bytes;
  at_token = λ v. token_piece;
}

-- ---- layouts

same_state : (ws : List Written) → state_behind vhdl false ws ≡ false
same_state [] = refl
same_state (gap ∷ ws) = same_state ws
same_state (turn ∷ ws) = same_state ws
same_state (says t ∷ ws) = same_state ws

-- each token is read again where it stands, with this byte behind all
abbrev pub Fit : List Written → ℕ → Type 0
Fit ws next = AreFit vhdl false ws next

pub fit_both : (xs ys : List Written) (next : ℕ) → Fit xs (first_byte ys next) → Fit ys next → Fit (xs ++ ys) next
fit_both xs ys next h g = fit_append vhdl false xs ys next h (rw (same_state xs) g)
