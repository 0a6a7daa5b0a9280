-- The identifiers into which a text is cut are words of at most 64 bytes, and its numbers have 32 bits.
use Rattle.std.proofs.Common.{◌≡◌, ℕ, zero, suc, ◌+◌, ◌-◌, ◌^◌, ◌<◌, ◌≤◌, arith, ◌==◌, Bool, true, false, ◌||◌, List, [], ◌∷◌, ◌++◌, Option, None, Some, unwrap_or, length, map, take, drop, min, nat_lt, nat_eq, codes, slice_index, refl, if◌then◌else◌}
use Rattle.std.specs.Prelude.{slice_range}
use Rattle.std.proofs.lemmas.Bool.{leb-false, ltb-true}
use Rattle.std.proofs.lemmas.List.{length-map, length-take}
use Rattle.std.specs.List.{prefix_len, starts_with}
use Rattle.std.specs.Char.{is_ascii_alphabetic, is_ascii_digit, to_ascii_lowercase}
use Rattle.vlsi_base.specs.Number.{value_of}
use Rattle.vlsi_base.specs.declared.radix.Radix.{Radix}
use Rattle.vhdl_token.specs.declared.keyword.Keyword.{Keyword}
use Rattle.vhdl_token.specs.Keyword.{keyword_of}
use Rattle.vhdl_token.specs.declared.token.Token.{Token}
use Rattle.vhdl_token.specs.declared.token.Token.TheVariants as token
use Rattle.vhdl_token.specs.declared.token.Sign.{Sign}
use Rattle.vhdl_token.specs.declared.token.PlacedToken.{PlacedToken}
use Rattle.text_names.specs.Words.{IsIdentifier}
use Rattle.lexer_base.specs.Bytes.{is_blank, is_in_word, is_on_line}
use Rattle.lexer_base.specs.declared.piece.Piece.{Piece}
use Rattle.lexer_base.specs.declared.piece.Piece.TheVariants as piece
use Rattle.lexer_base.specs.Lexical.{length_of, number_at, quoted_length, quotation_of, quotation_at, signs, sign_among, sign_of, sign_at}
use Rattle.lexer_base.specs.Listing.{pieces_within, pieces_from, tokens_of, tokens_from, line_after}
use Rattle.vhdl_lexer.specs.Words.{pragma_of}
use Rattle.vhdl_lexer.specs.Lexical.{word_token, word_at, base_of, bit_string_of, bit_string_at, comment_of, comment_at, piece_at}
use Rattle.vhdl_lexer.specs.Listing.{cut, behind, tokens_in}
use Rattle.vbe_writable.proofs.Letters.{word_of, taken_all, taken_first}

-- an identifier of at most 64 bytes
abbrev pub IsShortWord : List ℕ → Type 0
IsShortWord text = IsIdentifier text × (length text ≤ 64)

-- an identifier is a short word, and a number has 32 bits
abbrev pub IsNamed : Token → Type 0
IsNamed (token.Identifier name) = IsShortWord name
IsNamed (token.Number n) = n < 2 ^ 32
IsNamed _ = Unit {0}

abbrev pub AreNamed : List PlacedToken → Type 0
AreNamed [] = Unit {0}
AreNamed (t ∷ ts) = IsNamed t.token × AreNamed ts

append : (xs ys : List PlacedToken) → AreNamed xs → AreNamed ys → AreNamed (xs ++ ys)
append [] ys h g = g
append (x ∷ xs) ys h g = (h.0, append xs ys h.1 g)

-- ---- pieces

record Gives (p : Piece) : Type 0 where
  pub named : (line : ℕ) → AreNamed (tokens_of line p)

gives : (p : Piece) → ((line : ℕ) → AreNamed (tokens_of line p)) → Gives p
gives p h = record { named = h }

either : (b : Bool) (p q : Piece) → (b ≡ true → Gives p) → Gives q → Gives (if b then p else q)
either true p q h g = h refl
either false p q h g = g

either_so : (b : Bool) (p q : Piece) → (b ≡ true → Gives p) → (b ≡ false → Gives q) → Gives (if b then p else q)
either_so true p q h g = h refl
either_so false p q h g = g refl

of_word : (o : Option Keyword) (name : List ℕ) → (o ≡ None → IsShortWord name) → IsNamed (word_token o name)
of_word None name h = h refl
of_word (Some k) name h = tt

of_quotation : (o : Option ℕ) (inside : List ℕ) → Gives (quotation_of o inside)
of_quotation None inside = gives piece.Bad (λ line. tt)
of_quotation (Some n) inside = gives (piece.Token (token.Quoted (take n inside)) (n + 2)) (λ line. (tt, tt))

of_sign : (o : Option Sign) → Gives (sign_of o)
of_sign None = record { named = λ line. tt }
of_sign (Some s) = record { named = λ line. (tt, tt) }

of_comment : (o : Option (List ℕ × List ℕ)) (n : ℕ) → Gives (comment_of o n)
of_comment None n = record { named = λ line. tt }
of_comment (Some words) n = record { named = λ line. tt }

of_string : (base : Option Radix) (o : Option ℕ) (inside : List ℕ) (p : Piece) → Gives p → Gives (unwrap_or (bit_string_of base o inside) p)
of_string None o inside p h = h
of_string (Some base) None inside p h = h
of_string (Some base) (Some n) inside p h = gives (piece.Token (token.BitString base (take n inside)) (n + 3)) (λ line. (tt, tt))

if_string : (b : Bool) (base : Option Radix) (o : Option ℕ) (inside : List ℕ) (p : Piece) → Gives p
    → Gives (unwrap_or (if b then bit_string_of base o inside else None) p)
if_string true base o inside p h = of_string base o inside p h
if_string false base o inside p h = h

-- what is taken of a text is no longer than it was counted
short_word : (text : List ℕ) (n : ℕ) → nat_lt 64 n ≡ false → length (map to_ascii_lowercase (take n text)) ≤ 64
short_word text n fits =
    let few = leb-false 65 n fits in
    let same = length-map (take n text) to_ascii_lowercase in
    let part = length-take n text in
    omega (arith, few, same, part)

gives_word : (text : List ℕ) → is_ascii_alphabetic (slice_index text 0) ≡ true → Gives (word_at text)
unfolding word_at
gives_word text first =
    let n = prefix_len is_in_word text in
    let name = map to_ascii_lowercase (take n text) in
    let word = λ (free : keyword_of name ≡ None). word_of (take n text) (taken_first text first) (taken_all is_in_word text) free in
    either_so (nat_lt 64 n) (piece.TooLong n) (piece.Token (word_token (keyword_of name) name) n)
    (λ _. gives (piece.TooLong n) (λ line. tt))
    (λ fits. gives (piece.Token (word_token (keyword_of name) name) n) (λ line. (of_word (keyword_of name) name (λ free. (word free, short_word text n fits)), tt)))

gives_letter : (text : List ℕ) → is_ascii_alphabetic (slice_index text 0) ≡ true → Gives (unwrap_or (bit_string_at text) (word_at text))
unfolding bit_string_at
gives_letter text first =
    if_string (slice_index text 1 == 34) (base_of (slice_index text 0)) (quoted_length (drop 2 text)) (drop 2 text) (word_at text) (gives_word text first)

gives_number : (text : List ℕ) → Gives (number_at text)
unfolding number_at
gives_number text =
    let n = prefix_len is_ascii_digit text in
    let value = value_of (take n text) in
    let p = piece.Token (token.Number value) n in
    let q = piece.TooGreat (min value (2 ^ 64 - 1)) in
    either_so (nat_lt value (2 ^ 32)) p q (λ less. gives p (λ line. (ltb-true value (2 ^ 32) less, tt))) (λ _. gives q (λ line. tt))

gives_comment : (text : List ℕ) → Gives (comment_at text)
unfolding comment_at
gives_comment text = let n = prefix_len is_on_line text in of_comment (pragma_of (slice_range text 2 n)) n

gives_quotation : (text : List ℕ) → Gives (quotation_at text)
unfolding quotation_at
gives_quotation text = of_quotation (quoted_length (drop 1 text)) (drop 1 text)

gives_sign : (text : List ℕ) → Gives (sign_at text)
unfolding sign_at
gives_sign text = of_sign (sign_among text signs)

gives_piece : (text : List ℕ) → Gives (piece_at text)
unfolding piece_at
gives_piece text =
    let b = slice_index text 0 in
    let zero_at = piece.Token (token.Bit false) 3 in
    let one_at = piece.Token (token.Bit true) 3 in
    let is_comment = starts_with nat_eq text (codes "--") in
    let is_zero = starts_with nat_eq text (codes "'0'") in
    let is_one = starts_with nat_eq text (codes "'1'") in
    let letter = unwrap_or (bit_string_at text) (word_at text) in
    let p7 = if is_one then one_at else sign_at text in
    let p6 = if is_zero then zero_at else p7 in
    let p5 = if is_comment then comment_at text else p6 in
    let p4 = if b == 34 then quotation_at text else p5 in
    let p3 = if is_ascii_digit b then number_at text else p4 in
    let p2 = if is_ascii_alphabetic b then letter else p3 in
    let p1 = if b == 10 then piece.NewLine else p2 in
    let h7 = either is_one one_at (sign_at text) (λ _. gives one_at (λ line. (tt, tt))) (gives_sign text) in
    let h6 = either is_zero zero_at p7 (λ _. gives zero_at (λ line. (tt, tt))) h7 in
    let h5 = either is_comment (comment_at text) p6 (λ _. gives_comment text) h6 in
    let h4 = either (b == 34) (quotation_at text) p5 (λ _. gives_quotation text) h5 in
    let h3 = either (is_ascii_digit b) (number_at text) p4 (λ _. gives_number text) h4 in
    let h2 = either (is_ascii_alphabetic b) letter p3 (λ first. gives_letter text first) h3 in
    let h1 = either (b == 10) piece.NewLine p2 (λ _. gives piece.NewLine (λ line. tt)) h2 in
    either (is_blank b || b == 13) piece.Blank p1 (λ _. gives piece.Blank (λ line. tt)) h1

-- ---- whole texts

named_within : (n : ℕ) (v : Bool) (text : List ℕ) (line : ℕ) → AreNamed (tokens_from line (pieces_within cut behind n v text))
unfolding pieces_within
named_within zero v text line = tt
named_within (suc n) v [] line = tt
named_within (suc n) v (b ∷ bs) line =
    let p = piece_at (b ∷ bs) in
    let rest = pieces_within cut behind n v (drop (length_of p - 1) bs) in
    append (tokens_of line p) (tokens_from (line_after line p) rest) ((gives_piece (b ∷ bs)).named line)
    (named_within n v (drop (length_of p - 1) bs) (line_after line p))

pub named_in : (bytes : List ℕ) → AreNamed (tokens_in bytes).items
unfolding tokens_in pieces_from
named_in bytes = named_within (length bytes) false bytes 1
