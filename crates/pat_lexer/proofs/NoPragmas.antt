-- No piece of a pattern file is a pragma.
use Rattle.std.proofs.Common.{◌≡◌, ℕ, zero, suc, ◌-◌, ◌^◌, ◌==◌, Bool, true, false, ◌||◌, ◌&&◌, List, [], ◌∷◌, ◌++◌, Option, None, Some, length, map, take, drop, min, nat_lt, nat_eq, codes, slice_index, refl, ap, ◌∙◌, if◌then◌else◌}
use Rattle.std.specs.List.{prefix_len, starts_with}
use Rattle.std.specs.Char.{is_ascii_alphabetic, is_ascii_digit, to_ascii_lowercase}
use Rattle.vlsi_base.specs.Number.{value_of}
use Rattle.vhdl_token.specs.Keyword.{keyword_of}
use Rattle.vhdl_token.specs.declared.token.Token.TheVariants as token
use Rattle.lexer_base.specs.Bytes.{is_blank, is_in_word}
use Rattle.vlsi_base.specs.declared.pragma.Pragma.{Pragma}
use Rattle.vhdl_token.specs.declared.token.Sign.{Sign}
use Rattle.lexer_base.specs.declared.piece.Piece.{Piece}
use Rattle.lexer_base.specs.declared.piece.Piece.TheVariants as piece
use Rattle.lexer_base.specs.Lexical.{length_of, number_at, quoted_length, quotation_of, quotation_at, signs, sign_among, sign_of, sign_at}
use Rattle.lexer_base.specs.Listing.{pieces_within, pieces_from, pragmas_of, pragmas_from, line_after}
use Rattle.pat_lexer.specs.Lexical.{is_letter_or_digit, word_token, word_at, digits_at, comment_at, piece_at, value_behind}
use Rattle.pat_lexer.specs.Listing.{pieces}

record Plain (p : Piece) : Type 0 where
  pub none : (line : ℕ) → pragmas_of line p ≡ []

either : (b : Bool) (p q : Piece) → Plain p → Plain q → Plain (if b then p else q)
either true p q hp hq = hp
either false p q hp hq = hq

of_quotation : (o : Option ℕ) (inside : List ℕ) → Plain (quotation_of o inside)
of_quotation None inside = record { none = λ line. refl }
of_quotation (Some n) inside = record { none = λ line. refl }

of_sign : (o : Option Sign) → Plain (sign_of o)
of_sign None = record { none = λ line. refl }
of_sign (Some s) = record { none = λ line. refl }

ok : (p : Piece) → ((line : ℕ) → pragmas_of line p ≡ []) → Plain p
ok p h = record { none = h }

plain_word : (text : List ℕ) → Plain (word_at text)
unfolding word_at
plain_word text =
    let n = prefix_len is_in_word text in
    let name = map to_ascii_lowercase (take n text) in
    either (nat_lt 64 n) (piece.TooLong n) (piece.Token (word_token (keyword_of name) name) n) (ok (piece.TooLong n) (λ line. refl)) (ok (piece.Token (word_token (keyword_of name) name) n) (λ line. refl))

plain_number : (text : List ℕ) → Plain (number_at text)
unfolding number_at
plain_number text =
    let n = prefix_len is_ascii_digit text in
    let value = value_of (take n text) in
    let p = piece.Token (token.Number value) n in
    let q = piece.TooGreat (min value (2 ^ 64 - 1)) in
    either (nat_lt value (2 ^ 32)) p q (ok p (λ line. refl)) (ok q (λ line. refl))

plain_digits : (text : List ℕ) → Plain (digits_at text)
unfolding digits_at
plain_digits text = record { none = λ line. refl }

plain_comment : (text : List ℕ) → Plain (comment_at text)
unfolding comment_at
plain_comment text = record { none = λ line. refl }

plain_quotation : (text : List ℕ) → Plain (quotation_at text)
unfolding quotation_at
plain_quotation text = of_quotation (quoted_length (drop 1 text)) (drop 1 text)

plain_sign : (text : List ℕ) → Plain (sign_at text)
unfolding sign_at
plain_sign text = of_sign (sign_among text signs)

plain_piece : (v : Bool) (text : List ℕ) → Plain (piece_at v text)
unfolding piece_at
plain_piece v text =
    let b = slice_index text 0 in
    let is_comment = starts_with nat_eq text (codes "--") in
    let p6 = if is_comment then comment_at text else sign_at text in
    let p5 = if b == 34 then quotation_at text else p6 in
    let p4 = if is_ascii_digit b then number_at text else p5 in
    let p3 = if is_ascii_alphabetic b then word_at text else p4 in
    let p2 = if v && is_letter_or_digit b then digits_at text else p3 in
    let p1 = if b == 10 then piece.NewLine else p2 in
    let h6 = either is_comment (comment_at text) (sign_at text) (plain_comment text) (plain_sign text) in
    let h5 = either (b == 34) (quotation_at text) p6 (plain_quotation text) h6 in
    let h4 = either (is_ascii_digit b) (number_at text) p5 (plain_number text) h5 in
    let h3 = either (is_ascii_alphabetic b) (word_at text) p4 (plain_word text) h4 in
    let h2 = either (v && is_letter_or_digit b) (digits_at text) p3 (plain_digits text) h3 in
    let h1 = either (b == 10) piece.NewLine p2 (ok piece.NewLine (λ line. refl)) h2 in
    either (is_blank b || b == 13) piece.Blank p1 (ok piece.Blank (λ line. refl)) h1

none_within : (n : ℕ) (v : Bool) (text : List ℕ) (line : ℕ) → pragmas_from line (pieces_within piece_at value_behind n v text) ≡ []
unfolding pieces_within
none_within zero v text line = refl
none_within (suc n) v [] line = refl
none_within (suc n) v (b ∷ bs) line =
    let p = piece_at v (b ∷ bs) in
    let more = none_within n (value_behind p v) (drop (length_of p - 1) bs) (line_after line p) in
    ap (λ (m : List Pragma). pragmas_of line p ++ m) more ∙ ap (λ (m : List Pragma). m ++ []) ((plain_piece v (b ∷ bs)).none line)

pub no_pragmas : (text : List ℕ) → pragmas_from 1 (pieces text) ≡ []
unfolding pieces_from
no_pragmas text = none_within (length text) false text 1
