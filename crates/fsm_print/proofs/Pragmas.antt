-- A pragma that is written on a line is read again.
use Rattle.std.proofs.Common.{◌≡◌, ℕ, zero, suc, ◌-◌, ◌<◌, ◌≤◌, ◌==◌, Bool, true, false, not, ◌&&◌, nat_le, List, [], ◌∷◌, ◌++◌, map, length, take, drop, take_while, codes, slice_index, Option, None, Some, if◌then◌else◌, refl, sym, ap, ◌∙◌, arith, append_assoc, append-nil, length-drop}
use Rattle.std.specs.Prelude.{slice_range, is_none}
use Rattle.std.specs.List.{list_all, prefix_len}
use Rattle.std.specs.Str.{bytes_eq}
use Rattle.std.specs.Char.{is_ascii_alphabetic, to_ascii_lowercase}
use Rattle.std.proofs.lemmas.Bool.{and_parts, le-leb}
use Rattle.std.proofs.Math.Seq.{drop-append_seam, take-append_seam}
use Rattle.vhdl_token.specs.Keyword.{keyword_of}
use Rattle.lexer_base.specs.declared.piece.Piece.{Piece}
use Rattle.lexer_base.specs.declared.piece.Piece.TheVariants as piece
use Rattle.lexer_base.specs.Bytes.{is_blank, is_in_word, is_on_line}
use Rattle.lexer_base.specs.Lexical.{length_of}
use Rattle.lexer_base.specs.Listing.{pieces_within, pieces_from}
use Rattle.vhdl_lexer.specs.Words.{is_unblank, is_spelled_as_identifier, identifier_of, behind_blanks, first_word, after_word, without_return, both, pragma_of}
use Rattle.vhdl_lexer.specs.Lexical.{comment_of, comment_at, piece_at}
use Rattle.vhdl_lexer.specs.Listing.{cut, behind, pieces}
use Rattle.spell_theory.specs.Words.{is_small_letter, is_in_small_word, IsSmallWord}
use Rattle.spell_theory.proofs.Letters.{both as both_true, by_bytes, not_so, small_letter, small_in_word, prefix_all, all_implied, all_same, all_append, front_of, in_word, lower_in_word}
use Rattle.vhdl_print.specs.EntityAgain.{IsName}
use Rattle.vhdl_print.proofs.VhdlLexer.{turn_piece}
use Rattle.fsm_print.specs.Written.{pragma_line}

-- ---- pieces one behind the other

-- more pieces than bytes are not asked for
enough : (n m : ℕ) (t : List ℕ) → length t ≤ n → length t ≤ m → pieces_within cut behind n false t ≡ pieces_within cut behind m false t
unfolding pieces_within
enough zero zero t few few' = refl
enough zero (suc m) [] few few' = refl
enough zero (suc m) (b ∷ bs) few few' = absurd (omega arith)
enough (suc n) zero [] few few' = refl
enough (suc n) zero (b ∷ bs) few few' = absurd (omega arith)
enough (suc n) (suc m) [] few few' = refl
enough (suc n) (suc m) (b ∷ bs) few few' =
    let p = piece_at (b ∷ bs) in
    let k = length_of p - 1 in
    ap (λ (ps : List Piece). p ∷ ps) (enough n m (drop k bs) (omega (arith, length-drop k bs)) (omega (arith, length-drop k bs)))

pub next_piece : (s rest : List ℕ) (p : Piece) → 0 < length s → length_of p ≡ length s → piece_at (s ++ rest) ≡ p → pieces (s ++ rest) ≡ p ∷ pieces rest
unfolding pieces_from pieces_within
next_piece [] rest p some size is = absurd (omega arith)
next_piece (b ∷ bs) rest p some size is =
    let less : length_of p - 1 ≡ length bs = omega arith in
    let all = bs ++ rest in
    let k = length_of (piece_at (b ∷ all)) - 1 in
    ap (λ (ps : List Piece). piece_at (b ∷ all) ∷ ps) (enough (length all) (length (drop k all)) (drop k all) (omega (arith, length-drop k all)) (omega arith))
    ∙ ap (λ (q : Piece). q ∷ pieces (drop (length_of q - 1) all)) is
    ∙ ap (λ n. p ∷ pieces (drop n all)) less
    ∙ ap (λ (t : List ℕ). p ∷ pieces t) (drop-append_seam bs rest)

-- ---- words of a comment

-- none of these is a blank, a return or the end of a line
in_comment : (c : ℕ) → is_in_small_word c ≡ true → is_unblank c ≡ true
in_comment c h = by_bytes is_in_small_word is_unblank refl c (small_in_word c h) h

no_blank : (c : ℕ) → is_in_small_word c ≡ true → is_blank c ≡ false
no_blank c h = not_so (is_blank c) (in_comment c h)

on_line : (c : ℕ) → is_in_small_word c ≡ true → is_on_line c ≡ true
on_line c h = by_bytes is_in_small_word is_on_line refl c (small_in_word c h) h

abbrev is_no_return : ℕ → Bool
is_no_return c = not (c == 13)

no_return : (c : ℕ) → is_in_small_word c ≡ true → is_no_return c ≡ true
no_return c h = by_bytes is_in_small_word is_no_return refl c (small_in_word c h) h

prefix_whole : (p : ℕ → Bool) (s : List ℕ) → list_all p s ≡ true → prefix_len p s ≡ length s
prefix_whole p [] h = refl
prefix_whole p (c ∷ cs) h = let parts = and_parts (p c) (list_all p cs) h in rw (parts.0) (omega (arith, prefix_whole p cs parts.1))

take_length : (s : List ℕ) → take (length s) s ≡ s
take_length [] = refl
take_length (c ∷ cs) = ap (λ (z : List ℕ). c ∷ z) (take_length cs)

while_all : (p : ℕ → Bool) (s : List ℕ) → list_all p s ≡ true → take_while p s ≡ s
while_all p s h = ap (λ n. take n s) (prefix_whole p s h) ∙ take_length s

while_front : (p : ℕ → Bool) (s : List ℕ) (b : ℕ) (rest : List ℕ) → list_all p s ≡ true → p b ≡ false → take_while p (s ++ b ∷ rest) ≡ s
while_front p s b rest h g = front_of p s (b ∷ rest) h g

-- behind one blank a word begins
behind_blank : (w rest : List ℕ) → IsSmallWord w → behind_blanks (32 ∷ w ++ rest) ≡ w ++ rest
behind_blank [] rest is = let e = is.begins in absurd cc
behind_blank (c ∷ cs) rest is =
    let one = (and_parts (is_in_small_word c) (list_all is_in_small_word cs) is.letters).0 in
    rw (no_blank c one) refl

all_unblank : (w : List ℕ) → IsSmallWord w → list_all is_unblank w ≡ true
all_unblank w is = all_implied is_in_small_word is_unblank in_comment w is.letters

first_of : (w rest : List ℕ) → IsSmallWord w → first_word (32 ∷ w ++ 32 ∷ rest) ≡ w
first_of w rest is = ap (take_while is_unblank) (behind_blank w (32 ∷ rest) is) ∙ while_front is_unblank w 32 rest (all_unblank w is) refl

after_of : (w rest : List ℕ) → IsSmallWord w → after_word (32 ∷ w ++ 32 ∷ rest) ≡ 32 ∷ rest
after_of w rest is =
    ap (λ (z : List ℕ). drop (prefix_len is_unblank z) z) (behind_blank w (32 ∷ rest) is)
    ∙ ap (λ n. drop n (w ++ 32 ∷ rest)) (prefix_all is_unblank w (32 ∷ rest) (all_unblank w is) refl)
    ∙ drop-append_seam w (32 ∷ rest)

last_first : (w : List ℕ) → IsSmallWord w → first_word (32 ∷ w) ≡ w
last_first w is =
    ap (λ (z : List ℕ). first_word (32 ∷ z)) (sym (append-nil w)) ∙ ap (take_while is_unblank) (behind_blank w [] is ∙ append-nil w) ∙ while_all is_unblank w (all_unblank w is)

drop_length : (w : List ℕ) → drop (length w) w ≡ []
drop_length [] = refl
drop_length (c ∷ cs) = drop_length cs

last_after : (w : List ℕ) → IsSmallWord w → after_word (32 ∷ w) ≡ []
last_after w is =
    ap (λ (z : List ℕ). after_word (32 ∷ z)) (sym (append-nil w))
    ∙ ap (λ (z : List ℕ). drop (prefix_len is_unblank z) z) (behind_blank w [] is ∙ append-nil w)
    ∙ ap (λ n. drop n w) (prefix_whole is_unblank w (all_unblank w is))
    ∙ drop_length w

-- an identifier is read as it is written
is_identifier : (w : List ℕ) → IsName w → identifier_of w ≡ Some w
is_identifier w is =
    let lower : map to_ascii_lowercase w ≡ w = all_same is_in_small_word to_ascii_lowercase lower_in_word w is.0.letters in
    let letters : list_all is_in_word w ≡ true = all_implied is_in_small_word is_in_word in_word w is.0.letters in
    let short : nat_le (length w) 64 ≡ true = le-leb (length w) 64 is.0.short in
    let alphabetic : is_ascii_alphabetic (slice_index w 0) ≡ true = begins_word w is.0 in
    let spelled : is_spelled_as_identifier w ≡ true = both_true (is_ascii_alphabetic (slice_index w 0)) _ alphabetic (both_true (nat_le (length w) 64) (list_all is_in_word w) short letters) in
    let free : is_none (keyword_of (map to_ascii_lowercase w)) ≡ true = ap (λ (t : List ℕ). is_none (keyword_of t)) lower ∙ ap is_none is.1 in
    ap (λ (b : Bool). if b then Some (map to_ascii_lowercase w) else None) (both_true (is_spelled_as_identifier w) _ spelled free) ∙ ap Some lower where
      begins_word : (w : List ℕ) → IsSmallWord w → is_ascii_alphabetic (slice_index w 0) ≡ true
      begins_word [] is = let e = is.begins in absurd cc
      begins_word (c ∷ cs) is = by_bytes is_small_letter is_ascii_alphabetic refl c (small_letter c is.begins) is.begins

-- ---- a comment

abbrev pub word_pragma : List ℕ
word_pragma = codes "pragma"

-- what stands behind the two dashes
abbrev pub comment : List ℕ → List ℕ → List ℕ
comment key name = 32 ∷ word_pragma ++ 32 ∷ key ++ 32 ∷ name

-- what the words of a comment come to: `pragma`, the key, the name, and none behind
abbrev told : List ℕ → List ℕ → List ℕ → List ℕ → Option (List ℕ × List ℕ)
told first second third fourth =
    if bytes_eq (map to_ascii_lowercase first) (codes "pragma") && bytes_eq fourth [] then both (identifier_of second) (identifier_of third) else None

abbrev words_told : List ℕ → Option (List ℕ × List ℕ)
words_told t = told (first_word t) (first_word (after_word t)) (first_word (after_word (after_word t))) (first_word (after_word (after_word (after_word t))))

pragma_told : (t : List ℕ) → pragma_of t ≡ words_told (without_return t)
unfolding pragma_of
pragma_told t = refl

at_all : (p : ℕ → Bool) (xs : List ℕ) (k : ℕ) → list_all p xs ≡ true → p 0 ≡ true → p (slice_index xs k) ≡ true
at_all p [] k h g = g
at_all p (x ∷ xs) zero h g = (and_parts (p x) (list_all p xs) h).0
at_all p (x ∷ xs) (suc k) h g = at_all p xs k (and_parts (p x) (list_all p xs) h).1 g

-- there is no return in it
comment_plain : (key name : List ℕ) → IsSmallWord key → IsSmallWord name → without_return (comment key name) ≡ comment key name
comment_plain key name k n =
    let t = comment key name in
    let all : list_all is_no_return t ≡ true =
    all_append is_no_return (32 ∷ word_pragma ++ 32 ∷ []) (key ++ 32 ∷ name) refl
    (all_append is_no_return key (32 ∷ name) (all_implied is_in_small_word is_no_return no_return key k.letters) (all_implied is_in_small_word is_no_return no_return name n.letters)) in
    let last : (slice_index t (length t - 1) == 13) ≡ false = not_so (slice_index t (length t - 1) == 13) (at_all is_no_return t (length t - 1) all refl) in
    ap (λ (b : Bool). if b then take (length t - 1) t else t) last

small_pragma : IsSmallWord word_pragma
small_pragma = record { begins = refl; letters = refl; short = omega arith }

pub pragma_is : (key name : List ℕ) → IsName key → IsName name → pragma_of (comment key name) ≡ Some (key, name)
pragma_is key name k n =
    let t = comment key name in
    let a1 : after_word t ≡ 32 ∷ key ++ 32 ∷ name = after_of word_pragma (key ++ 32 ∷ name) small_pragma in
    let a2 : after_word (after_word t) ≡ 32 ∷ name = ap after_word a1 ∙ after_of key name k.0 in
    let a3 : after_word (after_word (after_word t)) ≡ [] = ap after_word a2 ∙ last_after name n.0 in
    let w0 : first_word t ≡ word_pragma = first_of word_pragma (key ++ 32 ∷ name) small_pragma in
    let w1 : first_word (after_word t) ≡ key = ap first_word a1 ∙ first_of key name k.0 in
    let w2 : first_word (after_word (after_word t)) ≡ name = ap first_word a2 ∙ last_first name n.0 in
    let w3 : first_word (after_word (after_word (after_word t))) ≡ [] = ap first_word a3 in
    pragma_told t
    ∙ ap words_told (comment_plain key name k.0 n.0)
    ∙ ap (λ (x : List ℕ). told x (first_word (after_word t)) (first_word (after_word (after_word t))) (first_word (after_word (after_word (after_word t))))) w0
    ∙ ap (λ (x : List ℕ). told word_pragma x (first_word (after_word (after_word t))) (first_word (after_word (after_word (after_word t))))) w1
    ∙ ap (λ (x : List ℕ). told word_pragma key x (first_word (after_word (after_word (after_word t))))) w2
    ∙ ap (λ (x : List ℕ). told word_pragma key name x) w3
    ∙ ap (λ (o : Option (List ℕ)). both o (identifier_of name)) (is_identifier key k)
    ∙ ap (λ (o : Option (List ℕ)). both (Some key) o) (is_identifier name n)

-- ---- its line

-- the line without its end
abbrev pub dashed : List ℕ → List ℕ → List ℕ
dashed key name = 45 ∷ 45 ∷ comment key name

at_dashes : (t : List ℕ) → piece_at (45 ∷ 45 ∷ t) ≡ comment_at (45 ∷ 45 ∷ t)
unfolding piece_at
at_dashes t = refl

behind_two : (t rest : List ℕ) → slice_range (45 ∷ 45 ∷ t ++ rest) 2 (suc (suc (length t))) ≡ t
behind_two t rest = let less : suc (suc (length t)) - 2 ≡ length t = omega arith in ap (λ n. take n (t ++ rest)) less ∙ take-append_seam t rest

comment_piece : (key name rest : List ℕ) → IsName key → IsName name → piece_at (dashed key name ++ 10 ∷ rest) ≡ piece.Pragma key name (length (dashed key name))
unfolding comment_at
comment_piece key name rest k n =
    let d = dashed key name in
    let all : list_all is_on_line d ≡ true =
    all_append is_on_line (45 ∷ 45 ∷ 32 ∷ word_pragma ++ 32 ∷ []) (key ++ 32 ∷ name) refl
    (all_append is_on_line key (32 ∷ name) (all_implied is_in_small_word is_on_line on_line key k.0.letters) (all_implied is_in_small_word is_on_line on_line name n.0.letters)) in
    let many : prefix_len is_on_line (d ++ 10 ∷ rest) ≡ length d = prefix_all is_on_line d (10 ∷ rest) all refl in
    at_dashes (comment key name ++ 10 ∷ rest)
    ∙ ap (λ m. comment_of (pragma_of (slice_range (d ++ 10 ∷ rest) 2 m)) m) many
    ∙ ap (λ (t : List ℕ). comment_of (pragma_of t) (length d)) (behind_two (comment key name) (10 ∷ rest))
    ∙ ap (λ (o : Option (List ℕ × List ℕ)). comment_of o (length d)) (pragma_is key name k n)

line_is : (key name rest : List ℕ) → pragma_line key name ++ rest ≡ dashed key name ++ 10 ∷ rest
line_is key name rest =
    ap (λ (t : List ℕ). codes "-- pragma " ++ t)
    (append_assoc key (32 ∷ name ++ 10 ∷ []) rest ∙ ap (λ (t : List ℕ). key ++ 32 ∷ t) (append_assoc name (10 ∷ []) rest) ∙ sym (append_assoc key (32 ∷ name) (10 ∷ rest)))

-- a pragma and the end of its line, and what follows
pub pragma_pieces : (key name rest : List ℕ) → IsName key → IsName name
    → pieces (pragma_line key name ++ rest) ≡ piece.Pragma key name (length (dashed key name)) ∷ piece.NewLine ∷ pieces rest
pragma_pieces key name rest k n =
    ap pieces (line_is key name rest)
    ∙ next_piece (dashed key name) (10 ∷ rest) (piece.Pragma key name (length (dashed key name))) (omega arith) refl (comment_piece key name rest k n)
    ∙ ap (λ (ps : List Piece). piece.Pragma key name (length (dashed key name)) ∷ ps) (next_piece (10 ∷ []) rest piece.NewLine (omega arith) refl (turn_piece rest))
