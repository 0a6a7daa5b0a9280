-- Places in a text, and tokens that stand there.
use Rattle.std.proofs.Common.{◌≡◌, ℕ, zero, suc, ◌+◌, ◌-◌, ◌^◌, ◌<◌, ◌≤◌, min, Bool, List, [], ◌∷◌, ◌++◌, Option, length, drop, refl, ap, ◌∙◌, arith, length-drop}
use Rattle.std.proofs.Math.Seq.{drop-append_seam}
use Rattle.vlsi_base.specs.declared.fault.ReadError.{ReadError}
use Rattle.vhdl_token.specs.declared.token.Token.{Token}
use Rattle.vhdl_token.specs.declared.token.PlacedToken.{PlacedToken}
use Rattle.lexer_base.specs.declared.piece.Piece.{Piece}
use Rattle.lexer_base.specs.declared.piece.Piece.TheVariants as piece
use Rattle.lexer_base.specs.Lexical.{length_of}
use Rattle.lexer_base.specs.Listing.{pieces_within, pieces_from, tokens_from, refusal_from}
use Rattle.pat_lexer.specs.Lexical.{piece_at, value_behind}

-- what is left of a text, on which line it begins, and whether values stand there
pub record Place : Type 0 where
  pub is_value : Bool
  pub line : ℕ
  pub text : List ℕ

abbrev pub at : Bool → ℕ → List ℕ → Place
at v line text = record { is_value = v; line = line; text = text }

abbrev pub pieces_at : Bool → List ℕ → List Piece
pieces_at v text = pieces_from piece_at value_behind v text

abbrev pub tokens_at : Place → List PlacedToken
tokens_at h = tokens_from h.line (pieces_at h.is_value h.text)

abbrev pub refusal_at : Place → Option ReadError
refusal_at h = refusal_from h.line (pieces_at h.is_value h.text)

-- more pieces than bytes are not asked for
enough : (n m : ℕ) (v : Bool) (t : List ℕ) → length t ≤ n → length t ≤ m → pieces_within piece_at value_behind n v t ≡ pieces_within piece_at value_behind m v t
unfolding pieces_within
enough zero zero v t few few' = refl
enough zero (suc m) v [] few few' = refl
enough zero (suc m) v (b ∷ bs) few few' = absurd (omega arith)
enough (suc n) zero v [] few few' = refl
enough (suc n) zero v (b ∷ bs) few few' = absurd (omega arith)
enough (suc n) (suc m) v [] few few' = refl
enough (suc n) (suc m) v (b ∷ bs) few few' =
    let p = piece_at v (b ∷ bs) in
    let k = length_of p - 1 in
    ap (λ (ps : List Piece). p ∷ ps) (enough n m (value_behind p v) (drop k bs) (omega (arith, length-drop k bs)) (omega (arith, length-drop k bs)))

first_piece : (v : Bool) (b : ℕ) (bs : List ℕ)
    → pieces_at v (b ∷ bs) ≡ piece_at v (b ∷ bs) ∷ pieces_at (value_behind (piece_at v (b ∷ bs)) v) (drop (length_of (piece_at v (b ∷ bs)) - 1) bs)
unfolding pieces_from pieces_within
first_piece v b bs =
    let p = piece_at v (b ∷ bs) in
    let k = length_of p - 1 in
    ap (λ (ps : List Piece). p ∷ ps) (enough (length bs) (length (drop k bs)) (value_behind p v) (drop k bs) (omega (arith, length-drop k bs)) (omega arith))

-- the pieces of a text that begins with what a piece takes
pub next_piece : (v v' : Bool) (s rest : List ℕ) (p : Piece) → 0 < length s → length_of p ≡ length s → piece_at v (s ++ rest) ≡ p → value_behind p v ≡ v' → pieces_at v (s ++ rest) ≡ p ∷ pieces_at v' rest
next_piece v v' [] rest p some size is behind = absurd (omega arith)
next_piece v v' (b ∷ bs) rest p some size is behind =
    let less : length_of p - 1 ≡ length bs = omega arith in
    first_piece v b (bs ++ rest)
    ∙ ap (λ (q : Piece). q ∷ pieces_at (value_behind q v) (drop (length_of q - 1) (bs ++ rest))) is
    ∙ ap (λ (w : Bool). p ∷ pieces_at w (drop (length_of p - 1) (bs ++ rest))) behind
    ∙ ap (λ n. p ∷ pieces_at v' (drop n (bs ++ rest))) less
    ∙ ap (λ (t : List ℕ). p ∷ pieces_at v' t) (drop-append_seam bs rest)

-- no token stands between two places
pub record Skips (h k : Place) : Type 0 where
  pub tokens : tokens_at h ≡ tokens_at k
  pub refusal : refusal_at h ≡ refusal_at k

-- one token stands between two places
pub record Takes (t : PlacedToken) (h k : Place) : Type 0 where
  pub tokens : tokens_at h ≡ t ∷ tokens_at k
  pub refusal : refusal_at h ≡ refusal_at k

pub takes : (v v' : Bool) (line : ℕ) (s rest : List ℕ) (t : Token) → 0 < length s → piece_at v (s ++ rest) ≡ piece.Token t (length s) → value_behind (piece.Token t (length s)) v ≡ v'
    → Takes (record { token = t; line = line }) (at v line (s ++ rest)) (at v' line rest)
takes v v' line s rest t some is behind =
    let e = next_piece v v' s rest (piece.Token t (length s)) some refl is behind in
    record { tokens = ap (tokens_from line) e; refusal = ap (refusal_from line) e }

pub blank : (v : Bool) (line : ℕ) (rest : List ℕ) → Skips (at v line (32 ∷ rest)) (at v line rest)
unfolding piece_at
blank v line rest =
    let e = next_piece v v (32 ∷ []) rest piece.Blank (omega arith) refl refl refl in
    record { tokens = ap (tokens_from line) e; refusal = ap (refusal_from line) e }

abbrev pub line_behind : ℕ → ℕ
line_behind line = min (line + 1) (2 ^ 32 - 1)

pub line_end : (v : Bool) (line : ℕ) (rest : List ℕ) → Skips (at v line (10 ∷ rest)) (at v (line_behind line) rest)
unfolding piece_at
line_end v line rest =
    let e = next_piece v v (10 ∷ []) rest piece.NewLine (omega arith) refl refl refl in
    record { tokens = ap (tokens_from line) e; refusal = ap (refusal_from line) e }
