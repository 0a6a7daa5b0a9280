-- The pieces of a text, their tokens and pragmas with their lines, and the first place where there is no token.
use Rattle.std.specs.Prelude.{◌≡◌, ℕ, zero, suc, ◌+◌, ◌-◌, ◌^◌, Bool, List, [], ◌∷◌, ◌++◌, length, drop, min, Option, Some, None}
use Rattle.vlsi_base.specs.declared.fault.FaultKind.TheVariants.{BadByte}
use Rattle.vlsi_base.specs.declared.fault.LimitKind.TheVariants.{Ident, Number}
use Rattle.vlsi_base.specs.declared.fault.ReadError.{ReadError}
use Rattle.vlsi_base.specs.declared.fault.ReadError.TheVariants as error
use Rattle.vlsi_base.specs.declared.pragma.Pragma.{Pragma}
use Rattle.vhdl_token.specs.declared.token.PlacedToken.{PlacedToken}
use Rattle.lexer_base.specs.declared.piece.Piece.{Piece}
use Rattle.lexer_base.specs.declared.piece.Piece.TheVariants as piece
use Rattle.vhdl_token.specs.declared.token.Tokens.{Tokens}
use Rattle.lexer_base.specs.Lexical.{length_of}

-- The pieces at the front of a text, at most n: one has the first byte, and the next begins behind it. In some languages what
-- stands at a place goes by what stood before it: `cut` says which piece stands there, and `behind` how it is behind a piece.
unfoldable pub pieces_within : (Bool → List ℕ → Piece) → (Piece → Bool → Bool) → ℕ → Bool → List ℕ → List Piece
pieces_within cut behind zero state text = []
pieces_within cut behind (suc n) state [] = []
pieces_within cut behind (suc n) state (b ∷ bs) =
    let first = cut state (b ∷ bs) in first ∷ pieces_within cut behind n (behind first state) (drop (length_of first - 1) bs)

-- all of them: there are no more than bytes
unfoldable pub pieces_from : (Bool → List ℕ → Piece) → (Piece → Bool → Bool) → Bool → List ℕ → List Piece
pieces_from cut behind state text = pieces_within cut behind (length text) state text

-- Lines are counted from 1 to the greatest number of 32 bits, and stay there.
abbrev pub line_after : ℕ → Piece → ℕ
line_after line piece.NewLine = min (line + 1) (2 ^ 32 - 1)
line_after line _ = line

-- the token, if the piece is one, on its line
abbrev pub tokens_of : ℕ → Piece → List PlacedToken
tokens_of line (piece.Token t n) = record { token = t; line = line } ∷ []
tokens_of line _ = []

-- the pragma, if the piece is one, on its line
abbrev pub pragmas_of : ℕ → Piece → List Pragma
pragmas_of line (piece.Pragma key name n) = record { key = key; name = name; line = line } ∷ []
pragmas_of line _ = []

-- why there is no token on this line, if so
abbrev pub refusal_of : ℕ → Piece → Option ReadError
refusal_of line (piece.TooLong n) = Some (error.Limit (record { which = Ident; reached = n }))
refusal_of line (piece.TooGreat n) = Some (error.Limit (record { which = Number; reached = n }))
refusal_of line piece.Bad = Some (error.Input (record { line = line; kind = BadByte; names = [] }))
refusal_of line _ = None

-- ---- of pieces one after another, the first on this line

abbrev pub tokens_from : ℕ → List Piece → List PlacedToken
tokens_from line [] = []
tokens_from line (p ∷ ps) = tokens_of line p ++ tokens_from (line_after line p) ps

abbrev pub pragmas_from : ℕ → List Piece → List Pragma
pragmas_from line [] = []
pragmas_from line (p ∷ ps) = pragmas_of line p ++ pragmas_from (line_after line p) ps

-- the first refusal
abbrev pub or_else : Option ReadError → Option ReadError → Option ReadError
or_else None o = o
or_else (Some e) o = Some e

abbrev pub refusal_from : ℕ → List Piece → Option ReadError
refusal_from line [] = None
refusal_from line (p ∷ ps) = or_else (refusal_of line p) (refusal_from (line_after line p) ps)

-- the line of the last piece, where the piece before these is on the line `before`
abbrev pub last_line_from : ℕ → ℕ → List Piece → ℕ
last_line_from before line [] = before
last_line_from before line (p ∷ ps) = last_line_from line (line_after line p) ps

-- the tokens, the pragmas, and the line of the end, which is that of the last piece, and 1 where there is none
abbrev pub tokens_among : List Piece → Tokens
tokens_among ps = record { items = tokens_from 1 ps; pragmas = pragmas_from 1 ps; last_line = last_line_from 1 1 ps }

-- the error is this refusal, or memory has run out
abbrev pub IsRefusal : ReadError → Option ReadError → Type 0
IsRefusal error.Memory o = Unit {0}
IsRefusal (error.Input f) o = o ≡ Some (error.Input f)
IsRefusal (error.Limit l) o = o ≡ Some (error.Limit l)
