-- A whole text: its pieces, its tokens and pragmas with their lines, and the first place where there is no token.
use Rattle.std.specs.Prelude.{ℕ, Bool, false, List, Option}
use Rattle.vlsi_base.specs.declared.fault.ReadError.{ReadError}
use Rattle.vhdl_token.specs.declared.token.Tokens.{Tokens}
use Rattle.lexer_base.specs.declared.piece.Piece.{Piece}
use Rattle.lexer_base.specs.Listing.{pieces_from, tokens_among, refusal_from}
use Rattle.vhdl_lexer.specs.Lexical.{piece_at}

-- Which piece stands at a place doesn't go by what stood before it.
abbrev pub cut : Bool → List ℕ → Piece
cut state text = piece_at text

abbrev pub behind : Piece → Bool → Bool
behind p state = state

abbrev pub pieces : List ℕ → List Piece
pieces text = pieces_from cut behind false text

-- the tokens, the pragmas, and the line of the end, which is that of the last byte, and 1 where there is none
unfoldable pub tokens_in : List ℕ → Tokens
tokens_in text = tokens_among (pieces text)

-- what stands where first there is no token
unfoldable pub refusal_in : List ℕ → Option ReadError
refusal_in text = refusal_from 1 (pieces text)
