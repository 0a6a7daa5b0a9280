-- What was read of a whole text.
use Rattle.std.specs.Prelude.{◌≡◌, List, None}
use Rattle.lexer_base.specs.declared.front.Front.{Front}
use Rattle.lexer_base.specs.declared.piece.Piece.{Piece}
use Rattle.lexer_base.specs.Listing.{tokens_from, pragmas_from, last_line_from, refusal_from}

-- all of the pieces of a text, none of which is refused
pub record IsWhole (front : Front) (ps : List Piece) : Type 0 where
  pub items : front.items ≡ tokens_from 1 ps
  pub pragmas : front.pragmas ≡ pragmas_from 1 ps
  pub last_line : front.last_line ≡ last_line_from 1 1 ps
  pub accepted : refusal_from 1 ps ≡ None
