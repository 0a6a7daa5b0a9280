use Rattle.std.proofs.Common.{◌∙◌, ap, sym, le-leb, ◌&&◌, Bool, length, get_or, nat_le}
use Rattle.std.specs.Char.{is_ascii_alphabetic}
use Rattle.vhdl_lexer.proofs.Conjunctions.{and_last}
use Rattle.vhdl_lexer.proofs.comment.is_spelled_as_identifier.Goals as goal

pub returns : goal.returns
returns c =
    let joined : Bool → Bool = λ r. is_ascii_alphabetic (get_or c.args.word.now 0 0) && (nat_le (length c.args.word.now) 64 && r) in
    and_last _ _ _ (sym c.if-not-is_ascii_alphabetic.ensures.value) (le-leb _ _ c.if-word-gt-MOST_IDENTIFIER_BYTES.false) ∙ ap joined c.all_in_word.ensures
