use Rattle.std.proofs.Common.{length, ◌-◌}
use Rattle.lexer_base.proofs.Reading.{Follows}
use Rattle.pat_lexer.specs.Lexical.{piece_at, value_behind}
use Rattle.pat_lexer.proofs.listing.whole_text.Given as goal

abbrev pub invariant-loop-at : goal.invariant-loop-at
invariant-loop-at l = Follows piece_at value_behind l.bytes l.at l.front.items l.front.pragmas l.is_value l.front.line l.front.last_line

abbrev pub decreases-loop-at : goal.decreases-loop-at
decreases-loop-at l = length l.bytes - l.at
