use Rattle.std.proofs.Common.{false, length, ◌-◌}
use Rattle.lexer_base.proofs.Reading.{Follows}
use Rattle.vhdl_lexer.specs.Listing.{cut, behind}
use Rattle.vhdl_lexer.proofs.listing.whole_text.Given as goal

abbrev pub invariant-loop-at : goal.invariant-loop-at
invariant-loop-at l = Follows cut behind l.bytes l.at l.front.items l.front.pragmas false l.front.line l.front.last_line

abbrev pub decreases-loop-at : goal.decreases-loop-at
decreases-loop-at l = length l.bytes - l.at
