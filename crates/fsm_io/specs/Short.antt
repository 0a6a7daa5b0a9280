-- What stands in statements has few operators.
use Rattle.source_checks.specs.Operators.{IsShort}
use Rattle.fsm_io.specs.Looks.{Mention, asserting, assigning, testing, selecting, listing}

-- the expression that stands there, if any, is short
abbrev pub ShortMention : Mention → Type 0
ShortMention (asserting e) = IsShort e
ShortMention (assigning t first e) = IsShort e
ShortMention (testing line e) = IsShort e
ShortMention (selecting seen line called) = Unit {0}
ShortMention (listing states) = Unit {0}
