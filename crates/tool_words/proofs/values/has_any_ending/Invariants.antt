use Rattle.std.proofs.Common.{◌≡◌, drop, map}
use Rattle.std.specs.List.{list_any}
use Rattle.tool_words.specs.Values.{has_ending}
use Rattle.tool_words.proofs.values.has_any_ending.Given as goal

abbrev pub invariant-loop-ending : goal.invariant-loop-ending
invariant-loop-ending l = list_any (has_ending l.text) (map (λ ending. ending.now) (drop l.ending-index l.endings)) ≡ list_any (has_ending l.text) (map (λ ending. ending.now) l.endings)
