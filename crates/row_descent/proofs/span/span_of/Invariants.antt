use Rattle.std.proofs.Common.{◌≡◌, map, drop}
use Rattle.row_meaning.specs.Length.{least, greatest}
use Rattle.row_descent.specs.Spans.{top, at}
use Rattle.row_descent.proofs.span.span_of.Given as goal

-- the pins that are left lead to the span of all
abbrev pub invariant-loop-pin : goal.invariant-loop-pin
invariant-loop-pin l = record {
  low : least l.low (map (at l.starts) (drop l.pin-index l.pins)) ≡ least top (map (at l.starts) l.pins);
  high : greatest l.high (map (at l.starts) (drop l.pin-index l.pins)) ≡ greatest 0 (map (at l.starts) l.pins);
}
