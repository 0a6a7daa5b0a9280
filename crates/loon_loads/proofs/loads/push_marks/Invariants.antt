use Rattle.std.proofs.Common.{◌≡◌, ◌++◌, take, map}
use Rattle.std.specs.Option.{option_copied}
use Rattle.loon_loads.specs.Sinks.{is_sink_of}
use Rattle.loon_loads.proofs.loads.push_marks.Given as goal

abbrev pub invariant-loop-pin : goal.invariant-loop-pin
invariant-loop-pin l = l.marks.items ≡ l.initial.marks.items ++ map (is_sink_of (option_copied l.cell)) (take l.pin-index l.pins)
