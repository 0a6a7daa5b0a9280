use Rattle.std.proofs.Common.{◌≡◌, drop}
use Rattle.loon_loads.specs.Loads.{is_input_among}
use Rattle.loon_loads.proofs.loads.is_input_of.Given as goal

abbrev pub invariant-loop-pin : goal.invariant-loop-pin
invariant-loop-pin l = is_input_among (drop l.pin-index l.pins) l.name ≡ is_input_among l.pins l.name
