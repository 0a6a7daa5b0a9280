use Rattle.std.proofs.Common.{◌≡◌, ◌-◌}
use Rattle.ap_io.specs.Fields.{fields_of, at}
use Rattle.ap_io.proofs.fields.Fields.at.Given as goal

-- the field is that of what is left, behind as many commas as are still to be passed
abbrev pub invariant-loop : goal.invariant-loop
invariant-loop l = at (fields_of l.rest) (l.number - l.counter) ≡ at l.self l.number
