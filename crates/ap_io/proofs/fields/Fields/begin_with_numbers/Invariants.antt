use Rattle.std.proofs.Common.{◌≡◌, true, take}
use Rattle.std.specs.List.{list_all}
use Rattle.ap_io.specs.Fields.{is_number}
use Rattle.ap_io.proofs.fields.Fields.begin_with_numbers.Given as goal

-- those so far are numbers
abbrev pub invariant-loop-number : goal.invariant-loop-number
invariant-loop-number l = list_all is_number (take l.number l.self) ≡ true
