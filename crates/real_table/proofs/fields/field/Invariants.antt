use Rattle.std.proofs.Common.{◌≡◌, ◌-◌}
use Rattle.real_table.specs.Fields.{fields_of, at}
use Rattle.real_table.proofs.fields.field.Given as goal

-- the field is that of what is left, behind as many blanks as are still to be passed
abbrev pub invariant-loop : goal.invariant-loop
invariant-loop l = at (fields_of l.rest) (l.number - l.counter) ≡ at (fields_of l.line) l.number
