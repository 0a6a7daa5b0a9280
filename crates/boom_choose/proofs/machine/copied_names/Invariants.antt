use Rattle.std.proofs.Common.{◌≡◌, take}
use Rattle.boom_choose.proofs.machine.copied_names.Given as goal

abbrev pub invariant-loop-name : goal.invariant-loop-name
invariant-loop-name l = l.made.items ≡ take l.name-index l.names
