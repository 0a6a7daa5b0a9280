use Rattle.std.proofs.Common.{◌≡◌, ◌++◌}
use Rattle.boom_check.proofs.assembling.put_behind.Given as goal

abbrev pub invariant-loop-equation : goal.invariant-loop-equation
invariant-loop-equation l = l.out.items ≡ l.fn.out.items ++ l.yielded
