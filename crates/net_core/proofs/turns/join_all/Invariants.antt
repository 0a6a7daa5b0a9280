use Rattle.std.proofs.Common.{◌≡◌, length, take}
use Rattle.net_core.proofs.Joining.{IsGrouped}
use Rattle.net_core.proofs.turns.join_all.Given as goal

abbrev pub invariant-loop-a : goal.invariant-loop-a
invariant-loop-a l = record {
  many : length l.groups ≡ length l.initial.groups;
  grouped : IsGrouped (take l.a-index l.joins) l.groups;
}
