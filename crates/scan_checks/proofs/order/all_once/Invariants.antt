use Rattle.std.proofs.Common.{◌≡◌, take}
use Rattle.net_core.specs.Places.{NoneTwice}
use Rattle.scan_checks.proofs.order.all_once.Given as goal

abbrev pub invariant-loop-text : goal.invariant-loop-text
invariant-loop-text l = record {
  same : l.roll ≡ take l.text-index l.texts;
  once : NoneTwice l.roll;
}
