use Rattle.std.proofs.Common.{◌≡◌, ◌++◌, ◌+◌, map, drop}
use Rattle.machine_core.specs.View.{equation_view}
use Rattle.source_bits.specs.Driven.{driven_view}
use Rattle.net_flat.specs.Renamed.{driven_from}
use Rattle.net_flat.proofs.renaming.driven.Given as goal

abbrev pub invariant-loop-equation : goal.invariant-loop-equation
invariant-loop-equation l = record {
  counted : l.bit ≡ l.first + l.equation-index;
  put : map driven_view l.made.items ++ driven_from l.bit (map equation_view (drop l.equation-index l.equations)) ≡ driven_from l.first (map equation_view l.equations);
}
