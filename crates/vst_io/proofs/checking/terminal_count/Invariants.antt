use Rattle.std.proofs.Common.{◌≡◌, ◌+◌, ◌-◌, ◌^◌, ◌<◌, drop, min}
use Rattle.std.specs.List.{sum_by}
use Rattle.vst_io.proofs.Adding.{pin_count}
use Rattle.vst_io.proofs.checking.terminal_count.Given as goal

abbrev pub invariant-loop-instance : goal.invariant-loop-instance
invariant-loop-instance l =
    (min (l.count + sum_by (pin_count l.known.table) (drop l.instance-index l.instances)) (2 ^ 64 - 1) ≡ min (l.ports + sum_by (pin_count l.known.table) l.instances) (2 ^ 64 - 1))
    × (l.count < 2 ^ 64)
