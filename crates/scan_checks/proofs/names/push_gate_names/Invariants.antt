use Rattle.std.proofs.Common.{◌≡◌, ◌++◌, ◌+◌, ◌-◌, map}
use Rattle.vlsi_base.specs.Range.{rising}
use Rattle.scan_theory.specs.Scan.{gate_name}
use Rattle.scan_checks.proofs.names.push_gate_names.Given as goal

abbrev pub invariant-loop-number : goal.invariant-loop-number
invariant-loop-number l = l.names.items ≡ l.fn.names.items ++ map gate_name (rising l.first (l.number - l.first))
