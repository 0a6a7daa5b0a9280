use Rattle.std.proofs.Common.{◌≡◌, take, drop}
use Rattle.pat_io.specs.Known.{unknown_behind, unknown_faults}
use Rattle.pat_io.specs.PatternText.{first_fault}
use Rattle.pat_io.proofs.known.unknown.Given as goal

abbrev pub invariant-loop-place : goal.invariant-loop-place
invariant-loop-place l = first_fault (unknown_behind l.ports (take l.place l.columns) (drop l.place l.columns)) ≡ first_fault (unknown_faults l.ports l.columns)
