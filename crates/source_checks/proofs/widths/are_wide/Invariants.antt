use Rattle.std.proofs.Common.{◌≡◌, drop}
use Rattle.vlsi_base.specs.Tree.{view}
use Rattle.source_checks.specs.Widths.{all_wide}
use Rattle.source_checks.proofs.widths.are_wide.Given as goal

abbrev pub invariant-loop-guarded : goal.invariant-loop-guarded
invariant-loop-guarded l = all_wide l.table l.n (drop l.guarded-index l.alternatives) (view l.otherwise) ≡ all_wide l.table l.n l.alternatives (view l.otherwise)
