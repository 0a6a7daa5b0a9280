use Rattle.std.proofs.Common.{◌≡◌, map, drop}
use Rattle.source_checks.specs.Lines.{first_line}
use Rattle.vbe_text.specs.Source.{guarded_view}
use Rattle.vbe_free.specs.Filled.{alternatives_free}
use Rattle.vbe_free.proofs.misplaced.alternatives_line.Given as goal

abbrev pub invariant-loop-guarded : goal.invariant-loop-guarded
invariant-loop-guarded l =
    first_line (alternatives_free (map guarded_view (drop l.guarded-index l.alternatives))) ≡ first_line (alternatives_free (map guarded_view l.alternatives))
