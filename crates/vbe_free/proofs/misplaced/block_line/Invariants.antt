use Rattle.std.proofs.Common.{◌≡◌, map, drop}
use Rattle.source_checks.specs.Lines.{first_line}
use Rattle.vbe_text.specs.Source.{assignment_view}
use Rattle.vbe_free.specs.Filled.{block_free}
use Rattle.vbe_free.proofs.misplaced.block_line.Given as goal

abbrev pub invariant-loop-assignment : goal.invariant-loop-assignment
invariant-loop-assignment l =
    first_line (block_free (map assignment_view (drop l.assignment-index l.assignments))) ≡ first_line (block_free (map assignment_view l.assignments))
