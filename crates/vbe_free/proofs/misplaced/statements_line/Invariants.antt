use Rattle.std.proofs.Common.{◌≡◌, map, drop}
use Rattle.source_checks.specs.Lines.{first_line}
use Rattle.vbe_text.specs.Source.{statement_view}
use Rattle.vbe_free.specs.Filled.{source_reads, each_misplaced}
use Rattle.vbe_free.proofs.misplaced.statements_line.Given as goal

abbrev pub invariant-loop-statement : goal.invariant-loop-statement
invariant-loop-statement l =
    first_line (each_misplaced l.table (source_reads l.table (map statement_view l.statements)) (map statement_view (drop l.statement-index l.statements)))
    ≡ first_line (each_misplaced l.table (source_reads l.table (map statement_view l.statements)) (map statement_view l.statements))
