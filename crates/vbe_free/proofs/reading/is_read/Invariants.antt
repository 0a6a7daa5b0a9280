use Rattle.std.proofs.Common.{◌≡◌, map, drop}
use Rattle.source_checks.specs.Drivers.{is_among}
use Rattle.vbe_text.specs.Source.{statement_view}
use Rattle.vbe_free.specs.Filled.{source_reads}
use Rattle.vbe_free.proofs.reading.is_read.Given as goal

abbrev pub invariant-loop-statement : goal.invariant-loop-statement
invariant-loop-statement l =
    is_among (source_reads l.table (map statement_view (drop l.statement-index l.statements))) (record { text = l.of; bit = l.bit })
    ≡ is_among (source_reads l.table (map statement_view l.statements)) (record { text = l.of; bit = l.bit })
