use Rattle.std.proofs.Common.{◌≡◌, map, drop}
use Rattle.source_checks.specs.Drivers.{is_among}
use Rattle.vbe_text.specs.Source.{assignment_view}
use Rattle.vbe_free.specs.Filled.{each_reads}
use Rattle.vbe_free.proofs.reading.assignments_read.Given as goal

abbrev pub invariant-loop-assignment : goal.invariant-loop-assignment
invariant-loop-assignment l =
    is_among (each_reads l.table (map assignment_view (drop l.assignment-index l.assignments))) (record { text = l.of; bit = l.bit })
    ≡ is_among (each_reads l.table (map assignment_view l.assignments)) (record { text = l.of; bit = l.bit })
