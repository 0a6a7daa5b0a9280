use Rattle.std.proofs.Common.{◌≡◌, map, drop}
use Rattle.source_checks.specs.Drivers.{is_among}
use Rattle.vbe_text.specs.Source.{guarded_view}
use Rattle.vbe_free.specs.Filled.{alternatives_read}
use Rattle.vbe_free.proofs.reading.alternatives_read.Given as goal

abbrev pub invariant-loop-guarded : goal.invariant-loop-guarded
invariant-loop-guarded l =
    is_among (alternatives_read l.table (map guarded_view (drop l.guarded-index l.alternatives))) (record { text = l.of; bit = l.bit })
    ≡ is_among (alternatives_read l.table (map guarded_view l.alternatives)) (record { text = l.of; bit = l.bit })
