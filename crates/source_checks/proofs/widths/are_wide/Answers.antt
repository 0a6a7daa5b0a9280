use Rattle.source_checks.proofs.ShortParts.{alternative_short}
use Rattle.source_checks.proofs.widths.are_wide.Goals as goal

pub measured-made-requires : goal.measured-made-requires
measured-made-requires c = record { short = (alternative_short c.args.alternatives.now c.loop-guarded.guarded-index c.guarded-item.result c.loop-guarded-test.true c.guarded-item.is c.requires.alternatives).0 }
