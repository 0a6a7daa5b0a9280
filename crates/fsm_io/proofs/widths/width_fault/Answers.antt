use Rattle.fsm_text.specs.Written.{machine_view}
use Rattle.fsm_io.proofs.Short.{short_mentions}
use Rattle.fsm_io.proofs.widths.width_fault.Goals as goal

pub fault_in_mentions-requires : goal.fault_in_mentions-requires
fault_in_mentions-requires c = short_mentions (machine_view c.args.file.now) c.args.mentions.now c.requires.short c.requires.mentions
