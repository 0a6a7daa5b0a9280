use Rattle.std.proofs.Common.{◌∙◌, map, length, ap}
use Rattle.machine_core.specs.View.{register_view}
use Rattle.vbe_print.proofs.Naming.{stored_over}
use Rattle.vbe_print.proofs.writer.storage.Goals as goal

pub clocked-requires : goal.clocked-requires
clocked-requires c =
    stored_over c.args.machine.now c.as_slice-stored.result.now (length c.args.speller.now.names.now) c.registers.ensures.checked
    (ap (map register_view) c.as_slice-stored.ensures ∙ c.registers.ensures.value) c.requires
