use Rattle.std.proofs.Common.{map, ap, ◌∙◌}
use Rattle.machine_core.specs.View.{register_view}
use Rattle.cell_function.proofs.Values.{over_first}
use Rattle.cell_function.proofs.storage.keeps.Goals as goal

pub value-requires : goal.value-requires
value-requires c =
    (over_first c.args.machine.now c.in_ok-w.w c.as_slice.result.now c.index-as_slice-0.result c.registers.ensures.checked (ap (map register_view) c.as_slice.ensures ∙ c.registers.ensures.value)
    c.in_ok-w.ensures.settles.each c.requires.stored c.index-as_slice-0.is).0

pub value-requires-2 : goal.value-requires-2
value-requires-2 c =
    (over_first c.args.machine.now c.in_ok-w.w c.as_slice.result.now c.index-as_slice-0.result c.registers.ensures.checked (ap (map register_view) c.as_slice.ensures ∙ c.registers.ensures.value)
    c.in_ok-w.ensures.settles.each c.requires.stored c.index-as_slice-0.is).1
