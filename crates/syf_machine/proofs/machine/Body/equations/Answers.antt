use Rattle.std.proofs.Common.{not, subst, sym, List}
use Rattle.vlsi_base.specs.declared.name.Name.{Name}
use Rattle.machine_core.specs.Checked.{AreInOrder}
use Rattle.machine_core.specs.Machine.{is_input}
use Rattle.syf_machine.proofs.Targeted.{outputs_in_order}
use Rattle.syf_machine.proofs.machine.Body.equations.Goals as goal

pub outputs-requires-2-clause-order : goal.outputs-requires-2-clause-order
outputs-requires-2-clause-order c =
    rw (c.deref.ensures.value, c.in_ok-outputs.ensures) (outputs_in_order (λ p. not (is_input p.dir)) c.args.ports.now c.requires.ports)
