use Rattle.std.proofs.Common.{Some, None, refl, sym, ◌∙◌}
use Rattle.std.specs.List.{flat_map}
use Rattle.source_checks.specs.Lines.{first_line}
use Rattle.source_checks.proofs.Turns.{turn}
use Rattle.source_checks.proofs.FirstLines.{first_line_append}
use Rattle.vst_io.specs.Faults.{instance_faults}
use Rattle.vst_io.proofs.maps.instances_fault.Goals as goal

pub returns-in-Some : goal.returns-in-Some
returns-in-Some c =
    turn first_line first_line_append (instance_faults c.args.known.now.table c.args.known.now.file) (flat_map (instance_faults c.args.known.now.table c.args.known.now.file)) (λ _ _. refl) c.args.instances.now c.loop-instance.instance-index c.instance-item.result _ c.loop-instance-test.true c.instance-item.is c.loop-instance.invariant (Some c.in-Some.line) (sym c.in-Some.is ∙ c.in_ok-found.ensures)

pub loop-instance-preserved : goal.loop-instance-preserved
loop-instance-preserved c =
    turn first_line first_line_append (instance_faults c.args.known.now.table c.args.known.now.file) (flat_map (instance_faults c.args.known.now.table c.args.known.now.file)) (λ _ _. refl) c.args.instances.now c.loop-instance.instance-index c.instance-item.result _ c.loop-instance-test.true c.instance-item.is c.loop-instance.invariant None (sym c.in_default.is ∙ c.in_ok-found.ensures)
