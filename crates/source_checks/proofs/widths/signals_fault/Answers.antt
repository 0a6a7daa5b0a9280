use Rattle.std.proofs.Common.{Some, None, refl}
use Rattle.vlsi_base.specs.declared.entity.SignalGroup.{SignalGroup}
use Rattle.source_checks.specs.Lines.{first_line}
use Rattle.source_checks.specs.Widths.{declared_faults, signal_faults}
use Rattle.source_checks.proofs.Turns.{turn}
use Rattle.source_checks.proofs.FirstLines.{first_line_append}
use Rattle.source_checks.proofs.widths.signals_fault.Goals as goal

pub returns-in-Some : goal.returns-in-Some
returns-in-Some c =
    turn first_line first_line_append (λ (g : SignalGroup). declared_faults g.kind.range) (signal_faults) (λ _ _. refl) c.args.groups.now c.loop-group.group-index c.group-item.result _ c.loop-group-test.true c.group-item.is c.loop-group.invariant (Some c.in-Some.line) c.in-Some.ensures

pub loop-group-preserved : goal.loop-group-preserved
loop-group-preserved c =
    turn first_line first_line_append (λ (g : SignalGroup). declared_faults g.kind.range) (signal_faults) (λ _ _. refl) c.args.groups.now c.loop-group.group-index c.group-item.result _ c.loop-group-test.true c.group-item.is c.loop-group.invariant None c.in_default.ensures
