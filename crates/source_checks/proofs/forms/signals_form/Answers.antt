use Rattle.std.proofs.Common.{Some, None, refl}
use Rattle.source_checks.specs.Lines.{first_line}
use Rattle.source_checks.specs.Unsupported.{signal_form, signal_forms}
use Rattle.source_checks.proofs.Turns.{turn}
use Rattle.source_checks.proofs.FirstLines.{first_line_append}
use Rattle.source_checks.proofs.forms.signals_form.Goals as goal

pub returns-in-Some : goal.returns-in-Some
returns-in-Some c =
    turn first_line first_line_append (signal_form) (signal_forms) (λ _ _. refl) c.args.groups.now c.loop-group.group-index c.group-item.result _ c.loop-group-test.true c.group-item.is c.loop-group.invariant (Some c.in-Some.line) c.in-Some.ensures

pub loop-group-preserved : goal.loop-group-preserved
loop-group-preserved c =
    turn first_line first_line_append (signal_form) (signal_forms) (λ _ _. refl) c.args.groups.now c.loop-group.group-index c.group-item.result _ c.loop-group-test.true c.group-item.is c.loop-group.invariant None c.in_default.ensures
