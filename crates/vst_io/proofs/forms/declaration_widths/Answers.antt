use Rattle.std.proofs.Common.{Some, None, refl}
use Rattle.std.specs.List.{flat_map}
use Rattle.source_checks.specs.Lines.{first_line}
use Rattle.source_checks.proofs.Turns.{turn}
use Rattle.source_checks.proofs.FirstLines.{first_line_append}
use Rattle.vst_io.specs.Faults.{declaration_widths}
use Rattle.vst_io.proofs.forms.declaration_widths.Goals as goal

pub returns-in-Some : goal.returns-in-Some
returns-in-Some c =
    turn first_line first_line_append declaration_widths (flat_map declaration_widths) (λ _ _. refl) c.args.declarations.now c.loop-declaration.declaration-index c.declaration-item.result _ c.loop-declaration-test.true c.declaration-item.is c.loop-declaration.invariant (Some c.in-Some.line) c.in-Some.ensures

pub loop-declaration-preserved : goal.loop-declaration-preserved
loop-declaration-preserved c =
    turn first_line first_line_append declaration_widths (flat_map declaration_widths) (λ _ _. refl) c.args.declarations.now c.loop-declaration.declaration-index c.declaration-item.result _ c.loop-declaration-test.true c.declaration-item.is c.loop-declaration.invariant None c.in_default.ensures
