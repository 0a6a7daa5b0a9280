use Rattle.std.proofs.Common.{Some, None, refl, sym, ◌∙◌}
use Rattle.std.specs.List.{flat_map}
use Rattle.source_checks.specs.Lines.{first_line}
use Rattle.source_checks.proofs.Turns.{turn}
use Rattle.source_checks.proofs.FirstLines.{first_line_append}
use Rattle.vst_io.specs.Faults.{component_faults}
use Rattle.vst_io.proofs.components.components_fault.Goals as goal

pub returns-in-Some : goal.returns-in-Some
returns-in-Some c =
    turn first_line first_line_append (component_faults c.args.known.now.table) (flat_map (component_faults c.args.known.now.table)) (λ _ _. refl) c.args.declarations.now c.loop-declaration.declaration-index c.declaration-item.result _ c.loop-declaration-test.true c.declaration-item.is c.loop-declaration.invariant (Some c.in-Some.line) (sym c.in-Some.is ∙ c.in_ok-found.ensures)

pub loop-declaration-preserved : goal.loop-declaration-preserved
loop-declaration-preserved c =
    turn first_line first_line_append (component_faults c.args.known.now.table) (flat_map (component_faults c.args.known.now.table)) (λ _ _. refl) c.args.declarations.now c.loop-declaration.declaration-index c.declaration-item.result _ c.loop-declaration-test.true c.declaration-item.is c.loop-declaration.invariant None (sym c.in_default.is ∙ c.in_ok-found.ensures)
