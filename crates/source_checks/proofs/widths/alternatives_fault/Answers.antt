use Rattle.std.proofs.Common.{◌++◌, Some, None, sym, append_assoc}
use Rattle.source_checks.specs.declared.statement.Guarded.{Guarded}
use Rattle.source_checks.specs.Lines.{first_line}
use Rattle.vlsi_base.specs.Tree.{view}
use Rattle.source_checks.specs.Places.{in_alternatives}
use Rattle.source_checks.specs.Widths.{width_faults, condition_faults}
use Rattle.source_checks.proofs.Turns.{turn}
use Rattle.source_checks.proofs.FirstLines.{first_line_append}
use Rattle.source_checks.proofs.ShortParts.{alternative_short}
use Rattle.source_checks.proofs.widths.alternatives_fault.Goals as goal

pub returns-in-Some : goal.returns-in-Some
returns-in-Some c =
    turn first_line first_line_append (λ (g : Guarded). width_faults c.args.table.now (view g.value) ++ condition_faults c.args.table.now g.line (view g.condition)) (in_alternatives (width_faults c.args.table.now) (condition_faults c.args.table.now)) (λ g rest. sym (append_assoc (width_faults c.args.table.now (view g.value)) (condition_faults c.args.table.now g.line (view g.condition)) (in_alternatives (width_faults c.args.table.now) (condition_faults c.args.table.now) rest))) c.args.alternatives.now c.loop-guarded.guarded-index c.guarded-item.result _ c.loop-guarded-test.true c.guarded-item.is c.loop-guarded.invariant (Some c.in-Some.line) c.in-Some.ensures

pub loop-guarded-preserved : goal.loop-guarded-preserved
loop-guarded-preserved c =
    turn first_line first_line_append (λ (g : Guarded). width_faults c.args.table.now (view g.value) ++ condition_faults c.args.table.now g.line (view g.condition)) (in_alternatives (width_faults c.args.table.now) (condition_faults c.args.table.now)) (λ g rest. sym (append_assoc (width_faults c.args.table.now (view g.value)) (condition_faults c.args.table.now g.line (view g.condition)) (in_alternatives (width_faults c.args.table.now) (condition_faults c.args.table.now) rest))) c.args.alternatives.now c.loop-guarded.guarded-index c.guarded-item.result _ c.loop-guarded-test.true c.guarded-item.is c.loop-guarded.invariant None c.in_default.ensures

pub guarded_fault-requires-clause-value : goal.guarded_fault-requires-clause-value
guarded_fault-requires-clause-value c = (alternative_short c.args.alternatives.now c.loop-guarded.guarded-index c.guarded-item.result c.loop-guarded-test.true c.guarded-item.is c.requires.short).0

pub guarded_fault-requires-clause-condition : goal.guarded_fault-requires-clause-condition
guarded_fault-requires-clause-condition c = (alternative_short c.args.alternatives.now c.loop-guarded.guarded-index c.guarded-item.result c.loop-guarded-test.true c.guarded-item.is c.requires.short).1
