use Rattle.std.proofs.Common.{◌++◌, Some, None, sym, append_assoc}
use Rattle.std.specs.Option.{option_copied}
use Rattle.vlsi_base.specs.Tree.{view}
use Rattle.source_checks.specs.declared.statement.Guarded.{Guarded}
use Rattle.source_checks.specs.Lines.{first_line}
use Rattle.source_checks.specs.Places.{in_alternatives}
use Rattle.source_checks.specs.Clock.{clock_lines}
use Rattle.source_checks.proofs.Turns.{turn}
use Rattle.source_checks.proofs.FirstLines.{first_line_append}
use Rattle.source_clock.proofs.reads.clock_line_in_alternatives.Goals as goal

pub returns-in-Some : goal.returns-in-Some
returns-in-Some c =
    let look = clock_lines (option_copied c.args.clock) in
    turn first_line first_line_append (λ (g : Guarded). look (view g.value) ++ look (view g.condition)) (in_alternatives look (λ line e. look e)) (λ g rest. sym (append_assoc (look (view g.value)) (look (view g.condition)) (in_alternatives look (λ line e. look e) rest))) c.args.alternatives.now c.loop-guarded.guarded-index c.guarded-item.result _ c.loop-guarded-test.true c.guarded-item.is c.loop-guarded.invariant (Some c.in-Some.line) c.in-Some.ensures

pub loop-guarded-preserved : goal.loop-guarded-preserved
loop-guarded-preserved c =
    let look = clock_lines (option_copied c.args.clock) in
    turn first_line first_line_append (λ (g : Guarded). look (view g.value) ++ look (view g.condition)) (in_alternatives look (λ line e. look e)) (λ g rest. sym (append_assoc (look (view g.value)) (look (view g.condition)) (in_alternatives look (λ line e. look e) rest))) c.args.alternatives.now c.loop-guarded.guarded-index c.guarded-item.result _ c.loop-guarded-test.true c.guarded-item.is c.loop-guarded.invariant None c.in_default.ensures
