use Rattle.std.proofs.Common.{rules, refl, map, Some, None, ◌≡◌, List, ℕ}
use Rattle.std.specs.Option.{option_copied}
use Rattle.vlsi_base.specs.declared.expression.ParsedExpr.{ParsedExpr}
use Rattle.vlsi_base.specs.declared.expression.ParsedExpr.TheViews.{the_lemmas}
use Rattle.vlsi_base.specs.Tree.{view, operand_of, folded}
use Rattle.vlsi_base.proofs.Groups.{grouped_is}
use Rattle.source_checks.specs.Lines.{first_line, in_operands}
use Rattle.source_checks.specs.Clock.{clock_lines}
use Rattle.source_checks.proofs.Turns.{turn}
use Rattle.source_checks.proofs.FirstLines.{first_line_append, line_in_chain}
use Rattle.source_clock.proofs.reads.+clock_line.Goals as goal

pub clock_line-returns-in-Some-clock_line : goal.clock_line-returns-in-Some-clock_line
clock_line-returns-in-Some-clock_line t c =
    let look = clock_lines (option_copied c.args.clock) in
    let es = map operand_of c.in-Chain.others.items in
    let viewed : view c.args.e.now ≡ folded c.in-Chain.field-0 (view c.in-Chain.first.value) es = search (rules, the_lemmas, grouped_is) in
    line_in_chain look (λ _ _ _ _. refl) (view c.args.e.now) (view c.in-Chain.first.value) c.in-Chain.field-0 es (Some c.in-Some-clock_line.line) (first_line (in_operands look es)) viewed (search rules) refl

pub clock_line-returns-in-None-clock_line : goal.clock_line-returns-in-None-clock_line
clock_line-returns-in-None-clock_line t c =
    let look = clock_lines (option_copied c.args.clock) in
    let es = map operand_of c.in-Chain.others.items in
    let viewed : view c.args.e.now ≡ folded c.in-Chain.field-0 (view c.in-Chain.first.value) es = search (rules, the_lemmas, grouped_is) in
    line_in_chain look (λ _ _ _ _. refl) (view c.args.e.now) (view c.in-Chain.first.value) c.in-Chain.field-0 es None c.clock_line_among.result viewed (search rules) (search rules)

pub clock_line_among-returns-in-Some : goal.clock_line_among-returns-in-Some
clock_line_among-returns-in-Some t c =
    let look = clock_lines (option_copied c.args.clock) in
    turn first_line first_line_append (λ (e : ℕ × ParsedExpr). look (view e.1)) (λ (es : List (ℕ × ParsedExpr)). in_operands look (map operand_of es)) (λ _ _. refl) c.args.others.now c.loop-e.e-index c.loop-e-item.result _ c.loop-e-test.true c.loop-e-item.is c.loop-e.invariant (Some c.in-Some.line) c.in-Some.ensures

pub clock_line_among-loop-e-preserved : goal.clock_line_among-loop-e-preserved
clock_line_among-loop-e-preserved t c =
    let look = clock_lines (option_copied c.args.clock) in
    turn first_line first_line_append (λ (e : ℕ × ParsedExpr). look (view e.1)) (λ (es : List (ℕ × ParsedExpr)). in_operands look (map operand_of es)) (λ _ _. refl) c.args.others.now c.loop-e.e-index c.loop-e-item.result _ c.loop-e-test.true c.loop-e-item.is c.loop-e.invariant None c.in_default.ensures
