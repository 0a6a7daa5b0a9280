use Rattle.std.proofs.Common.{rules, refl, map, Some, None, ◌≡◌, List, ℕ}
use Rattle.vlsi_base.specs.declared.expression.ParsedExpr.{ParsedExpr}
use Rattle.vlsi_base.specs.declared.expression.ParsedExpr.TheViews.{the_lemmas}
use Rattle.vlsi_base.specs.Tree.{view, operand_of, folded}
use Rattle.vlsi_base.proofs.Groups.{grouped_is}
use Rattle.source_checks.specs.Lines.{first_line, in_operands}
use Rattle.source_checks.specs.Unsupported.{literal_faults}
use Rattle.source_checks.proofs.Turns.{turn}
use Rattle.source_checks.proofs.FirstLines.{first_line_append, line_in_chain}
use Rattle.source_checks.proofs.forms.+literal.Goals as goal

pub literal_fault-returns-in-Some-literal_fault : goal.literal_fault-returns-in-Some-literal_fault
literal_fault-returns-in-Some-literal_fault t c =
    let es = map operand_of c.in-Chain.others.items in
    let viewed : view c.args.e.now ≡ folded c.in-Chain.field-0 (view c.in-Chain.first.value) es = search (rules, the_lemmas, grouped_is) in
    line_in_chain literal_faults (λ _ _ _ _. refl) (view c.args.e.now) (view c.in-Chain.first.value) c.in-Chain.field-0 es (Some c.in-Some-literal_fault.line) (first_line (in_operands literal_faults es)) viewed (search rules) refl

pub literal_fault-returns-in-None-literal_fault : goal.literal_fault-returns-in-None-literal_fault
literal_fault-returns-in-None-literal_fault t c =
    let es = map operand_of c.in-Chain.others.items in
    let viewed : view c.args.e.now ≡ folded c.in-Chain.field-0 (view c.in-Chain.first.value) es = search (rules, the_lemmas, grouped_is) in
    line_in_chain literal_faults (λ _ _ _ _. refl) (view c.args.e.now) (view c.in-Chain.first.value) c.in-Chain.field-0 es None c.literal_fault_among.result viewed (search rules) (search rules)

pub literal_fault_among-returns-in-Some : goal.literal_fault_among-returns-in-Some
literal_fault_among-returns-in-Some t c =
    turn first_line first_line_append (λ (e : ℕ × ParsedExpr). literal_faults (view e.1)) (λ (es : List (ℕ × ParsedExpr)). in_operands literal_faults (map operand_of es)) (λ _ _. refl) c.args.others.now c.loop-e.e-index c.loop-e-item.result _ c.loop-e-test.true c.loop-e-item.is c.loop-e.invariant (Some c.in-Some.line) c.in-Some.ensures

pub literal_fault_among-loop-e-preserved : goal.literal_fault_among-loop-e-preserved
literal_fault_among-loop-e-preserved t c =
    turn first_line first_line_append (λ (e : ℕ × ParsedExpr). literal_faults (view e.1)) (λ (es : List (ℕ × ParsedExpr)). in_operands literal_faults (map operand_of es)) (λ _ _. refl) c.args.others.now c.loop-e.e-index c.loop-e-item.result _ c.loop-e-test.true c.loop-e-item.is c.loop-e.invariant None c.in_default.ensures
