use Rattle.std.proofs.Common.{◌≡◌, ℕ, List, Some, None, refl, map, rules}
use Rattle.vlsi_base.specs.declared.expression.ParsedExpr.{ParsedExpr}
use Rattle.vlsi_base.specs.declared.expression.ParsedExpr.TheViews.{the_lemmas}
use Rattle.vlsi_base.specs.Tree.{view, operand_of, folded}
use Rattle.vlsi_base.proofs.Groups.{grouped_is}
use Rattle.source_checks.specs.Lines.{first_line, in_operands}
use Rattle.source_checks.proofs.Turns.{turn}
use Rattle.source_checks.proofs.FirstLines.{first_line_append, line_in_chain}
use Rattle.fsm_io.specs.Pieces.{readable_forms}
use Rattle.fsm_io.proofs.forms.+forms.Goals as goal

pub read_fault-returns-in-Some-read_fault : goal.read_fault-returns-in-Some-read_fault
read_fault-returns-in-Some-read_fault t c =
    let es = map operand_of c.in-Chain.others.items in
    let viewed : view c.args.e.now ≡ folded c.in-Chain.field-0 (view c.in-Chain.first.value) es = search (rules, the_lemmas, grouped_is) in
    line_in_chain (readable_forms c.args.readable) (λ _ _ _ _. refl) (view c.args.e.now) (view c.in-Chain.first.value) c.in-Chain.field-0 es (Some c.in-Some-read_fault.line) (first_line (in_operands (readable_forms c.args.readable) es)) viewed (search rules) refl

pub read_fault-returns-in-None-read_fault : goal.read_fault-returns-in-None-read_fault
read_fault-returns-in-None-read_fault t c =
    let es = map operand_of c.in-Chain.others.items in
    let viewed : view c.args.e.now ≡ folded c.in-Chain.field-0 (view c.in-Chain.first.value) es = search (rules, the_lemmas, grouped_is) in
    line_in_chain (readable_forms c.args.readable) (λ _ _ _ _. refl) (view c.args.e.now) (view c.in-Chain.first.value) c.in-Chain.field-0 es None c.read_fault_among.result viewed (search rules) (search rules)

pub read_fault_among-returns-in-Some : goal.read_fault_among-returns-in-Some
read_fault_among-returns-in-Some t c =
    turn first_line first_line_append (λ (e : ℕ × ParsedExpr). readable_forms c.args.readable (view e.1)) (λ (es : List (ℕ × ParsedExpr)). in_operands (readable_forms c.args.readable) (map operand_of es)) (λ _ _. refl) c.args.others.now c.loop-e.e-index c.loop-e-item.result _ c.loop-e-test.true c.loop-e-item.is c.loop-e.invariant (Some c.in-Some.line) c.in-Some.ensures

pub read_fault_among-loop-e-preserved : goal.read_fault_among-loop-e-preserved
read_fault_among-loop-e-preserved t c =
    turn first_line first_line_append (λ (e : ℕ × ParsedExpr). readable_forms c.args.readable (view e.1)) (λ (es : List (ℕ × ParsedExpr)). in_operands (readable_forms c.args.readable) (map operand_of es)) (λ _ _. refl) c.args.others.now c.loop-e.e-index c.loop-e-item.result _ c.loop-e-test.true c.loop-e-item.is c.loop-e.invariant None c.in_default.ensures
