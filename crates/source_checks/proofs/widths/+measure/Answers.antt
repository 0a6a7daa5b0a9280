use Rattle.std.proofs.Common.{rules, map, ◌≡◌, subst}
use Rattle.vlsi_base.specs.declared.expression.ParsedExpr.TheViews.{the_lemmas}
use Rattle.vlsi_base.specs.Tree.{view, operand_of, binary, folded}
use Rattle.vlsi_base.proofs.Groups.{grouped_is}
use Rattle.source_checks.specs.Operators.{operators, IsShort}
use Rattle.source_checks.proofs.Chains.{begins, first_short, operand_short, half, half_so_far, goes_on, all_is, all_narrow}
use Rattle.source_checks.proofs.Measures.{measured_binary}
use Rattle.source_checks.proofs.widths.+measure.Goals as goal

pub measure_chain-measure_expression-next-requires : goal.measure_chain-measure_expression-next-requires
measure_chain-measure_expression-next-requires t c =
    let (whole, so_far, short) = c.requires.short in
    (search (rules, the_lemmas), operand_short c.args.others.now c.loop-line.line-index c.loop-line-item.result c.loop-line-test.true c.loop-line-item.is (c.loop-line.invariant whole so_far) short)

pub measure_chain-joined-all-requires-clause-first : goal.measure_chain-joined-all-requires-clause-first
measure_chain-joined-all-requires-clause-first t c =
    let (whole, so_far, short) = c.requires.short in
    half_so_far (c.loop-line.invariant whole so_far) short

pub measure_chain-joined-all-requires-clause-second : goal.measure_chain-joined-all-requires-clause-second
measure_chain-joined-all-requires-clause-second t c =
    let (whole, so_far, short) = c.requires.short in
    half (operators (view c.loop-line-item.result.1)) c.measure_expression-next.result.width
    (operand_short c.args.others.now c.loop-line.line-index c.loop-line-item.result c.loop-line-test.true c.loop-line-item.is (c.loop-line.invariant whole so_far) short) c.measure_expression-next.ensures.narrow

pub measure_chain-loop-line-preserved : goal.measure_chain-loop-line-preserved
measure_chain-loop-line-preserved t c = λ whole so_far.
    goes_on c.args.others.now c.loop-line.line-index c.loop-line-item.result c.measure_expression-next.result c.joined-all.result c.loop-line-test.true c.loop-line-item.is (c.loop-line.invariant whole so_far)
    c.measure_expression-next.ensures.is c.measure_expression-next.ensures.narrow c.joined-all.ensures

pub measure_expression-measure_chain-requires : goal.measure_expression-measure_chain-requires
measure_expression-measure_chain-requires t c =
    let viewed : view c.args.e.now ≡ folded c.in-Chain.operator (view c.deref-in-Chain.result.now) (map operand_of c.deref-in-Chain-2.result.now) = search (rules, the_lemmas, grouped_is) in
    (search (rules, the_lemmas), (view c.args.e.now, begins c.in-Chain.operator (view c.deref-in-Chain.result.now) (view c.args.e.now) c.measure_expression-first.result c.deref-in-Chain-2.result.now viewed c.measure_expression-first.ensures.is c.measure_expression-first.ensures.narrow, c.requires.short))

pub measure_expression-returns-in-Binary-clause-is : goal.measure_expression-returns-in-Binary-clause-is
measure_expression-returns-in-Binary-clause-is t c =
    let viewed : view c.args.e.now ≡ binary c.in-Binary.operator c.in-Binary.line (view c.deref-in-Binary.result.now) (view c.deref-in-Binary-2.result.now) = search (rules, the_lemmas) in
    measured_binary c.args.table.now (view c.args.e.now) (view c.deref-in-Binary.result.now) (view c.deref-in-Binary-2.result.now) c.in-Binary.operator c.in-Binary.line c.measure_expression-left.result c.measure_expression-right.result c.joined.result viewed c.measure_expression-left.ensures.is c.measure_expression-right.ensures.is c.joined.ensures

pub measure_chain-returns-clause-is : goal.measure_chain-returns-clause-is
measure_chain-returns-clause-is t c = λ whole so_far. all_is c.args.others.now c.loop-line.line-index c.loop-line-test.false (c.loop-line.invariant whole so_far)

pub measure_chain-returns-clause-narrow : goal.measure_chain-returns-clause-narrow
measure_chain-returns-clause-narrow t c = λ whole so_far. all_narrow c.args.others.now c.loop-line.line-index c.loop-line-test.false (c.loop-line.invariant whole so_far)

pub measure_expression-measure_expression-first-requires : goal.measure_expression-measure_expression-first-requires
measure_expression-measure_expression-first-requires t c =
    let viewed : view c.args.e.now ≡ folded c.in-Chain.operator (view c.deref-in-Chain.result.now) (map operand_of c.in-Chain.others.items) = search (rules, the_lemmas, grouped_is) in
    (search (rules, the_lemmas), first_short c.in-Chain.operator (view c.deref-in-Chain.result.now) (map operand_of c.in-Chain.others.items) (subst IsShort viewed c.requires.short))

pub measure_expression-returns-in-Chain-clause-is : goal.measure_expression-returns-in-Chain-clause-is
measure_expression-returns-in-Chain-clause-is t c =
    let viewed : view c.args.e.now ≡ folded c.in-Chain.operator (view c.deref-in-Chain.result.now) (map operand_of c.deref-in-Chain-2.result.now) = search (rules, the_lemmas, grouped_is) in
    c.measure_chain.ensures.is (view c.args.e.now) (begins c.in-Chain.operator (view c.deref-in-Chain.result.now) (view c.args.e.now) c.measure_expression-first.result c.deref-in-Chain-2.result.now viewed c.measure_expression-first.ensures.is c.measure_expression-first.ensures.narrow)

pub measure_expression-returns-in-Chain-clause-narrow : goal.measure_expression-returns-in-Chain-clause-narrow
measure_expression-returns-in-Chain-clause-narrow t c =
    let viewed : view c.args.e.now ≡ folded c.in-Chain.operator (view c.deref-in-Chain.result.now) (map operand_of c.deref-in-Chain-2.result.now) = search (rules, the_lemmas, grouped_is) in
    c.measure_chain.ensures.narrow (view c.args.e.now) (begins c.in-Chain.operator (view c.deref-in-Chain.result.now) (view c.args.e.now) c.measure_expression-first.result c.deref-in-Chain-2.result.now viewed c.measure_expression-first.ensures.is c.measure_expression-first.ensures.narrow)
