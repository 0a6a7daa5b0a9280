use Rattle.std.proofs.Common.{rules, refl, map, Some, None, ◌≡◌}
use Rattle.std.specs.Prelude.{option_map}
use Rattle.vlsi_base.specs.declared.expression.ParsedExpr.TheViews.{the_lemmas}
use Rattle.vlsi_base.specs.Tree.{view, operand_of, folded}
use Rattle.vlsi_base.proofs.Groups.{grouped_is}
use Rattle.source_checks.specs.Places.{first_unknown}
use Rattle.source_checks.specs.Uses.{use_of, reads_among}
use Rattle.source_checks.proofs.Unknowns.{in_chain, operands_turn}
use Rattle.source_checks.proofs.undeclared.+unknown.Goals as goal

pub unknown_read-returns-in-Some-unknown_read : goal.unknown_read-returns-in-Some-unknown_read
unknown_read-returns-in-Some-unknown_read t c =
    let es = map operand_of c.in-Chain.others.items in
    let viewed : view c.args.e.now ≡ folded c.in-Chain.field-0 (view c.in-Chain.first.value) es = search (rules, the_lemmas, grouped_is) in
    in_chain c.args.table.now (view c.args.e.now) (view c.in-Chain.first.value) c.in-Chain.field-0 es (Some (use_of c.in-Some-unknown_read.place)) (first_unknown c.args.table.now (reads_among es)) viewed (search rules) refl

pub unknown_read-returns-in-None-unknown_read : goal.unknown_read-returns-in-None-unknown_read
unknown_read-returns-in-None-unknown_read t c =
    let es = map operand_of c.in-Chain.others.items in
    let viewed : view c.args.e.now ≡ folded c.in-Chain.field-0 (view c.in-Chain.first.value) es = search (rules, the_lemmas, grouped_is) in
    in_chain c.args.table.now (view c.args.e.now) (view c.in-Chain.first.value) c.in-Chain.field-0 es None (option_map use_of c.unknown_among.result) viewed (search rules) (search rules)

pub unknown_among-returns-in-Some : goal.unknown_among-returns-in-Some
unknown_among-returns-in-Some t c =
    operands_turn c.args.table.now c.args.others.now c.loop-e.e-index c.loop-e-item.result _ c.loop-e-test.true c.loop-e-item.is c.loop-e.invariant (Some (use_of c.in-Some.place)) c.in-Some.ensures

pub unknown_among-loop-e-preserved : goal.unknown_among-loop-e-preserved
unknown_among-loop-e-preserved t c =
    operands_turn c.args.table.now c.args.others.now c.loop-e.e-index c.loop-e-item.result _ c.loop-e-test.true c.loop-e-item.is c.loop-e.invariant None c.in_default.ensures
