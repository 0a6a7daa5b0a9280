use Rattle.std.proofs.Common.{rules, ◌≡◌, ◌∙◌, map, ap, sym, arith}
use Rattle.vlsi_base.specs.declared.expression.ParsedExpr.{ParsedExpr}
use Rattle.vlsi_base.specs.declared.expression.ParsedExpr.TheViews.{the_lemmas}
use Rattle.vlsi_base.specs.Tree.{Tree, view, operand_of, folded}
use Rattle.vlsi_base.proofs.Groups.{grouped_is}
use Rattle.source_checks.specs.Clock.{is_name}
use Rattle.source_clock.specs.Operands.{is_beside_one}
use Rattle.source_clock.proofs.Chains.{lone_chain, pair_chain, two_chain, deep_of}
use Rattle.source_clock.proofs.Joining.{beside_one, no_clock_pair, no_clock_deep}
use Rattle.source_clock.proofs.guards.+is_clock.Goals as goal

pub returns-then-is_empty : goal.returns-then-is_empty
returns-then-is_empty t c =
    let viewed : view c.args.e.now ≡ folded c.in-Chain.operator (view c.in-Chain.first.value) (map operand_of c.in-Chain.others.items) = search (rules, the_lemmas, grouped_is) in
    c.is_clock.ensures ∙ ap (λ (x : Tree). is_name c.args.clock.now x) (ap view c.deref-then-is_empty.ensures ∙ sym (lone_chain _ _ _ _ viewed c.in-Chain.others.ok.0 (sym c.is_empty.ensures ∙ c.if-is_empty.true)))

pub returns-then-not-is_equal : goal.returns-then-not-is_equal
returns-then-not-is_equal t c =
    let viewed : view c.args.e.now ≡ folded c.in-Chain.operator (view c.in-Chain.first.value) (map operand_of c.in-Chain.others.items) = search (rules, the_lemmas, grouped_is) in
    no_clock_pair c.args.clock.now c.in-Chain.operator (view c.args.e.now) (pair_chain _ _ _ _ viewed c.in-Chain.others.ok.0 (sym c.is_empty.ensures ∙ c.if-is_empty.false)) (sym c.is_equal-in-Chain.ensures ∙ c.if-not-is_equal.true)

pub returns-then-len-gt1 : goal.returns-then-len-gt1
returns-then-len-gt1 t c =
    let viewed : view c.args.e.now ≡ folded c.in-Chain.operator (view c.in-Chain.first.value) (map operand_of c.in-Chain.others.items) = search (rules, the_lemmas, grouped_is) in
    no_clock_deep c.args.clock.now c.in-Chain.operator (view c.args.e.now) (deep_of (view c.args.e.now) (view c.in-Chain.first.value) c.in-Chain.operator c.in-Chain.others.items viewed (omega (arith, c.in-Chain.others.ok.0, c.len.ensures, c.if-len-gt1.true))) (sym c.is_equal-in-Chain.ensures ∙ c.if-not-is_equal.false)

pub returns-else-len-gt1 : goal.returns-else-len-gt1
returns-else-len-gt1 t c =
    let viewed : view c.args.e.now ≡ folded c.in-Chain.operator (view c.in-Chain.first.value) (map operand_of c.in-Chain.others.items) = search (rules, the_lemmas, grouped_is) in
    let two = two_chain _ _ _ _ c.index.result.now viewed c.in-Chain.others.ok.0 (sym c.is_empty.ensures ∙ c.if-is_empty.false) (omega (arith, c.in-Chain.others.ok.0, c.len.ensures, c.if-len-gt1.false)) c.index.ensures in
    let operator = c.in-Chain.operator in
    c.is_beside_one-in-Chain.ensures ∙ ap (λ (x : ParsedExpr). is_beside_one c.args.clock.now (view x) (view c.index.result.now.1)) c.deref-in-Chain.ensures
    ∙ sym (beside_one c.args.clock.now operator c.index.result.now.0 (view c.in-Chain.first.value) (view c.index.result.now.1) (sym c.is_equal-in-Chain.ensures ∙ c.if-not-is_equal.false))
    ∙ ap (λ (x : Tree). is_name c.args.clock.now x) (sym two)
