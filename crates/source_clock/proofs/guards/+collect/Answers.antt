use Rattle.std.proofs.Common.{rules, ◌≡◌, ◌∙◌, ◌++◌, map, ap, sym, subst}
use Rattle.std.specs.Prelude.{OnOk}
use Rattle.vlsi_base.specs.declared.expression.ParsedExpr.TheViews.{the_lemmas}
use Rattle.vlsi_base.specs.Tree.{Tree, view, operand_of, folded}
use Rattle.vlsi_base.proofs.Groups.{grouped_is}
use Rattle.source_checks.specs.Clock.{conjuncts}
use Rattle.source_clock.proofs.Chains.{lone_chain, pair_chain}
use Rattle.source_clock.proofs.Joining.{walked, pushed, single_pair, seen}
use Rattle.source_clock.proofs.guards.+collect.Goals as goal

pub collect-returns-then-is_empty : goal.collect-returns-then-is_empty
collect-returns-then-is_empty t c =
    let viewed : view c.args.e.now ≡ folded c.in-Chain.operator (view c.in-Chain.first.value) (map operand_of c.in-Chain.others.items) = search (rules, the_lemmas, grouped_is) in
    let same : view c.deref-then-is_empty.result.now ≡ view c.args.e.now = ap view c.deref-then-is_empty.ensures ∙ sym (lone_chain _ _ _ _ viewed c.in-Chain.others.ok.0 (sym c.is_empty.ensures ∙ c.if-is_empty.true)) in
    subst (λ (x : Tree). OnOk c.collect-then-is_empty.result (seen c.collect-then-is_empty.new.found.items ≡ seen c.args.found.now.items ++ conjuncts x)) same c.collect-then-is_empty.ensures

pub collect-returns-then-is_and-2 : goal.collect-returns-then-is_and-2
collect-returns-then-is_and-2 t c =
    let viewed : view c.args.e.now ≡ folded c.in-Chain.operator (view c.in-Chain.first.value) (map operand_of c.in-Chain.others.items) = search (rules, the_lemmas, grouped_is) in
    walked (seen c.args.found.now.items) (seen c.collect-then-is_and-2.new.found.items) (seen c.collect_all.new.found.items) (view c.args.e.now) (view c.in-Chain.first.value) c.in-Chain.operator (map operand_of c.in-Chain.others.items) viewed (search rules) (search rules) (search rules)

pub collect-returns-in_ok-push-in-Chain : goal.collect-returns-in_ok-push-in-Chain
collect-returns-in_ok-push-in-Chain t c =
    let viewed : view c.args.e.now ≡ folded c.in-Chain.operator (view c.in-Chain.first.value) (map operand_of c.in-Chain.others.items) = search (rules, the_lemmas, grouped_is) in
    pushed c.args.found.now.items c.push-in-Chain.new.self.items c.args.e c.in_ok-push-in-Chain.ensures.items (single_pair c.in-Chain.operator (view c.args.e.now) (pair_chain _ _ _ _ viewed c.in-Chain.others.ok.0 (sym c.is_empty.ensures ∙ c.if-is_empty.false)) (search rules))
