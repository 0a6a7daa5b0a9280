use Rattle.std.proofs.Common.{rules, ◌≡◌, ◌∙◌, [], cond, map, Bor, IfSome, IfNone, ap, sym, subst, arith}
use Rattle.vlsi_base.specs.declared.expression.ParsedExpr.{ParsedExpr}
use Rattle.vlsi_base.specs.declared.expression.ParsedExpr.TheViews.{the_lemmas}
use Rattle.vlsi_base.specs.Tree.{Tree, view, operand_of, folded, binary}
use Rattle.vlsi_base.proofs.Groups.{grouped_is}
use Rattle.source_checks.specs.Clock.{without_one, parts_of, steady_names}
use Rattle.source_clock.specs.Operands.{is_one}
use Rattle.source_clock.proofs.Chains.{lone_chain, pair_chain, two_chain, deep_of}
use Rattle.source_clock.proofs.Joining.{right_one, no_relation_pair}
use Rattle.source_clock.proofs.Steady.{unsteady_deep}
use Rattle.source_clock.proofs.guards.+without_one.Goals as goal

pub returns-then-is_empty-clause-some : goal.returns-then-is_empty-clause-some
returns-then-is_empty-clause-some t c =
    let viewed : view c.args.e.now ≡ folded c.in-Chain.operator (view c.in-Chain.first.value) (map operand_of c.in-Chain.others.items) = search (rules, the_lemmas, grouped_is) in
    let same : view c.deref-then-is_empty.result.now ≡ view c.args.e.now = ap view c.deref-then-is_empty.ensures ∙ sym (lone_chain _ _ _ _ viewed c.in-Chain.others.ok.0 (sym c.is_empty.ensures ∙ c.if-is_empty.true)) in
    subst (λ (x : Tree). IfSome c.without_one.result (λ (r : Bor ParsedExpr). view r.now ≡ without_one x)) same c.without_one.ensures.some

pub returns-then-is_empty-clause-none : goal.returns-then-is_empty-clause-none
returns-then-is_empty-clause-none t c =
    let viewed : view c.args.e.now ≡ folded c.in-Chain.operator (view c.in-Chain.first.value) (map operand_of c.in-Chain.others.items) = search (rules, the_lemmas, grouped_is) in
    let same : view c.deref-then-is_empty.result.now ≡ view c.args.e.now = ap view c.deref-then-is_empty.ensures ∙ sym (lone_chain _ _ _ _ viewed c.in-Chain.others.ok.0 (sym c.is_empty.ensures ∙ c.if-is_empty.true)) in
    subst (λ (x : Tree). IfNone c.without_one.result (steady_names (parts_of x) ≡ [])) same c.without_one.ensures.none

pub returns-then-not-is_equal-clause-some : goal.returns-then-not-is_equal-clause-some
returns-then-not-is_equal-clause-some t c =
    let viewed : view c.args.e.now ≡ folded c.in-Chain.operator (view c.in-Chain.first.value) (map operand_of c.in-Chain.others.items) = search (rules, the_lemmas, grouped_is) in
    no_relation_pair c.in-Chain.operator (view c.args.e.now) (pair_chain _ _ _ _ viewed c.in-Chain.others.ok.0 (sym c.is_empty.ensures ∙ c.if-is_empty.false)) (sym c.is_equal-in-Chain.ensures ∙ c.if-not-is_equal.true)

pub returns-then-len-gt1-clause-none : goal.returns-then-len-gt1-clause-none
returns-then-len-gt1-clause-none t c =
    let viewed : view c.args.e.now ≡ folded c.in-Chain.operator (view c.in-Chain.first.value) (map operand_of c.in-Chain.others.items) = search (rules, the_lemmas, grouped_is) in
    unsteady_deep c.in-Chain.operator (view c.args.e.now) (deep_of (view c.args.e.now) (view c.in-Chain.first.value) c.in-Chain.operator c.in-Chain.others.items viewed (omega (arith, c.in-Chain.others.ok.0, c.len.ensures, c.if-len-gt1.true)))
    (sym c.is_equal-in-Chain.ensures ∙ c.if-not-is_equal.false)

pub returns-then-is_one-2-clause-some : goal.returns-then-is_one-2-clause-some
returns-then-is_one-2-clause-some t c =
    let viewed : view c.args.e.now ≡ folded c.in-Chain.operator (view c.in-Chain.first.value) (map operand_of c.in-Chain.others.items) = search (rules, the_lemmas, grouped_is) in
    let two = two_chain _ _ _ _ c.index.result.now viewed c.in-Chain.others.ok.0 (sym c.is_empty.ensures ∙ c.if-is_empty.false) (omega (arith, c.in-Chain.others.ok.0, c.len.ensures, c.if-len-gt1.false)) c.index.ensures in
    let left = view c.in-Chain.first.value in
    let right = view c.index.result.now.1 in
    let whole = binary c.in-Chain.operator c.index.result.now.0 left right in
    let is : without_one whole ≡ cond (is_one right) left whole = right_one c.in-Chain.operator c.index.result.now.0 left right (sym c.is_equal-in-Chain.ensures ∙ c.if-not-is_equal.false) in
    ap view c.deref-then-is_one-2.ensures ∙ ap (λ b. cond b left whole) (sym (sym c.is_one-in-Chain.ensures ∙ c.if-is_one-2.true)) ∙ sym is ∙ ap without_one (sym two)

pub returns-else-is_one-2-clause-some : goal.returns-else-is_one-2-clause-some
returns-else-is_one-2-clause-some t c =
    let viewed : view c.args.e.now ≡ folded c.in-Chain.operator (view c.in-Chain.first.value) (map operand_of c.in-Chain.others.items) = search (rules, the_lemmas, grouped_is) in
    let two = two_chain _ _ _ _ c.index.result.now viewed c.in-Chain.others.ok.0 (sym c.is_empty.ensures ∙ c.if-is_empty.false) (omega (arith, c.in-Chain.others.ok.0, c.len.ensures, c.if-len-gt1.false)) c.index.ensures in
    let left = view c.in-Chain.first.value in
    let right = view c.index.result.now.1 in
    let whole = binary c.in-Chain.operator c.index.result.now.0 left right in
    let is : without_one whole ≡ cond (is_one right) left whole = right_one c.in-Chain.operator c.index.result.now.0 left right (sym c.is_equal-in-Chain.ensures ∙ c.if-not-is_equal.false) in
    two ∙ ap (λ b. cond b left whole) (sym (sym c.is_one-in-Chain.ensures ∙ c.if-is_one-2.false)) ∙ sym is ∙ ap without_one (sym two)
