use Rattle.std.proofs.Common.{rules, ◌≡◌, ◌∙◌, ap, sym, map}
use Rattle.vlsi_base.specs.declared.expression.ParsedExpr.{ParsedExpr}
use Rattle.vlsi_base.specs.declared.expression.ParsedExpr.TheViews.{the_lemmas}
use Rattle.vlsi_base.specs.Tree.{Tree, view, operand_of, folded}
use Rattle.vlsi_base.proofs.Groups.{grouped_is}
use Rattle.source_clock.specs.Operands.{is_one}
use Rattle.source_clock.proofs.Chains.{lone_chain, pair_chain}
use Rattle.source_clock.proofs.guards.+is_one.Goals as goal

pub returns-then-is_empty : goal.returns-then-is_empty
returns-then-is_empty t c =
    let viewed : view c.args.e.now ≡ folded c.in-Chain.field-0 (view c.in-Chain.first.value) (map operand_of c.in-Chain.others.items) = search (rules, the_lemmas, grouped_is) in
    c.is_one.ensures ∙ ap (λ (x : ParsedExpr). is_one (view x)) c.deref.ensures
    ∙ ap (λ (x : Tree). is_one x) (sym (lone_chain _ _ _ _ viewed c.in-Chain.others.ok.0 (sym c.is_empty.ensures ∙ c.if-is_empty.true)))

pub returns-else-is_empty : goal.returns-else-is_empty
returns-else-is_empty t c =
    let viewed : view c.args.e.now ≡ folded c.in-Chain.field-0 (view c.in-Chain.first.value) (map operand_of c.in-Chain.others.items) = search (rules, the_lemmas, grouped_is) in
    c.if-is_empty.false ∙ ap (λ (x : Tree). is_one x) (sym (pair_chain _ _ _ _ viewed c.in-Chain.others.ok.0 (sym c.is_empty.ensures ∙ c.if-is_empty.false)).is)
