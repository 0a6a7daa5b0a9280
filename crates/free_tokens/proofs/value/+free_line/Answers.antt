use Rattle.std.proofs.Common.{rules, ◌≡◌, ◌∙◌, ap, sym, map}
use Rattle.vlsi_base.specs.declared.expression.ParsedExpr.{ParsedExpr}
use Rattle.vlsi_base.specs.declared.expression.ParsedExpr.TheViews.{the_lemmas}
use Rattle.vlsi_base.specs.Tree.{Tree, view, operand_of, folded}
use Rattle.vlsi_base.proofs.Groups.{grouped_is}
use Rattle.source_clock.proofs.Chains.{lone_chain, pair_chain}
use Rattle.free_tokens.specs.Filled.{free_line}
use Rattle.free_tokens.proofs.value.+free_line.Goals as goal

pub returns-then-is_empty : goal.returns-then-is_empty
returns-then-is_empty t c =
    let viewed : view c.args.e.now ≡ folded c.in-Chain.field-0 (view c.in-Chain.first.value) (map operand_of c.in-Chain.others.items) = search (rules, the_lemmas, grouped_is) in
    c.free_line.ensures ∙ ap (λ (x : ParsedExpr). free_line (view x)) c.deref.ensures
    ∙ ap (λ (x : Tree). free_line x) (sym (lone_chain _ _ _ _ viewed c.in-Chain.others.ok.0 (sym c.is_empty.ensures ∙ c.if-is_empty.true)))

pub returns-else-is_empty : goal.returns-else-is_empty
returns-else-is_empty t c =
    let viewed : view c.args.e.now ≡ folded c.in-Chain.field-0 (view c.in-Chain.first.value) (map operand_of c.in-Chain.others.items) = search (rules, the_lemmas, grouped_is) in
    ap (λ (x : Tree). free_line x) (sym (pair_chain _ _ _ _ viewed c.in-Chain.others.ok.0 (sym c.is_empty.ensures ∙ c.if-is_empty.false)).is)
