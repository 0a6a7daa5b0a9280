use Rattle.std.proofs.Common.{rules, ◌≡◌, ◌∙◌, ap, sym, map, List, ℕ}
use Rattle.vlsi_base.specs.declared.expression.ParsedExpr.TheViews.{the_lemmas}
use Rattle.vlsi_base.specs.Tree.{Tree, view, operand_of, folded}
use Rattle.vlsi_base.proofs.Groups.{grouped_is}
use Rattle.free_tokens.proofs.value.+copy.Goals as goal

pub copied_value-returns-in_ok-made-in-Chain : goal.copied_value-returns-in_ok-made-in-Chain
copied_value-returns-in_ok-made-in-Chain t c =
    let viewed : view c.args.e.now ≡ folded c.in-Chain.operator (view c.in-Chain.first.value) (map operand_of c.in-Chain.others.items) = search (rules, the_lemmas, grouped_is) in
    let first : view c.in_ok-first-in-Chain.first ≡ view c.in-Chain.first.value = search rules in
    let others : map operand_of c.in_ok-others-in-Chain.others.items ≡ map operand_of c.in-Chain.others.items = search rules in
    c.in_ok-made-in-Chain.ensures ∙ ap (λ (x : Tree). folded c.in-Chain.operator x (map operand_of c.in_ok-others-in-Chain.others.items)) first
    ∙ ap (λ (es : List (ℕ × Tree)). folded c.in-Chain.operator (view c.in-Chain.first.value) es) others ∙ sym viewed
