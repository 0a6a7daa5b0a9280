use Rattle.std.proofs.Common.{rules, ◌≡◌, ℕ, List, [], map, length, Option, refl, sym, ap, ◌∙◌, arith}
use Rattle.vlsi_base.specs.declared.expression.ParsedExpr.TheViews.{the_lemmas}
use Rattle.vlsi_base.specs.Tree.{view, operand_of, folded}
use Rattle.vlsi_base.proofs.Groups.{grouped_is}
use Rattle.source_checks.specs.Lines.{first_line}
use Rattle.vbe_free.specs.Filled.{free_lines}
use Rattle.vbe_free.proofs.Values.{chain_alone, chain_more, zero_of, some_of}
use Rattle.vbe_free.proofs.misplaced.+free_line.Goals as goal

pub returns-then-is_empty : goal.returns-then-is_empty
returns-then-is_empty t c =
    let long : length c.in-Chain.others.items ≡ c.in-Chain.others.len = search rules in
    let viewed : view c.args.value.now ≡ folded c.in-Chain.field-0 (view c.in-Chain.first.value) (map operand_of c.in-Chain.others.items) = search (rules, the_lemmas, grouped_is) in
    let here : c.free_line.result ≡ first_line (free_lines (view c.in-Chain.first.value)) = search rules in
    chain_alone operand_of c.in-Chain.field-0 (view c.args.value.now) (view c.in-Chain.first.value) c.in-Chain.others.items c.free_line.result viewed
    (long ∙ zero_of c.in-Chain.others.len c.is_empty.result c.is_empty.ensures c.if-is_empty.true) here

pub returns-else-is_empty : goal.returns-else-is_empty
returns-else-is_empty t c =
    let long : length c.in-Chain.others.items ≡ c.in-Chain.others.len = search rules in
    let viewed : view c.args.value.now ≡ folded c.in-Chain.field-0 (view c.in-Chain.first.value) (map operand_of c.in-Chain.others.items) = search (rules, the_lemmas, grouped_is) in
    chain_more operand_of c.in-Chain.field-0 (view c.args.value.now) (view c.in-Chain.first.value) c.in-Chain.others.items viewed
    (λ e. some_of c.in-Chain.others.len c.is_empty.result c.is_empty.ensures c.if-is_empty.false (sym long ∙ e))
