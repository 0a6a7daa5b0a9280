use Rattle.std.proofs.Common.{List, map, ap, sym, ◌∙◌}
use Rattle.vlsi_base.specs.Tree.{view as tree}
use Rattle.bool_expr.specs.View.{view}
use Rattle.source_checks.specs.declared.statement.Guarded.{Guarded}
use Rattle.source_checks.specs.Formula.{formulas}
use Rattle.source_bits.specs.Formulas.{alternatives_of}
use Rattle.source_bits.proofs.Choosing.{numbered_alternatives}
use Rattle.source_bits.proofs.choices.choice_bits.Goals as goal

pub returns : goal.returns
returns c =
    let known = c.args.numbers.now in
    let choice = c.args.choice.now in
    c.in_ok-made.ensures ∙ ap (λ (gs : List Guarded). alternatives_of known gs (map view c.in_ok-otherwise.otherwise.items)) c.as_slice.ensures
    ∙ ap (alternatives_of known choice.alternatives) c.in_ok-otherwise.ensures ∙ sym (numbered_alternatives known choice.alternatives (formulas known (tree choice.otherwise)))
