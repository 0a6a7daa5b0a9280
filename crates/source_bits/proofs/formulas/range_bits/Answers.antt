use Rattle.std.proofs.Common.{map, ◌∙◌, ap, List, ℕ, Option}
use Rattle.bool_expr.specs.Expression.{Expression}
use Rattle.bool_expr.specs.View.{view}
use Rattle.source_checks.specs.Symbols.{all_names}
use Rattle.source_bits.specs.Numbering.{named_bit}
use Rattle.source_bits.specs.Formulas.{leaf_in}
use Rattle.source_bits.proofs.Leaves.{in_range}
use Rattle.source_bits.proofs.formulas.range_bits.Goals as goal

pub returns : goal.returns
returns c =
    let vars = all_names c.args.numbers.now in
    let text = c.args.text.now in
    let leafs : List (Option ℕ) → List Expression = λ (bs : List (Option ℕ)). map (λ b. leaf_in c.total.result c.declared-declared.result (named_bit text b)) bs in
    in_range vars c.total.result c.declared-declared.result text c.in_ok-bits.bits.items c.args.range (map view c.in_ok-made.made.items) c.total.ensures c.declared-declared.ensures.number (c.in_ok-bits.ensures text) (c.in_ok-made.ensures ∙ ap leafs c.deref.ensures.value)
