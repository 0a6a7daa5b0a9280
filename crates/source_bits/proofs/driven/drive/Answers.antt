use Rattle.std.proofs.Common.{List, ℕ, map, ap, ◌++◌, ◌∙◌}
use Rattle.bool_expr.specs.Expression.{Expression}
use Rattle.bool_expr.specs.View.{view}
use Rattle.source_checks.specs.Symbols.{all_names}
use Rattle.source_checks.specs.Formula.{place, choice_bits}
use Rattle.source_checks.specs.Drivers.{target_names}
use Rattle.source_bits.specs.Driven.{Numbered, driven_view, driven_pairs}
use Rattle.source_bits.proofs.DrivenBits.{driven_defined}
use Rattle.source_bits.proofs.driven.drive.Goals as goal

pub returns : goal.returns
returns c =
    let known = c.args.numbers.now in
    let vars = all_names known in
    let old = map driven_view c.args.made.now.items in
    let ns = target_names known c.args.assignment.now.target in
    let fs = choice_bits known c.args.assignment.now.choice in
    c.in_ok-push_driven.ensures
    ∙ ap (λ (ks : List ℕ). old ++ driven_pairs ks (map view c.in_ok-exprs.exprs.items)) c.in_ok-bits.ensures
    ∙ ap (λ (es : List Expression). old ++ driven_pairs (map (place vars) ns) es) c.in_ok-exprs.ensures
    ∙ ap (λ (ds : List Numbered). old ++ ds) (driven_defined vars ns fs)
