use Rattle.std.proofs.Common.{List, map, ap, ◌++◌, ◌∙◌}
use Rattle.vlsi_base.specs.Tree.{view as tree}
use Rattle.bool_expr.specs.Expression.{Expression}
use Rattle.bool_expr.specs.View.{view}
use Rattle.source_checks.specs.declared.statement.Assignment.{Assignment}
use Rattle.source_checks.specs.Clock.{enable_of}
use Rattle.source_checks.specs.Places.{in_assignments}
use Rattle.source_bits.specs.Driven.{NumberedStorage, stored_view, stored_in}
use Rattle.source_bits.proofs.DrivenBits.{stored_in_all}
use Rattle.source_bits.proofs.driven.store_block.Goals as goal

pub returns : goal.returns
returns c =
    let known = c.args.numbers.now in
    let old = map stored_view c.args.made.now.items in
    let block = c.args.block.now in
    c.in_ok-store_all.ensures
    ∙ ap (λ (xs : List Assignment). old ++ in_assignments (stored_in known (view c.in_ok-enable.enable)) xs) c.as_slice.ensures
    ∙ ap (λ (e : Expression). old ++ in_assignments (stored_in known e) block.assignments) c.in_ok-enable.ensures
    ∙ ap (λ (ss : List NumberedStorage). old ++ ss) (stored_in_all known (enable_of known c.args.clock.now (tree block.guard)) block.assignments)
