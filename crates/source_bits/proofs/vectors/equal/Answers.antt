use Rattle.std.proofs.Common.{map, ◌∙◌}
use Rattle.bool_expr.specs.View.{view}
use Rattle.source_bits.proofs.Halves.{all_of_them}
use Rattle.source_bits.proofs.vectors.equal.Goals as goal

pub returns : goal.returns
returns c =
    all_of_them c.in_ok-bits.bits.items (map view c.args.left.items) (map view c.args.right.items) c.len-count.result (view c.in_ok-all.all) c.in_ok-bits.ensures (c.len-count.ensures ∙ c.in_ok-bits.bits.ok.0) c.in_ok-all.ensures.value
