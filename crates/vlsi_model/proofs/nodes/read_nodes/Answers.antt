use Rattle.std.proofs.Common.{refl, ◌∙◌}
use Rattle.bool_expr.specs.View.{view}
use Rattle.vlsi_model.proofs.NodeLemmas.{met_below}
use Rattle.vlsi_model.proofs.nodes.read_nodes.Goals as goal

pub bounds-nodes-k : goal.bounds-nodes-k
bounds-nodes-k c = met_below (view c.args.e.now) _ c.requires c.as_slice-k-items.result.now (c.as_slice-k-items.ensures ∙ c.in_ok-vars.ensures) c.loop-k.k-index _ c.loop-k-test.true refl
