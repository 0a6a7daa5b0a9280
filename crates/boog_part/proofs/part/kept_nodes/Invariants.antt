use Rattle.std.proofs.Common.{map}
use Rattle.subject_table.specs.View.{node_view}
use Rattle.boog_part.proofs.Keeping.{Keeping}
use Rattle.boog_part.proofs.part.kept_nodes.Given as goal

abbrev pub invariant-loop-place : goal.invariant-loop-place
invariant-loop-place l = Keeping l.held l.marks (map node_view l.nodes) (map node_view l.kept.items) l.place
