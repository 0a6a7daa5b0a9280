use Rattle.std.proofs.Common.{◌≤◌, ℕ, List, length, map}
use Rattle.subject_table.specs.View.{node_view}
use Rattle.boog_cover.specs.Lesser.{AllNeeded}
use Rattle.boog_cover.proofs.lesser.mark_down.Given as goal

abbrev pub invariant-loop-rest : goal.invariant-loop-rest
invariant-loop-rest l = record {
  most : l.rest ≤ length l.nodes;
  all : (roots : List ℕ) → AllNeeded l.held (map node_view l.nodes) roots l.fn.marks → AllNeeded l.held (map node_view l.nodes) roots l.marks;
}

abbrev pub decreases-loop-rest : goal.decreases-loop-rest
decreases-loop-rest l = l.rest
