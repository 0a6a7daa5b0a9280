use Rattle.std.proofs.Common.{◌↔◌, ◌≡◌, ◌<◌, ◌≤◌, ℕ, List, length, map}
use Rattle.subject_table.specs.View.{node_view}
use Rattle.cell_match.specs.Places.{times}
use Rattle.boog_part.specs.Part.{IsMarked}
use Rattle.boog_part.proofs.Marking.{Spreading}
use Rattle.boog_part.proofs.marks.mark_down.Given as goal

abbrev pub invariant-loop-rest : goal.invariant-loop-rest
invariant-loop-rest l = record {
  most : l.rest ≤ length l.nodes;
  spread : (roots : List ℕ) → ((x : ℕ) → IsMarked l.fn.marks x ↔ (0 < times x roots)) → Spreading l.held (map node_view l.nodes) roots l.marks l.rest;
}

abbrev pub decreases-loop-rest : goal.decreases-loop-rest
decreases-loop-rest l = l.rest
