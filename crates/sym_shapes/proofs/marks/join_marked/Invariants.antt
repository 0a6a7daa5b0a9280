use Rattle.std.proofs.Common.{◌≡◌, length}
use Rattle.sym_shapes.specs.Joints.{Grows}
use Rattle.sym_shapes.specs.Seen.{Seen, place_of}
use Rattle.sym_shapes.proofs.marks.join_marked.Given as goal

abbrev pub invariant-loop-place : goal.invariant-loop-place
invariant-loop-place l = record {
  count : length l.forest.groups ≡ length l.shapes;
  grows : Grows l.shapes l.initial.forest l.forest;
  seen : Seen l.shapes l.kind l.forest.groups (place_of l.seen) l.place;
}
