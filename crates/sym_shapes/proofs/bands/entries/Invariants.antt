use Rattle.std.proofs.Common.{ℕ, ◌<◌, length, get_or}
use Rattle.std.specs.List.{Contains}
use Rattle.sym_shapes.specs.Shape.{Shape}
use Rattle.sym_shapes.specs.declared.sweep.Entry.{Entry}
use Rattle.sym_shapes.specs.Bands.{IsEntered, cut_for}
use Rattle.sym_shapes.proofs.bands.entries.Given as goal

abbrev pub invariant-loop-k : goal.invariant-loop-k
invariant-loop-k l = record {
  places : (e : Entry) → Contains l.entries.items e → e.place < length l.shapes;
  entered : (j : ℕ) (d : Shape) → j < l.k → IsEntered (cut_for l.cuts (get_or l.shapes (get_or l.places j 0) d))
      (get_or l.shapes (get_or l.places j 0) d) (get_or l.places j 0) l.entries.items;
}
