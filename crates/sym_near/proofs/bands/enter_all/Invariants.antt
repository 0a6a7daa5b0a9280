use Rattle.std.proofs.Common.{ℕ, ◌<◌, length, get_or}
use Rattle.std.specs.List.{Contains}
use Rattle.sym_shapes.specs.Shape.{Shape}
use Rattle.sym_near.specs.declared.sweep.Entry.{Entry}
use Rattle.sym_near.specs.Sweep.{IsEntered, cut_for}
use Rattle.sym_near.proofs.bands.enter_all.Given as goal

abbrev pub invariant-loop-k : goal.invariant-loop-k
invariant-loop-k l = record {
  places : (e : Entry) → Contains l.entries.items e → e.place < length l.shapes;
  entered : (j : ℕ) (d : Shape) → j < length l.shapes → j < l.k
      → IsEntered l.turned (cut_for l.cuts (get_or l.shapes j d)) l.gap (get_or l.shapes j d) j l.entries.items;
}
