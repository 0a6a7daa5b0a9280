use Rattle.std.proofs.Common.{◌≡◌, ℕ, ◌<◌, length, get_or, All}
use Rattle.sym_shapes.specs.declared.holders.Spot.{Spot}
use Rattle.sym_shapes.specs.Holders.{HasHolder}
use Rattle.sym_shapes.specs.Joints.{Grows}
use Rattle.sym_shapes.proofs.holders.join_held.Given as goal

abbrev pub invariant-loop-k : goal.invariant-loop-k
invariant-loop-k l = record {
  count : length l.forest.groups ≡ length l.shapes;
  grows : Grows l.shapes l.initial.forest l.forest;
  places : All (λ p. p < length l.shapes) l.kept.items;
  holders : (p : ℕ) (s : Spot) → p < l.k → HasHolder l.shapes l.kept.items l.forest.groups (get_or l.spots.items p s).place;
}
