use Rattle.std.proofs.Common.{◌≡◌, ◌<◌, ◌||◌, ℕ, length, drop, take}
use Rattle.bool_expr.specs.Expression.{bit}
use Rattle.bool_expr.specs.Support.{among}
use Rattle.fsm_walk.proofs.reads.set_all.Given as goal

abbrev pub invariant-loop-place : goal.invariant-loop-place
invariant-loop-place l = record {
  same : length l.marks ≡ length l.initial.marks;
  set : (k : ℕ) → k < length l.initial.marks
      → (bit l.marks k || among k (drop l.place-index l.places)) ≡ (bit l.initial.marks k || among k l.places);
}
