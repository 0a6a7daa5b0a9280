use Rattle.std.proofs.Common.{◌≡◌, ◌≢◌, ℕ, ◌<◌, []}
use Rattle.bit_order.specs.declared.walk.Mark.TheVariants as mark
use Rattle.bit_order.specs.Walk.{mark_of, IsWalkOf}
use Rattle.bit_order.proofs.Turning.{lists}
use Rattle.bit_order.proofs.sorting.order.Given as goal

-- each node below the root was met, and no path is left
abbrev pub invariant-loop-root : goal.invariant-loop-root
invariant-loop-root l = record {
  walk : IsWalkOf (lists l.reads) l.walk;
  idle : l.walk.path.items ≡ [];
  met : (node : ℕ) → node < l.root → mark_of l.walk.marks.items node ≢ mark.New;
}
