use Rattle.std.proofs.Common.{◌≡◌, ◌≢◌, ℕ, ◌<◌, ◌≤◌, length, slice_index}
use Rattle.nero_maze.proofs.frontier.clear.Given as goal

abbrev pub invariant-loop-i : goal.invariant-loop-i
invariant-loop-i l = record {
  size : length l.frontier.marks.items ≡ length l.fn.frontier.marks.items;
  order : l.frontier.order.items ≡ l.fn.frontier.order.items;
  count : l.frontier.count ≡ l.fn.frontier.count;
  left : (v : ℕ) → slice_index l.frontier.marks.items v ≢ 0 → (k : ℕ) × (l.i ≤ k) × (k < l.fn.frontier.count) × (slice_index l.fn.frontier.order.items k ≡ v);
}
