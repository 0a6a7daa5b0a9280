-- Sums that stop at the greatest number.
use Rattle.std.proofs.Common.{◌≡◌, ℕ, ◌+◌, ◌≤◌, ◌<◌, min, arith}

pub min-add-min : (s n m : ℕ) → min (s + min n m) m ≡ min (s + n) m
min-add-min s n m = grind arith
