-- Sets of pairs of numbers.
use Rattle.std.specs.Prelude.{ℕ, ◌==◌, Bool, ◌&&◌}
use Rattle.std.specs.Ordering.{nat_cmp, ordering_then}
use Rattle.std.specs.BTreeSet.{BTreeSet, contains}
use Rattle.std.specs.declared.cmp.Ordering.{Ordering}

abbrev pub key_cmp : ℕ × ℕ → ℕ × ℕ → Ordering
key_cmp x y = ordering_then (nat_cmp x.0 y.0) (nat_cmp x.1 y.1)

abbrev pub has : BTreeSet (ℕ × ℕ) → ℕ × ℕ → Bool
has marks key = contains key_cmp marks key

abbrev pub is_key : ℕ × ℕ → ℕ × ℕ → Bool
is_key a b = a.0 == b.0 && a.1 == b.1
