-- The first bit of a range, from the left, at which a test answers true.
use Rattle.std.specs.Prelude.{◌≡◌, ◌≤◌, ℕ, Bool, true, false, nat_le, nat_lt, Option, None, Some, if◌then◌else◌}
use Rattle.vlsi_base.specs.declared.range.Range.{Range}
use Rattle.vlsi_base.specs.Range.{least, greatest}

-- a bit of a range stands left of another
abbrev pub is_left_of : Range → ℕ → ℕ → Bool
is_left_of r j k = if nat_le r.left r.right then nat_lt j k else nat_lt k j

-- the test answers true at a bit of the range, and at none left of it
pub record IsFirst (test : ℕ → Bool) (r : Range) (k : ℕ) : Type 0 where
  pub low : least r ≤ k
  pub high : k ≤ greatest r
  pub holds : test k ≡ true
  pub none_left : (j : ℕ) → least r ≤ j → j ≤ greatest r → is_left_of r j k ≡ true → test j ≡ false

-- the first such bit, or none, where there is none
abbrev pub FirstOf : (ℕ → Bool) → Range → Option ℕ → Type 0
FirstOf test r None = (j : ℕ) → least r ≤ j → j ≤ greatest r → test j ≡ false
FirstOf test r (Some k) = IsFirst test r k
