-- Ranges of bits: the order of their bounds, and the bits that they hold.
use Rattle.std.specs.Prelude.{ℕ, zero, suc, ◌+◌, ◌-◌, Bool, nat_le, List, [], ◌∷◌, length, if◌then◌else◌}
use Rattle.vlsi_base.specs.declared.range.Range.{Range}

-- n numbers that rise from k
abbrev pub rising : ℕ → ℕ → List ℕ
rising k zero = []
rising k (suc n) = k ∷ rising (k + 1) n

-- n numbers that fall to k
abbrev pub falling : ℕ → ℕ → List ℕ
falling k zero = []
falling k (suc n) = (k + n) ∷ falling k n

-- the bounds of a range stand in the order of its word: `downto` falls or stays, `to` rises or stays
abbrev pub is_ordered : Range → Bool
is_ordered r = if r.falls then nat_le r.right r.left else nat_le r.left r.right

-- the numbers of the bits of a range, from the left; none where its bounds don't stand in the order of its word
abbrev pub range_bits : Range → List ℕ
range_bits r = if r.falls then falling r.right (r.left + 1 - r.right) else rising r.left (r.right + 1 - r.left)

-- how many bits a range has
abbrev pub range_width : Range → ℕ
range_width r = length (range_bits r)

-- the lesser and the greater bound of a range, whichever its word
abbrev pub least : Range → ℕ
least r = if nat_le r.left r.right then r.left else r.right

abbrev pub greatest : Range → ℕ
greatest r = if nat_le r.left r.right then r.right else r.left

-- how many numbers there are from the lesser bound to the greater one, whichever the word: as many as the range has bits
-- where its bounds stand in the order of its word
abbrev pub range_span : Range → ℕ
range_span r = greatest r - least r + 1
