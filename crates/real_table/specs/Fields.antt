-- The fields of a line of a table, and the numbers that they spell.
use Rattle.std.specs.Prelude.{◌≡◌, ◌==◌, ℕ, ◌≤◌, ℤ, pos, neg_ℤ, Bool, not, nat_eq, List, [], ◌∷◌, drop, slice_index_or, codes, if◌then◌else◌}
use Rattle.std.specs.List.{starts_with}
use Rattle.vlsi_base.specs.Lines.{put_before}
use Rattle.vlsi_base.specs.Number.{IsNumeral, value_of}

-- anything but a blank
abbrev pub is_in_field : ℕ → Bool
is_in_field b = not (b == 32)

-- what stands between the blanks of a line; there is one more than blanks
unfoldable pub fields_of : List ℕ → List (List ℕ)
fields_of [] = [] ∷ []
fields_of (b ∷ bs) = if b == 32 then [] ∷ fields_of bs else put_before b (fields_of bs)

-- the field of this number, counted from 0; no bytes where there is none
abbrev pub at : List (List ℕ) → ℕ → List ℕ
at fields i = slice_index_or fields i []

-- 1 to 20 decimal digits, whose number lies within these bounds
pub record IsNumberIn (low high : ℕ) (text : List ℕ) (n : ℕ) : Type 0 where
  pub numeral : IsNumeral text
  pub value : n ≡ value_of text
  pub least : low ≤ n
  pub most : n ≤ high

-- a minus stands in front
abbrev pub has_minus : List ℕ → Bool
has_minus text = starts_with nat_eq text (codes "-")

-- what stands behind the minus, if there is one
abbrev pub digits_of : List ℕ → List ℕ
digits_of text = if has_minus text then drop 1 text else text

-- the number with this absolute value
abbrev pub signed : Bool → ℕ → ℤ
signed minus n = if minus then neg_ℤ (pos n) else pos n

-- a whole number of at most this size, with a minus in front where it is below 0
pub record IsSignedIn (most : ℕ) (text : List ℕ) (n : ℤ) : Type 0 where
  pub size : ℕ
  pub number : IsNumberIn 0 most (digits_of text) size
  pub value : n ≡ signed (has_minus text) size
