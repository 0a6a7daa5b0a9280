-- Names that none of some others is.
use Rattle.std.specs.Prelude.{◌≡◌, ℕ, zero, suc, ◌+◌, ◌<◌, Bool, true, false, not, bytes_eq, List, ◌++◌, map, filter, length, take}
use Rattle.std.specs.List.{list_all}
use Rattle.std.specs.Fmt.{decimal}
use Rattle.vlsi_base.specs.Range.{rising}

-- none of these texts is this one
abbrev pub is_free : List (List ℕ) → List ℕ → Bool
is_free taken text = list_all (λ t. not (bytes_eq t text)) taken

-- a stem and a number
abbrev pub numbered : List ℕ → ℕ → List ℕ
numbered stem k = stem ++ decimal k

-- So many numbers in rising order, those that make a free text. Each text that is taken is that of one number at most, so there are
-- enough of them among the first ones.
abbrev pub free_numbers : List ℕ → List (List ℕ) → ℕ → List ℕ
free_numbers stem taken many = take many (filter (λ k. is_free taken (numbered stem k)) (rising 0 (many + length taken)))

-- so many free texts of this stem
abbrev pub free_texts : List ℕ → List (List ℕ) → ℕ → List (List ℕ)
free_texts stem taken many = map (numbered stem) (free_numbers stem taken many)

-- the stem alone, then the stem with 0, with 1, and so on
abbrev pub candidate : List ℕ → ℕ → List ℕ
candidate stem zero = stem
candidate stem (suc k) = numbered stem k

-- the first of these that is free
pub record IsFirstFree (stem : List ℕ) (taken : List (List ℕ)) (text : List ℕ) : Type 0 where
  pub place : ℕ
  pub is : text ≡ candidate stem place
  pub free : is_free taken text ≡ true
  pub earlier : (k : ℕ) → k < place → is_free taken (candidate stem k) ≡ false
