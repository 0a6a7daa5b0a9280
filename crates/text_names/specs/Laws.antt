-- What is known of free names.
use Rattle.std.specs.Prelude.{◌≡◌, ℕ, ◌+◌, ◌<◌, ◌^◌, true, List, length}
use Rattle.std.specs.List.{All}
use Rattle.vlsi_base.specs.Member.{AllDifferent}
use Rattle.text_names.specs.Words.{is_word, IsIdentifier}
use Rattle.text_names.specs.Free.{is_free, numbered, free_texts}

-- There are as many free texts as are asked for, all different, and none is taken.
pub record AreFree (taken : List (List ℕ)) (many : ℕ) (texts : List (List ℕ)) : Type 0 where
  pub each : length texts ≡ many
  pub different : AllDifferent texts
  pub free : All (λ t. is_free taken t ≡ true) texts

abbrev pub TextsAreFree : Type 0
TextsAreFree =
    (stem : List ℕ) (taken : List (List ℕ)) (many : ℕ) → many + length taken < 2 ^ 64
    → AreFree taken many (free_texts stem taken many)

-- a letter in lower case, and then letters; no reserved word is the stem with a number behind it
pub record IsStem (stem : List ℕ) : Type 0 where
  pub word : is_word stem ≡ true
  pub plain : (k : ℕ) → IsIdentifier (numbered stem k)

-- Of such a stem all free texts are identifiers.
abbrev pub TextsAreWords : Type 0
TextsAreWords = (stem : List ℕ) (taken : List (List ℕ)) (many : ℕ) → IsStem stem → All IsIdentifier (free_texts stem taken many)
