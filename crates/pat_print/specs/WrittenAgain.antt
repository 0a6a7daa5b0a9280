-- What is written of patterns is read again as these patterns.
use Rattle.std.specs.Prelude.{◌≡◌, ℕ, ◌^◌, ◌<◌, ◌≤◌, ◌==◌, Bool, true, false, ◌||◌, ◌&&◌, nat_le, List, [], length, slice_index, Option, Some, None}
use Rattle.std.specs.List.{All, list_all}
use Rattle.std.specs.Char.{is_ascii_digit}
use Rattle.vlsi_base.specs.declared.limits.TheConstants.{MOST_SOURCE_BYTES}
use Rattle.vlsi_base.specs.declared.name.Port.{Port}
use Rattle.pat_meaning.specs.declared.patterns.BitRange.{BitRange}
use Rattle.pat_meaning.specs.declared.patterns.Patterns.{Patterns}
use Rattle.pat_meaning.specs.Answers.{AreFor}
use Rattle.pat_io.specs.Spelling.{text_of}
use Rattle.vlsi_base.specs.Name.{is_supply}
use Rattle.pat_io.specs.Fitting.{time_faults}
use Rattle.pat_io.specs.PatternText.{IsPatternText}
use Rattle.pat_io.specs.ReadAgain.{written}

-- a letter in lower case
abbrev pub is_small_letter : ℕ → Bool
is_small_letter b = nat_le 97 b && nat_le b 122

-- a letter in lower case, a digit or an underscore
abbrev pub is_in_small_word : ℕ → Bool
is_in_small_word b = is_small_letter b || is_ascii_digit b || b == 95

-- A word in lower case: a letter, and behind it letters, digits and underscores, at most 64 bytes together.
pub record IsSmallWord (text : List ℕ) : Type 0 where
  pub begins : is_small_letter (slice_index text 0) ≡ true
  pub letters : list_all is_in_small_word text ≡ true
  pub short : length text ≤ 64

abbrev pub IsSmallLabel : Option (List ℕ) → Type 0
IsSmallLabel None = Unit {0}
IsSmallLabel (Some label) = IsSmallWord label

-- the bits of a range are told by numbers of 32 bits
abbrev pub HasSmallEnds : Option BitRange → Type 0
HasSmallEnds None = Unit {0}
HasSmallEnds (Some r) = (r.left < 2 ^ 32) × (r.right < 2 ^ 32)

-- Names and labels are words in lower case, and numbers have 32 bits.
pub record CanBeSpelled (p : Patterns) : Type 0 where
  pub names : All (λ c. IsSmallWord c.name) p.columns
  pub ends : All (λ c. HasSmallEnds c.range) p.columns
  pub labels : All (λ q. IsSmallLabel q.label) p.patterns
  pub numbers : All (λ q. q.time.number < 2 ^ 32) p.patterns

-- The text of patterns for ports, none of which is a supply, is a pattern file without a fault for these ports, and these
-- are its patterns: where times never fall, and where the text isn't too long.
abbrev pub WrittenIsReadAgain : Type 0
WrittenIsReadAgain =
    (ports : List Port) (p : Patterns) → AreFor ports p → All (λ port. is_supply port.name.text ≡ false) ports → CanBeSpelled p → time_faults 0 (written 1 p).patterns ≡ []
    → length (text_of p) ≤ MOST_SOURCE_BYTES → IsPatternText (text_of p) ports p
