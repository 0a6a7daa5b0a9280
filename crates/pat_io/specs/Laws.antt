-- What follows from the definitions of pattern files.
use Rattle.std.specs.Prelude.{◌≡◌, ◌⊎◌, ℕ, List}
use Rattle.vlsi_base.specs.declared.name.Port.{Port}
use Rattle.vlsi_base.specs.declared.fault.ReadError.{ReadError}
use Rattle.pat_meaning.specs.declared.patterns.Patterns.{Patterns}
use Rattle.pat_io.specs.PatternText.{IsPatternText, Refused}

-- A text means at most one list of patterns.
abbrev pub OneMeaning : Type 0
OneMeaning = (bytes : List ℕ) (ports : List Port) (p q : Patterns) → IsPatternText bytes ports p → IsPatternText bytes ports q → p ≡ q

-- A text that is a pattern file for these ports has no refusal.
abbrev pub NeverBoth : Type 0
NeverBoth = (bytes : List ℕ) (ports : List Port) (p : Patterns) (e : ReadError) → IsPatternText bytes ports p → Refused bytes ports e → ⊥

-- A text has at most one refusal.
abbrev pub OneRefusal : Type 0
OneRefusal = (bytes : List ℕ) (ports : List Port) (d e : ReadError) → Refused bytes ports d → Refused bytes ports e → d ≡ e

-- Each text is a pattern file for these ports or has a refusal.
abbrev pub EachText : Type 0
EachText = (bytes : List ℕ) (ports : List Port) → ((p : Patterns) × IsPatternText bytes ports p) ⊎ ((e : ReadError) × Refused bytes ports e)
