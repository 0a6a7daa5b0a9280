-- One line after others, and the first line at fault.
use Rattle.std.specs.Prelude.{◌≡◌, ℕ, Bool, true, false, List, [], ◌∷◌, ◌++◌}
use Rattle.vlsi_base.specs.Member.{In}
use Rattle.catal.specs.declared.error.CatalError.{CatalError}
use Rattle.catal.specs.declared.error.CatalError.TheVariants as errors
use Rattle.catal.specs.declared.reader.Cells.{Cells}
use Rattle.catal.specs.Used.{Holds}
use Rattle.catal.specs.Catal.{Gives, IsLineRefusal, IsFirstFault}

-- the name was put behind these, or was one of them
abbrev pub AddsCell : Bool → List (List ℕ) → List ℕ → Cells → Type 0
AddsCell true names name cells = (In name names → ⊥) × (cells.names ≡ names ++ name ∷ []) × Holds cells.used cells.names
AddsCell false names name cells = In name names

-- behind lines that use cells, a line that uses none of them again leaves these used
pub record Takes (line : List ℕ) (before after : List (List ℕ)) : Type 0 where
  pub names : List (List ℕ)
  pub gives : Gives line names
  pub after_is : after ≡ before ++ names
  pub new : (name : List ℕ) → In name names → In name before → ⊥

-- the refusal of a line, or memory has run out
abbrev pub IsRefusedAt : List (List ℕ) → ℕ → List ℕ → CatalError → Type 0
IsRefusedAt names number line errors.Memory = Unit {0}
IsRefusedAt names number line e = IsLineRefusal names number line e

-- the first line at fault is refused so, or memory has run out
abbrev pub IsLinesRefusal : List (List ℕ) → CatalError → Type 0
IsLinesRefusal lines errors.Memory = Unit {0}
IsLinesRefusal lines e = IsFirstFault lines e
