-- What follows from the definitions of an ap file and of its refusals.
use Rattle.std.specs.Prelude.{◌≡◌, ℕ, ◌<◌, List, length}
use Rattle.vlsi_base.specs.declared.fault.ReadError.{ReadError}
use Rattle.ap_io.specs.declared.figure.Figure.{Figure}
use Rattle.ap_io.specs.ApText.{IsFigure, HasNearLines, IsWithinLimits, IsApLines, IsApText}
use Rattle.ap_io.specs.Within.{IsWithin}
use Rattle.ap_io.specs.Spelling.{text_of}
use Rattle.ap_io.specs.Refusal.{Refused}

-- A file is that of at most one figure.
abbrev pub OneFigure : Type 0
OneFigure = (bytes : List ℕ) (f g : Figure) → IsApText bytes f → IsApText bytes g → f ≡ g

-- Lines of the format say at most one figure, however long they are together.
abbrev pub LinesSayOneFigure : Type 0
LinesSayOneFigure = (bytes : List ℕ) (f g : Figure) → IsApLines bytes f → IsApLines bytes g → f ≡ g

-- A file that is a figure's has no refusal.
abbrev pub NeverBoth : Type 0
NeverBoth = (bytes : List ℕ) (f : Figure) (e : ReadError) → IsApText bytes f → Refused bytes e → ⊥

-- A file has at most one refusal.
abbrev pub OneRefusal : Type 0
OneRefusal = (bytes : List ℕ) (d e : ReadError) → Refused bytes d → Refused bytes e → d ≡ e

-- What is written of a figure that the format can hold, and that is within the limits, is the ap file of this figure.
abbrev pub WrittenIsReadAgain : Type 0
WrittenIsReadAgain = (f : Figure) → IsFigure f → IsWithinLimits f → IsApText (text_of f) f

-- What is written of one whose lines are within the limits is lines of the format, however long the text.
abbrev pub LinesAreReadAgain : Type 0
LinesAreReadAgain = (f : Figure) → IsFigure f → HasNearLines f → IsApLines (text_of f) f

-- The figure of an ap file is one that the format can hold, it is within the limits, and it has fewer items than the file has
-- bytes.
abbrev pub ReadIsAFigure : Type 0
ReadIsAFigure = (bytes : List ℕ) (f : Figure) → IsApText bytes f → IsFigure f × IsWithin f × (length f.items < length bytes)
