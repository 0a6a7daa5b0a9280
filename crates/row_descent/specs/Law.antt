-- What is true of improved rows.
use Rattle.std.specs.Prelude.{ℕ, List}
use Rattle.row_meaning.specs.declared.Pin.{Pin}
use Rattle.row_meaning.specs.Length.{HaveSamePins}
use Rattle.row_descent.specs.Steps.{IsImproved}

-- What was improved is improved for nets with the same pins, in whatever order and however often they are listed.
abbrev pub ImprovedAlike : Type 0
ImprovedAlike =
    (left : ℕ) (widths : List ℕ) (nets others : List (List Pin)) (seed moves : ℕ) (old new : List (List ℕ)) → HaveSamePins nets others
    → IsImproved (record { left = left; widths = widths; nets = nets }) seed moves old new
    → IsImproved (record { left = left; widths = widths; nets = others }) seed moves old new
