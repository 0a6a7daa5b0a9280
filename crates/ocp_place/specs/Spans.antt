-- How far points reach.
use Rattle.std.specs.Prelude.{ℕ, ℤ, Bool, true, false, List, [], ◌∷◌, Option, None, Some, pos}
use Rattle.ocp_rows.specs.Length.{least, greatest}
use Rattle.ocp_place.specs.declared.row.Site.{Site as Placed}

-- the coordinate of a point along one of the axes
abbrev pub along_axis : Bool → Placed → ℕ
along_axis true s = s.y
along_axis false s = s.x

-- the least and the greatest of some numbers, where there are some
abbrev pub span : List ℤ → Option (ℤ × ℤ)
span [] = None
span (x ∷ xs) = Some (least x xs, greatest x xs)

abbrev pub shown_span : Option (ℕ × ℕ) → Option (ℤ × ℤ)
shown_span None = None
shown_span (Some r) = Some (pos r.0, pos r.1)
