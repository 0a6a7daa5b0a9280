-- How rectangles are told.
use Rattle.std.specs.Prelude.{ℕ, List, ◌++◌}
use Rattle.std.specs.Fmt.{decimal}
use Rattle.sym_geom.specs.declared.rect.Rect.{Rect}
use Rattle.s2r_cif.specs.Cif.{number_text}

-- left, low, right and high edge, each behind a blank
abbrev pub rect_text : Rect → List ℕ
rect_text r = number_text r.x1 ++ (number_text r.y1 ++ (number_text r.x2 ++ number_text r.y2))

-- a metal and two rectangles of shapes on it
abbrev pub metal_text : ℕ → Rect → Rect → List ℕ
metal_text metal a b = decimal metal ++ (rect_text a ++ rect_text b)
