-- Boxes as shapes of one metal.
use Rattle.std.specs.Prelude.{List, map, None}
use Rattle.sym_geom.specs.declared.rect.Rect.{Rect}
use Rattle.sym_shapes.specs.Shape.{Shape}

abbrev pub shape_of : Rect → Shape
shape_of r = record { metal = 1; rect = r; owner = None; line = 0; name = None }

abbrev pub shapes_of : List Rect → List Shape
shapes_of rects = map shape_of rects
