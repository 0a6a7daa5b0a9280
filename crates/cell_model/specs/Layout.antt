-- What a layout shows: its own shapes and those of its instances.
use Rattle.std.specs.Prelude.{neg_ℤ, List, [], ◌∷◌, ◌++◌, map, Option, None, Some}
use Rattle.sym_geom.specs.Rect.{moved, turned}
use Rattle.sym_geom.specs.declared.item.Instance.{Instance}
use Rattle.sym_geom.specs.declared.item.Item.{Item}
use Rattle.sym_geom.specs.declared.item.Item.TheVariants as item
use Rattle.sym_shapes.specs.Shape.{Shape, drawn}
use Rattle.cell_model.specs.Cell.{Cell, cell_width, cell_height}
use Rattle.cell_model.specs.Library.{Library, cell_of}

-- A shape of a cell as an instance of it shows it. The shapes of a cell are counted from the lower left corner of its
-- box; once the box is turned, its lower left corner lies at the instance's place.
abbrev pub placed : Cell → Instance → Shape → Shape
placed c i s = record s {
  owner = Some i.name;
  rect = moved (turned i.transform (moved s.rect (neg_ℤ c.bounds.x1) (neg_ℤ c.bounds.y1)) (cell_width c) (cell_height c)) i.x i.y;
}

abbrev pub instance_shapes : Option Cell → Instance → List Shape
instance_shapes None i = []
instance_shapes (Some c) i = map (placed c i) (drawn c.items)

-- the instances of a figure in file order
abbrev pub instances_of : List Item → List Instance
instances_of [] = []
instances_of (item.Segment s ∷ rest) = instances_of rest
instances_of (item.Connector c ∷ rest) = instances_of rest
instances_of (item.Via v ∷ rest) = instances_of rest
instances_of (item.Instance i ∷ rest) = i ∷ instances_of rest
instances_of (item.Reference r ∷ rest) = instances_of rest
instances_of (item.Remark text ∷ rest) = instances_of rest

abbrev pub all_instances_show : Library → List Instance → List Shape
all_instances_show l [] = []
all_instances_show l (i ∷ rest) = instance_shapes (cell_of l i.model) i ++ all_instances_show l rest

-- All shapes of a layout: what the items draw in file order, a via's lower pad first, and then what the instances show in
-- file order, each with its cell's items in their order.
abbrev pub shapes : List Item → Library → List Shape
shapes items l = drawn items ++ all_instances_show l (instances_of items)
