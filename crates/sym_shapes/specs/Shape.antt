-- What a layout shows: rectangles of metal.
use Rattle.std.specs.Prelude.{ℕ, List, [], ◌∷◌, ◌++◌, map, Option, None, Some}
use Prim.Native.Nat.{suc}
use Rattle.vlsi_base.specs.declared.name.Name.{Name}
use Rattle.sym_geom.specs.Rect.{square}
use Rattle.sym_geom.specs.Metal.{metal_of}
use Rattle.sym_geom.specs.Items.{segment_rect, via_pads}
use Rattle.sym_geom.specs.declared.rect.Rect.{Rect}
use Rattle.sym_geom.specs.declared.layer.Layer.{Layer}
use Rattle.sym_geom.specs.declared.layer.Layer.TheVariants.{NWell, PWell, NTie, PTie, NDif, PDif, NTrans, PTrans, Poly, TPoly, Alu, Calu, Talu}
use Rattle.sym_geom.specs.declared.item.Item.{Item}
use Rattle.sym_geom.specs.declared.item.Item.TheVariants as item

pub record Shape : Type 0 where
  -- from 1 to 6
  pub metal : ℕ
  pub rect : Rect
  -- the instance that it belongs to; none where it is drawn
  pub owner : Option (List ℕ)
  -- The number, from 0, of the line that gives it: among the items of the figure where it is drawn, and among those of
  -- its cell elsewhere. The two pads of a via have one line.
  pub line : ℕ
  -- its name where it is a connector: a port of the figure, or a pin of the instance
  pub name : Option Name

-- a drawn shape, if the metal is one that shows
abbrev pub on_metal : Option ℕ → ℕ → Rect → Option Name → List Shape
on_metal None line rect name = []
on_metal (Some k) line rect name = record { metal = k; rect = rect; owner = None; line = line; name = name } ∷ []

-- a segment is a connector on CALU alone, and there where it has a name
abbrev pub wire_name : Layer → Option Name → Option Name
wire_name (Calu level) name = name
wire_name (Alu level) name = None
wire_name (Talu level) name = None
wire_name NWell name = None
wire_name PWell name = None
wire_name NTie name = None
wire_name PTie name = None
wire_name NDif name = None
wire_name PDif name = None
wire_name NTrans name = None
wire_name PTrans name = None
wire_name Poly name = None
wire_name TPoly name = None

abbrev pub pad_shapes : ℕ → Option (List (ℕ × Rect)) → List Shape
pad_shapes line None = []
pad_shapes line (Some pads) = map (λ p. record { metal = p.0; rect = p.1; owner = None; line = line; name = None }) pads

-- what line `line` draws; an instance draws nothing itself, and references and remarks show nothing
abbrev pub item_shapes : ℕ → Item → List Shape
item_shapes line (item.Segment s) = on_metal (metal_of s.layer) line (segment_rect s) (wire_name s.layer s.name)
item_shapes line (item.Connector c) = on_metal (metal_of c.layer) line (square c.x c.y c.width) c.name
item_shapes line (item.Via v) = pad_shapes line (via_pads v)
item_shapes line (item.Instance i) = []
item_shapes line (item.Reference r) = []
item_shapes line (item.Remark text) = []

-- what items draw, in their order, where the first is line `line`
abbrev pub drawn_from : ℕ → List Item → List Shape
drawn_from line [] = []
drawn_from line (one ∷ rest) = item_shapes line one ++ drawn_from (suc line) rest

abbrev pub drawn : List Item → List Shape
drawn items = drawn_from 0 items

abbrev pub label : Option Name → List Name
label None = []
label (Some name) = name ∷ []

abbrev pub connector_name : Item → List Name
connector_name (item.Segment s) = label (wire_name s.layer s.name)
connector_name (item.Connector c) = label c.name
connector_name (item.Via v) = []
connector_name (item.Instance i) = []
connector_name (item.Reference r) = []
connector_name (item.Remark text) = []

-- the names of the connectors of a figure, on whatever layer, in file order
abbrev pub connector_names : List Item → List Name
connector_names [] = []
connector_names (one ∷ rest) = connector_name one ++ connector_names rest
