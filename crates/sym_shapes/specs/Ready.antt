-- Lines whose rectangles the calls compute.
use Rattle.std.specs.Prelude.{pos, ◌≤ℤ◌}
use Rattle.sym_geom.specs.Rect.{IsCoordinate}
use Rattle.sym_geom.specs.Items.{IsReadySegment}
use Rattle.sym_geom.specs.declared.item.Connector.{Connector}
use Rattle.sym_geom.specs.declared.item.Via.{Via}
use Rattle.sym_geom.specs.declared.item.Item.{Item}
use Rattle.sym_geom.specs.declared.item.Item.TheVariants as item

-- its width is at least 1, and all its numbers are coordinates
pub record IsReadyConnector (c : Connector) : Type 0 where
  pub x : IsCoordinate c.x
  pub y : IsCoordinate c.y
  pub positive : pos 1 ≤ℤ c.width
  pub width : IsCoordinate c.width

-- it lies at coordinates
pub record IsReadyVia (v : Via) : Type 0 where
  pub x : IsCoordinate v.x
  pub y : IsCoordinate v.y

-- a line with whose numbers the calls compute: each line of a file within its limits
abbrev pub IsReady : Item → Type 0
IsReady (item.Segment s) = IsReadySegment s
IsReady (item.Connector c) = IsReadyConnector c
IsReady (item.Via v) = IsReadyVia v
IsReady (item.Instance i) = Unit {0}
IsReady (item.Reference r) = Unit {0}
IsReady (item.Remark text) = Unit {0}
