-- The item of a line, the name and the box.
use Rattle.std.specs.Prelude.{◌≡◌, ℕ, List, None, Some, ◌==◌, length, if◌then◌else◌}
use Rattle.sym_geom.specs.declared.rect.Rect.{Rect}
use Rattle.sym_geom.specs.declared.item.Segment.{Segment}
use Rattle.sym_geom.specs.declared.item.Connector.{Connector}
use Rattle.sym_geom.specs.declared.item.Via.{Via}
use Rattle.sym_geom.specs.declared.item.Instance.{Instance}
use Rattle.sym_geom.specs.declared.item.Reference.{Reference}
use Rattle.sym_geom.specs.declared.item.Item.{Item}
use Rattle.sym_geom.specs.declared.item.Item.TheVariants as item
use Rattle.ap_io.specs.declared.scale.Scale.{Scale}
use Rattle.ap_io.specs.Fields.{at, number_of, coordinate_of, label_of, lower}
use Rattle.ap_io.specs.Words.{layer_of, direction_of, side_of, transform_of, contact_of}
use Rattle.ap_io.specs.LineFaults.{letter_of, behind_letter, fields_behind}

-- S x1,y1,x2,y2,width,name,direction,layer
pub record IsSegment (scale : Scale) (f : List (List ℕ)) (s : Segment) : Type 0 where
  pub x1 : s.x1 ≡ coordinate_of scale (at f 0)
  pub y1 : s.y1 ≡ coordinate_of scale (at f 1)
  pub x2 : s.x2 ≡ coordinate_of scale (at f 2)
  pub y2 : s.y2 ≡ coordinate_of scale (at f 3)
  pub width : s.width ≡ coordinate_of scale (at f 4)
  pub name : s.name ≡ label_of (at f 5)
  pub direction : direction_of (at f 6) ≡ Some s.direction
  pub layer : layer_of (at f 7) ≡ Some s.layer

-- C x,y,width,name,index,side,layer
pub record IsConnector (scale : Scale) (f : List (List ℕ)) (c : Connector) : Type 0 where
  pub x : c.x ≡ coordinate_of scale (at f 0)
  pub y : c.y ≡ coordinate_of scale (at f 1)
  pub width : c.width ≡ coordinate_of scale (at f 2)
  pub name : c.name ≡ label_of (at f 3)
  pub index : c.index ≡ number_of (at f 4)
  pub side : side_of (at f 5) ≡ Some c.side
  pub layer : layer_of (at f 6) ≡ Some c.layer

-- V x,y,contact or V x,y,contact,name
pub record IsVia (scale : Scale) (f : List (List ℕ)) (v : Via) : Type 0 where
  pub x : v.x ≡ coordinate_of scale (at f 0)
  pub y : v.y ≡ coordinate_of scale (at f 1)
  pub contact : v.contact ≡ contact_of (at f 2)
  pub name : v.name ≡ (if length f == 3 then None else label_of (at f 3))

-- I x,y,model,name,transform
pub record IsInstance (scale : Scale) (f : List (List ℕ)) (i : Instance) : Type 0 where
  pub x : i.x ≡ coordinate_of scale (at f 0)
  pub y : i.y ≡ coordinate_of scale (at f 1)
  pub model : i.model ≡ lower (at f 2)
  pub name : i.name ≡ lower (at f 3)
  pub transform : transform_of (at f 4) ≡ Some i.transform

-- R x,y,word,name
pub record IsReference (scale : Scale) (f : List (List ℕ)) (r : Reference) : Type 0 where
  pub x : r.x ≡ coordinate_of scale (at f 0)
  pub y : r.y ≡ coordinate_of scale (at f 1)
  pub word : r.word ≡ lower (at f 2)
  pub name : r.name ≡ at f 3

-- A x1,y1,x2,y2
pub record IsBox (scale : Scale) (f : List (List ℕ)) (box : Rect) : Type 0 where
  pub x1 : box.x1 ≡ coordinate_of scale (at f 0)
  pub y1 : box.y1 ≡ coordinate_of scale (at f 1)
  pub x2 : box.x2 ≡ coordinate_of scale (at f 2)
  pub y2 : box.y2 ≡ coordinate_of scale (at f 3)

-- the item of a line, by its letter: S, C, V, I, R or B
abbrev pub IsItem : Scale → List ℕ → Item → Type 0
IsItem scale line (item.Segment s) = (letter_of line ≡ Some 83) × IsSegment scale (fields_behind line) s
IsItem scale line (item.Connector c) = (letter_of line ≡ Some 67) × IsConnector scale (fields_behind line) c
IsItem scale line (item.Via v) = (letter_of line ≡ Some 86) × IsVia scale (fields_behind line) v
IsItem scale line (item.Instance i) = (letter_of line ≡ Some 73) × IsInstance scale (fields_behind line) i
IsItem scale line (item.Reference r) = (letter_of line ≡ Some 82) × IsReference scale (fields_behind line) r
IsItem scale line (item.Remark text) = (letter_of line ≡ Some 66) × (text ≡ behind_letter line)
