-- What the stages of reading have read.
use Rattle.std.specs.Prelude.{◌≡◌, ℕ, List, [], ◌∷◌, Option, None, Some}
use Rattle.vlsi_base.specs.declared.name.Name.{Name}
use Rattle.sym_geom.specs.declared.rect.Rect.{Rect}
use Rattle.sym_geom.specs.declared.item.Item.{Item}
use Rattle.vlsi_base.specs.Lines.{without_return}
use Rattle.ap_io.specs.declared.scale.Scale.{Scale}
use Rattle.ap_io.specs.declared.figure.Figure.{Figure}
use Rattle.ap_io.specs.Fields.{at, label_of}
use Rattle.ap_io.specs.Words.{scale_of}
use Rattle.ap_io.specs.LineFaults.{fields_behind, version_fault, name_line_fault, box_line_fault}
use Rattle.ap_io.specs.Items.{IsBox}
use Rattle.ap_io.specs.ApText.{AreItems}

-- the first line, before the others
pub record IsVersionRead (old new : List (List ℕ)) : Type 0 where
  pub line : List ℕ
  pub lines : old ≡ line ∷ new
  pub right : version_fault (without_return line) ≡ None

-- the second line
pub record IsHeadRead (old new : List (List ℕ)) (found : Option Name) (scale : Scale) : Type 0 where
  pub line : List ℕ
  pub lines : old ≡ line ∷ new
  pub right : name_line_fault (without_return line) ≡ None
  pub name : found ≡ label_of (at (fields_behind (without_return line)) 0)
  pub at_scale : scale_of (at (fields_behind (without_return line)) 3) ≡ Some scale

-- the third line
pub record IsBoxRead (scale : Scale) (old new : List (List ℕ)) (found : Rect) : Type 0 where
  pub line : List ℕ
  pub lines : old ≡ line ∷ new
  pub right : box_line_fault scale (without_return line) ≡ None
  pub bounds : IsBox scale (fields_behind (without_return line)) found

-- the lines from the third on
pub record IsDrawing (scale : Scale) (all : List (List ℕ)) (found : Rect) (list : List Item) : Type 0 where
  pub box : List ℕ
  pub others : List (List ℕ)
  pub lines : all ≡ box ∷ others
  pub right : box_line_fault scale box ≡ None
  pub bounds : IsBox scale (fields_behind box) found
  pub items : AreItems scale [] others list

-- the lines from the second on
pub record IsFigureRead (all : List (List ℕ)) (f : Figure) : Type 0 where
  pub head : List ℕ
  pub scale : Scale
  pub others : List (List ℕ)
  pub lines : all ≡ head ∷ others
  pub right : name_line_fault head ≡ None
  pub name : f.name ≡ label_of (at (fields_behind head) 0)
  pub at_scale : scale_of (at (fields_behind head) 3) ≡ Some scale
  pub drawing : IsDrawing scale others f.bounds f.items
