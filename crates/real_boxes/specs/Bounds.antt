-- Boxes with whose edges the writer computes, at most 2,000,000,000,000,000,000 in absolute value, and which lie on layers of the table.
use Rattle.std.specs.Prelude.{◌≡◌, ℕ, ◌<◌, ℤ, pos, negsuc, ◌≤ℤ◌, List, length, slice_index_or, All}
use Rattle.sym_geom.specs.declared.rect.Rect.{Rect}
use Rattle.sym_geom.specs.Rect.{HasReach}
use Rattle.cougar_extract.specs.Stages.{HasCellEdges}
use Rattle.real_table.specs.declared.table.Rule.{Rule}
use Rattle.real_table.specs.declared.table.Entry.{Entry}
use Rattle.real_table.specs.declared.table.Entry.TheVariants as entry
use Rattle.real_boxes.specs.declared.mark.Mark.{Mark}
use Rattle.real_boxes.specs.declared.boxes.RealBox.{RealBox}
use Rattle.real_boxes.specs.Boxes.{layer_of}

pub record IsEdge (c : ℤ) : Type 0 where
  pub low : negsuc 1999999999999999999 ≤ℤ c
  pub high : c ≤ℤ pos 2000000000000000000

pub record HasEdges (r : Rect) : Type 0 where
  pub x1 : IsEdge r.x1
  pub y1 : IsEdge r.y1
  pub x2 : IsEdge r.x2
  pub y2 : IsEdge r.y2

-- a line of the table stands at this place, and is the first that has a box on its real layer
pub record IsLayer (entries : List Entry) (layer : ℕ) : Type 0 where
  pub rule : Rule
  pub there : layer < length entries
  pub line : slice_index_or entries layer entry.Nothing ≡ entry.Rule rule
  pub first : layer_of entries rule.real ≡ layer

abbrev pub AreOnLayers : List Entry → List RealBox → Type 0
AreOnLayers entries boxes = All (λ b. IsLayer entries b.layer) boxes

abbrev pub AreBoxes : List RealBox → Type 0
AreBoxes boxes = All (λ b. HasEdges b.rect) boxes

abbrev pub ReachAll : List Mark → Type 0
ReachAll ms = All (λ m. HasReach m.core) ms

abbrev pub AreCellMarks : List Mark → Type 0
AreCellMarks ms = All (λ m. HasCellEdges m.core) ms
