-- What `s2r` answers by a table of a process.
use Rattle.std.specs.Prelude.{◌≡◌, ℕ, List, [], ◌∷◌, ◌++◌, length, codes, Some}
use Rattle.vlsi_base.specs.declared.fault.FaultKind.TheVariants as kind
use Rattle.vlsi_base.specs.Names.{scalar}
use Rattle.sym_geom.specs.declared.rect.Rect.{Rect}
use Rattle.ap_io.specs.declared.figure.Figure.{Figure}
use Rattle.real_table.specs.declared.table.ProcessTable.{ProcessTable}
use Rattle.real_boxes.specs.declared.boxes.RealBox.{RealBox}
use Rattle.real_boxes.specs.declared.error.ProcessError.{ProcessError}
use Rattle.real_boxes.specs.declared.error.ProcessError.TheVariants as error
use Rattle.real_boxes.specs.File.{process_text}
use Rattle.tool_drive.specs.declared.status.Status.{Status}
use Rattle.tool_drive.specs.declared.status.Status.TheVariants as status
use Rattle.tool_drive.specs.declared.status.Verdict.TheVariants.{Near, Broken}
use Rattle.tool_drive.specs.declared.tool.Product.{Product}
use Rattle.tool_drive.specs.Lines.{count_line}
use Rattle.tool_drive.specs.Refusals.{whole_fault}
use Rattle.s2r_run.specs.RectText.{rect_text, metal_text}
use Rattle.s2r_run.specs.declared.words.S2rCommand.{S2rCommand}

-- a real layer and a box on it
abbrev pub box_text : List ℕ → Rect → List ℕ
box_text real r = real ++ rect_text r

-- and another that is too near
abbrev pub near_text : List ℕ → Rect → Rect → List ℕ
near_text real a b = box_text real a ++ rect_text b

-- the line of a box that doesn't fit
abbrev pub off_grid_text : List ℕ → Rect → List ℕ
off_grid_text real r = codes "s2r: off grid " ++ box_text real r

-- the line of two shapes that would be parted
abbrev pub parted_text : ℕ → Rect → Rect → List ℕ
parted_text metal a b = codes "s2r: apart " ++ metal_text metal a b

-- how a refusal is told
abbrev pub IsProcessTold : S2rCommand → ProcessError → Status → Type 0
IsProcessTold c error.Memory s = ⊥
IsProcessTold c (error.UnknownCell model) s = s ≡ whole_fault c.source kind.UnknownCell (scalar model ∷ [])
IsProcessTold c (error.NotMappable model) s = s ≡ whole_fault c.source kind.Unsupported (scalar model ∷ [])
IsProcessTold c (error.Lost word) s = s ≡ whole_fault c.source kind.Unsupported (scalar word ∷ [])
IsProcessTold c (error.Joined metal a b) s = s ≡ status.No (Near (metal_text metal a b))
IsProcessTold c (error.Parted metal a b) s = s ≡ status.No (Broken (parted_text metal a b))
IsProcessTold c (error.Limit limit) s = s ≡ status.Limit limit
IsProcessTold c (error.OffGrid real rect) s = s ≡ status.No (Broken (off_grid_text real rect))
IsProcessTold c (error.Near real a b) s = s ≡ status.No (Near (near_text real a b))

-- what is written and printed of boxes: all of them count
pub record IsProcessProduct (c : S2rCommand) (t : ProcessTable) (f : Figure) (boxes : List RealBox) (p : Product) : Type 0 where
  pub name : p.name ≡ c.out ++ codes ".cif"
  pub file : p.file ≡ Some (process_text t f boxes)
  pub text : p.text ≡ count_line (codes "boxes") (length boxes)
