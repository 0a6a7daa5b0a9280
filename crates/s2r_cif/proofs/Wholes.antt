-- What the stages come to together.
use Rattle.std.proofs.Common.{◌≡◌, List, subst}
use Rattle.sym_geom.specs.declared.item.Item.{Item}
use Rattle.sym_shapes.specs.Shape.{Shape}
use Rattle.cell_model.specs.Library.{Library}
use Rattle.cell_model.specs.Layout.{instances_of, shapes}
use Rattle.cougar_extract.specs.Extracted.{AreKnown}
use Rattle.s2r_cif.specs.declared.table.RealTable.{RealTable}
use Rattle.s2r_cif.specs.declared.error.RealError.{RealError}
use Rattle.s2r_cif.specs.declared.error.RealError.TheVariants as error
use Rattle.s2r_cif.specs.Refused.{AreDrawn, IsMappingRefusal, IsNearRefusal, IsRealRefusal, ShowsFirstNear}

-- shapes of a layout that are too near
pub near_refusal : (t : RealTable) (items : List Item) (l : Library) (all : List Shape) (e : RealError) → all ≡ shapes items l → AreDrawn items l → IsNearRefusal t all e
    → IsRealRefusal t items l e
near_refusal t items l all error.Memory is drawn h = tt
near_refusal t items l all (error.Near metal a b) is drawn h = (drawn, subst (λ (xs : List Shape). ShowsFirstNear t xs metal a b) is h)
near_refusal t items l all (error.UnknownCell model) is drawn h = absurd h
near_refusal t items l all (error.NotMappable model) is drawn h = absurd h
near_refusal t items l all (error.Limit limit) is drawn h = absurd h

-- a cell that isn't mappable, where all are known
pub mapping_refusal : (items : List Item) (l : Library) (e : RealError) → AreKnown (instances_of items) l → IsMappingRefusal (instances_of items) l e → (t : RealTable) → IsRealRefusal t items l e
mapping_refusal items l error.Memory known h t = tt
mapping_refusal items l (error.NotMappable model) known h t = (known, h)
mapping_refusal items l (error.UnknownCell model) known h t = absurd h
mapping_refusal items l (error.Limit limit) known h t = absurd h
mapping_refusal items l (error.Near metal a b) known h t = absurd h
