-- Why a symbolic layout has no real one.
use Rattle.std.specs.Prelude.{◌≡◌, ◌⊎◌, ℕ, ◌<◌, ◌≤◌, ◌^◌, List, ◌∷◌, ◌++◌, length, Some}
use Rattle.vlsi_base.specs.Member.{In}
use Rattle.sym_geom.specs.Rect.{Meet}
use Rattle.sym_geom.specs.declared.rect.Rect.{Rect}
use Rattle.sym_geom.specs.declared.item.Instance.{Instance as Placed}
use Rattle.sym_geom.specs.declared.item.Item.{Item}
use Rattle.sym_shapes.specs.Shape.{Shape}
use Rattle.sym_near.specs.Related.{shape_at}
use Rattle.cell_model.specs.Cell.{Cell}
use Rattle.cell_model.specs.Library.{Library, cell_of}
use Rattle.cell_model.specs.Layout.{instances_of, shapes}
use Rattle.cell_model.specs.Usable.{IsMappable}
use Rattle.cougar_extract.specs.Extracted.{AreKnown}
use Rattle.cougar_extract.specs.Refused.{IsFirstUnknown, IsTooLarge}
use Rattle.s2r_cif.specs.declared.table.RealTable.{RealTable}
use Rattle.s2r_cif.specs.declared.error.RealError.{RealError}
use Rattle.s2r_cif.specs.declared.error.RealError.TheVariants as error
use Rattle.s2r_cif.specs.Real.{grow_of, AreClose}

-- each instance whose model is in the library is of a mappable cell
abbrev pub AreMappable : List Placed → Library → Type 0
AreMappable instances l = (i : Placed) (c : Cell) → In i instances → cell_of l i.model ≡ Some c → IsMappable c

-- the first instance whose cell isn't mappable has this model
pub record IsFirstUnmappable (instances : List Placed) (l : Library) (model : List ℕ) : Type 0 where
  pub before : List Placed
  pub instance : Placed
  pub behind : List Placed
  pub all_are : instances ≡ before ++ instance ∷ behind
  pub mappable : AreMappable before l
  pub cell : Cell
  pub known : cell_of l instance.model ≡ Some cell
  pub unmappable : IsMappable cell → ⊥
  pub model_is : model ≡ instance.model

-- two shapes of one metal, by their places, that don't touch but are so close that their boxes would
pub record AreNear (t : RealTable) (all : List Shape) (i j : ℕ) : Type 0 where
  pub order : i < j
  pub there : j < length all
  pub metal : (shape_at all i).metal ≡ (shape_at all j).metal
  pub apart : Meet (shape_at all i).rect (shape_at all j).rect → ⊥
  pub close : AreClose t.scale (grow_of t (shape_at all i).metal) (shape_at all i).rect (shape_at all j).rect

abbrev pub NoneNear : RealTable → List Shape → Type 0
NoneNear t all = (i j : ℕ) → AreNear t all i j → ⊥

-- of all such pairs these are the first, in the order of the first and then of the second
pub record IsFirstNear (t : RealTable) (all : List Shape) (i j : ℕ) : Type 0 where
  pub near : AreNear t all i j
  pub first : (k m : ℕ) → AreNear t all k m → (i < k) ⊎ ((i ≡ k) × (j ≤ m))

-- these are the metal and the rectangles of the first such pair
pub record ShowsFirstNear (t : RealTable) (all : List Shape) (metal : ℕ) (a b : Rect) : Type 0 where
  pub one : ℕ
  pub other : ℕ
  pub first : IsFirstNear t all one other
  pub metal_is : metal ≡ (shape_at all one).metal
  pub a_is : a ≡ (shape_at all one).rect
  pub b_is : b ≡ (shape_at all other).rect

-- each instance is of a mappable cell of the library, and the shapes are fewer than 2^32
pub record AreDrawn (items : List Item) (l : Library) : Type 0 where
  pub known : AreKnown (instances_of items) l
  pub mappable : AreMappable (instances_of items) l
  pub few : length (shapes items l) < 2 ^ 32

-- and no two shapes are too near
pub record CanBeReal (t : RealTable) (items : List Item) (l : Library) : Type 0 where
  pub drawn : AreDrawn items l
  pub apart : NoneNear t (shapes items l)

-- Why there is no real layout, if memory hasn't run out, in this order: an unknown cell, a cell that isn't mappable, 2^32 shapes
-- or more, two shapes that are too near.
abbrev pub IsRealRefusal : RealTable → List Item → Library → RealError → Type 0
IsRealRefusal t items l error.Memory = Unit {0}
IsRealRefusal t items l (error.UnknownCell model) = IsFirstUnknown (instances_of items) l model
IsRealRefusal t items l (error.NotMappable model) = AreKnown (instances_of items) l × IsFirstUnmappable (instances_of items) l model
IsRealRefusal t items l (error.Limit limit) = AreKnown (instances_of items) l × AreMappable (instances_of items) l × IsTooLarge items l limit
IsRealRefusal t items l (error.Near metal a b) = AreDrawn items l × ShowsFirstNear t (shapes items l) metal a b

-- ---- stages

-- a cell isn't mappable, or memory has run out
abbrev pub IsMappingRefusal : List Placed → Library → RealError → Type 0
IsMappingRefusal instances l error.Memory = Unit {0}
IsMappingRefusal instances l (error.NotMappable model) = IsFirstUnmappable instances l model
IsMappingRefusal instances l e = ⊥

-- two shapes are too near, or memory has run out
abbrev pub IsNearRefusal : RealTable → List Shape → RealError → Type 0
IsNearRefusal t all error.Memory = Unit {0}
IsNearRefusal t all (error.Near metal a b) = ShowsFirstNear t all metal a b
IsNearRefusal t all e = ⊥
