-- Excuses of two near shapes.
use Rattle.std.specs.Prelude.{◌≡◌, ◌⊎◌, ℕ, ◌<◌, ◌≤◌, ◌^◌, List, length, slice_index_or, None, Some}
use Rattle.vlsi_base.specs.declared.name.Name.{Name}
use Rattle.sym_geom.specs.Rect.{Meet}
use Rattle.sym_shapes.specs.Shape.{Shape}
use Rattle.sym_shapes.specs.Joined.{Joined}
use Rattle.sym_shapes.specs.Joints.{NumbersJoined}
use Rattle.sym_near.specs.declared.near.Relation.TheVariants as relation
use Rattle.sym_near.specs.declared.near.Pair.{Pair}
use Rattle.sym_near.specs.Related.{shape_at, Relates, AreRelated}
use Rattle.druc_rules.specs.declared.excuses.Layout.{Layout}

-- both are of one instance
abbrev pub AreOfOne : Shape → Shape → Type 0
AreOfOne a b = (owner : List ℕ) × (a.owner ≡ Some owner) × (b.owner ≡ Some owner)

abbrev pub HasName : Shape → Type 0
HasName s = (name : Name) × (s.name ≡ Some name)

-- a third shape, which holds the first, excuses the two: it touches the second, or the first is drawn and the third is a
-- connector of the second's instance
abbrev pub Excuses : Shape → Shape → Shape → Type 0
Excuses a b third = Meet third.rect b.rect ⊎ ((a.owner ≡ None) × HasName third × AreOfOne third b)

-- some shape, at another place than the first, does
pub record IsCovered (all : List Shape) (i j : ℕ) : Type 0 where
  pub third : ℕ
  pub holds : Relates all relation.Held i third
  pub excuses : Excuses (shape_at all i) (shape_at all j) (shape_at all third)

-- one of them is of an instance, and a chain of links joins them
pub record AreTied (all : List Shape) (a b : Shape) : Type 0 where
  pub of_instance : (owner : List ℕ) × ((a.owner ≡ Some owner) ⊎ (b.owner ≡ Some owner))
  pub joined : Joined all a b

-- what is known of the shapes of a layout: a number for each, which tells the joined ones, and which hold which
pub record IsKnown (l : Layout) : Type 0 where
  pub few : length l.shapes.now < 2 ^ 32
  pub count : length l.numbers.now ≡ length l.shapes.now
  pub joined : NumbersJoined l.shapes.now l.numbers.now
  pub holders : AreRelated l.shapes.now relation.Held l.holders.now

-- the first of the pairs whose first shape is at this place or behind it
pub record IsFirstFrom (ps : List Pair) (place first : ℕ) : Type 0 where
  pub within : first ≤ length ps
  pub below : (k : ℕ) (d : Pair) → k < first → (slice_index_or ps k d).first < place
  pub behind : (k : ℕ) (d : Pair) → first ≤ k → k < length ps → place ≤ (slice_index_or ps k d).first
