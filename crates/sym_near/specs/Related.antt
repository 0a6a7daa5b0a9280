-- Pairs of shapes by their places: which are near, and which hold which.
use Rattle.std.specs.Prelude.{◌≡◌, ◌≢◌, ◌⊎◌, ℕ, ◌<◌, pos, List, length, slice_index_or, Contains, None}
use Rattle.std.specs.Ordering.{nat_cmp, ordering_then}
use Rattle.std.specs.declared.cmp.Ordering.{Ordering}
use Rattle.std.specs.List.Sorted.{IsStrictlySortedBy}
use Rattle.sym_geom.specs.Rect.{Meet, Within, Near}
use Rattle.sym_shapes.specs.Shape.{Shape}
use Rattle.sym_near.specs.declared.near.Relation.{Relation}
use Rattle.sym_near.specs.declared.near.Relation.TheVariants as relation
use Rattle.sym_near.specs.declared.near.Pair.{Pair}

-- what stands at a place where no shape does
abbrev pub nowhere : Shape
nowhere = record { metal = 0; rect = record { x1 = pos 0; y1 = pos 0; x2 = pos 0; y2 = pos 0 }; owner = None; line = 0; name = None }

-- the shape at a place
abbrev pub shape_at : List Shape → ℕ → Shape
shape_at all k = slice_index_or all k nowhere

-- apart, with a gap less than this
abbrev pub AreClose : ℕ → Shape → Shape → Type 0
AreClose gap a b = (Meet a.rect b.rect → ⊥) × Near gap a.rect b.rect

-- the first is drawn, and the second is a pin of an instance
pub record IsOverPin (a b : Shape) : Type 0 where
  pub drawn : a.owner ≡ None
  pub owned : b.owner ≡ None → ⊥
  pub named : b.name ≡ None → ⊥

-- The first lies within the second, which is larger. One that coincides with it holds it only where that is a pin over which it is
-- drawn.
abbrev pub IsHeld : Shape → Shape → Type 0
IsHeld a b = Within a.rect b.rect × ((Within b.rect a.rect → ⊥) ⊎ IsOverPin a b)

-- of two shapes of one metal, at different places: what the first is to the second
abbrev pub IsTo : Relation → ℕ → ℕ → Shape → Shape → Type 0
IsTo (relation.Near gap) i j a b = (i < j) × AreClose gap a b
IsTo relation.Held i j a b = (i ≢ j) × IsHeld a b

pub record Relates (all : List Shape) (r : Relation) (i j : ℕ) : Type 0 where
  pub first : i < length all
  pub second : j < length all
  pub metal : (shape_at all i).metal ≡ (shape_at all j).metal
  pub is : IsTo r i j (shape_at all i) (shape_at all j)

abbrev pub pair : ℕ → ℕ → Pair
pair i j = record { first = i; second = j }

-- by the first, then by the second
abbrev pub pair_cmp : Pair → Pair → Ordering
pair_cmp p q = ordering_then (nat_cmp p.first q.first) (nat_cmp p.second q.second)

-- pairs that are so related are put behind those that were there
pub record Gains (all : List Shape) (r : Relation) (olds news : List Pair) : Type 0 where
  pub kept : (p : Pair) → Contains olds p → Contains news p
  pub only : (p : Pair) → Contains news p → Contains olds p ⊎ Relates all r p.first p.second

-- the pair is there if it is so related, in this order and in the other
abbrev pub Has : List Shape → Relation → List Pair → ℕ → ℕ → Type 0
Has all r ps i j = (Relates all r i j → Contains ps (pair i j)) × (Relates all r j i → Contains ps (pair j i))

-- all pairs that are so related, in their order and each once
pub record AreRelated (all : List Shape) (r : Relation) (ps : List Pair) : Type 0 where
  pub sound : (p : Pair) → Contains ps p → Relates all r p.first p.second
  pub whole : (i j : ℕ) → Relates all r i j → Contains ps (pair i j)
  pub sorted : IsStrictlySortedBy pair_cmp ps
