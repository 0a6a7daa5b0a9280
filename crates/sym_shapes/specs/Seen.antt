-- The last shape of each mark.
use Rattle.std.specs.Prelude.{◌≡◌, ℕ, ◌<◌, List, slice_index_or, Option, Some}
use Rattle.std.specs.HashMap.{get, HashMap}
use Rattle.std.specs.declared.hash.FoldHasher.{FoldHasher}
use Rattle.std.specs.declared.hash.BuildHasherDefault.{BuildHasherDefault}
use Rattle.sym_groups.specs.Ties.{Tied}
use Rattle.sym_shapes.specs.Shape.{Shape}
use Rattle.sym_shapes.specs.Marks.{Mark, mark_of}
use Rattle.sym_shapes.specs.View.{mark_view}
use Rattle.sym_shapes.specs.declared.marks.Kind.{Kind}
use Rattle.sym_shapes.specs.declared.marks.Mark.{Mark as Key}
use Rattle.sym_shapes.specs.contracts.marks.MarkPartialEq.TheImpl as the_eq

-- the place of a mark
abbrev pub place_of : HashMap Key ℕ (BuildHasherDefault FoldHasher) → Key → Option ℕ
place_of m q = get the_eq.ghosts.eq m q

-- Of the first n shapes, each mark has the place of one, with which all others of the mark are in one group.
pub record Seen (shapes : List Shape) (kind : Kind) (ps : List ℕ) (place : Key → Option ℕ) (n : ℕ) : Type 0 where
  pub sound : (q : Key) (f : ℕ) (d : Shape) → place q ≡ Some f
      → (f < n) × (mark_of kind (slice_index_or shapes f d) ≡ Some (mark_view q))
  pub found : (i : ℕ) (q : Key) (d : Shape) → i < n → mark_of kind (slice_index_or shapes i d) ≡ Some (mark_view q)
      → (f : ℕ) × (place q ≡ Some f) × Tied ps f i
  pub keyed : (i : ℕ) (d : Shape) (m : Mark) → i < n → mark_of kind (slice_index_or shapes i d) ≡ Some m
      → (q : Key) × (mark_view q ≡ m)
