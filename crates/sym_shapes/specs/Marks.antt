-- Marks of shapes: what two shapes of one owner have in common where they are linked, wherever they lie.
use Rattle.std.specs.Prelude.{◌≡◌, ℕ, ◌<◌, List, length, slice_index_or, Option, None, Some}
use Rattle.vlsi_base.specs.declared.name.Name.{Name}
use Rattle.sym_groups.specs.Ties.{Tied}
use Rattle.sym_shapes.specs.Shape.{Shape}
use Rattle.sym_shapes.specs.declared.marks.Kind.{Kind}
use Rattle.sym_shapes.specs.declared.marks.Kind.TheVariants as kind

-- the line that gives a shape, or the name of a connector
pub data Sign : Type 0 where
  by_line : ℕ → Sign
  by_name : Name → Sign

-- a sign, with the owner within which it links
pub record Mark : Type 0 where
  pub owner : Option (List ℕ)
  pub sign : Sign

-- the mark of a name, if there is one
abbrev pub name_mark : Option (List ℕ) → Option Name → Option Mark
name_mark owner None = None
name_mark owner (Some name) = Some (record { owner = owner; sign = by_name name })

-- the mark of a kind that a shape has: each has its line, and a connector its name
abbrev pub mark_of : Kind → Shape → Option Mark
mark_of kind.Line s = Some (record { owner = s.owner; sign = by_line s.line })
mark_of kind.Name s = name_mark s.owner s.name

-- shapes of one mark are in one group
abbrev pub CoversMarks : List Shape → Kind → List ℕ → Type 0
CoversMarks shapes kind ps = (i j : ℕ) (d : Shape) (m : Mark) → i < length shapes → j < length shapes
    → mark_of kind (slice_index_or shapes i d) ≡ Some m → mark_of kind (slice_index_or shapes j d) ≡ Some m → Tied ps i j
