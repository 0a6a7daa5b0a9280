-- Why trees aren't covered.
use Rattle.std.specs.Prelude.{List, [], ◌∷◌, Option, None, Some}
use Rattle.vlsi_base.specs.Member.{In}
use Rattle.vlsi_base.specs.declared.kind.Kind.{Kind}
use Rattle.vlsi_base.specs.declared.kind.Kind.TheVariants as kind
use Rattle.cell_model.specs.Library.{Library}
use Rattle.cell_model.specs.Covering.{HasCellOf, IsFirstMissing}
use Rattle.boog_area.specs.declared.error.TreeError.{TreeError}
use Rattle.boog_area.specs.declared.error.TreeError.TheVariants as error

-- what covers of trees need a cell for, in order
abbrev pub tree_kinds : List Kind
tree_kinds = kind.Inv ∷ kind.Nand2 ∷ []

-- this kind, if trees need it
abbrev pub tree_kind : Kind → Option Kind
tree_kind kind.Inv = Some kind.Inv
tree_kind kind.Nand2 = Some kind.Nand2
tree_kind kind.Zero = None
tree_kind kind.One = None
tree_kind kind.Dff = None

-- the library has a usable cell of each
abbrev pub CoversTrees : Library → Type 0
CoversTrees l = (k : Kind) → In k tree_kinds → HasCellOf l.cells k

-- why trees aren't covered, if memory hasn't run out: the first kind that no usable cell has
abbrev pub IsTreeRefusal : Library → TreeError → Type 0
IsTreeRefusal l error.Memory = Unit {0}
IsTreeRefusal l (error.NoCover k) = IsFirstMissing l.cells k tree_kinds
