-- Which cells have a function that mapping needs, and which of these functions a library lacks.
use Rattle.std.specs.Prelude.{◌≡◌, ℕ, Bool, true, false, not, ◌&&◌, List, [], ◌∷◌, length, if◌then◌else◌}
use Rattle.vlsi_base.specs.Member.{In}
use Rattle.bool_expr.specs.Expression.{Expression, val}
use Rattle.vlsi_base.specs.declared.kind.Kind.{Kind}
use Rattle.vlsi_base.specs.declared.kind.Kind.TheVariants as kind
use Rattle.cell_model.specs.Function.{Function, gate, flip_flop, other, opaque}
use Rattle.cell_model.specs.Cell.{Cell, cell_inputs}
use Rattle.cell_model.specs.Library.{IsUsable}

-- A gate of n inputs has the kind where its function on all vectors is that of the kind, which has exactly so many inputs. The
-- order of the inputs makes no difference to any kind.
abbrev pub IsGateOf : Expression → ℕ → Kind → Type 0
IsGateOf e n kind.Inv = (n ≡ 1) × ((a : Bool) → val e (a ∷ []) ≡ not a)
IsGateOf e n kind.Nand2 = (n ≡ 2) × ((a b : Bool) → val e (a ∷ b ∷ []) ≡ not (a && b))
IsGateOf e n kind.Zero = (n ≡ 0) × (val e [] ≡ false)
IsGateOf e n kind.One = (n ≡ 0) × (val e [] ≡ true)
IsGateOf e n kind.Dff = ⊥

-- a plain flip-flop is a Dff
abbrev pub IsFunctionOf : Function → ℕ → Kind → Type 0
IsFunctionOf (gate e) n k = IsGateOf e n k
IsFunctionOf (flip_flop data_pin clock_pin) n k = k ≡ kind.Dff
IsFunctionOf (other machine) n k = ⊥
IsFunctionOf opaque n k = ⊥

abbrev pub HasKind : Cell → Kind → Type 0
HasKind c k = IsFunctionOf c.function (length (cell_inputs c)) k

-- a usable cell of the list has the kind
pub record HasCellOf (cells : List Cell) (k : Kind) : Type 0 where
  pub cell : Cell
  pub listed : In cell cells
  pub usable : IsUsable cell
  pub kind : HasKind cell k

-- what mapping needs a cell for, in order: a Dff for a machine with registers alone
abbrev pub needed : Bool → List Kind
needed registers = kind.Inv ∷ kind.Nand2 ∷ kind.Zero ∷ kind.One ∷ (if registers then kind.Dff ∷ [] else [])

-- k is the first of these kinds that no usable cell of the list has
pub data IsFirstMissing (cells : List Cell) (k : Kind) : List Kind → Type 0 where
  first : {ks : List Kind} → (HasCellOf cells k → ⊥) → IsFirstMissing cells k (k ∷ ks)
  later : {j : Kind} {ks : List Kind} → HasCellOf cells j → IsFirstMissing cells k ks → IsFirstMissing cells k (j ∷ ks)
