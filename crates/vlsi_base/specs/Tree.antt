-- The value of an expression as it is written, without where it lies in memory.
use Rattle.std.specs.Prelude.{ℕ, Bool, List, [], ◌∷◌}
use Rattle.vlsi_base.specs.declared.expression.Operator.{Operator}
use Rattle.vlsi_base.specs.declared.radix.Radix.{Radix}
use Rattle.vlsi_base.specs.declared.range.Range.{Range}
use Rattle.vlsi_base.specs.declared.expression.ParsedExpr.{ParsedExpr, Bit, Literal, Name, Index, Slice, Stable, Not', Binary', Chain', Row_of-ParsedExpr-Chain-2-2, end_of-ParsedExpr-Chain-2-2, more_of-ParsedExpr-Chain-2-2}

-- names, numbers and lines as in ParsedExpr; operands joined by one operator are grouped from the left
pub data Tree : Type 0 where
  bit : Bool → ℕ → Tree
  literal : Radix → List ℕ → ℕ → Tree
  name : List ℕ → ℕ → Tree
  index : List ℕ → ℕ → ℕ → Tree
  slice : List ℕ → ℕ → Range → Tree
  stable : List ℕ → ℕ → Tree
  inverse : ℕ → Tree → Tree
  binary : Operator → ℕ → Tree → Tree → Tree

abbrev mutual
  pub view : ParsedExpr → Tree
  view (Bit b line) = bit b line
  view (Literal radix digits line) = literal radix digits line
  view (Name text line) = name text line
  view (Index text line n) = index text line n
  view (Slice text line range) = slice text line range
  view (Stable text line) = stable text line
  view (Not' line p e) = inverse line (view e)
  view (Binary' op line p left q right) = binary op line (view left) (view right)
  view (Chain' op p first shape others) = grouped op (view first) others

  -- operands grouped from the left
  pub grouped : {m : _} → Operator → Tree → Row_of-ParsedExpr-Chain-2-2 m → Tree
  grouped op left end_of-ParsedExpr-Chain-2-2 = left
  grouped op left (more_of-ParsedExpr-Chain-2-2 line e others) = grouped op (binary op line left (view e)) others

-- the same over a list of operands, each with the line of the operator before it
abbrev pub folded : Operator → Tree → List (ℕ × Tree) → Tree
folded op left [] = left
folded op left (e ∷ others) = folded op (binary op e.0 left e.1) others

-- an operand, with the line of the operator before it
abbrev pub operand_of : ℕ × ParsedExpr → ℕ × Tree
operand_of e = (e.0, view e.1)
