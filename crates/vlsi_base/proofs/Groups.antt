-- The view of a chain is that of its operands, as a list.
use Rattle.std.proofs.Common.{◌≡◌, ℕ, List, [], ◌∷◌, ◌++◌, map, refl}
use Rattle.vlsi_base.specs.declared.expression.Operator.{Operator}
use Rattle.vlsi_base.specs.declared.expression.ParsedExpr.{Row_of-ParsedExpr-Chain-2-2, end_of-ParsedExpr-Chain-2-2, more_of-ParsedExpr-Chain-2-2, items-the_row-ParsedExpr-Chain-2-2}
use Rattle.vlsi_base.specs.Tree.{Tree, binary, view, grouped, folded, operand_of}

pub grouped_is : (m : _) (k : Row_of-ParsedExpr-Chain-2-2 m) (op : Operator) (left : Tree) → grouped op left k ≡ folded op left (map operand_of (items-the_row-ParsedExpr-Chain-2-2 m k))
grouped_is m end_of-ParsedExpr-Chain-2-2 op left = refl
grouped_is m (more_of-ParsedExpr-Chain-2-2 line e others) op left = grouped_is _ others op (binary op line left (view e))

pub folded-push : (op : Operator) (left : Tree) (es : List (ℕ × Tree)) (e : ℕ × Tree) → folded op left (es ++ e ∷ []) ≡ binary op e.0 (folded op left es) e.1
folded-push op left [] e = refl
folded-push op left (x ∷ es) e = folded-push op (binary op x.0 left x.1) es e
