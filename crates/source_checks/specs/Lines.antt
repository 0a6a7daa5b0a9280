-- The first of the lines at fault.
use Rattle.std.specs.Prelude.{ℕ, List, [], ◌∷◌, ◌++◌, Option, None, Some}
use Rattle.vlsi_base.specs.Tree.{Tree}

abbrev pub first_line : List ℕ → Option ℕ
first_line [] = None
first_line (line ∷ _) = Some line

-- what some look at expressions finds in operands, one behind another
abbrev pub in_operands : {A : Type 0} → (Tree → List A) → List (ℕ × Tree) → List A
in_operands look [] = []
in_operands look (e ∷ others) = look e.1 ++ in_operands look others
