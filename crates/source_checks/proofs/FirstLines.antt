-- The first line at fault, among lines one behind another.
use Rattle.std.proofs.Common.{◌≡◌, ℕ, List, [], ◌∷◌, ◌++◌, Option, refl, sym, ap, ◌∙◌, append_assoc, append-nil}
use Rattle.vlsi_base.specs.declared.expression.Operator.{Operator}
use Rattle.vlsi_base.specs.Tree.{Tree, binary, folded}
use Rattle.source_checks.specs.Lines.{first_line, in_operands}
use Rattle.source_checks.proofs.Turns.{or_first}

pub first_line_append : (xs ys : List ℕ) → first_line (xs ++ ys) ≡ or_first (first_line xs) (first_line ys)
first_line_append [] ys = refl
first_line_append (x ∷ xs) ys = refl

-- what is found in operands that are grouped from the left
pub in_folded : {A : Type 0} (look : Tree → List A) → ((op : Operator) (line : ℕ) (l r : Tree) → look (binary op line l r) ≡ look l ++ look r)
    → (op : Operator) (left : Tree) (es : List (ℕ × Tree)) → look (folded op left es) ≡ look left ++ in_operands look es
in_folded look joins op left [] = sym (append-nil (look left))
in_folded look joins op left (e ∷ es) =
    in_folded look joins op (binary op e.0 left e.1) es ∙ ap (λ xs. xs ++ in_operands look es) (joins op e.0 left e.1) ∙ append_assoc (look left) (look e.1) (in_operands look es)

-- the first line in a chain: that of its first operand, or else of the others
pub line_in_chain : (look : Tree → List ℕ) → ((op : Operator) (line : ℕ) (l r : Tree) → look (binary op line l r) ≡ look l ++ look r)
    → (whole l : Tree) (op : Operator) (es : List (ℕ × Tree)) (first rest : Option ℕ) → whole ≡ folded op l es → first ≡ first_line (look l) → rest ≡ first_line (in_operands look es) → or_first first rest ≡ first_line (look whole)
line_in_chain look joins whole l op es first rest is at_left at_right =
    ap (λ (o : Option ℕ). or_first o rest) at_left ∙ ap (or_first (first_line (look l))) at_right ∙ sym (first_line_append (look l) (in_operands look es)) ∙ ap first_line (sym (in_folded look joins op l es)) ∙ ap (λ (t : Tree). first_line (look t)) (sym is)
