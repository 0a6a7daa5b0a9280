-- A chain of one operand is that operand, and one of more is a pair.
use Rattle.std.proofs.Common.{◌≡◌, ℕ, ◌<◌, true, false, eqb, List, [], ◌∷◌, get_or, length, map, refl, sym, ap, ◌∙◌, arith}
use Rattle.std.proofs.lemmas.Bool.Decides.{nat_tests}
use Rattle.vlsi_base.specs.declared.expression.ParsedExpr.{ParsedExpr}
use Rattle.vlsi_base.specs.declared.expression.Operator.{Operator}
use Rattle.vlsi_base.specs.Tree.{Tree, binary, folded, view, operand_of}

pub record IsPair (op : Operator) (t : Tree) : Type 0 where
  pub line : ℕ
  pub left : Tree
  pub right : Tree
  pub is : t ≡ binary op line left right

pub many : (op : Operator) (t : Tree) (e : ℕ × ParsedExpr) (es : List (ℕ × ParsedExpr)) → IsPair op (folded op t (map operand_of (e ∷ es)))
many op t e [] = record { line = e.0; left = t; right = view e.1; is = refl }
many op t e (x ∷ es) = many op (binary op e.0 t (view e.1)) x es

none_of : (n : ℕ) → eqb n 0 ≡ true → n ≡ 0
none_of n e = grind (arith, nat_tests)

some_of : (n : ℕ) → eqb n 0 ≡ false → n ≡ 0 → ⊥
some_of n e z = grind (arith, nat_tests)

pub no_others : (whole first : Tree) (op : Operator) (es : List (ℕ × ParsedExpr)) → whole ≡ folded op first (map operand_of es) → length es ≡ 0 → whole ≡ first
no_others whole first op [] is empty = is
no_others whole first op (e ∷ es) is empty = absurd (omega arith)

paired : (whole u : Tree) (op : Operator) → whole ≡ u → IsPair op u → IsPair op whole
paired whole u op is pair = record { line = pair.line; left = pair.left; right = pair.right; is = is ∙ pair.is }

pub some_others : (whole first : Tree) (op : Operator) (es : List (ℕ × ParsedExpr)) → whole ≡ folded op first (map operand_of es) → (length es ≡ 0 → ⊥) → IsPair op whole
some_others whole first op [] is some = absurd (some refl)
some_others whole first op (e ∷ es) is some = paired whole _ op is (many op first e es)

pub lone_chain : (whole first : Tree) (op : Operator) (es : List (ℕ × ParsedExpr)) {n : ℕ} → whole ≡ folded op first (map operand_of es) → n ≡ length es → eqb n 0 ≡ true → whole ≡ first
lone_chain whole first op es {n} is count empty = no_others whole first op es is (sym count ∙ none_of n empty)

pub pair_chain : (whole first : Tree) (op : Operator) (es : List (ℕ × ParsedExpr)) {n : ℕ} → whole ≡ folded op first (map operand_of es) → n ≡ length es → eqb n 0 ≡ false → IsPair op whole
pair_chain whole first op es {n} is count some = some_others whole first op es is (λ e. some_of n some (count ∙ e))

-- with one other operand
pub two_of : (whole first : Tree) (op : Operator) (es : List (ℕ × ParsedExpr)) (x : ℕ × ParsedExpr) → whole ≡ folded op first (map operand_of es) → length es ≡ 1 → x ≡ get_or es 0 x → whole ≡ binary op x.0 first (view x.1)
two_of whole first op [] x is one there = absurd (omega arith)
two_of whole first op (e ∷ []) x is one there = is ∙ ap (λ (y : ℕ × ParsedExpr). binary op y.0 first (view y.1)) (sym there)
two_of whole first op (e ∷ e' ∷ es) x is one there = absurd (omega arith)

-- with two and more
pub record IsDeep (op : Operator) (t : Tree) : Type 0 where
  pub line : ℕ
  pub inner : ℕ
  pub left : Tree
  pub middle : Tree
  pub right : Tree
  pub is : t ≡ binary op line (binary op inner left middle) right

deeper : (op : Operator) (t : Tree) (e : ℕ × ParsedExpr) (x : ℕ × ParsedExpr) (es : List (ℕ × ParsedExpr)) → IsDeep op (folded op t (map operand_of (e ∷ x ∷ es)))
deeper op t e x [] = record { line = x.0; inner = e.0; left = t; middle = view e.1; right = view x.1; is = refl }
deeper op t e x (y ∷ es) = deeper op (binary op e.0 t (view e.1)) x y es

deep_as : (whole u : Tree) (op : Operator) → whole ≡ u → IsDeep op u → IsDeep op whole
deep_as whole u op is deep = record { line = deep.line; inner = deep.inner; left = deep.left; middle = deep.middle; right = deep.right; is = is ∙ deep.is }

pub deep_chain : (whole first : Tree) (op : Operator) (es : List (ℕ × ParsedExpr)) → whole ≡ folded op first (map operand_of es) → (length es ≡ 0 → ⊥) → (length es ≡ 1 → ⊥) → IsDeep op whole
deep_chain whole first op [] is some more = absurd (some refl)
deep_chain whole first op (e ∷ []) is some more = absurd (more (omega arith))
deep_chain whole first op (e ∷ x ∷ es) is some more = deep_as whole _ op is (deeper op first e x es)

pub two_chain : (whole first : Tree) (op : Operator) (es : List (ℕ × ParsedExpr)) {n : ℕ} (x : ℕ × ParsedExpr) → whole ≡ folded op first (map operand_of es) → n ≡ length es → eqb n 0 ≡ false → length es < 2 → x ≡ get_or es 0 x → whole ≡ binary op x.0 first (view x.1)
two_chain whole first op es {n} x is count some few there = two_of whole first op es x is (let h : n ≡ 0 → ⊥ = some_of n some in omega arith) there

pub deep_of : (whole first : Tree) (op : Operator) (es : List (ℕ × ParsedExpr)) → whole ≡ folded op first (map operand_of es) → 1 < length es → IsDeep op whole
deep_of whole first op es is more = deep_chain whole first op es is (λ e. omega arith) (λ e. omega arith)
