-- Loops over parts of a source: the first line, and whether a name is among some.
use Rattle.std.proofs.Common.{◌≡◌, ℕ, ◌+◌, ◌<◌, Bool, true, false, List, [], ◌∷◌, ◌++◌, length, drop, get_or, map, Option, Some, None, refl, sym, ap, ◌∙◌, append_assoc, append-nil}
use Rattle.std.specs.Prelude.{◌||◌}
use Rattle.std.proofs.lemmas.List.{at_drop_more}
use Rattle.vlsi_base.specs.declared.name.Name.{Name}
use Rattle.vlsi_base.specs.declared.expression.Operator.{Operator}
use Rattle.vlsi_base.specs.declared.expression.ParsedExpr.{ParsedExpr}
use Rattle.vlsi_base.specs.Tree.{Tree, binary, folded, view, operand_of}
use Rattle.machine_core.specs.Named.{is_same_name}
use Rattle.source_checks.specs.declared.symbol_table.Symbol.{Symbol}
use Rattle.source_checks.specs.Drivers.{is_among}
use Rattle.vbe_free.specs.Filled.{bits_read, operands_read}

or_assoc : (a b c : Bool) → (a || (b || c)) ≡ ((a || b) || c)
or_assoc true b c = refl
or_assoc false b c = refl

pub is_among_append : (xs ys : List Name) (n : Name) → is_among (xs ++ ys) n ≡ (is_among xs n || is_among ys n)
is_among_append [] ys n = refl
is_among_append (x ∷ xs) ys n = ap (λ b. is_same_name x n || b) (is_among_append xs ys n) ∙ or_assoc (is_same_name x n) (is_among xs n) (is_among ys n)

-- a turn: `first` is whether the name is among what is found in x, and the others follow
pub among_turn : {X : Type 0} (n : Name) (look : X → List Name) (all : List X → List Name) (unfolds : (x : X) (xs : List X) → all (x ∷ xs) ≡ look x ++ all xs)
    (xs : List X) (i : ℕ) (x : X) (total : Bool) → i < length xs → x ≡ get_or xs i x → is_among (all (drop i xs)) n ≡ total
    → (first : Bool) → first ≡ is_among (look x) n → (first || is_among (all (drop (i + 1) xs)) n) ≡ total
among_turn {X} n look all unfolds xs i x total within is so_far first here =
    let rest = drop (i + 1) xs in
    ap (λ b. b || is_among (all rest) n) here ∙ sym (is_among_append (look x) (all rest) n) ∙ ap (λ (l : List Name). is_among l n) (sym (unfolds x rest))
    ∙ ap (λ (y : X). is_among (all (y ∷ rest)) n) is ∙ sym (at_drop_more (λ (ys : List X). is_among (all ys) n) xs i x within) ∙ so_far

-- operands read their bits one behind another
pub read_folded : (known : List Symbol) (op : Operator) (left : Tree) (es : List (ℕ × Tree)) → bits_read known (folded op left es) ≡ bits_read known left ++ operands_read known es
read_folded known op left [] = sym (append-nil (bits_read known left))
read_folded known op left (e ∷ es) = read_folded known op (binary op e.0 left e.1) es ∙ append_assoc (bits_read known left) (bits_read known e.1) (operands_read known es)

pub in_chain : (known : List Symbol) (n : Name) (whole l : Tree) (op : Operator) (es : List (ℕ × Tree)) (first rest : Bool) → whole ≡ folded op l es
    → first ≡ is_among (bits_read known l) n → rest ≡ is_among (operands_read known es) n → (first || rest) ≡ is_among (bits_read known whole) n
in_chain known n whole l op es first rest is at_left at_right =
    (λ j. at_left j || at_right j) ∙ sym (is_among_append (bits_read known l) (operands_read known es) n)
    ∙ ap (λ (ns : List Name). is_among ns n) (sym (read_folded known op l es)) ∙ ap (λ (t : Tree). is_among (bits_read known t) n) (sym is)

abbrev pub among_operands : List Symbol → Name → List (ℕ × ParsedExpr) → Bool
among_operands known n others = is_among (operands_read known (map operand_of others)) n

-- a turn of a loop over operands
pub operands_turn : (known : List Symbol) (n : Name) (others : List (ℕ × ParsedExpr)) (i : ℕ) (e : ℕ × ParsedExpr) (total : Bool) → i < length others → e ≡ get_or others i e
    → among_operands known n (drop i others) ≡ total
    → (first : Bool) → first ≡ is_among (bits_read known (view e.1)) n → (first || among_operands known n (drop (i + 1) others)) ≡ total
operands_turn known n others i e total within is so_far first here =
    among_turn n (λ (x : ℕ × ParsedExpr). bits_read known (view x.1)) (λ xs. operands_read known (map operand_of xs)) (λ x xs. refl) others i e total within is so_far first here
