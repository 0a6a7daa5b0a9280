-- The first name that isn't declared, among names one behind another.
use Rattle.std.proofs.Common.{◌≡◌, ℕ, Bool, true, false, cond, List, [], ◌∷◌, ◌++◌, map, Option, Some, refl, sym, ap, ◌∙◌, append_assoc, append-nil, length, drop, get_or, ◌+◌, ◌<◌}
use Rattle.std.proofs.lemmas.List.{at_drop_more}
use Rattle.vlsi_base.specs.declared.expression.ParsedExpr.{ParsedExpr}
use Rattle.std.specs.Prelude.{is_none}
use Rattle.vlsi_base.specs.declared.expression.Operator.{Operator}
use Rattle.vlsi_base.specs.Tree.{Tree, binary, folded, view, operand_of}
use Rattle.source_checks.specs.declared.symbol_table.Symbol.{Symbol}
use Rattle.source_checks.specs.Symbols.{find}
use Rattle.source_checks.specs.Places.{Use, reads, first_unknown}
use Rattle.source_checks.specs.Uses.{reads_among}
use Rattle.source_checks.proofs.Turns.{or_first}

pub first_unknown_append : (known : List Symbol) (xs ys : List Use) → first_unknown known (xs ++ ys) ≡ or_first (first_unknown known xs) (first_unknown known ys)
first_unknown_append known [] ys = refl
first_unknown_append known (x ∷ xs) ys = by (first_unknown_append known xs ys) (is_none (find known x.text)) where
  by : first_unknown known (xs ++ ys) ≡ or_first (first_unknown known xs) (first_unknown known ys) → (b : Bool)
      → cond b (Some x) (first_unknown known (xs ++ ys)) ≡ or_first (cond b (Some x) (first_unknown known xs)) (first_unknown known ys)
  by rest true = refl
  by rest false = rest

-- operands read their names one behind another
pub reads_folded : (op : Operator) (left : Tree) (es : List (ℕ × Tree)) → reads (folded op left es) ≡ reads left ++ reads_among es
reads_folded op left [] = sym (append-nil (reads left))
reads_folded op left (e ∷ es) = reads_folded op (binary op e.0 left e.1) es ∙ append_assoc (reads left) (reads e.1) (reads_among es)

pub in_two : (known : List Symbol) (whole l r : Tree) (op : Operator) (line : ℕ) (first rest : Option Use) → whole ≡ binary op line l r → first ≡ first_unknown known (reads l) → rest ≡ first_unknown known (reads r) → or_first first rest ≡ first_unknown known (reads whole)
in_two known whole l r op line first rest is at_left at_right =
    ap (λ (o : Option Use). or_first o rest) at_left ∙ ap (or_first (first_unknown known (reads l))) at_right ∙ sym (first_unknown_append known (reads l) (reads r)) ∙ ap (λ (t : Tree). first_unknown known (reads t)) (sym is)

pub in_chain : (known : List Symbol) (whole l : Tree) (op : Operator) (es : List (ℕ × Tree)) (first rest : Option Use) → whole ≡ folded op l es → first ≡ first_unknown known (reads l) → rest ≡ first_unknown known (reads_among es) → or_first first rest ≡ first_unknown known (reads whole)
in_chain known whole l op es first rest is at_left at_right =
    ap (λ (o : Option Use). or_first o rest) at_left ∙ ap (or_first (first_unknown known (reads l))) at_right ∙ sym (first_unknown_append known (reads l) (reads_among es)) ∙ ap (first_unknown known) (sym (reads_folded op l es)) ∙ ap (λ (t : Tree). first_unknown known (reads t)) (sym is)

abbrev pub among_operands : List Symbol → List (ℕ × ParsedExpr) → Option Use
among_operands known others = first_unknown known (reads_among (map operand_of others))

-- a turn of a loop over operands
pub operands_turn : (known : List Symbol) (others : List (ℕ × ParsedExpr)) (i : ℕ) (e : ℕ × ParsedExpr) (total : Option Use) → i < length others → e ≡ get_or others i e → among_operands known (drop i others) ≡ total
    → (first : Option Use) → first ≡ first_unknown known (reads (view e.1)) → or_first first (among_operands known (drop (i + 1) others)) ≡ total
operands_turn known others i e total within is so_far first here =
    let rest = among_operands known (drop (i + 1) others) in
    ap (λ (o : Option Use). or_first o rest) here ∙ sym (first_unknown_append known (reads (view e.1)) (reads_among (map operand_of (drop (i + 1) others)))) ∙ ap (λ (x : ℕ × ParsedExpr). among_operands known (x ∷ drop (i + 1) others)) is ∙ sym (at_drop_more (among_operands known) others i e within) ∙ so_far
