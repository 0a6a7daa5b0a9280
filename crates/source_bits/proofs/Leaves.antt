-- Formulas of names, literals and chains over numbers.
use Rattle.std.proofs.Common.{◌≡◌, ℕ, zero, suc, ◌-◌, ◌*◌, ◌/◌, ◌%◌, ◌<◌, Bool, true, false, cond, eqb, List, [], ◌∷◌, ◌++◌, map, Option, Some, None, bytes_eq, length, refl, sym, ap, ◌∙◌, append_assoc, arith}
use Rattle.std.proofs.lemmas.List.{map-append}
use Rattle.std.specs.Prelude.{option_map, codes}
use Rattle.vlsi_base.specs.declared.name.Name.{Name}
use Rattle.vlsi_base.specs.declared.expression.ParsedExpr.{ParsedExpr}
use Rattle.vlsi_base.specs.declared.range.Range.{Range}
use Rattle.vlsi_base.specs.declared.expression.Operator.{Operator}
use Rattle.vlsi_base.specs.Tree.{Tree, binary, inverse, folded, view, operand_of}
use Rattle.bool_expr.specs.declared.expr.Expr.{Expr}
use Rattle.bool_expr.specs.View.{view as expression}
use Rattle.bool_expr.specs.Expression.{Expression, constant, variable, inverse as not_of}
use Rattle.source_checks.specs.declared.symbol_table.Symbol.{Symbol}
use Rattle.source_checks.specs.Symbols.{find, names_in, all_names}
use Rattle.source_checks.specs.Formula.{fixed, named, numbered, leaf, names_of_found, place, is_odd, low_bits, formulas}
use Rattle.source_checks.proofs.Names.{find_text}
use Rattle.source_bits.specs.declared.ranges.Declared.{Declared}
use Rattle.source_bits.specs.Numbering.{named_bit, number_in}
use Rattle.source_bits.specs.Vectors.{operator_of}
use Rattle.source_bits.specs.Formulas.{leaf_in, bits_of, folded_bits}
use Rattle.source_bits.proofs.Operators.{numbered_operator, numbered_opposites}

numbered_leaf : (vars : List Name) (total : ℕ) (declared : Option Declared) (n : Name) → number_in total declared n ≡ place vars n → leaf_in total declared n ≡ numbered vars (leaf n)
numbered_leaf vars total declared n is = ap (λ k. cond (bytes_eq n.text (codes "vdd")) (constant true) (cond (bytes_eq n.text (codes "vss")) (constant false) (variable k))) is ∙ by (bytes_eq n.text (codes "vdd")) (bytes_eq n.text (codes "vss")) where
  by : (a b : Bool) → cond a (constant true) (cond b (constant false) (variable (place vars n))) ≡ numbered vars (cond a (fixed true) (cond b (fixed false) (named n)))
  by true b = refl
  by false true = refl
  by false false = refl

pub numbered_leaves : (vars : List Name) (total : ℕ) (declared : Option Declared) (text : List ℕ) (bits : List (Option ℕ)) → ((bit : Option ℕ) → number_in total declared (named_bit text bit) ≡ place vars (named_bit text bit))
    → map (λ b. leaf_in total declared (named_bit text b)) bits ≡ map (numbered vars) (map leaf (map (named_bit text) bits))
numbered_leaves vars total declared text [] are = refl
numbered_leaves vars total declared text (b ∷ bits) are =
    ap (λ (es : List Expression). leaf_in total declared (named_bit text b) ∷ es) (numbered_leaves vars total declared text bits are)
    ∙ ap (λ (e : Expression). e ∷ map (numbered vars) (map leaf (map (named_bit text) bits))) (numbered_leaf vars total declared (named_bit text b) (are b))

-- the bits of a name that is found
pub whole_name : (known : List Symbol) (text : List ℕ) (d : Declared) → option_map (λ (d : Declared). d.range) (Some d) ≡ option_map (λ (s : Symbol). s.range) (find known text) → names_in text d.range ≡ names_of_found (find known text)
whole_name known text d is = by (find known text) refl is where
  by : (o : Option Symbol) → find known text ≡ o → Some d.range ≡ option_map (λ (s : Symbol). s.range) o → names_in text d.range ≡ names_of_found o
  by None at is = absurd cc
  by (Some s) at is =
      let same : d.range ≡ s.range = cc in
      ap (names_in text) same ∙ ap (λ (t : List ℕ). names_in t s.range) (sym (find_text known text s at))

pub no_name : (known : List Symbol) (text : List ℕ) → option_map (λ (d : Declared). d.range) None ≡ option_map (λ (s : Symbol). s.range) (find known text) → [] ≡ names_of_found (find known text)
no_name known text is = by (find known text) is where
  by : (o : Option Symbol) → option_map (λ (d : Declared). d.range) None ≡ option_map (λ (s : Symbol). s.range) o → [] ≡ names_of_found o
  by None is = refl
  by (Some s) is = absurd cc

odd_is : (n : ℕ) → eqb (n % 2) 1 ≡ is_odd n
odd_is n = let e : n % 2 ≡ n - 2 * (n / 2) = omega arith in ap (λ k. eqb k 1) e

-- one bit more of a digit
pub low_bits_more : (n value : ℕ) → 0 < n → low_bits n value ≡ low_bits (n - 1) (value / 2) ++ eqb (value % 2) 1 ∷ []
low_bits_more zero value some = absurd (omega arith)
low_bits_more (suc n) value some =
    let same : n ≡ suc n - 1 = omega arith in
    ap (λ k. low_bits k (value / 2) ++ is_odd value ∷ []) same ∙ ap (λ b. low_bits (suc n - 1) (value / 2) ++ b ∷ []) (sym (odd_is value))

pub numbered_fixed : (vars : List Name) (bs : List Bool) → map constant bs ≡ map (numbered vars) (map fixed bs)
numbered_fixed vars [] = refl
numbered_fixed vars (b ∷ bs) = ap (λ (es : List Expression). constant b ∷ es) (numbered_fixed vars bs)

pub bits_of_folded : (known : List Symbol) (op : Operator) (t : Tree) (es : List (ℕ × ParsedExpr)) → bits_of known (folded op t (map operand_of es)) ≡ folded_bits known op (bits_of known t) es
bits_of_folded known op t [] = refl
bits_of_folded known op t (e ∷ es) =
    bits_of_folded known op (binary op e.0 t (view e.1)) es ∙ ap (λ (xs : List Expression). folded_bits known op xs es) (numbered_operator (all_names known) op (formulas known t) (formulas known (view e.1)))

-- operands that are joined in a chain
pub bits_in_chain : (known : List Symbol) (whole l : Tree) (op : Operator) (es : List (ℕ × ParsedExpr)) (first all : List Expression) → whole ≡ folded op l (map operand_of es) → first ≡ bits_of known l → all ≡ folded_bits known op first es → all ≡ bits_of known whole
bits_in_chain known whole l op es first all is begins goes =
    goes ∙ ap (λ (xs : List Expression). folded_bits known op xs es) begins ∙ sym (bits_of_folded known op l es) ∙ ap (bits_of known) (sym is)

-- the bits of a name in a range
pub in_range : (vars : List Name) (total : ℕ) (declared : Option Declared) (text : List ℕ) (bits : List (Option ℕ)) (range : Option Range) (made : List Expression) → total ≡ length vars
    → ((bit : Option ℕ) → number_in (length vars) declared (named_bit text bit) ≡ place vars (named_bit text bit)) → map (named_bit text) bits ≡ names_in text range
    → made ≡ map (λ b. leaf_in total declared (named_bit text b)) bits → made ≡ map (numbered vars) (map leaf (names_in text range))
in_range vars total declared text bits range made whole are names is =
    is ∙ numbered_leaves vars total declared text bits (λ b. ap (λ (n : ℕ). number_in n declared (named_bit text b)) whole ∙ are b) ∙ ap (λ (ns : List Name). map (numbered vars) (map leaf ns)) names

pub pushed_digit : (old : List Expression) (mid new : List Expr) (bit : Expr) (n value : ℕ) → new ≡ mid ++ bit ∷ [] → expression bit ≡ constant (eqb (value % 2) 1)
    → map expression mid ≡ old ++ map constant (low_bits (n - 1) (value / 2)) → 0 < n → map expression new ≡ old ++ map constant (low_bits n value)
pushed_digit old mid new bit n value is at_bit before some =
    ap (map expression) is ∙ map-append expression mid (bit ∷ []) ∙ ap (λ (e : Expression). map expression mid ++ e ∷ []) at_bit
    ∙ ap (λ (es : List Expression). es ++ constant (eqb (value % 2) 1) ∷ []) before ∙ append_assoc old (map constant (low_bits (n - 1) (value / 2))) (constant (eqb (value % 2) 1) ∷ [])
    ∙ ap (λ (es : List Expression). old ++ es) (sym (map-append (λ (b : Bool). constant b) (low_bits (n - 1) (value / 2)) (eqb (value % 2) 1 ∷ [])) ∙ ap (map constant) (sym (low_bits_more n value some)))

pub in_inverse : (known : List Symbol) (whole l : Tree) (line : ℕ) (inner made : List Expression) → whole ≡ inverse line l → inner ≡ bits_of known l → made ≡ map not_of inner → made ≡ bits_of known whole
in_inverse known whole l line inner made is begins goes =
    goes ∙ ap (map not_of) begins ∙ sym (numbered_opposites (all_names known) (formulas known l)) ∙ ap (bits_of known) (sym is)

pub in_binary : (known : List Symbol) (whole l r : Tree) (op : Operator) (line : ℕ) (ls rs made : List Expression) → whole ≡ binary op line l r → ls ≡ bits_of known l → rs ≡ bits_of known r → made ≡ operator_of op ls rs → made ≡ bits_of known whole
in_binary known whole l r op line ls rs made is at_left at_right goes =
    goes ∙ ap (λ (xs : List Expression). operator_of op xs rs) at_left ∙ ap (operator_of op (bits_of known l)) at_right ∙ sym (numbered_operator (all_names known) op (formulas known l) (formulas known r)) ∙ ap (bits_of known) (sym is)
