-- Operands that are grouped from the left are measured one by one: the tree of those so far, and how wide it is.
use native.Mathlib.Omega.{arith}
use Rattle.std.proofs.Common.{◌≡◌, ℕ, ◌+◌, ◌*◌, ◌^◌, ◌≤◌, ◌<◌, List, [], ◌∷◌, length, drop, get_or, map, Option, Some, None, Bool, true, false, nat_eq, refl, sym, ap, subst, ◌∙◌}
use Rattle.std.proofs.lemmas.List.{at_drop_more, at_drop_all}
use Rattle.std.proofs.lemmas.Option.{none-some, same_Some}
use Rattle.std.specs.Prelude.{if◌then◌else◌}
use Rattle.std.specs.Option.{ForSome}
use Rattle.vlsi_base.specs.declared.expression.ParsedExpr.{ParsedExpr}
use Rattle.vlsi_base.specs.declared.expression.Operator.{Operator}
use Rattle.vlsi_base.specs.declared.expression.Operator.TheVariants as operator
use Rattle.vlsi_base.specs.Tree.{Tree, binary, folded, view, operand_of}
use Rattle.source_checks.specs.declared.symbol_table.Symbol.{Symbol}
use Rattle.source_checks.specs.declared.widths.Measure.{Measure}
use Rattle.source_checks.specs.Measure.{measure_of, joined_measure, IsNarrow, MeasuredSoFar}
use Rattle.source_checks.specs.Operators.{operators, IsShort}
use Rattle.source_checks.specs.Widths.{joined_width}
use Rattle.source_checks.proofs.Measures.{measure_of_binary}

-- the first operand has no more operators than all of them
pub first_operators : (op : Operator) (t : Tree) (es : List (ℕ × Tree)) → operators t ≤ operators (folded op t es)
first_operators op t [] = omega arith
first_operators op t (e ∷ es) =
    let rest = first_operators op (binary op e.0 t e.1) es in
    omega arith

pub first_short : (op : Operator) (t : Tree) (es : List (ℕ × Tree)) → IsShort (folded op t es) → IsShort t
first_short op t es short = let fewer = first_operators op t es in omega arith

-- few operators make a sum of two widths that fits
pub half : (n : ℕ) (width : Option ℕ) → n ≤ 16384 → IsNarrow n width → ForSome width (λ bits. bits < 2 ^ 127)
half n width few narrow = λ bits is. let small = narrow bits is in omega arith

pub half_so_far : {known : List Symbol} {op : Operator} {whole : Tree} {all : Measure} {rest : List (ℕ × ParsedExpr)} → MeasuredSoFar known op whole all rest → IsShort whole → ForSome all.width (λ bits. bits < 2 ^ 127)
half_so_far {known} {op} {whole} {all} {rest} so_far short =
    let fewer : operators so_far.tree ≤ operators whole = subst (λ (t : Tree). operators so_far.tree ≤ operators t) so_far.joins (first_operators op so_far.tree (map operand_of rest)) in
    let few : operators so_far.tree ≤ 16384 = omega arith in
    half (operators so_far.tree) all.width few so_far.narrow

-- how the rest begins
begins_with : {known : List Symbol} {op : Operator} {whole : Tree} {all : Measure} (others : List (ℕ × ParsedExpr)) (i : ℕ) (e : ℕ × ParsedExpr) → i < length others → e ≡ get_or others i e
    → (so_far : MeasuredSoFar known op whole all (drop i others)) → folded op (binary op e.0 so_far.tree (view e.1)) (map operand_of (drop (i + 1) others)) ≡ whole
begins_with {known} {op} {whole} {all} others i e within is so_far =
    ap (λ (x : ℕ × ParsedExpr). folded op so_far.tree (map operand_of (x ∷ drop (i + 1) others))) is
    ∙ sym (at_drop_more (λ (xs : List (ℕ × ParsedExpr)). folded op so_far.tree (map operand_of xs)) others i e within) ∙ so_far.joins

-- an operand of few operators in all
pub operand_short : {known : List Symbol} {op : Operator} {whole : Tree} {all : Measure} (others : List (ℕ × ParsedExpr)) (i : ℕ) (e : ℕ × ParsedExpr) → i < length others → e ≡ get_or others i e
    → MeasuredSoFar known op whole all (drop i others) → IsShort whole → IsShort (view e.1)
operand_short {known} {op} {whole} {all} others i e within is so_far short =
    let next = binary op e.0 so_far.tree (view e.1) in
    let fewer : operators next ≤ operators whole = subst (λ (t : Tree). operators next ≤ operators t) (begins_with others i e within is so_far) (first_operators op next (map operand_of (drop (i + 1) others))) in
    omega arith

-- a width is at most as large as another
narrow_to : (n bits : ℕ) → bits < (n + 1) * 2 ^ 66 → IsNarrow n (Some bits)
narrow_to n bits small = λ x is. subst (λ (k : ℕ). k < (n + 1) * 2 ^ 66) (same_Some bits x is) small

narrow_none : (n : ℕ) → IsNarrow n None
narrow_none n = λ x is. absurd (none-some x is)

narrow_if : (n bits : ℕ) (test : Bool) → bits < (n + 1) * 2 ^ 66 → IsNarrow n (if test then Some bits else None)
narrow_if n bits true small = narrow_to n bits small
narrow_if n bits false small = narrow_none n

-- an operator more: the widths add up at most
narrow_joined : (op : Operator) (m n : ℕ) (a b : Option ℕ) → IsNarrow m a → IsNarrow n b → IsNarrow (1 + m + n) (joined_width op a b)
narrow_joined operator.Equal m n a b at_left at_right = narrow_to (1 + m + n) 1 (omega arith)
narrow_joined operator.Unequal m n a b at_left at_right = narrow_to (1 + m + n) 1 (omega arith)
narrow_joined op m n None b at_left at_right = narrow_none (1 + m + n)
narrow_joined op m n (Some a) None at_left at_right = narrow_none (1 + m + n)
narrow_joined operator.Join m n (Some a) (Some b) at_left at_right =
    let left = at_left a refl in
    let right = at_right b refl in
    narrow_to (1 + m + n) (a + b) (omega arith)
narrow_joined op m n (Some a) (Some b) at_left at_right =
    let left = at_left a refl in
    narrow_if (1 + m + n) a (nat_eq a b) (omega arith)

pub goes_on : {known : List Symbol} {op : Operator} {whole : Tree} {all : Measure} (others : List (ℕ × ParsedExpr)) (i : ℕ) (e : ℕ × ParsedExpr) (next made : Measure) → i < length others → e ≡ get_or others i e
    → MeasuredSoFar known op whole all (drop i others) → next ≡ measure_of known (view e.1) → IsNarrow (operators (view e.1)) next.width → made ≡ joined_measure op e.0 all next
    → MeasuredSoFar known op whole made (drop (i + 1) others)
goes_on {known} {op} {whole} {all} others i e next made within is so_far measured narrow joins = record {
  tree = binary op e.0 so_far.tree (view e.1);
  joins = begins_with others i e within is so_far;
  is = joins ∙ ap (λ (m : Measure). joined_measure op e.0 m next) so_far.is ∙ ap (joined_measure op e.0 (measure_of known so_far.tree)) measured ∙ sym (measure_of_binary known op e.0 so_far.tree (view e.1));
  narrow = subst (λ (m : Measure). IsNarrow (1 + operators so_far.tree + operators (view e.1)) m.width) (sym joins) (narrow_joined op (operators so_far.tree) (operators (view e.1)) all.width next.width so_far.narrow narrow);
}

-- none so far but the first
pub begins : {known : List Symbol} (op : Operator) (l whole : Tree) (first : Measure) (others : List (ℕ × ParsedExpr)) → whole ≡ folded op l (map operand_of others) → first ≡ measure_of known l → IsNarrow (operators l) first.width
    → MeasuredSoFar known op whole first others
begins {known} op l whole first others viewed measured narrow = record { tree = l; joins = sym viewed; is = measured; narrow = narrow }

-- no operand is left
pub all_is : {known : List Symbol} {op : Operator} {whole : Tree} {all : Measure} (others : List (ℕ × ParsedExpr)) (i : ℕ) → length others ≤ i → MeasuredSoFar known op whole all (drop i others) → all ≡ measure_of known whole
all_is {known} {op} {whole} {all} others i ends so_far =
    let same : so_far.tree ≡ whole = sym (at_drop_all (λ (xs : List (ℕ × ParsedExpr)). folded op so_far.tree (map operand_of xs)) others i ends) ∙ so_far.joins in
    so_far.is ∙ ap (measure_of known) same

pub all_narrow : {known : List Symbol} {op : Operator} {whole : Tree} {all : Measure} (others : List (ℕ × ParsedExpr)) (i : ℕ) → length others ≤ i → MeasuredSoFar known op whole all (drop i others) → IsNarrow (operators whole) all.width
all_narrow {known} {op} {whole} {all} others i ends so_far =
    let same : so_far.tree ≡ whole = sym (at_drop_all (λ (xs : List (ℕ × ParsedExpr)). folded op so_far.tree (map operand_of xs)) others i ends) ∙ so_far.joins in
    subst (λ (t : Tree). IsNarrow (operators t) all.width) same so_far.narrow
