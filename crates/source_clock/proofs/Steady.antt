-- The `stable` that a guard's parts turn round.
use Rattle.std.proofs.Common.{◌≡◌, ℕ, Bool, true, false, cond, Some, None, List, [], ◌∷◌, refl, ap, ◌∙◌}
use Rattle.vlsi_base.specs.declared.expression.Operator.{Operator}
use Rattle.vlsi_base.specs.declared.expression.Operator.TheVariants as operator
use Rattle.vlsi_base.specs.Tree.{Tree, bit, literal, name, index, slice, stable, inverse, binary}
use Rattle.source_checks.specs.declared.symbol_table.Symbol.{Symbol}
use Rattle.source_checks.specs.Clock.{parts_of, steady_names, clock_of_parts, clock_of}
use Rattle.source_clock.specs.Operands.{is_equal}
use Rattle.source_clock.proofs.Chains.{IsDeep}

one_text : (known : List Symbol) (parts : List Tree) (names : List (List ℕ)) (text : List ℕ) → clock_of_parts known parts names ≡ Some text → names ≡ text ∷ []
one_text known parts [] text e = absurd cc
one_text known parts (x ∷ y ∷ rest) text e = absurd cc
one_text known parts (x ∷ []) text e = by _ e where
  by : (b : Bool) → cond b (Some x) None ≡ Some text → x ∷ [] ≡ text ∷ []
  by true e = cc
  by false e = absurd cc

-- a guard with a clock turns that clock's `stable` round, and no other
pub steady_of_clock : (known : List Symbol) (guard : Tree) (text : List ℕ) → clock_of known guard ≡ Some text → steady_names (parts_of guard) ≡ text ∷ []
steady_of_clock known guard text e = one_text known (parts_of guard) (steady_names (parts_of guard)) text e

-- a relation whose left is a relation turns none round
relation_of : (line inner : ℕ) (l m r : Tree) → steady_names (parts_of (binary operator.Equal line (binary operator.Equal inner l m) r)) ≡ []
relation_of line inner l m (bit true n) = refl
relation_of line inner l m (bit false n) = refl
relation_of line inner l m (literal a b n) = refl
relation_of line inner l m (name a n) = refl
relation_of line inner l m (index a n k) = refl
relation_of line inner l m (slice a n k) = refl
relation_of line inner l m (stable a n) = refl
relation_of line inner l m (inverse n a) = refl
relation_of line inner l m (binary op n a b) = refl

of_equal : (op : Operator) (line inner : ℕ) (l m r : Tree) → is_equal op ≡ true → steady_names (parts_of (binary op line (binary op inner l m) r)) ≡ []
of_equal operator.Equal line inner l m r e = relation_of line inner l m r
of_equal operator.And line inner l m r e = absurd cc
of_equal operator.Or line inner l m r e = absurd cc
of_equal operator.Xor line inner l m r e = absurd cc
of_equal operator.Xnor line inner l m r e = absurd cc
of_equal operator.Nand line inner l m r e = absurd cc
of_equal operator.Nor line inner l m r e = absurd cc
of_equal operator.Unequal line inner l m r e = absurd cc
of_equal operator.Join line inner l m r e = absurd cc

-- a chain of several relations turns none round
pub unsteady_deep : (op : Operator) (t : Tree) → IsDeep op t → is_equal op ≡ true → steady_names (parts_of t) ≡ []
unsteady_deep op t deep e = ap (λ (x : Tree). steady_names (parts_of x)) deep.is ∙ of_equal op deep.line deep.inner deep.left deep.middle deep.right e
