-- What `and` joins, and relations with '1'.
use Rattle.std.proofs.Common.{◌≡◌, ℕ, Bool, true, false, cond, Some, None, List, [], ◌∷◌, ◌++◌, map, Bor, refl, sym, ap, ◌∙◌, append_assoc, append-nil}
use Rattle.std.proofs.lemmas.List.{map-append}
use Rattle.vlsi_base.specs.declared.expression.ParsedExpr.{ParsedExpr}
use Rattle.vlsi_base.specs.declared.expression.Operator.{Operator}
use Rattle.vlsi_base.specs.declared.expression.Operator.TheVariants as operator
use Rattle.vlsi_base.specs.Tree.{Tree, bit, literal, name, index, slice, stable, inverse, binary, folded, view}
use Rattle.source_checks.specs.Clock.{without_one, clock_alone, conjuncts, plain_name, is_name}
use Rattle.source_clock.specs.Operands.{is_and, is_equal, is_one, is_plain, is_beside_one, conjuncts_of}
use Rattle.std.specs.Prelude.{◌&&◌}
use Rattle.source_clock.proofs.Chains.{IsPair, IsDeep}

joined : (op : Operator) (line : ℕ) (l r : Tree) → is_and op ≡ true → conjuncts (binary op line l r) ≡ conjuncts l ++ conjuncts r
joined operator.And line l r e = refl
joined operator.Or line l r e = absurd cc
joined operator.Xor line l r e = absurd cc
joined operator.Xnor line l r e = absurd cc
joined operator.Nand line l r e = absurd cc
joined operator.Nor line l r e = absurd cc
joined operator.Equal line l r e = absurd cc
joined operator.Unequal line l r e = absurd cc
joined operator.Join line l r e = absurd cc

single : (op : Operator) (line : ℕ) (l r : Tree) → is_and op ≡ false → conjuncts (binary op line l r) ≡ binary op line l r ∷ []
single operator.And line l r e = absurd cc
single operator.Or line l r e = refl
single operator.Xor line l r e = refl
single operator.Xnor line l r e = refl
single operator.Nand line l r e = refl
single operator.Nor line l r e = refl
single operator.Equal line l r e = refl
single operator.Unequal line l r e = refl
single operator.Join line l r e = refl

conjuncts_folded : (op : Operator) (t : Tree) (es : List (ℕ × Tree)) → is_and op ≡ true → conjuncts (folded op t es) ≡ conjuncts t ++ conjuncts_of es
conjuncts_folded op t [] e = sym (append-nil (conjuncts t))
conjuncts_folded op t (x ∷ es) e =
    conjuncts_folded op (binary op x.0 t x.1) es e ∙ ap (λ (c : List Tree). c ++ conjuncts_of es) (joined op x.0 t x.1 e) ∙ append_assoc (conjuncts t) (conjuncts x.1) (conjuncts_of es)

-- a chain of `and` that was walked
pub walked : (old mid new : List Tree) (whole first : Tree) (op : Operator) (es : List (ℕ × Tree)) → whole ≡ folded op first es → is_and op ≡ true → mid ≡ old ++ conjuncts first → new ≡ mid ++ conjuncts_of es → new ≡ old ++ conjuncts whole
walked old mid new whole first op es is and_op begins goes =
    goes ∙ ap (λ (c : List Tree). c ++ conjuncts_of es) begins ∙ append_assoc old (conjuncts first) (conjuncts_of es) ∙ ap (λ (c : List Tree). old ++ c) (sym (conjuncts_folded op first es and_op)) ∙ ap (λ (t : Tree). old ++ conjuncts t) (sym is)

abbrev pub seen : List (Bor ParsedExpr) → List Tree
seen found = map (λ (r : Bor ParsedExpr). view r.now) found

-- what joins nothing by `and` was put behind
pub pushed : (old new : List (Bor ParsedExpr)) (e : Bor ParsedExpr) → new ≡ old ++ e ∷ [] → conjuncts (view e.now) ≡ view e.now ∷ [] → seen new ≡ seen old ++ conjuncts (view e.now)
pushed old new e is alone = ap seen is ∙ map-append (λ (r : Bor ParsedExpr). view r.now) old (e ∷ []) ∙ ap (λ (c : List Tree). seen old ++ c) (sym alone)

pub single_pair : (op : Operator) (t : Tree) → IsPair op t → is_and op ≡ false → conjuncts t ≡ t ∷ []
single_pair op t pair e = ap conjuncts pair.is ∙ single op pair.line pair.left pair.right e ∙ ap (λ (x : Tree). x ∷ []) (sym pair.is)

-- a relation, on its right
pub right_one : (op : Operator) (line : ℕ) (l r : Tree) → is_equal op ≡ true → without_one (binary op line l r) ≡ cond (is_one r) l (binary op line l r)
right_one operator.Equal line l (bit true n) e = refl
right_one operator.Equal line l (bit false n) e = refl
right_one operator.Equal line l (literal a b n) e = refl
right_one operator.Equal line l (name a n) e = refl
right_one operator.Equal line l (index a n k) e = refl
right_one operator.Equal line l (slice a n k) e = refl
right_one operator.Equal line l (stable a n) e = refl
right_one operator.Equal line l (inverse n a) e = refl
right_one operator.Equal line l (binary op n a b) e = refl
right_one operator.And line l r e = absurd cc
right_one operator.Or line l r e = absurd cc
right_one operator.Xor line l r e = absurd cc
right_one operator.Xnor line l r e = absurd cc
right_one operator.Nand line l r e = absurd cc
right_one operator.Nor line l r e = absurd cc
right_one operator.Unequal line l r e = absurd cc
right_one operator.Join line l r e = absurd cc

pub no_relation : (op : Operator) (line : ℕ) (l r : Tree) → is_equal op ≡ false → without_one (binary op line l r) ≡ binary op line l r
no_relation operator.And line l r e = refl
no_relation operator.Or line l r e = refl
no_relation operator.Xor line l r e = refl
no_relation operator.Xnor line l r e = refl
no_relation operator.Nand line l r e = refl
no_relation operator.Nor line l r e = refl
no_relation operator.Equal line l r e = absurd cc
no_relation operator.Unequal line l r e = refl
no_relation operator.Join line l r e = refl

pub no_relation_pair : (op : Operator) (t : Tree) → IsPair op t → is_equal op ≡ false → t ≡ without_one t
no_relation_pair op t pair e = pair.is ∙ sym (no_relation op pair.line pair.left pair.right e) ∙ ap without_one (sym pair.is)

-- on either side
either_one : (line : ℕ) (l r : Tree) → clock_alone (binary operator.Equal line l r) ≡ cond (is_one l) r (without_one (binary operator.Equal line l r))
either_one line (bit true n) r = refl
either_one line (bit false n) r = refl
either_one line (literal a b n) r = refl
either_one line (name a n) r = refl
either_one line (index a n k) r = refl
either_one line (slice a n k) r = refl
either_one line (stable a n) r = refl
either_one line (inverse n a) r = refl
either_one line (binary op n a b) r = refl

plain : (text : List ℕ) (t e : Tree) → clock_alone e ≡ t → is_name text e ≡ is_plain text t
plain text (bit b n) e is = let none : plain_name (clock_alone e) ≡ None = ap plain_name is in rw none refl
plain text (literal a b n) e is = let none : plain_name (clock_alone e) ≡ None = ap plain_name is in rw none refl
plain text (name a n) e is = let some : plain_name (clock_alone e) ≡ Some a = ap plain_name is in rw some refl
plain text (index a n k) e is = let none : plain_name (clock_alone e) ≡ None = ap plain_name is in rw none refl
plain text (slice a n k) e is = let none : plain_name (clock_alone e) ≡ None = ap plain_name is in rw none refl
plain text (stable a n) e is = let none : plain_name (clock_alone e) ≡ None = ap plain_name is in rw none refl
plain text (inverse n a) e is = let none : plain_name (clock_alone e) ≡ None = ap plain_name is in rw none refl
plain text (binary op n a b) e is = let none : plain_name (clock_alone e) ≡ None = ap plain_name is in rw none refl

chosen : (text : List ℕ) (b c : Bool) (l r t : Tree) → is_plain text t ≡ false → is_plain text (cond b r (cond c l t)) ≡ cond b (is_plain text r) (c && is_plain text l)
chosen text true c l r t none = refl
chosen text false true l r t none = refl
chosen text false false l r t none = none

pub beside_one : (text : List ℕ) (op : Operator) (line : ℕ) (l r : Tree) → is_equal op ≡ true → is_name text (binary op line l r) ≡ is_beside_one text l r
beside_one text operator.Equal line l r e =
    plain text _ (binary operator.Equal line l r) (either_one line l r ∙ ap (λ (t : Tree). cond (is_one l) r t) (right_one operator.Equal line l r refl))
    ∙ chosen text (is_one l) (is_one r) l r (binary operator.Equal line l r) refl
beside_one text operator.And line l r e = absurd cc
beside_one text operator.Or line l r e = absurd cc
beside_one text operator.Xor line l r e = absurd cc
beside_one text operator.Xnor line l r e = absurd cc
beside_one text operator.Nand line l r e = absurd cc
beside_one text operator.Nor line l r e = absurd cc
beside_one text operator.Unequal line l r e = absurd cc
beside_one text operator.Join line l r e = absurd cc

pub no_clock : (text : List ℕ) (op : Operator) (line : ℕ) (l r : Tree) → is_equal op ≡ false → is_name text (binary op line l r) ≡ false
no_clock text operator.And line l r e = refl
no_clock text operator.Or line l r e = refl
no_clock text operator.Xor line l r e = refl
no_clock text operator.Xnor line l r e = refl
no_clock text operator.Nand line l r e = refl
no_clock text operator.Nor line l r e = refl
no_clock text operator.Equal line l r e = absurd cc
no_clock text operator.Unequal line l r e = refl
no_clock text operator.Join line l r e = refl

and_false : (b : Bool) → (b && false) ≡ false
and_false true = refl
and_false false = refl

pub no_clock_pair : (text : List ℕ) (op : Operator) (t : Tree) → IsPair op t → is_equal op ≡ false → false ≡ is_name text t
no_clock_pair text op t pair e = sym (ap (is_name text) pair.is ∙ no_clock text op pair.line pair.left pair.right e)

pub no_clock_deep : (text : List ℕ) (op : Operator) (t : Tree) → IsDeep op t → is_equal op ≡ true → false ≡ is_name text t
no_clock_deep text op t deep e =
    sym (ap (is_name text) deep.is ∙ beside_one text op deep.line (binary op deep.inner deep.left deep.middle) deep.right e ∙ and_false (is_one deep.right))
