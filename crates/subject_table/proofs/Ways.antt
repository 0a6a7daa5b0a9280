-- Down a chain of operators, and up again, by the rules.
use Rattle.std.proofs.Common.{◌≡◌, inl, inr, ℕ, zero, suc, ◌<◌, List, [], ◌∷◌, ◌++◌, length, get_or, refl, sym, ◌∙◌, ap, subst, arith, append_assoc, append-nil}
use Rattle.bool_expr.specs.declared.expr.Gate.{Gate}
use Rattle.bool_expr.specs.Expression.{Expression, variable, inverse, pair, choice}
use Rattle.vlsi_base.specs.Member.{In}
use Rattle.machine_core.proofs.Values.{In-left, In-right}
use Rattle.net_theory.specs.Sources.{IsNumber}
use Rattle.graph_theory.proofs.Shown.{In-split}
use Rattle.graph_theory.specs.Graph.{Node}
use Rattle.subject_table.specs.declared.steps.Step.{Step}
use Rattle.subject_table.specs.declared.steps.Step.TheVariants as step
use Rattle.subject_table.specs.declared.table.Table.{Table}
use Rattle.subject_table.specs.Rules.{Rule, Then, Gives, IsInverse, IsPair, IsChoice, Becomes}
use Rattle.subject_table.specs.Makes.{Makes, Leads, IsStep, IsClimb}
use Rattle.subject_table.proofs.Making.{sets_out, goes_on, otherwise, arrived, alone, ends, makes_here}

-- the innermost of some operators comes first
climb_push : (ss : List Step) (s : Step) (x n : ℕ) (nodes : List Node) (r : ℕ) (made : List ℕ) → IsClimb (ss ++ s ∷ []) x n nodes r made
    → Then (IsStep s x) (λ y. IsClimb ss y) n nodes r made
climb_push [] s x n nodes r made h = record {
  mid = r;
  before = h.after;
  after = [];
  is_first = subst (λ (y : ℕ). IsStep s y n nodes r h.after) h.is_first.0 h.is_next;
  is_next = (refl, refl);
  all = h.all ∙ ap (λ (xs : List ℕ). xs ++ h.after) h.is_first.1 ∙ sym (append-nil h.after);
}
climb_push (z ∷ ss) s x n nodes r made h =
    let i = climb_push ss s x n nodes h.mid h.before h.is_first in
    record {
      mid = i.mid;
      before = i.before;
      after = i.after ++ h.after;
      is_first = i.is_first;
      is_next = record { mid = h.mid; before = i.after; after = h.after; is_first = i.is_next; is_next = h.is_next; all = refl };
      all = h.all ∙ ap (λ (xs : List ℕ). xs ++ h.after) i.all ∙ append_assoc i.before i.after h.after;
    }

climb_pop : (ss : List Step) (s : Step) (x n : ℕ) (nodes : List Node) (r : ℕ) (made : List ℕ) → Then (IsStep s x) (λ y. IsClimb ss y) n nodes r made
    → IsClimb (ss ++ s ∷ []) x n nodes r made
climb_pop [] s x n nodes r made h = record {
  mid = x;
  before = [];
  after = h.before;
  is_first = (refl, refl);
  is_next = subst (λ (y : ℕ). IsStep s x n nodes y h.before) (sym h.is_next.0) h.is_first;
  all = h.all ∙ ap (λ (xs : List ℕ). h.before ++ xs) h.is_next.1 ∙ append-nil h.before;
}
climb_pop (z ∷ ss) s x n nodes r made h =
    let j = h.is_next in
    let inner : Then (IsStep s x) (λ y. IsClimb ss y) n nodes j.mid (h.before ++ j.before) =
    record { mid = h.mid; before = h.before; after = j.before; is_first = h.is_first; is_next = j.is_first; all = refl } in
    record {
      mid = j.mid;
      before = h.before ++ j.before;
      after = j.after;
      is_first = climb_pop ss s x n nodes j.mid (h.before ++ j.before) inner;
      is_next = j.is_next;
      all = h.all ∙ ap (λ (xs : List ℕ). h.before ++ xs) j.all ∙ sym (append_assoc h.before j.before j.after);
    }

-- what is left of a walk down: an expression, and the operators over it
abbrev pub Walk : Table → Table → List ℕ → Expression → List Step → Expression → Type 0
Walk t u numbers whole steps rest = Leads t u (Becomes whole numbers) (Then (Becomes rest numbers) (λ x. IsClimb steps x))

pub walk_starts : (t : Table) (numbers : List ℕ) (e : Expression) → Walk t t numbers e [] e
walk_starts t numbers e =
    otherwise t t (Becomes e numbers) (Becomes e numbers) (Then (Becomes e numbers) (λ x. Gives x)) (sets_out t (Becomes e numbers)) (alone (Becomes e numbers))

-- one operator more
pushes : (t u : Table) (w p : Rule ℕ) (steps : List Step) (s : Step) → Leads t u w (Then p (λ x. Then (IsStep s x) (λ y. IsClimb steps y)))
    → Leads t u w (Then p (λ x. IsClimb (steps ++ s ∷ []) x))
pushes t u w p steps s k =
    otherwise t u w (Then p (λ x. Then (IsStep s x) (λ y. IsClimb steps y))) (Then p (λ x. IsClimb (steps ++ s ∷ []) x)) k
    (λ n nodes r made h. record {
      parts = made;
      is = record {
        mid = h.mid;
        before = h.before;
        after = h.after;
        is_first = h.is_first;
        is_next = climb_push steps s h.mid n nodes r h.after h.is_next;
        all = h.all;
      };
      keeps = λ x i. i;
    })

-- a part within a part
inwards : {A C D : Type 0} (t u : Table) (w : Rule D) (p : Rule A) (q : A → Rule C) (o : C → Rule D) → Leads t u w (Then (Then p q) o) → Leads t u w (Then p (λ x. Then (q x) o))
inwards t u w p q o k =
    otherwise t u w (Then (Then p q) o) (Then p (λ x. Then (q x) o)) k
    (λ n nodes r made h. let i = h.is_next in record {
      parts = made;
      is = record {
        mid = i.mid;
        before = h.before ++ i.before;
        after = i.after;
        is_first = record { mid = h.mid; before = h.before; after = i.before; is_first = h.is_first; is_next = i.is_first; all = refl };
        is_next = i.is_next;
        all = h.all ∙ ap (λ (xs : List ℕ). h.before ++ xs) i.all ∙ sym (append_assoc h.before i.before i.after);
      };
      keeps = λ x j. j;
    })

pub walk_not : (t u : Table) (numbers : List ℕ) (whole e : Expression) (steps : List Step) → Walk t u numbers whole steps (inverse e) → Walk t u numbers whole (steps ++ step.Not ∷ []) e
walk_not t u numbers whole e steps k =
    pushes t u (Becomes whole numbers) (Becomes e numbers) steps step.Not
    (inwards t u (Becomes whole numbers) (Becomes e numbers) (λ x. IsInverse x) (λ y. IsClimb steps y) k)

-- the second operand is made before the first
turned : (x : ℕ) (a b c : List ℕ) → In x (a ++ (b ++ c)) → In x (b ++ (a ++ c))
turned x a b c i = elim (In-split x a (b ++ c) i) [
  | inl j ↦ In-right x b (a ++ c) (In-left x a c j)
  | inr j ↦ elim (In-split x b c j) [ inl k ↦ In-left x b (a ++ c) k | inr k ↦ In-right x b (a ++ c) (In-right x a c k) ]
]

last_first : {A C D : Type 0} (t u : Table) (w : Rule D) (p : Rule A) (q : Rule C) (o : A → C → Rule D) → Leads t u w (Then p (λ x. Then q (λ y. o x y)))
    → Leads t u w (Then q (λ y. Then p (λ x. o x y)))
last_first t u w p q o k =
    otherwise t u w (Then p (λ x. Then q (λ y. o x y))) (Then q (λ y. Then p (λ x. o x y))) k
    (λ n nodes r made h. let i = h.is_next in record {
      parts = i.before ++ (h.before ++ i.after);
      is = record {
        mid = i.mid;
        before = i.before;
        after = h.before ++ i.after;
        is_first = i.is_first;
        is_next = record { mid = h.mid; before = h.before; after = i.after; is_first = h.is_first; is_next = i.is_next; all = refl };
        all = refl;
      };
      keeps = λ x j. turned x h.before i.before i.after (subst (λ (xs : List ℕ). In x xs) (h.all ∙ ap (λ (xs : List ℕ). h.before ++ xs) i.all) j);
    })

-- a part within a part that was turned inwards
inwards_behind : {A C D E : Type 0} (t u : Table) (w : Rule E) (p : Rule A) (q : A → Rule C) (s : A → C → Rule D) (o : D → Rule E)
    → Leads t u w (Then p (λ x. Then (Then (q x) (s x)) o)) → Leads t u w (Then p (λ x. Then (q x) (λ y. Then (s x y) o)))
inwards_behind t u w p q s o k =
    otherwise t u w (Then p (λ x. Then (Then (q x) (s x)) o)) (Then p (λ x. Then (q x) (λ y. Then (s x y) o))) k
    (λ n nodes r made h. let i = h.is_next in let j = i.is_next in record {
      parts = made;
      is = record {
        mid = h.mid;
        before = h.before;
        after = h.after;
        is_first = h.is_first;
        is_next = record {
          mid = j.mid;
          before = i.before ++ j.before;
          after = j.after;
          is_first = record { mid = i.mid; before = i.before; after = j.before; is_first = i.is_first; is_next = j.is_first; all = refl };
          is_next = j.is_next;
          all = i.all ∙ ap (λ (xs : List ℕ). i.before ++ xs) j.all ∙ sym (append_assoc i.before j.before j.after);
        };
        all = h.all;
      };
      keeps = λ x z. z;
    })

pub walk_pair : (t u v : Table) (numbers : List ℕ) (whole l r : Expression) (g : Gate) (steps : List Step) (b : ℕ) → Walk t u numbers whole steps (pair g l r)
    → Makes u v (Becomes r numbers) b → Walk t v numbers whole (steps ++ step.Pair g b ∷ []) l
walk_pair t u v numbers whole l r g steps b k m =
    let w = Becomes whole numbers in
    let first = inwards t u w (Becomes l numbers) (λ x. Then (Becomes r numbers) (λ y. IsPair g x y)) (λ z. IsClimb steps z) k in
    let second = inwards_behind t u w (Becomes l numbers) (λ x. Becomes r numbers) (λ x y. IsPair g x y) (λ z. IsClimb steps z) first in
    let third = last_first t u w (Becomes l numbers) (Becomes r numbers) (λ x y. Then (IsPair g x y) (λ z. IsClimb steps z)) second in
    let fourth = goes_on t u v w (Becomes r numbers) (λ y. Then (Becomes l numbers) (λ x. Then (IsPair g x y) (λ z. IsClimb steps z))) b third m in
    pushes t v w (Becomes l numbers) steps (step.Pair g b) fourth

pub walk_choice : (t u v x : Table) (numbers : List ℕ) (whole q d l : Expression) (steps : List Step) (c a : ℕ) → Walk t u numbers whole steps (choice q d l)
    → Makes u v (Becomes q numbers) c → Makes v x (Becomes d numbers) a → Walk t x numbers whole (steps ++ step.Choice c a ∷ []) l
walk_choice t u v x numbers whole q d l steps c a k first second =
    let w = Becomes whole numbers in
    let Q = Becomes q numbers in
    let D = Becomes d numbers in
    let L = Becomes l numbers in
    let one = inwards t u w Q (λ i. Then D (λ j. Then L (λ z. IsChoice i j z))) (λ y. IsClimb steps y) k in
    let two = goes_on t u v w Q (λ i. Then (Then D (λ j. Then L (λ z. IsChoice i j z))) (λ y. IsClimb steps y)) c one first in
    let three = inwards t v w D (λ j. Then L (λ z. IsChoice c j z)) (λ y. IsClimb steps y) two in
    let four = goes_on t v x w D (λ j. Then (Then L (λ z. IsChoice c j z)) (λ y. IsClimb steps y)) a three second in
    let five = inwards t x w L (λ z. IsChoice c a z) (λ y. IsClimb steps y) four in
    pushes t x w L steps (step.Choice c a) five

-- the end of the way down, and the whole way
pub walk_ends : (t u v : Table) (numbers : List ℕ) (whole : Expression) (steps : List Step) (rest : Expression) (a : ℕ) → Walk t u numbers whole steps rest
    → Makes u v (Becomes rest numbers) a → Leads t v (Becomes whole numbers) (IsClimb steps a)
walk_ends t u v numbers whole steps rest a k m = goes_on t u v (Becomes whole numbers) (Becomes rest numbers) (λ x. IsClimb steps x) a k m

pub walk_climbed : (t u v : Table) (numbers : List ℕ) (whole : Expression) (steps : List Step) (last r : ℕ) → Leads t u (Becomes whole numbers) (IsClimb steps last)
    → Makes u v (IsClimb steps last) r → Makes t v (Becomes whole numbers) r
walk_climbed t u v numbers whole steps last r k m = ends t u v (Becomes whole numbers) (IsClimb steps last) r k m

pub walk_seen : (t u : Table) (numbers : List ℕ) (whole : Expression) (steps : List Step) (rest other : Expression) → rest ≡ other → Walk t u numbers whole steps rest → Walk t u numbers whole steps other
walk_seen t u numbers whole steps rest other same k = subst (λ (x : Expression). Walk t u numbers whole steps x) same k

-- a variable's number is taken
pub variable_taken : (t : Table) (numbers : List ℕ) (k : ℕ) → k < length numbers → Makes t t (Becomes (variable k) numbers) (get_or numbers k 0)
variable_taken t numbers k within = makes_here t (Becomes (variable k) numbers) (get_or numbers k 0) [] (λ later. (number_get numbers k within, refl)) where
  number_get : (xs : List ℕ) (k : ℕ) → k < length xs → IsNumber xs k (get_or xs k 0)
  number_get [] k h = absurd (omega arith)
  number_get (x ∷ xs) zero h = refl
  number_get (x ∷ xs) (suc k) h = number_get xs k (omega arith)

-- up the way: what is left of it
pub climb_starts : (t : Table) (steps : List Step) (last : ℕ) → Leads t t (IsClimb steps last) (IsClimb steps last)
climb_starts t steps last = sets_out t (IsClimb steps last)

pub climb_on : (t u v : Table) (steps : List Step) (last : ℕ) (left rest : List Step) (s : Step) (number next : ℕ) → left ≡ rest ++ s ∷ []
    → Leads t u (IsClimb steps last) (IsClimb left number) → Makes u v (IsStep s number) next → Leads t v (IsClimb steps last) (IsClimb rest next)
climb_on t u v steps last left rest s number next popped k m =
    let w = IsClimb steps last in
    let split : Leads t u w (Then (IsStep s number) (λ y. IsClimb rest y)) =
    otherwise t u w (IsClimb left number) (Then (IsStep s number) (λ y. IsClimb rest y)) k
    (λ n nodes r made h. record {
      parts = made;
      is = subst (λ (xs : List Step). IsClimb xs number n nodes r made) (sym popped) (climb_pop rest s number n nodes r made h);
      keeps = λ x i. i;
    }) in
    goes_on t u v w (IsStep s number) (λ y. IsClimb rest y) next split m

pub climb_ends : (t u : Table) (steps : List Step) (last number : ℕ) (left : List Step) → length left ≡ 0 → Leads t u (IsClimb steps last) (IsClimb left number) → Makes t u (IsClimb steps last) number
climb_ends t u steps last number [] none k = arrived t u (IsClimb steps last) number k
climb_ends t u steps last number (s ∷ left) none k = absurd (omega arith)
