-- One question after another.
use Rattle.std.proofs.Common.{◌≡◌, ℕ, suc, ◌⊎◌, inl, inr, List, [], ◌∷◌, ◌++◌, None, Some, Result, Ok, Err, IfOk, refl, sym, subst, ◌∙◌, arith, append_assoc}
use Rattle.std.specs.List.{Contains, All}
use Rattle.std.proofs.lemmas.List.Elements.{Contains-append_cases, Contains-append_left, Contains-append_right}
use Rattle.bool_expr.specs.declared.expr.Gate.{Gate}
use Rattle.bool_expr.specs.declared.expr.Gate.TheVariants.{Nand}
use Rattle.bool_expr.specs.Expression.{Expression, pair, choice, inverse}
use Rattle.bdd_core.specs.declared.node.NodeId.{NodeId}
use Rattle.bdd_core.specs.declared.node.BddError.{BddError}
use Rattle.bdd_core.specs.Truths.{Truths, IsCounted, IsOver}
use Rattle.bdd_core.specs.Counting.{Holds}
use Rattle.bdd_core.specs.Diagram.{Diagram, IsNode, function_of, functions_of, gate_of, choice_of, Keeps, IsAsked, IsAnswer}
use Rattle.bdd_core.specs.Asked.{denoted, asked_of, IsAnswerOf}

abbrev good : NodeId → Result NodeId BddError
good a = Ok a

abbrev wrong : BddError → Result NodeId BddError
wrong e = Err e

ok_err : (a : NodeId) (e : BddError) → good a ≡ wrong e → ⊥
ok_err a e p = (cc)

pub over_sub : (fs gs : List Truths) (budget : ℕ) → ((f : Truths) → Contains fs f → Contains gs f) → IsOver fs budget → IsOver gs budget
over_sub fs gs budget sub o = (o.0, o.1, λ x c. let k : IsCounted fs x = o.2 x c in (k.0, (k.1.0, sub k.1.0 k.1.1, k.1.2)), o.3)

-- what is asked for and what the expression denotes, over the functions that the nodes have
abbrev pub Asks : Diagram → List NodeId → Expression → List Truths
Asks d bound e = asked_of d.table.vars (functions_of d bound) e

abbrev pub Denotes : Diagram → List NodeId → Expression → Truths
Denotes d bound e = denoted d.table.vars (functions_of d bound) e

pub keeps_then : (d0 d1 d2 : Diagram) → Keeps d0 d1 → Keeps d1 d2 → Keeps d0 d2
keeps_then d0 d1 d2 a b i w = ((b i (a i w).0).0, (b i (a i w).0).1 ∙ (a i w).1)

pub same_functions : (d0 d1 : Diagram) (bound : List NodeId) → Keeps d0 d1 → All (λ a. IsNode d0 a) bound → functions_of d1 bound ≡ functions_of d0 bound
same_functions d0 d1 [] keeps all = refl
same_functions d0 d1 (a ∷ bound) keeps all =
    let here : IsNode d0 a = all 0 a (omega arith) in
    λ j. (keeps a here).1 j ∷ same_functions d0 d1 bound keeps (λ k d w. all (suc k) d (omega arith)) j

-- nodes that were bound are nodes after a question too
pub bound_kept : (d0 d1 : Diagram) (bound : List NodeId) → Keeps d0 d1 → All (λ a. IsNode d0 a) bound → All (λ a. IsNode d1 a) bound
bound_kept d0 d1 bound keeps all k d w = (keeps _ (all k d w)).0

-- what was asked so far, and where that led
pub record SoFar (d0 d : Diagram) (asked : List Truths) : Type 0 where
  pub vars : d.table.vars ≡ d0.table.vars
  pub budget : d.table.budget ≡ d0.table.budget
  pub keeps : Keeps d0 d
  pub holds : (fs : List Truths) → Holds fs d0.table → Holds (asked ++ fs) d.table
  pub live : d.refused ≡ None
  pub was_live : (e : BddError) → d0.refused ≡ Some e → ⊥

pub first : (d0 d1 : Diagram) (asked : List Truths) (f : Truths) (a : NodeId) → IsAnswer d0 d1 asked f (Ok a) → SoFar d0 d1 asked
first d0 d1 asked f a p = record {
  vars = p.vars;
  budget = p.budget;
  keeps = p.keeps;
  holds = p.ok.holds;
  live = p.live;
  was_live = λ e was. ok_err a e (p.still e was);
}

-- an answer after others
pub after : (d0 d1 d2 : Diagram) (xs ys : List Truths) (f : Truths) → SoFar d0 d1 xs → (r : Result NodeId BddError) → IsAnswer d1 d2 ys f r → IsAnswer d0 d2 (ys ++ xs) f r
after d0 d1 d2 xs ys f s r a = record {
  vars = a.vars ∙ s.vars;
  budget = a.budget ∙ s.budget;
  keeps = keeps_then d0 d1 d2 s.keeps a.keeps;
  ok = ok r a.ok;
  live = a.live;
  over = λ was is fs h.
      subst (λ (l : List Truths). IsOver l d0.table.budget) (sym (append_assoc ys xs fs))
      (subst (λ (n : ℕ). IsOver (ys ++ (xs ++ fs)) n) s.budget (a.over s.live is (xs ++ fs) (s.holds fs h)));
  refused = a.refused;
  still = λ e was. absurd (s.was_live e was);
}
  where
    ok : (r : Result NodeId BddError) → IfOk r (λ at. IsAsked d1 d2 ys f at) → IfOk r (λ at. IsAsked d0 d2 (ys ++ xs) f at)
    ok (Err e) k = tt
    ok (Ok at) k = record {
      node = k.node;
      is = k.is;
      holds = λ fs h. subst (λ (l : List Truths). Holds l d2.table) (sym (append_assoc ys xs fs)) (k.holds (xs ++ fs) (s.holds fs h));
      within = λ fs h o.
          k.within (xs ++ fs) (s.holds fs h)
          (subst (λ (n : ℕ). IsOver (ys ++ (xs ++ fs)) n) (sym s.budget)
          (subst (λ (l : List Truths). IsOver l d0.table.budget) (append_assoc ys xs fs) o));
    }

pub same_answer : (d0 d1 : Diagram) (xs ys : List Truths) (f g : Truths) (r : Result NodeId BddError) → xs ≡ ys → f ≡ g → IsAnswer d0 d1 xs f r → IsAnswer d0 d1 ys g r
same_answer d0 d1 xs ys f g r e h a =
    subst (λ (l : List Truths). IsAnswer d0 d1 l g r) e (subst (λ (t : Truths). IsAnswer d0 d1 xs t r) h a)

-- a refusal, where more was to be asked
pub wider : (d0 d1 : Diagram) (xs ys : List Truths) (f g : Truths) (e : BddError) → ((x : Truths) → Contains xs x → Contains ys x)
    → IsAnswer d0 d1 xs f (Err e) → IsAnswer d0 d1 ys g (Err e)
wider d0 d1 xs ys f g e sub a = record {
  vars = a.vars;
  budget = a.budget;
  keeps = a.keeps;
  ok = tt;
  live = tt;
  over = λ was is fs h. over_sub (xs ++ fs) (ys ++ fs) d0.table.budget (λ x c. front x fs (Contains-append_cases xs fs x c)) (a.over was is fs h);
  refused = a.refused;
  still = a.still;
}
  where
    front : (x : Truths) (fs : List Truths) → (Contains xs x ⊎ Contains fs x) → Contains (ys ++ fs) x
    front x fs (inl c) = Contains-append_left ys fs x (sub x c)
    front x fs (inr c) = Contains-append_right ys fs x c

module _ (d0 : Diagram) (bound : List NodeId) (all : All (λ a. IsNode d0 a) bound) where
  -- the answer for a second expression
  after_of : (d1 d2 : Diagram) (xs : List Truths) (e : Expression) → SoFar d0 d1 xs → (r : Result NodeId BddError) → IsAnswerOf d1 d2 bound e r
      → IsAnswer d0 d2 (Asks d0 bound e ++ xs) (Denotes d0 bound e) r
  after_of d1 d2 xs e s r a =
      let same = same_functions d0 d1 bound s.keeps all in
      let asks : Asks d1 bound e ≡ Asks d0 bound e = λ j. asked_of (s.vars j) (same j) e in
      let denotes : Denotes d1 bound e ≡ Denotes d0 bound e = λ j. denoted (s.vars j) (same j) e in
      after d0 d1 d2 xs (Asks d0 bound e) (Denotes d0 bound e) s r
      (same_answer d1 d2 (Asks d1 bound e) (Asks d0 bound e) (Denotes d1 bound e) (Denotes d0 bound e) r asks denotes a)

  -- the last question
  last : (d1 d2 : Diagram) (xs : List Truths) (f g : Truths) → SoFar d0 d1 xs → f ≡ g → (r : Result NodeId BddError) → IsAnswer d1 d2 (f ∷ []) f r → IsAnswer d0 d2 (g ∷ xs) g r
  last d1 d2 xs f g s e r a = after d0 d1 d2 xs (g ∷ []) g s r (same_answer d1 d2 (f ∷ []) (g ∷ []) f g r (λ j. e j ∷ []) e a)

  pub opposite_answer : (d1 d2 : Diagram) (e : Expression) (a : NodeId) (r : Result NodeId BddError) → IsAnswerOf d0 d1 bound e (Ok a)
      → IsAnswer d1 d2 (gate_of Nand (function_of d1 a) (function_of d1 a) ∷ []) (gate_of Nand (function_of d1 a) (function_of d1 a)) r
      → IsAnswerOf d0 d2 bound (inverse e) r
  opposite_answer d1 d2 e a r p q =
      last d1 d2 (Asks d0 bound e) _ (Denotes d0 bound (inverse e)) (first d0 d1 (Asks d0 bound e) _ a p) (λ j. gate_of Nand (p.ok.is j) (p.ok.is j)) r q

  pub pair_answer : (d1 d2 d3 : Diagram) (g : Gate) (l e : Expression) (a b : NodeId) (r : Result NodeId BddError) → IsAnswerOf d0 d1 bound l (Ok a)
      → IsAnswerOf d1 d2 bound e (Ok b)
      → IsAnswer d2 d3 (gate_of g (function_of d2 a) (function_of d2 b) ∷ []) (gate_of g (function_of d2 a) (function_of d2 b)) r
      → IsAnswerOf d0 d3 bound (pair g l e) r
  pair_answer d1 d2 d3 g l e a b r p n q =
      let xs = Asks d0 bound l in
      let m : IsAnswer d0 d2 (Asks d0 bound e ++ xs) (Denotes d0 bound e) (Ok b) = after_of d1 d2 xs e (first d0 d1 xs _ a p) (Ok b) n in
      let x : function_of d2 a ≡ Denotes d0 bound l = (n.keeps a p.ok.node).1 ∙ p.ok.is in
      last d2 d3 (Asks d0 bound e ++ xs) _ (Denotes d0 bound (pair g l e)) (first d0 d2 (Asks d0 bound e ++ xs) _ b m) (λ j. gate_of g (x j) (m.ok.is j)) r q

  -- the answer of a second one after a first
  second : (d1 d2 : Diagram) (l e : Expression) (a : NodeId) (r : Result NodeId BddError) → IsAnswerOf d0 d1 bound l (Ok a) → IsAnswerOf d1 d2 bound e r
      → IsAnswer d0 d2 (Asks d0 bound e ++ Asks d0 bound l) (Denotes d0 bound e) r
  second d1 d2 l e a r p n = after_of d1 d2 (Asks d0 bound l) e (first d0 d1 (Asks d0 bound l) _ a p) r n

  -- of a third one after two
  third : (d1 d2 d3 : Diagram) (c l e : Expression) (s a : NodeId) (r : Result NodeId BddError) → IsAnswerOf d0 d1 bound c (Ok s)
      → IsAnswerOf d1 d2 bound l (Ok a) → IsAnswerOf d2 d3 bound e r
      → IsAnswer d0 d3 (Asks d0 bound e ++ (Asks d0 bound l ++ Asks d0 bound c)) (Denotes d0 bound e) r
  third d1 d2 d3 c l e s a r p n m =
      after_of d2 d3 (Asks d0 bound l ++ Asks d0 bound c) e
      (first d0 d2 (Asks d0 bound l ++ Asks d0 bound c) _ a (second d1 d2 c l s (Ok a) p n)) r m

  pub choice_answer : (d1 d2 d3 d4 : Diagram) (c l e : Expression) (s a b : NodeId) (r : Result NodeId BddError) → IsAnswerOf d0 d1 bound c (Ok s)
      → IsAnswerOf d1 d2 bound l (Ok a) → IsAnswerOf d2 d3 bound e (Ok b)
      → IsAnswer d3 d4 (choice_of (function_of d3 s) (function_of d3 a) (function_of d3 b) ∷ []) (choice_of (function_of d3 s) (function_of d3 a) (function_of d3 b)) r
      → IsAnswerOf d0 d4 bound (choice c l e) r
  choice_answer d1 d2 d3 d4 c l e s a b r p n m q =
      let xs = Asks d0 bound e ++ (Asks d0 bound l ++ Asks d0 bound c) in
      let y = second d1 d2 c l s (Ok a) p n in
      let z = third d1 d2 d3 c l e s a (Ok b) p n m in
      let kept = keeps_then d1 d2 d3 n.keeps m.keeps in
      let is_s : function_of d3 s ≡ Denotes d0 bound c = (kept s p.ok.node).1 ∙ p.ok.is in
      let is_a : function_of d3 a ≡ Denotes d0 bound l = (m.keeps a y.ok.node).1 ∙ y.ok.is in
      last d3 d4 xs _ (Denotes d0 bound (choice c l e)) (first d0 d3 xs _ b z) (λ j. choice_of (is_s j) (is_a j) (z.ok.is j)) r q

  -- where an operand is refused, the whole is
  pub opposite_refused : (d1 : Diagram) (e : Expression) (x : BddError) → IsAnswerOf d0 d1 bound e (Err x) → IsAnswerOf d0 d1 bound (inverse e) (Err x)
  opposite_refused d1 e x p =
      wider d0 d1 (Asks d0 bound e) (Asks d0 bound (inverse e)) _ _ x
      (λ f c. Contains-append_right (Denotes d0 bound (inverse e) ∷ []) (Asks d0 bound e) f c) p

  pub first_refused : (d1 : Diagram) (g : Gate) (l e : Expression) (x : BddError) → IsAnswerOf d0 d1 bound l (Err x) → IsAnswerOf d0 d1 bound (pair g l e) (Err x)
  first_refused d1 g l e x p =
      wider d0 d1 (Asks d0 bound l) (Asks d0 bound (pair g l e)) _ _ x
      (λ f c. Contains-append_right (Denotes d0 bound (pair g l e) ∷ Asks d0 bound e) (Asks d0 bound l) f c) p

  pub second_refused : (d1 d2 : Diagram) (g : Gate) (l e : Expression) (a : NodeId) (x : BddError) → IsAnswerOf d0 d1 bound l (Ok a)
      → IsAnswerOf d1 d2 bound e (Err x) → IsAnswerOf d0 d2 bound (pair g l e) (Err x)
  second_refused d1 d2 g l e a x p n =
      wider d0 d2 (Asks d0 bound e ++ Asks d0 bound l) (Asks d0 bound (pair g l e)) _ _ x
      (λ f c. Contains-append_right (Denotes d0 bound (pair g l e) ∷ []) (Asks d0 bound e ++ Asks d0 bound l) f c)
      (second d1 d2 l e a (Err x) p n)

  pub condition_refused : (d1 : Diagram) (c l e : Expression) (x : BddError) → IsAnswerOf d0 d1 bound c (Err x) → IsAnswerOf d0 d1 bound (choice c l e) (Err x)
  condition_refused d1 c l e x p =
      wider d0 d1 (Asks d0 bound c) (Asks d0 bound (choice c l e)) _ _ x
      (λ f k. Contains-append_right (Denotes d0 bound (choice c l e) ∷ Asks d0 bound e) (Asks d0 bound l ++ Asks d0 bound c) f
      (Contains-append_right (Asks d0 bound l) (Asks d0 bound c) f k)) p

  pub one_refused : (d1 d2 : Diagram) (c l e : Expression) (s : NodeId) (x : BddError) → IsAnswerOf d0 d1 bound c (Ok s)
      → IsAnswerOf d1 d2 bound l (Err x) → IsAnswerOf d0 d2 bound (choice c l e) (Err x)
  one_refused d1 d2 c l e s x p n =
      wider d0 d2 (Asks d0 bound l ++ Asks d0 bound c) (Asks d0 bound (choice c l e)) _ _ x
      (λ f k. Contains-append_right (Denotes d0 bound (choice c l e) ∷ Asks d0 bound e) (Asks d0 bound l ++ Asks d0 bound c) f k)
      (second d1 d2 c l s (Err x) p n)

  pub other_refused : (d1 d2 d3 : Diagram) (c l e : Expression) (s a : NodeId) (x : BddError) → IsAnswerOf d0 d1 bound c (Ok s)
      → IsAnswerOf d1 d2 bound l (Ok a) → IsAnswerOf d2 d3 bound e (Err x) → IsAnswerOf d0 d3 bound (choice c l e) (Err x)
  other_refused d1 d2 d3 c l e s a x p n m =
      wider d0 d3 (Asks d0 bound e ++ (Asks d0 bound l ++ Asks d0 bound c)) (Asks d0 bound (choice c l e)) _ _ x
      (λ f k. Contains-append_right (Denotes d0 bound (choice c l e) ∷ []) (Asks d0 bound e ++ (Asks d0 bound l ++ Asks d0 bound c)) f k)
      (third d1 d2 d3 c l e s a (Err x) p n m)
