-- One root after another in shared diagrams.
use Rattle.std.proofs.Common.{◌≡◌, ℕ, zero, suc, Bool, false, List, [], ◌∷◌, ◌++◌, length, replicate, None, Result, Ok, Err, refl, sym, ap, subst, ◌∙◌, arith, append_assoc}
use Rattle.std.proofs.lemmas.List.Elements.{Contains-append_right}
use Rattle.bool_expr.specs.Expression.{Expression, constant as steady}
use Rattle.bdd_core.specs.declared.node.NodeId.{NodeId}
use Rattle.bdd_core.specs.declared.node.BddError.{BddError}
use Rattle.bdd_core.specs.declared.node.BddError.TheVariants.{Budget}
use Rattle.bdd_core.specs.Truths.{Truths, constant, IsOver}
use Rattle.bdd_core.specs.Nodes.{raised}
use Rattle.bdd_core.specs.Counting.{Holds}
use Rattle.bdd_core.specs.Diagram.{Diagram, IsNode, function_of, functions_of, IsAnswer}
use Rattle.bdd_core.specs.Asked.{asked_of, denoted, IsAnswerOf}
use Rattle.bdd_core.proofs.Asking.{SoFar, after, over_sub}
use Rattle.machine_core.specs.Machine.{Equation}
use Rattle.machine_roots.specs.declared.sharing.SharedDiagrams.{SharedDiagrams}
use Rattle.machine_roots.specs.Asked.{HaveAsked}
use Rattle.machine_roots.specs.Binding.{AreNodes, variable_lists, put_variables, held_lists, bound_lists, asked_by}
use Rattle.machine_roots.specs.Shared.{shared_lists, AreShared, root_list, root_lists}
use Rattle.machine_roots.proofs.Members.{CountsIn, over_in}
use Rattle.machine_roots.proofs.Sets.{counts_constant}

abbrev good : NodeId → Result NodeId BddError
good a = Ok a

abbrev wrong : BddError → Result NodeId BddError
wrong e = Err e

abbrev pub zero_expression : Expression
zero_expression = steady false

-- what several answered questions led to
pub so_far : {A : Type 0} (d0 d : Diagram) (xs : List Truths) (r : A) → d0.refused ≡ None → HaveAsked {A = A} d0 d xs (Ok r) → SoFar d0 d xs
so_far d0 d xs r live h = record {
  vars = h.vars;
  budget = h.budget;
  keeps = h.keeps;
  holds = h.holds;
  live = h.live;
  was_live = λ e was. (cc (live, was));
}

-- an answer is that of several questions
pub have_answer : (d0 d : Diagram) (xs : List Truths) (f : Truths) (r : Result NodeId BddError) → d0.refused ≡ None → IsAnswer d0 d xs f r → HaveAsked d0 d xs r
have_answer d0 d xs f (Ok a) live p = record { vars = p.vars; budget = p.budget; keeps = p.keeps; live = p.live; holds = p.ok.holds; over = tt }
have_answer d0 d xs f (Err e) live p = record {
  vars = p.vars;
  budget = p.budget;
  keeps = p.keeps;
  live = tt;
  holds = tt;
  over = λ is earlier h. p.over live (ap wrong is) earlier h;
}

-- a refusal of the first questions is one of all
pub refused_before : {A B : Type 0} (d0 d : Diagram) (xs ys : List Truths) (e : BddError) → HaveAsked {A = A} d0 d xs (Err e)
    → ((earlier : List Truths) → IsOver (xs ++ earlier) d0.table.budget → IsOver ((ys ++ xs) ++ earlier) d0.table.budget) → HaveAsked {A = B} d0 d (ys ++ xs) (Err e)
refused_before d0 d xs ys e h wide = record {
  vars = h.vars;
  budget = h.budget;
  keeps = h.keeps;
  live = tt;
  holds = tt;
  over = λ is earlier held. wide earlier (h.over is earlier held);
}

-- ---- before any root

no_lists : (gs : List Truths) → CountsIn [] gs
no_lists gs x c = absurd (let w = c.1.1.1 in omega (arith, w))

-- the function that is 0 is refused
pub zero_refused : (n budget : ℕ) (d0 d1 : Diagram) (e : BddError) → d0.table.vars ≡ n → d0.table.budget ≡ budget → Holds [] d0.table → d0.refused ≡ None
    → IsAnswerOf d0 d1 [] zero_expression (wrong e) → e ≡ Budget → IsOver (shared_lists n) budget
zero_refused n budget d0 d1 e vars same none live a is =
    let zero : List Truths = raised n (constant false) ∷ [] in
    let o : IsOver (raised d0.table.vars (constant false) ∷ []) d0.table.budget = a.over live (ap wrong is) [] none in
    let p : IsOver (raised n (constant false) ∷ []) d0.table.budget = subst (λ (k : ℕ). IsOver (raised k (constant false) ∷ []) d0.table.budget) vars o in
    over_in zero (shared_lists n) budget (counts_constant n (shared_lists n)) (subst (λ (k : ℕ). IsOver zero k) same p)

module _ (n budget : ℕ) (d0 d1 d2 : Diagram) (nought : NodeId) (vars : d0.table.vars ≡ n) (same : d0.table.budget ≡ budget) (none : Holds [] d0.table)
    (a : IsAnswerOf d0 d1 [] zero_expression (good nought)) where
  zero_holds : Holds (raised n (constant false) ∷ []) d1.table
  zero_holds = subst (λ (k : ℕ). Holds (raised k (constant false) ∷ []) d1.table) vars (a.ok.holds [] none)

  -- a variable is refused
  pub held_refused : {A : Type 0} (e : BddError) → HaveAsked {A = A} d1 d2 (variable_lists n) (Err e) → e ≡ Budget → IsOver (shared_lists n) budget
  held_refused e h is = subst (λ (k : ℕ). IsOver (shared_lists n) k) (a.budget ∙ same) (h.over is (raised n (constant false) ∷ []) zero_holds)

  -- all inputs and registers are bound
  pub are_shared : {A : Type 0} (order : List ℕ) (held : ℕ) (s : SharedDiagrams) (before : List NodeId) (r : A) → n ≡ length order → s.diagrams ≡ d2 → s.zero ≡ nought → before ≡ replicate held nought
      → HaveAsked {A = A} d1 d2 (variable_lists n) (Ok r) → AreNodes d2 s.bound.items → functions_of d2 s.bound.items ≡ put_variables n 0 order (functions_of d1 before) → AreShared order held budget s
  are_shared order held s before r long is_d is_zero filled h nodes functions =
      let kept = h.keeps nought a.ok.node in
      let zero_is : function_of d1 nought ≡ raised n (constant false) = a.ok.is ∙ ap (λ (k : ℕ). raised k (constant false)) vars in
      let each : functions_of d1 before ≡ replicate held (raised n (constant false)) = ap (functions_of d1) filled ∙ map_filled held nought d1 ∙ ap (replicate held) zero_is in
      record {
        vars = ap (λ (d : Diagram). d.table.vars) is_d ∙ h.vars ∙ a.vars ∙ vars ∙ long;
        budget = ap (λ (d : Diagram). d.table.budget) is_d ∙ h.budget ∙ a.budget ∙ same;
        live = ap (λ (d : Diagram). d.refused) is_d ∙ h.live;
        zero_node = subst (λ (d : Diagram). IsNode d s.zero) (sym is_d) (subst (λ (x : NodeId). IsNode d2 x) (sym is_zero) kept.0);
        zero_is = (λ j. function_of (is_d j) (is_zero j)) ∙ kept.1 ∙ zero_is ∙ ap (λ (k : ℕ). raised k (constant false)) long;
        nodes = subst (λ (d : Diagram). AreNodes d s.bound.items) (sym is_d) nodes;
        functions = ap (λ (d : Diagram). functions_of d s.bound.items) is_d ∙ functions ∙ ap (put_variables n 0 order) each ∙ ap (λ (k : ℕ). held_lists k order held) long;
        holds = subst (λ (d : Diagram). Holds (shared_lists (length order)) d.table) (sym is_d)
            (subst (λ (k : ℕ). Holds (shared_lists k) d2.table) long (h.holds (raised n (constant false) ∷ []) zero_holds));
      }
    where
      map_filled : (held : ℕ) (node : NodeId) (d : Diagram) → functions_of d (replicate held node) ≡ replicate held (function_of d node)
      map_filled zero node d = refl
      map_filled (suc held) node d = ap (λ (l : List Truths). function_of d node ∷ l) (map_filled held node d)

-- ---- one root

-- the answer for the root after all others
pub root_answer : (d0 d3 d4 : Diagram) (xs : List Truths) (n : ℕ) (e : Expression) (b bs : List NodeId) (T : List Truths) (r : Result NodeId BddError) → SoFar d0 d3 xs → d3.table.vars ≡ n → bs ≡ b
    → functions_of d3 b ≡ T → IsAnswerOf d3 d4 bs e r → IsAnswer d0 d4 (asked_of n T e ++ xs) (denoted n T e) r
root_answer d0 d3 d4 xs n e b bs T r s vars same functions a =
    after d0 d3 d4 xs (asked_of n T e) (denoted n T e) s r
    (subst (λ (ts : List Truths). IsAnswer d3 d4 (asked_of n ts e) (denoted n ts e) r) functions
    (subst (λ (i : ℕ). IsAnswer d3 d4 (asked_of i (functions_of d3 b) e) (denoted i (functions_of d3 b) e) r) vars
    (subst (λ (ns : List NodeId). IsAnswerOf d3 d4 ns e r) same a)))

-- what the root asks for behind its equations
pub root_answer_of : {A : Type 0} (d0 d1 d2 : Diagram) (met : List Bool) (b0 b bs : List NodeId) (es : List Equation) (e : Expression) (r : Result NodeId BddError) (o : A) → d0.refused ≡ None
    → HaveAsked {A = A} d0 d1 (asked_by d0.table.vars met (functions_of d0 b0) es) (Ok o) → functions_of d1 b ≡ bound_lists d0.table.vars met (functions_of d0 b0) es
    → bs ≡ b → IsAnswerOf d1 d2 bs e r
    → IsAnswer d0 d2 (root_lists d0.table.vars met (functions_of d0 b0) es e) (root_list d0.table.vars met (functions_of d0 b0) es e) r
root_answer_of d0 d1 d2 met b0 b bs es e r o live h functions same a =
    root_answer d0 d1 d2 (asked_by d0.table.vars met (functions_of d0 b0) es) d0.table.vars e b bs (bound_lists d0.table.vars met (functions_of d0 b0) es) r
    (so_far d0 d1 (asked_by d0.table.vars met (functions_of d0 b0) es) o live h) h.vars same functions a

-- an equation is refused
pub equation_refused : {A B : Type 0} (d0 d1 : Diagram) (met : List Bool) (lists : List Truths) (es : List Equation) (e : Expression) (x : BddError)
    → HaveAsked {A = A} d0 d1 (asked_by d0.table.vars met lists es) (Err x) → HaveAsked {A = B} d0 d1 (root_lists d0.table.vars met lists es e) (Err x)
equation_refused {A} {B} d0 d1 met lists es e x h =
    let own = asked_of d0.table.vars (bound_lists d0.table.vars met lists es) e in
    let by_them = asked_by d0.table.vars met lists es in
    refused_before {A = A} {B = B} d0 d1 by_them own x h
    (λ earlier o. subst (λ (l : List Truths). IsOver l d0.table.budget) (sym (append_assoc own by_them earlier))
    (over_sub (by_them ++ earlier) (own ++ (by_them ++ earlier)) d0.table.budget (λ f c. Contains-append_right own (by_them ++ earlier) f c) o))
