-- A stack of expressions that are still to be walked, the next at its end.
use Rattle.std.proofs.Common.{◌≡◌, ℕ, ◌+◌, ◌<◌, Bool, true, false, cond, List, [], ◌∷◌, ◌++◌, Bor, refl, sym, ap, ◌∙◌, arith, append_assoc, append-nil}
use Rattle.bool_expr.specs.declared.expr.Expr.{Expr}
use Rattle.bool_expr.specs.declared.expr.Gate.{Gate}
use Rattle.bool_expr.specs.Expression.{Expression, constant, variable, inverse, pair, choice, variables}
use Rattle.bool_expr.specs.View.{view}
use Rattle.bool_expr.specs.Support.{among, meetings_after}

-- how many operators and operands
abbrev pub weight : Expression → ℕ
weight (constant b) = 1
weight (variable k) = 1
weight (inverse e) = 1 + weight e
weight (pair g a b) = 1 + (weight a + weight b)
weight (choice c a b) = 1 + (weight c + (weight a + weight b))

abbrev pub weight_of : List (Bor Expr) → ℕ
weight_of [] = 0
weight_of (e ∷ es) = weight (view e.now) + weight_of es

abbrev pub still_to_read : List (Bor Expr) → List ℕ
still_to_read [] = []
still_to_read (e ∷ es) = still_to_read es ++ variables (view e.now)

pub weight_of_push : (es : List (Bor Expr)) (e : Bor Expr) → weight_of (es ++ e ∷ []) ≡ weight (view e.now) + weight_of es
weight_of_push [] e = refl
weight_of_push (x ∷ es) e = omega (arith, weight_of_push es e)

pub still_to_read_push : (es : List (Bor Expr)) (e : Bor Expr) → still_to_read (es ++ e ∷ []) ≡ variables (view e.now) ++ still_to_read es
still_to_read_push [] e = simp (append-nil)
still_to_read_push (x ∷ es) e =
    ap (λ (ks : List ℕ). ks ++ variables (view x.now)) (still_to_read_push es e) ∙ append_assoc (variables (view e.now)) (still_to_read es) (variables (view x.now))

-- every expression weighs something
pub weight_positive : (e : Expression) → 0 < weight e
weight_positive (constant b) = omega arith
weight_positive (variable k) = omega arith
weight_positive (inverse e) = omega arith
weight_positive (pair g a b) = omega arith
weight_positive (choice c a b) = omega arith

-- a turn that leaves the same to read, on a smaller stack
pub record Walked (old new : List (Bor Expr)) : Type 0 where
  pub same : still_to_read new ≡ still_to_read old
  pub less : weight_of new < weight_of old

-- a constant is taken from the stack
pub walked_constant : (old new : List (Bor Expr)) (e : Bor Expr) (b : Bool) → old ≡ new ++ e ∷ [] → view e.now ≡ constant b → Walked old new
walked_constant old new e b popped is =
    let read : still_to_read old ≡ still_to_read new = ap still_to_read popped ∙ still_to_read_push new e ∙ ap (λ (x : Expression). variables x ++ still_to_read new) is in
    record {
      same = sym read;
      less = omega (arith, ap weight_of popped, weight_of_push new e, weight_positive (view e.now));
    }

-- an operator of one operand, by that operand
pub walked_inverse : (old rest new : List (Bor Expr)) (e a : Bor Expr) → old ≡ rest ++ e ∷ [] → new ≡ rest ++ a ∷ [] → view e.now ≡ inverse (view a.now) → Walked old new
walked_inverse old rest new e a popped pushed is =
    let read : still_to_read old ≡ variables (view a.now) ++ still_to_read rest = ap still_to_read popped ∙ still_to_read_push rest e ∙ ap (λ (x : Expression). variables x ++ still_to_read rest) is in
    record {
      same = ap still_to_read pushed ∙ still_to_read_push rest a ∙ sym read;
      less = omega (arith, ap weight_of popped, weight_of_push rest e, ap weight_of pushed, weight_of_push rest a, ap weight is);
    }

-- one of two operands, by these, the right one first
pub walked_pair : (old rest one new : List (Bor Expr)) (e a b : Bor Expr) (g : Gate) → old ≡ rest ++ e ∷ [] → one ≡ rest ++ b ∷ [] → new ≡ one ++ a ∷ [] → view e.now ≡ pair g (view a.now) (view b.now) → Walked old new
walked_pair old rest one new e a b g popped first second is =
    let whole : still_to_read old ≡ (variables (view a.now) ++ variables (view b.now)) ++ still_to_read rest = ap still_to_read popped ∙ still_to_read_push rest e ∙ ap (λ (x : Expression). variables x ++ still_to_read rest) is in
    let then_b : still_to_read one ≡ variables (view b.now) ++ still_to_read rest = ap still_to_read first ∙ still_to_read_push rest b in
    let then_a : still_to_read new ≡ variables (view a.now) ++ still_to_read one = ap still_to_read second ∙ still_to_read_push one a in
    record {
      same = then_a ∙ ap (λ (x : List ℕ). variables (view a.now) ++ x) then_b ∙ sym (append_assoc (variables (view a.now)) (variables (view b.now)) (still_to_read rest)) ∙ sym whole;
      less = omega (arith, ap weight_of popped, weight_of_push rest e, ap weight_of first, weight_of_push rest b, ap weight_of second, weight_of_push one a, ap weight is);
    }

-- a choice, by its three parts, the last one first
pub walked_choice : (old rest one two new : List (Bor Expr)) (e c a b : Bor Expr) → old ≡ rest ++ e ∷ [] → one ≡ rest ++ b ∷ [] → two ≡ one ++ a ∷ [] → new ≡ two ++ c ∷ [] → view e.now ≡ choice (view c.now) (view a.now) (view b.now) → Walked old new
walked_choice old rest one two new e c a b popped first second third is =
    let whole : still_to_read old ≡ (variables (view c.now) ++ (variables (view a.now) ++ variables (view b.now))) ++ still_to_read rest = ap still_to_read popped ∙ still_to_read_push rest e ∙ ap (λ (x : Expression). variables x ++ still_to_read rest) is in
    let then_b : still_to_read one ≡ variables (view b.now) ++ still_to_read rest = ap still_to_read first ∙ still_to_read_push rest b in
    let then_a : still_to_read two ≡ variables (view a.now) ++ still_to_read one = ap still_to_read second ∙ still_to_read_push one a in
    let then_c : still_to_read new ≡ variables (view c.now) ++ still_to_read two = ap still_to_read third ∙ still_to_read_push two c in
    record {
      same = then_c ∙ ap (λ (x : List ℕ). variables (view c.now) ++ x) (then_a ∙ ap (λ (x : List ℕ). variables (view a.now) ++ x) then_b ∙ sym (append_assoc (variables (view a.now)) (variables (view b.now)) (still_to_read rest))) ∙ sym (append_assoc (variables (view c.now)) (variables (view a.now) ++ variables (view b.now)) (still_to_read rest)) ∙ sym whole;
      less = omega (arith, ap weight_of popped, weight_of_push rest e, ap weight_of first, weight_of_push rest b, ap weight_of second, weight_of_push one a, ap weight_of third, weight_of_push two c, ap weight is);
    }

-- what was met, and what is still to be met
abbrev pub in_all : List ℕ → List (Bor Expr) → List ℕ
in_all vars waiting = vars ++ meetings_after vars (still_to_read waiting)

pub in_all_walked : (vars : List ℕ) (old new : List (Bor Expr)) (all : List ℕ) → Walked old new → in_all vars old ≡ all → in_all vars new ≡ all
in_all_walked vars old new all w so_far = ap (λ (x : List ℕ). vars ++ meetings_after vars x) w.same ∙ so_far

met_first : (b : Bool) (vars : List ℕ) (k : ℕ) (rest : List ℕ)
    → cond b vars (vars ++ k ∷ []) ++ meetings_after (cond b vars (vars ++ k ∷ [])) rest ≡ vars ++ cond b (meetings_after vars rest) (k ∷ meetings_after (vars ++ k ∷ []) rest)
met_first true vars k rest = refl
met_first false vars k rest = append_assoc vars (k ∷ []) (meetings_after (vars ++ k ∷ []) rest)

-- a variable is met
pub in_all_met : (vars vars' : List ℕ) (old new : List (Bor Expr)) (e : Bor Expr) (k : ℕ) (all : List ℕ) → old ≡ new ++ e ∷ [] → view e.now ≡ variable k
    → vars' ≡ cond (among k vars) vars (vars ++ k ∷ []) → in_all vars old ≡ all → in_all vars' new ≡ all
in_all_met vars vars' old new e k all popped is meets so_far =
    let read : still_to_read old ≡ k ∷ still_to_read new = ap still_to_read popped ∙ still_to_read_push new e ∙ ap (λ (x : Expression). variables x ++ still_to_read new) is in
    ap (λ (x : List ℕ). x ++ meetings_after x (still_to_read new)) meets ∙ met_first (among k vars) vars k (still_to_read new) ∙ ap (λ (x : List ℕ). vars ++ meetings_after vars x) (sym read) ∙ so_far

pub less_met : (old new : List (Bor Expr)) (e : Bor Expr) → old ≡ new ++ e ∷ [] → weight_of new < weight_of old
less_met old new e popped = omega (arith, ap weight_of popped, weight_of_push new e, weight_positive (view e.now))
