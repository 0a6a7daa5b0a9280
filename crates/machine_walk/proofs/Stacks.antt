-- The turns of a walk, on the stack of what is still to be walked through.
use Rattle.std.proofs.Common.{◌≡◌, ℕ, zero, suc, ◌+◌, ◌-◌, ◌<◌, Bool, true, false, List, [], ◌∷◌, ◌++◌, Bor, length, map, replicate, slice_get, slice_set, Some, refl, sym, ap, subst, ◌∙◌, arith, append-nil, append_assoc}
use Rattle.std.specs.List.{slice_index_or}
use Rattle.std.proofs.lemmas.List.{length-map, map-append, get_or_default}
use Rattle.vlsi_base.specs.declared.name.Name.{Name}
use Rattle.vlsi_base.specs.Member.{here}
use Rattle.bool_expr.specs.declared.expr.Expr.{Expr, Const, Var, Not', Pair', Choice'}
use Rattle.bool_expr.specs.Expression.{Expression, constant, variable, inverse, pair, choice, variables, bit, IsOver}
use Rattle.bool_expr.specs.View.{view}
use Rattle.bool_expr.proofs.Waiting.{weight}
use Rattle.machine_core.specs.Machine.{Machine}
use Rattle.machine_core.specs.declared.equation.Equation.{Equation as EquationParts}
use Rattle.machine_core.specs.Order.{IsOrdered}
use Rattle.machine_core.specs.View.{equation_view}
use Rattle.machine_walk.specs.declared.walking.WalkedNames.{WalkedNames}
use Rattle.machine_walk.specs.Expansion.{held_count}
use Rattle.machine_walk.specs.Walk.{order_of, AreMet}
use Rattle.machine_walk.specs.Turn.{views, operands, IsMeeting, again, held, inner}
use Rattle.machine_walk.proofs.Names.{length-vars}
use Rattle.machine_walk.proofs.Reaching.{IsMarked, marked_set}
use Rattle.machine_walk.proofs.Turns.{IsWalking, start, finish, step_met, step_held, step_inner, pending, pending_same, pending_less}

-- the names that are still to be read, the next first
abbrev pub to_read : List Expression → List ℕ
to_read [] = []
to_read (x ∷ xs) = to_read xs ++ variables x

-- how many operators and operands are still to be walked through
abbrev pub weighing : List Expression → ℕ
weighing [] = 0
weighing (x ∷ xs) = weight x + weighing xs

to_read-append : (xs ys : List Expression) → to_read (xs ++ ys) ≡ to_read ys ++ to_read xs
to_read-append [] ys = sym (append-nil (to_read ys))
to_read-append (x ∷ xs) ys = ap (λ (ks : List ℕ). ks ++ variables x) (to_read-append xs ys) ∙ append_assoc (to_read ys) (to_read xs) (variables x)

weighing-append : (xs ys : List Expression) → weighing (xs ++ ys) ≡ weighing xs + weighing ys
weighing-append [] ys = omega arith
weighing-append (x ∷ xs) ys = omega (arith, weighing-append xs ys)

operands_read : (x : Expr) → ((k : ℕ) → x ≡ Var k → ⊥) → to_read (operands (view x)) ≡ variables (view x)
operands_read (Const b) other = refl
operands_read (Var k) other = absurd (other k refl)
operands_read (Not' p e) other = refl
operands_read (Pair' g p a q b) other = refl
operands_read (Choice' p c q a r b) other = append_assoc (variables (view c)) (variables (view a)) (variables (view b))

operands_weigh : (x : Expression) → weighing (operands x) < weight x
operands_weigh (constant b) = omega arith
operands_weigh (variable k) = omega arith
operands_weigh (inverse e) = omega arith
operands_weigh (pair g a b) = omega arith
operands_weigh (choice c a b) = omega arith

pub views_push : (waiting : List (Bor Expr)) (x : Bor Expr) → views (waiting ++ x ∷ []) ≡ views waiting ++ view x.now ∷ []
views_push waiting x = map-append (λ (e : Bor Expr). view e.now) waiting (x ∷ [])

pub put_behind : (waiting after : List (Bor Expr)) (x : Bor Expr) (e : Expression) → view x.now ≡ e → after ≡ waiting ++ x ∷ [] → views after ≡ views waiting ++ e ∷ []
put_behind waiting after x e is push = ap views push ∙ views_push waiting x ∙ ap (λ (y : Expression). views waiting ++ y ∷ []) is

-- the next expression is taken from the stack
module _ (old rest : List (Bor Expr)) (x : Bor Expr) (pop : old ≡ rest ++ x ∷ []) where
  popped_read : to_read (views old) ≡ variables (view x.now) ++ to_read (views rest)
  popped_read = ap (λ (w : List (Bor Expr)). to_read (views w)) pop ∙ ap to_read (views_push rest x) ∙ to_read-append (views rest) (view x.now ∷ [])

  popped_weight : weighing (views old) ≡ weighing (views rest) + weight (view x.now)
  popped_weight =
      let one = ap (λ (w : List (Bor Expr)). weighing (views w)) pop ∙ ap weighing (views_push rest x) in
      omega (arith, one, weighing-append (views rest) (view x.now ∷ []))

  -- and its operands go there: the same is to be read, where it is no name
  module _ (now : List Expression) (put : now ≡ views rest ++ operands (view x.now)) where
    pub walk_opened : (m : Machine) (e : Expression) (met : List Bool) (order : List ℕ) → ((k : ℕ) → x.now ≡ Var k → ⊥) → IsWalking m e met order (to_read (views old))
        → IsWalking m e met order (to_read now)
    walk_opened m e met order other so_far =
        subst (λ (R : List ℕ). IsWalking m e met order R)
        (popped_read ∙ ap (λ (ks : List ℕ). ks ++ to_read (views rest)) (sym (operands_read x.now other)) ∙ sym (to_read-append (views rest) (operands (view x.now))) ∙ ap to_read (sym put)) so_far

    pub less_opened : (b : ℕ) → weighing now + b < weighing (views old) + b
    less_opened b = omega (arith, popped_weight, ap weighing put, weighing-append (views rest) (operands (view x.now)), operands_weigh (view x.now))

  -- or it is a name
  module _ (m : Machine) (e : Expression) (k : ℕ) (before : WalkedNames) (is : x.now ≡ Var k) where
    is_name : view x.now ≡ variable k
    is_name = ap view is

    lighter : weighing (views rest) < weighing (views old)
    lighter = omega (arith, popped_weight, ap weight is_name)

    module _ (so_far : IsWalking m e before.met.items before.order.items (to_read (views old))) where
      with_name : IsWalking m e before.met.items before.order.items (k ∷ to_read (views rest))
      with_name =
          subst (λ (R : List ℕ). IsWalking m e before.met.items before.order.items R)
          (popped_read ∙ ap (λ (y : Expression). variables y ++ to_read (views rest)) is_name) so_far

      -- of the machine
      pub name_within : k < length m.vars
      name_within = with_name.over k here

      marked_now : (after : WalkedNames) → after.met.items ≡ slice_set before.met.items k true → IsMarked before.met.items k after.met.items
      marked_now after marks =
          subst (λ (w : List Bool). IsMarked before.met.items k w) (sym marks) (marked_set before.met.items k (omega (arith, name_within, so_far.each)))

      module _ (ordered : IsOrdered m) (after : WalkedNames) (then : List Expression) where
        pub walk_meeting : IsMeeting m k before after (views rest) then → IsWalking m e after.met.items after.order.items (to_read then)
        walk_meeting (again old_mark same stays) =
            subst (λ (R : List ℕ). IsWalking m e after.met.items after.order.items R) (ap to_read (sym stays))
            (subst (λ (w : WalkedNames). IsWalking m e w.met.items w.order.items (to_read (views rest))) (sym same)
            (step_met m ordered e before.met.items before.order.items k (to_read (views rest)) with_name old_mark))
        walk_meeting (held unmarked low marks last stays) =
            subst (λ (R : List ℕ). IsWalking m e after.met.items after.order.items R) (ap to_read (sym stays))
            (subst (λ (xs : List ℕ). IsWalking m e after.met.items xs (to_read (views rest))) (sym last)
            (step_held m ordered e before.met.items after.met.items before.order.items k (to_read (views rest)) with_name unmarked (marked_now after marks) low))
        walk_meeting (inner n q number at unmarked marks same more) =
            subst (λ (R : List ℕ). IsWalking m e after.met.items after.order.items R) (sym (to_read-append (views rest) (q.expr ∷ [])) ∙ ap to_read (sym more))
            (subst (λ (xs : List ℕ). IsWalking m e after.met.items xs (variables q.expr ++ to_read (views rest))) (sym same)
            (step_inner m ordered e before.met.items after.met.items before.order.items k (to_read (views rest)) with_name unmarked (marked_now after marks) n q number at))

        -- the measure falls: an equation weighs as much as it did while it wasn't met
        pub less_meeting : IsMeeting m k before after (views rest) then
            → weighing then + pending after.met.items (held_count m) m.equations < weighing (views old) + pending before.met.items (held_count m) m.equations
        less_meeting (again old_mark same stays) =
            let kept : pending after.met.items (held_count m) m.equations ≡ pending before.met.items (held_count m) m.equations =
            ap (λ (w : WalkedNames). pending w.met.items (held_count m) m.equations) same in
            omega (arith, lighter, kept, ap weighing stays)
        less_meeting (held unmarked low marks last stays) =
            let mark = marked_now after marks in
            let kept : pending after.met.items (held_count m) m.equations ≡ pending before.met.items (held_count m) m.equations =
            pending_same before.met.items after.met.items (held_count m) m.equations (λ j h. mark.others j (λ p. omega (arith, p, h, low))) in
            omega (arith, lighter, kept, ap weighing stays)
        less_meeting (inner n q number at unmarked marks same more) =
            let less = pending_less m.equations before.met.items after.met.items (held_count m) n q
            (subst (λ (i : ℕ). IsMarked before.met.items i after.met.items) number (marked_now after marks)) (subst (λ (i : ℕ). bit before.met.items i ≡ false) number unmarked) at in
            omega (arith, lighter, less, ap weighing more, weighing-append (views rest) (q.expr ∷ []))

-- ---- where a machine's parts stand

pub frame : (m : Machine) → IsOrdered m → (names : List Name) (es : List EquationParts) → names ≡ m.vars → map equation_view es ≡ m.equations
    → (length names ≡ length m.vars) × (length names - length es ≡ held_count m) × (held_count m + length es ≡ length m.vars)
frame m ordered names es vars equations =
    let long = length-vars m ordered in
    let count : length es ≡ length m.equations = sym (length-map es equation_view) ∙ ap length equations in
    (ap length vars, omega (arith, ap length vars, long, count), omega (arith, long, count))

pub at_equation : (es : List EquationParts) (n : ℕ) (q : EquationParts) → n < length es → q ≡ slice_index_or es n q → slice_get (map equation_view es) n ≡ Some (equation_view q)
at_equation [] n q h is = absurd (omega arith)
at_equation (e ∷ es) zero q h is = ap (λ (x : EquationParts). Some (equation_view x)) (sym is)
at_equation (e ∷ es) (suc n) q h is = at_equation es n q (omega arith) is

pub bit_at : (met : List Bool) (k : ℕ) (b : Bool) → k < length met → b ≡ slice_index_or met k b → bit met k ≡ b
bit_at met k b within is = sym (get_or_default met k b false within) ∙ sym is

-- the first turn, and the end
pub started : (m : Machine) → IsOrdered m → (e : Expression) (n : ℕ) (met : List Bool) (order : List ℕ) (none after : List (Bor Expr)) (a : Bor Expr) → met ≡ replicate n false
    → n ≡ length m.vars → order ≡ [] → none ≡ [] → after ≡ none ++ a ∷ [] → view a.now ≡ e → IsOver e (length m.vars) → IsWalking m e met order (to_read (views after))
started m ordered e n met order none after a marks long empty nothing push is over =
    let stack : to_read (views after) ≡ variables e =
    ap (λ (w : List (Bor Expr)). to_read (views w)) push ∙ ap to_read (views_push none a) ∙ to_read-append (views none) (view a.now ∷ [])
    ∙ ap (λ (w : List (Bor Expr)). variables (view a.now) ++ to_read (views w)) nothing
    ∙ append-nil (variables (view a.now)) ∙ ap (λ (y : Expression). variables y) is in
    subst (λ (R : List ℕ). IsWalking m e met order R) (sym stack)
    (subst (λ (xs : List ℕ). IsWalking m e met xs (variables e)) (sym empty)
    (subst (λ (w : List Bool). IsWalking m e w [] (variables e)) (sym marks) (start m ordered e n long over)))

pub ended : (m : Machine) → IsOrdered m → (e : Expression) (met : List Bool) (order : List ℕ) (waiting : List (Bor Expr)) → waiting ≡ []
    → IsWalking m e met order (to_read (views waiting)) → (order ≡ order_of m e) × AreMet m e met
ended m ordered e met order waiting empty so_far =
    finish m ordered e met order (subst (λ (s : List (Bor Expr)). IsWalking m e met order (to_read (views s))) empty so_far)
