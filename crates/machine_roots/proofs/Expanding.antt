-- The values of expansions.
use Rattle.std.proofs.Common.{◌≡◌, ◌⊎◌, inl, inr, ℕ, zero, suc, ◌+◌, Bool, true, false, not, List, [], ◌∷◌, ◌++◌, length, map, refl, sym, ap, subst, ◌∙◌, arith, length-append, append_assoc, if◌then◌else◌, ◌||◌}
use Rattle.std.specs.Prelude.{nat_eq}
use Rattle.std.specs.List.{slice_index_or}
use Rattle.std.proofs.lemmas.Bool.{eqb-true}
use Rattle.vlsi_base.specs.Range.{rising}
use Rattle.vlsi_base.specs.Member.{In, here, there}
use Rattle.bool_expr.specs.Expression.{Expression, constant, variable, inverse, pair, choice, bit, val, variables}
use Rattle.bool_expr.specs.Support.{among, meetings_after, first_meetings}
use Rattle.machine_core.specs.Machine.{Machine, Equation}
use Rattle.machine_core.specs.Built.{built}
use Rattle.machine_core.proofs.Values.{In-left, In-right}
use Rattle.machine_walk.proofs.Reaching.{also_in}
use Rattle.machine_walk.specs.Expansion.{with_variables, put_in, expanded, expansions, held_count, expansion, place_among, in_order}

-- an expression with others in place of its variables has its value where these have the values of the variables
pub val-with_variables : (f : ℕ → Expression) (e : Expression) (w v : List Bool) → ((k : ℕ) → In k (variables e) → val (f k) w ≡ bit v k)
    → val (with_variables f e) w ≡ val e v
val-with_variables f (constant b) w v h = refl
val-with_variables f (variable k) w v h = h k here
val-with_variables f (inverse e) w v h = ap not (val-with_variables f e w v h)
val-with_variables f (pair g a b) w v h =
    rw (val-with_variables f a w v (λ k p. h k (In-left k (variables a) (variables b) p)), val-with_variables f b w v (λ k p. h k (In-right k (variables a) (variables b) p))) refl
val-with_variables f (choice c a b) w v h =
    rw (
      val-with_variables f c w v (λ k p. h k (In-left k (variables c) (variables a ++ variables b) p)),
      val-with_variables f a w v (λ k p. h k (In-right k (variables c) (variables a ++ variables b) (In-left k (variables a) (variables b) p))),
      val-with_variables f b w v (λ k p. h k (In-right k (variables c) (variables a ++ variables b) (In-right k (variables a) (variables b) p))),
    ) refl

-- the values of some expressions, one of them, and past the end 0
pub bit-values : (h : List Bool) (es : List Expression) (k : ℕ) → bit (map (λ (e : Expression). val e h) es) k ≡ val (slice_index_or es k (constant false)) h
bit-values h [] k = refl
bit-values h (e ∷ es) zero = refl
bit-values h (e ∷ es) (suc k) = bit-values h es k

values-append : (h : List Bool) (es : List Expression) (e : Expression)
    → map (λ (x : Expression). val x h) (es ++ e ∷ []) ≡ map (λ (x : Expression). val x h) es ++ val e h ∷ []
values-append h [] e = refl
values-append h (x ∷ es) e = ap (λ (bits : List Bool). val x h ∷ bits) (values-append h es e)

-- an expression with expansions put in has its value under their values
pub val-put_in : (h w : List Bool) (es : List Expression) (e : Expression) → map (λ (x : Expression). val x h) es ≡ w → val (put_in es e) h ≡ val e w
val-put_in h w es e is =
    val-with_variables (λ k. slice_index_or es k (constant false)) e h w (λ k p. sym (bit-values h es k) ∙ ap (λ (v : List Bool). bit v k) is)

-- the expansions have the values that are built equation by equation
pub expanded-built : (h : List Bool) (equations : List Equation) (es : List Expression) (w : List Bool) → map (λ (x : Expression). val x h) es ≡ w
    → map (λ (x : Expression). val x h) (expanded es equations) ≡ built w equations
expanded-built h [] es w is = is
expanded-built h (e ∷ rest) es w is =
    expanded-built h rest (es ++ put_in es e.expr ∷ []) (w ++ val e.expr w ∷ [])
    (values-append h es (put_in es e.expr) ∙ ap (λ (v : List Bool). v ++ val (put_in es e.expr) h ∷ []) is
    ∙ ap (λ (b : Bool). w ++ b ∷ []) (val-put_in h w es e.expr is))

bit-behind : (front rest : List Bool) (b : Bool) → bit (front ++ b ∷ rest) (length front) ≡ b
bit-behind [] rest b = refl
bit-behind (c ∷ front) rest b = bit-behind front rest b

-- the bits of a list by their numbers
bits_again : (front h : List Bool) (n : ℕ) → length front ≡ n → map (λ (k : ℕ). bit (front ++ h) k) (rising n (length h)) ≡ h
bits_again front [] n is = refl
bits_again front (b ∷ h) n is =
    let first : bit (front ++ b ∷ h) n ≡ b = ap (bit (front ++ b ∷ h)) (sym is) ∙ bit-behind front h b in
    let long : length (front ++ b ∷ []) ≡ n + 1 = length-append front (b ∷ []) ∙ omega (arith, is) in
    let rest : map (λ (k : ℕ). bit (front ++ b ∷ h) k) (rising (n + 1) (length h)) ≡ h =
    ap (λ (xs : List Bool). map (λ (k : ℕ). bit xs k) (rising (n + 1) (length h))) (sym (append_assoc front (b ∷ []) h))
    ∙ bits_again (front ++ b ∷ []) h (n + 1) long in
    ap (λ (c : Bool). c ∷ map (λ (k : ℕ). bit (front ++ b ∷ h) k) (rising (n + 1) (length h))) first ∙ ap (λ (xs : List Bool). b ∷ xs) rest

values-variables : (h : List Bool) (ks : List ℕ) → map (λ (x : Expression). val x h) (map variable ks) ≡ map (λ (k : ℕ). bit h k) ks
values-variables h [] = refl
values-variables h (k ∷ ks) = ap (λ (xs : List Bool). bit h k ∷ xs) (values-variables h ks)

-- from the values of inputs and registers on, the expansions of all names have the values of the names
pub values_of_expansions : (m : Machine) (h : List Bool) → length h ≡ held_count m → map (λ (x : Expression). val x h) (expansions m) ≡ built h m.equations
unfolding expansions
values_of_expansions m h is =
    expanded-built h m.equations (map variable (rising 0 (held_count m))) h
    (values-variables h (rising 0 (held_count m)) ∙ ap (λ (n : ℕ). map (λ (k : ℕ). bit h k) (rising 0 n)) (sym is) ∙ bits_again [] h 0 refl)

-- and the expansion of an expression has the expression's value
pub value_of_expansion : (m : Machine) (h : List Bool) (e : Expression) → length h ≡ held_count m → val (expansion m e) h ≡ val e (built h m.equations)
value_of_expansion m h e is = val-put_in h (built h m.equations) (expansions m) e (values_of_expansions m h is)

-- ---- the order of a walk

-- what stands in the order has its bit at its place
pub place_among-bit : (order : List ℕ) (w : List Bool) (k : ℕ) → In k order → bit (map (bit w) order) (place_among order k) ≡ bit w k
place_among-bit [] w k h = elim h [ ]
place_among-bit (x ∷ order) w k h = by (nat_eq x k) refl h (λ p. place_among-bit order w k p) where
  later : nat_eq x k ≡ false → (k ≡ x) ⊎ In k order → In k order
  later e (inl p) = absurd (let t : nat_eq k k ≡ true = search arith in let f : nat_eq k k ≡ false = subst (λ (y : ℕ). nat_eq y k ≡ false) (sym p) e in (cc (t, f)))
  later e (inr p) = p

  by : (b : Bool) → nat_eq x k ≡ b → In k (x ∷ order) → (In k order → bit (map (bit w) order) (place_among order k) ≡ bit w k)
      → bit (bit w x ∷ map (bit w) order) (if b then 0 else suc (place_among order k)) ≡ bit w k
  by true e h rest = ap (bit w) (eqb-true x k e)
  by false e h rest = rest (later e (also_in k x order h))

-- over the places of its variables an expression has its value under their bits in the order
pub val-in_order : (order : List ℕ) (w : List Bool) (e : Expression) → ((k : ℕ) → In k (variables e) → In k order)
    → val (in_order order e) (map (bit w) order) ≡ val e w
val-in_order order w e h =
    val-with_variables (λ k. variable (place_among order k)) e (map (bit w) order) w (λ k p. place_among-bit order w k (h k p))

-- what is among some and a further one is among them, or is that one
among_last : (seen : List ℕ) (x k : ℕ) → among k (seen ++ x ∷ []) ≡ true → (among k seen ≡ true) ⊎ (k ≡ x)
among_last [] x k h = inr (by (nat_eq x k) refl h) where
  by : (b : Bool) → nat_eq x k ≡ b → (b || false) ≡ true → k ≡ x
  by true e p = sym (eqb-true x k e)
  by false e p = absurd (cc p)
among_last (y ∷ seen) x k h = by (nat_eq y k) h (among_last seen x k) where
  by : (b : Bool) → (b || among k (seen ++ x ∷ [])) ≡ true → (among k (seen ++ x ∷ []) ≡ true → (among k seen ≡ true) ⊎ (k ≡ x))
      → ((b || among k seen) ≡ true) ⊎ (k ≡ x)
  by true p rest = inl refl
  by false p rest = rest p

-- each member is met
meetings : (seen xs : List ℕ) (k : ℕ) → In k xs → (among k seen ≡ true) ⊎ In k (meetings_after seen xs)
meetings seen [] k h = elim h [ ]
meetings seen (x ∷ xs) k h = by (among x seen) refl h (λ before p. meetings before xs k p) where
  also : In k (x ∷ xs) → (x ≡ k) ⊎ In k xs
  also p = elim (also_in k x xs p) [ inl q ↦ inl (sym q) | inr q ↦ inr q ]

  more : (among k (seen ++ x ∷ []) ≡ true) ⊎ In k (meetings_after (seen ++ x ∷ []) xs) → (among k seen ≡ true) ⊎ In k (x ∷ meetings_after (seen ++ x ∷ []) xs)
  more (inl p) = elim (among_last seen x k p) [ inl q ↦ inl q | inr q ↦ inr (subst (λ (y : ℕ). In k (y ∷ meetings_after (seen ++ x ∷ []) xs)) q here) ]
  more (inr p) = inr (there p)

  by : (b : Bool) → among x seen ≡ b → In k (x ∷ xs) → ((before : List ℕ) → In k xs → (among k before ≡ true) ⊎ In k (meetings_after before xs))
      → (among k seen ≡ true) ⊎ In k (if b then meetings_after seen xs else x ∷ meetings_after (seen ++ x ∷ []) xs)
  by true e h rest = elim (also h) [ inl q ↦ inl (subst (λ (y : ℕ). among y seen ≡ true) q e) | inr p ↦ rest seen p ]
  by false e h rest = elim (also h) [
    | inl q ↦ inr (subst (λ (y : ℕ). In k (y ∷ meetings_after (seen ++ x ∷ []) xs)) (sym q) here)
    | inr p ↦ more (rest (seen ++ x ∷ []) p)
  ]

pub first_meetings-all : (xs : List ℕ) (k : ℕ) → In k xs → In k (first_meetings xs)
first_meetings-all xs k h = elim (meetings [] xs k h) [ inl e ↦ absurd (cc e) | inr p ↦ p ]
