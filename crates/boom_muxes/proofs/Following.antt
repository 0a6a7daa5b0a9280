-- The names that a plan gives a literal have in the second machine the values that they have in the given one.
use Rattle.std.proofs.Common.{◌≡◌, ◌⊎◌, inl, inr, ℕ, zero, suc, ◌+◌, ◌-◌, ◌<◌, ◌≤◌, Bool, true, false, List, [], ◌∷◌, ◌++◌, length, Option, None, Some, slice_get, refl, sym, ap, subst, ◌∙◌, arith, length-append, if◌then◌else◌}
use Rattle.std.specs.Prelude.{nat_lt}
use Rattle.std.specs.List.{slice_index_or}
use Rattle.bool_expr.specs.declared.expr.Gate.{Gate}
use Rattle.bool_expr.specs.declared.expr.Gate.TheVariants.{And, Or, Nand, Nor, Xor, Xnor}
use Rattle.bool_expr.specs.Expression.{Expression, constant, variable, inverse, pair, choice, bit, val, size_of, gate_size, IsOver}
use Rattle.bool_expr.specs.Renumbering.{renumbered}
use Rattle.machine_core.specs.Machine.{Equation}
use Rattle.machine_core.specs.Built.{built}
use Rattle.machine_core.specs.Order.{EachReadsBelow}
use Rattle.boom_literal.specs.declared.literal.Literal.{Literal}
use Rattle.boom_literal.specs.declared.literal.Literal.TheVariants.{Constant, Name}
use Rattle.boom_muxes.specs.declared.plan.Plan.{Plan}
use Rattle.boom_literal.specs.Literals.{literal_expression, said}
use Rattle.boom_muxes.specs.Muxes.{literal_value, IsLiteralBelow}
use Rattle.boom_muxes.specs.Building.{literal_for, or_zero, equations_said}

-- ---- what is built keeps what was there, and adds the value of the first equation

bit-front : (front rest : List Bool) (k : ℕ) → k < length front → bit (front ++ rest) k ≡ bit front k
bit-front [] rest k h = absurd (omega arith)
bit-front (b ∷ front) rest zero h = refl
bit-front (b ∷ front) rest (suc k) h = bit-front front rest k (omega arith)

bit-next : (front : List Bool) (b : Bool) (rest : List Bool) → bit (front ++ b ∷ rest) (length front) ≡ b
bit-next [] b rest = refl
bit-next (c ∷ front) b rest = bit-next front b rest

pub built-keeps : (w : List Bool) (es : List Equation) (k : ℕ) → k < length w → bit (built w es) k ≡ bit w k
built-keeps w [] k h = refl
built-keeps w (e ∷ es) k h =
    let l = length-append w (val e.expr w ∷ []) in
    built-keeps (w ++ val e.expr w ∷ []) es k (omega (arith, l, h)) ∙ bit-front w (val e.expr w ∷ []) k h

pub built-first : (w : List Bool) (e : Equation) (es : List Equation) → bit (built w (e ∷ es)) (length w) ≡ val e.expr w
built-first w e es =
    let l = length-append w (val e.expr w ∷ []) in
    built-keeps (w ++ val e.expr w ∷ []) es (length w) (omega (arith, l)) ∙ bit-next w (val e.expr w) []

-- an expression that weighs nothing is a constant or a name
pub data IsPlain : Expression → Type 0 where
  a_constant : {b : Bool} → IsPlain (constant b)
  a_name : {k : ℕ} → IsPlain (variable k)

pub plain_of : (e : Expression) → (0 < size_of e → ⊥) → IsPlain e
plain_of (constant b) h = a_constant
plain_of (variable k) h = a_name
plain_of (inverse e) h = absurd (h (omega arith))
plain_of (pair g a b) h = absurd (h (heavy g a b)) where
  heavy : (g : Gate) (a b : Expression) → 0 < gate_size g + (size_of a + size_of b)
  heavy And a b = omega arith
  heavy Or a b = omega arith
  heavy Nand a b = omega arith
  heavy Nor a b = omega arith
  heavy Xor a b = omega arith
  heavy Xnor a b = omega arith
plain_of (choice c a b) h = absurd (h (omega arith))

-- ---- both machines beside one another

-- `held` inputs and registers, `start` names before the first equation of the second machine, `g` their values there, `whole` the values
-- of all names of the given machine, `numbers` the new numbers of its names
module _ (held start : ℕ) (less : held ≤ start) (g whole : List Bool) (long : length g ≡ start) (numbers : List ℕ)
    (first : (x : ℕ) → x < held → slice_index_or numbers x 0 ≡ x)
    (later : (j : ℕ) → held + j < length numbers → slice_index_or numbers (held + j) 0 ≡ start + j)
    (p : Plan) (equations : List Equation)
    (below : (j : ℕ) (l : Literal) → slice_get p.equations.items j ≡ Some (Some l) → IsLiteralBelow start l)
    (value : (j : ℕ) (l : Literal) → slice_get p.equations.items j ≡ Some (Some l) → literal_value l g ≡ bit whole (held + j))
    (closed : (i j : ℕ) (l : Literal) (x : Equation) → slice_get p.equations.items i ≡ Some (Some l) → slice_get equations i ≡ Some x
    → x.expr ≡ variable (held + j) → (k : Literal) × (slice_get p.equations.items j ≡ Some (Some k))) where
  -- up to equation number k both agree on inputs and registers, and on what has a literal
  pub record Agree (k : ℕ) (w v : List Bool) : Type 0 where
    pub each : length w ≡ held + k
    pub other : length v ≡ start + k
    pub on_held : (x : ℕ) → x < held → bit v x ≡ bit w x
    pub on_planned : (j : ℕ) (l : Literal) → j < k → slice_get p.equations.items j ≡ Some (Some l) → bit v (start + j) ≡ bit w (held + j)
    pub front : (x : ℕ) → x < start → bit v x ≡ bit g x

  literal_there : (k : ℕ) (w v : List Bool) → Agree k w v → (l : Literal) → IsLiteralBelow start l → literal_value l v ≡ literal_value l g
  literal_there k w v a (Constant b) low = refl
  literal_there k w v a (Name x) low = a.front x low

  -- a name before equation number k, where what has a literal leads to it
  name_there : (k : ℕ) (w v : List Bool) (l : Literal) (e : Equation) (x : ℕ) → Agree k w v → slice_get p.equations.items k ≡ Some (Some l)
      → slice_get equations k ≡ Some e → e.expr ≡ variable x → x < held + k → held + k ≤ length numbers → bit v (slice_index_or numbers x 0) ≡ bit w x
  name_there k w v l e x a has is says low room = by (nat_lt x held) refl where
    by : (b : Bool) → nat_lt x held ≡ b → bit v (slice_index_or numbers x 0) ≡ bit w x
    by true t = let h : x < held = search (arith, t) in ap (bit v) (first x h) ∙ a.on_held x h
    by false t =
        let h : held ≤ x = search (arith, t) in
        let j : ℕ = x - held in
        let sum : x ≡ held + j = omega (arith, h) in
        let led = closed k j l e has is (says ∙ ap variable sum) in
        let at : slice_index_or numbers x 0 ≡ start + j = ap (λ (y : ℕ). slice_index_or numbers y 0) sum ∙ later j (omega (arith, sum, low, room)) in
        ap (bit v) at ∙ a.on_planned j led.0 (omega (arith, sum, low)) led.1 ∙ ap (bit w) (sym sum)

  -- the value of what is said in place of the equation that comes next, where it has a literal
  said_there : (k : ℕ) (w v : List Bool) (l : Literal) (e : Equation) → Agree k w v → slice_get p.equations.items k ≡ Some (Some l)
      → slice_get equations k ≡ Some e → IsOver e.expr (held + k) → held + k ≤ length numbers → val e.expr w ≡ bit whole (held + k)
      → val (said numbers (Some l) e.expr) v ≡ val e.expr w
  said_there k w v l e a has is over room last = by (nat_lt 0 (size_of e.expr)) refl where
    kept : (f : Expression) → e.expr ≡ f → IsPlain f → val (renumbered numbers f) v ≡ val f w
    kept (constant b) same a_constant = refl
    kept (variable x) same a_name = name_there k w v l e x a has is same (subst (λ (f : Expression). IsOver f (held + k)) same over) room
    kept (inverse _) same p = elim p [ ]
    kept (pair _ _ _) same p = elim p [ ]
    kept (choice _ _ _) same p = elim p [ ]

    by : (b : Bool) → nat_lt 0 (size_of e.expr) ≡ b → val (if b then literal_expression l else renumbered numbers e.expr) v ≡ val e.expr w
    by true t = literal_there k w v a l (below k l has) ∙ value k l has ∙ sym last
    by false t = kept e.expr refl (plain_of e.expr (λ more. search (arith, t, more)))

  -- the next equation of both
  next_agrees : (k : ℕ) (w v : List Bool) (e : Equation) (b : Bool) → Agree k w v
      → ((l : Literal) → slice_get p.equations.items k ≡ Some (Some l) → b ≡ val e.expr w) → Agree (k + 1) (w ++ val e.expr w ∷ []) (v ++ b ∷ [])
  next_agrees k w v e b a same = record {
    each = let l = length-append w (val e.expr w ∷ []) in let h = a.each in omega (arith, l, h);
    other = let l = length-append v (b ∷ []) in let h = a.other in omega (arith, l, h);
    on_held = λ x h.
        bit-front v (b ∷ []) x (let o = a.other in omega (arith, o, h, less)) ∙ a.on_held x h
        ∙ sym (bit-front w (val e.expr w ∷ []) x (let o = a.each in omega (arith, o, h)));
    on_planned = λ j l h has. by j l (last_or_before j k h) has;
    front = λ x h. bit-front v (b ∷ []) x (let o = a.other in omega (arith, o, h)) ∙ a.front x h;
  }
    where
      last_or_before : (j k : ℕ) → j < k + 1 → (j < k) ⊎ (j ≡ k)
      last_or_before j k h = by_test (nat_lt j k) refl where
        by_test : (t : Bool) → nat_lt j k ≡ t → (j < k) ⊎ (j ≡ k)
        by_test true t = inl (search (arith, t))
        by_test false t = inr (let q : k ≤ j = search (arith, t) in omega (arith, q, h))

      by : (j : ℕ) (l : Literal) → (j < k) ⊎ (j ≡ k) → slice_get p.equations.items j ≡ Some (Some l)
          → bit (v ++ b ∷ []) (start + j) ≡ bit (w ++ val e.expr w ∷ []) (held + j)
      by j l (inl h) has =
          bit-front v (b ∷ []) (start + j) (let o = a.other in omega (arith, o, h)) ∙ a.on_planned j l h has
          ∙ sym (bit-front w (val e.expr w ∷ []) (held + j) (let o = a.each in omega (arith, o, h)))
      by j l (inr h) has =
          let here : start + j ≡ length v = let o = a.other in omega (arith, o, h) in
          let there_ : held + j ≡ length w = let o = a.each in omega (arith, o, h) in
          ap (bit (v ++ b ∷ [])) here ∙ bit-next v b [] ∙ same l (subst (λ (i : ℕ). slice_get p.equations.items i ≡ Some (Some l)) h has)
          ∙ sym (ap (bit (w ++ val e.expr w ∷ [])) there_ ∙ bit-next w (val e.expr w) [])

  -- and so on for all that follow
  pub agree_on : (k : ℕ) (es : List Equation) (w v : List Bool) → Agree k w v
      → ((i : ℕ) (e : Equation) → slice_get es i ≡ Some e → slice_get equations (k + i) ≡ Some e)
      → EachReadsBelow (held + k) es → held + k + length es ≤ length numbers → built w es ≡ whole
      → Agree (k + length es) (built w es) (built v (equations_said numbers (Some p) k es))
  agree_on k [] w v a listed reads room end = subst (λ (n : ℕ). Agree n w v) (omega arith) a
  agree_on k (e ∷ es) w v a listed reads room end =
      subst (λ (n : ℕ). Agree n (built w (e ∷ es)) (built v (equations_said numbers (Some p) k (e ∷ es)))) (omega arith)
      (agree_on (suc k) es (w ++ val e.expr w ∷ []) (v ++ val (said numbers (literal_for (Some p) k) e.expr) v ∷ [])
      (subst (λ (n : ℕ). Agree n (w ++ val e.expr w ∷ []) (v ++ val (said numbers (literal_for (Some p) k) e.expr) v ∷ [])) one_on
      (next_agrees k w v e (val (said numbers (literal_for (Some p) k) e.expr) v) a here_same))
      (λ i x h. subst (λ (n : ℕ). slice_get equations n ≡ Some x) (passed i) (listed (suc i) x h))
      (subst (λ (n : ℕ). EachReadsBelow n es) further reads.1) (omega (arith, room)) end)
    where
      one_on : k + 1 ≡ suc k
      one_on = omega arith

      passed : (i : ℕ) → k + suc i ≡ suc k + i
      passed i = omega arith

      further : held + k + 1 ≡ held + suc k
      further = omega arith

      is : slice_get equations k ≡ Some e
      is = subst (λ (n : ℕ). slice_get equations n ≡ Some e) (omega arith) (listed zero e refl)

      last : val e.expr w ≡ bit whole (held + k)
      last = sym (built-first w e es) ∙ ap (bit (built w (e ∷ es))) a.each ∙ ap (λ (b : List Bool). bit b (held + k)) end

      here_same : (l : Literal) → slice_get p.equations.items k ≡ Some (Some l) → val (said numbers (literal_for (Some p) k) e.expr) v ≡ val e.expr w
      here_same l has =
          let chosen : literal_for (Some p) k ≡ Some l = ap or_zero (index_of p.equations.items k l has) in
          ap (λ (o : Option Literal). val (said numbers o e.expr) v) chosen ∙ said_there k w v l e a has is reads.0 (omega (arith, room)) last where
            index_of : (xs : List (Option Literal)) (k : ℕ) (l : Literal) → slice_get xs k ≡ Some (Some l) → slice_index_or xs k None ≡ Some l
            index_of [] k l h = absurd (cc h)
            index_of (x ∷ xs) zero l h = (cc h)
            index_of (x ∷ xs) (suc k) l h = index_of xs k l h
