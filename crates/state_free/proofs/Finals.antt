-- What the statements of the two leave of a target: next states are the same, and outputs agree in all but free bits. All of it reads
-- what stands before the outputs.
use Rattle.std.proofs.Common.{◌≡◌, ◌⊎◌, inl, inr, ℕ, zero, suc, ◌+◌, ◌<◌, ◌≤◌, Bool, true, false, List, [], ◌∷◌, map, length, Option, None, Some, refl, sym, ap, subst, ◌∙◌, arith, if◌then◌else◌}
use Rattle.std.specs.List.{slice_index_or}
use Rattle.vlsi_base.specs.declared.name.Name.{Name}
use Rattle.bool_expr.specs.Expression.{Expression, constant, variable, inverse, pair, choice, IsOver}
use Rattle.machine_core.specs.Named.{is_same_name}
use Rattle.machine_core.specs.Machine.{names_of}
use Rattle.machine_free.specs.Free.{AreFreed}
use Rattle.fsm_machine.specs.Statements.{Assignment, output, next, Statements, finish, assign, choose, select, Parts, only, either, further, Branches, closed, others, listed}
use Rattle.fsm_machine.specs.Fsm.{Fsm, fsm_inputs}
use Rattle.fsm_machine.specs.Codes.{Codes}
use Rattle.fsm_machine.specs.Signals.{signals, part_signals, branch_signals, assigned, final, final_parts, final_branches}
use Rattle.fsm_machine.specs.Moved.{substituted, moved_assignment, moved, moved_parts, moved_branches}
use Rattle.fsm_machine.specs.MachineOf.{place_of, port_places, output_given, code_given}
use Rattle.state_free.specs.Free.{IsFreeAssignment, AreFreeStatements, AreFreeParts, AreFreeBranches}
use Rattle.state_free.proofs.Alike.{same_signals, same_part_signals, same_branch_signals}

-- a path's signal stands below m
abbrev pub IsPathBelow : Option ℕ → ℕ → Type 0
IsPathBelow None m = Unit {0}
IsPathBelow (Some p) m = p < m

-- the values before and behind the statements of both are related, where assignments keep them so
module _ (R : Expression → Expression → Type 0) (es : List Expression) (m : ℕ) (given : Assignment → Option Expression)
    (step : (a b : Assignment) → IsFreeAssignment a b → (p : Option ℕ) → IsPathBelow p m → (x y : Expression) → R x y
    → R (assigned (given (moved_assignment es a)) p x) (assigned (given (moved_assignment es b)) p y)) where
  mutual
    pub related : (p : Option ℕ) (n : ℕ) (a b : Statements) (x y : Expression) → IsPathBelow p m → n + signals (moved es a) ≤ m → AreFreeStatements a b
        → R x y → R (final given p n (moved es a) x) (final given p n (moved es b) y)
    related p n finish b x y path fits h r = subst (λ o. R x (final given p n (moved es o) y)) (sym h) r
    related p n (assign a rest) b x y path fits h r =
        subst (λ o. R (final given p n (moved es (assign a rest)) x) (final given p n (moved es o) y)) (sym h.2)
        (related p n rest h.1 (assigned (given (moved_assignment es a)) p x) (assigned (given (moved_assignment es h.0)) p y) path fits h.3.1
        (step a h.0 h.3.0 p path x y r))
    related p n (choose parts rest) b x y path fits h r =
        let k = part_signals (moved_parts es parts) in
        let one = related_parts p n parts h.0 x y path (omega arith) h.3.0 r in
        let two = related p (n + k) rest h.1 (final_parts given p n (moved_parts es parts) x) (final_parts given p n (moved_parts es h.0) y) path (omega arith) h.3.1 one in
        let left = final given p n (moved es (choose parts rest)) x in
        subst (λ o. R left (final given p n (moved es o) y)) (sym h.2)
        (subst (λ i. R left (final given p (n + i) (moved es h.1) (final_parts given p n (moved_parts es h.0) y))) (sym (same_part_signals es parts h.0 h.3.0)) two)
    related p n (select branches rest) b x y path fits h r =
        let k = branch_signals (moved_branches es branches) in
        let one = related_branches p n branches h.0 x y path (omega arith) h.3.0 r in
        let two = related p (n + k) rest h.1 (final_branches given p n (moved_branches es branches) x) (final_branches given p n (moved_branches es h.0) y) path (omega arith) h.3.1 one in
        let left = final given p n (moved es (select branches rest)) x in
        subst (λ o. R left (final given p n (moved es o) y)) (sym h.2)
        (subst (λ i. R left (final given p (n + i) (moved es h.1) (final_branches given p n (moved_branches es h.0) y))) (sym (same_branch_signals es branches h.0 h.3.0)) two)

    related_parts : (p : Option ℕ) (n : ℕ) (a b : Parts) (x y : Expression) → IsPathBelow p m → n + part_signals (moved_parts es a) ≤ m → AreFreeParts a b
        → R x y → R (final_parts given p n (moved_parts es a) x) (final_parts given p n (moved_parts es b) y)
    related_parts p n (only c a) b x y path fits h r =
        subst (λ o. R (final_parts given p n (moved_parts es (only c a)) x) (final_parts given p n (moved_parts es o) y)) (sym h.1)
        (related (Some (suc n)) (suc (suc n)) a h.0 x y (omega arith) (omega arith) h.2 r)
    related_parts p n (either c a o) b x y path fits h r =
        let q : ℕ → ℕ = λ i. suc (suc n) + i in
        let k = q (signals (moved es a)) in
        let first = final given (Some (suc n)) (suc (suc n)) (moved es a) x in
        let second = final given (Some (suc n)) (suc (suc n)) (moved es h.0) y in
        let one = related (Some (suc n)) (suc (suc n)) a h.0 x y (omega arith) (omega arith) h.3.0 r in
        let two = related (Some k) (suc k) o h.1 first second (omega arith) (omega arith) h.3.1 one in
        let left = final_parts given p n (moved_parts es (either c a o)) x in
        subst (λ z. R left (final_parts given p n (moved_parts es z) y)) (sym h.2)
        (subst (λ i. R left (final given (Some (q i)) (suc (q i)) (moved es h.1) second)) (sym (same_signals es a h.0 h.3.0)) two)
    related_parts p n (further c a more) b x y path fits h r =
        let q : ℕ → ℕ = λ i. suc (suc n) + i in
        let k = q (signals (moved es a)) in
        let first = final given (Some (suc n)) (suc (suc n)) (moved es a) x in
        let second = final given (Some (suc n)) (suc (suc n)) (moved es h.0) y in
        let one = related (Some (suc n)) (suc (suc n)) a h.0 x y (omega arith) (omega arith) h.3.0 r in
        let two = related_parts (Some k) (suc k) more h.1 first second (omega arith) (omega arith) h.3.1 one in
        let left = final_parts given p n (moved_parts es (further c a more)) x in
        subst (λ z. R left (final_parts given p n (moved_parts es z) y)) (sym h.2)
        (subst (λ i. R left (final_parts given (Some (q i)) (suc (q i)) (moved_parts es h.1) second)) (sym (same_signals es a h.0 h.3.0)) two)

    related_branches : (p : Option ℕ) (n : ℕ) (a b : Branches) (x y : Expression) → IsPathBelow p m → n + branch_signals (moved_branches es a) ≤ m
        → AreFreeBranches a b → R x y → R (final_branches given p n (moved_branches es a) x) (final_branches given p n (moved_branches es b) y)
    related_branches p n closed b x y path fits h r = subst (λ z. R x (final_branches given p n (moved_branches es z) y)) (sym h) r
    related_branches p n (others a) b x y path fits h r =
        subst (λ z. R (final_branches given p n (moved_branches es (others a)) x) (final_branches given p n (moved_branches es z) y)) (sym h.1)
        (related (Some n) (suc n) a h.0 x y (omega arith) (omega arith) h.2 r)
    related_branches p n (listed here a more) b x y path fits h r =
        let q : ℕ → ℕ = λ i. suc n + i in
        let k = q (signals (moved es a)) in
        let first = final given (Some n) (suc n) (moved es a) x in
        let second = final given (Some n) (suc n) (moved es h.0) y in
        let one = related (Some n) (suc n) a h.0 x y (omega arith) (omega arith) h.3.0 r in
        let two = related_branches p k more h.1 first second path (omega arith) h.3.1 one in
        let left = final_branches given p n (moved_branches es (listed here a more)) x in
        subst (λ z. R left (final_branches given p n (moved_branches es z) y)) (sym h.2)
        (subst (λ i. R left (final_branches given p (q i) (moved_branches es h.1) second)) (sym (same_signals es a h.0 h.3.0)) two)

-- ---- next states

same_code : (c : Codes) (k : ℕ) (es : List Expression) (a b : Assignment) → IsFreeAssignment a b
    → code_given c k (moved_assignment es b) ≡ code_given c k (moved_assignment es a)
same_code c k es (output name e) b (inl h) = ap (λ o. code_given c k (moved_assignment es o)) h
same_code c k es (output name e) b (inr h) = ap (λ o. code_given c k (moved_assignment es o)) h.1
same_code c k es (next s) b h = ap (λ o. code_given c k (moved_assignment es o)) h

pub same_next_bit : (c : Codes) (k : ℕ) (es : List Expression) (n : ℕ) (a b : Statements) → AreFreeStatements a b
    → final (code_given c k) None n (moved es b) (constant false) ≡ final (code_given c k) None n (moved es a) (constant false)
same_next_bit c k es n a b h =
    related (λ x y. y ≡ x) es (n + signals (moved es a)) (code_given c k)
    (λ a b free p path x y r. λ j. assigned (same_code c k es a b free j) p (r j))
    None n a b (constant false) (constant false) tt (omega arith) h refl

-- ---- outputs

-- the places of ports are inputs
over_more : (e : Expression) (n m : ℕ) → n ≤ m → IsOver e n → IsOver e m
over_more (constant b) n m l h = tt
over_more (variable k) n m l h = omega arith
over_more (inverse e) n m l h = over_more e n m l h
over_more (pair g a b) n m l h = (over_more a n m l h.0, over_more b n m l h.1)
over_more (choice c a b) n m l h = (over_more c n m l h.0, (over_more a n m l h.1.0, over_more b n m l h.1.1))

place_over : (k : ℕ) (names : List Name) (name : Name) (m : ℕ) → k + length names ≤ m → IsOver (place_of k names name) m
place_over k [] name m l = tt
place_over k (n ∷ names) name m l =
    let later = place_over (suc k) names name m (omega arith) in
    let first : k < m = omega arith in
    elim (is_same_name n name) as (λ t. IsOver (if t then variable k else place_of (suc k) names name) m) [ true ↦ first | false ↦ later ]

picked_over : (names ports : List Name) (k m : ℕ) → length names ≤ m → IsOver (slice_index_or (map (place_of 0 names) ports) k (constant false)) m
picked_over names [] k m l = tt
picked_over names (p ∷ ports) zero m l = place_over 0 names p m (omega arith)
picked_over names (p ∷ ports) (suc k) m l = picked_over names ports k m l

substituted_over : (names ports : List Name) (e : Expression) (m : ℕ) → length names ≤ m → IsOver (substituted (map (place_of 0 names) ports) e) m
substituted_over names ports (constant b) m l = tt
substituted_over names ports (variable k) m l = picked_over names ports k m l
substituted_over names ports (inverse e) m l = substituted_over names ports e m l
substituted_over names ports (pair g a b) m l = (substituted_over names ports a m l, substituted_over names ports b m l)
substituted_over names ports (choice c a b) m l = (substituted_over names ports c m l, (substituted_over names ports a m l, substituted_over names ports b m l))

pub freed_itself : (e : Expression) → AreFreed e e
freed_itself (constant b) = inl refl
freed_itself (variable k) = refl
freed_itself (inverse e) = refl
freed_itself (pair g a b) = refl
freed_itself (choice c a b) = (a, b, refl, (freed_itself a, freed_itself b))

-- two expressions that differ in free bits, of which the first reads what stands below m
abbrev pub IsFreedBelow : ℕ → Expression → Expression → Type 0
IsFreedBelow m x y = IsOver x m × AreFreed x y

-- what two assignments give to a target: both nothing, or such expressions
abbrev AreGiven : ℕ → Option Expression → Option Expression → Type 0
AreGiven m None g = g ≡ None
AreGiven m (Some x) g = (y : Expression) × (g ≡ Some y) × IsFreedBelow m x y

assigned_both : (m : ℕ) (f g : Option Expression) (p : Option ℕ) (x y : Expression) → AreGiven m f g → IsPathBelow p m → IsFreedBelow m x y
    → IsFreedBelow m (assigned f p x) (assigned g p y)
assigned_both m None g p x y h path r = subst (λ o. IsFreedBelow m x (assigned o p y)) (sym h) r
assigned_both m (Some e) g None x y h path r = subst (λ o. IsFreedBelow m e (assigned o None y)) (sym h.1) h.2
assigned_both m (Some e) g (Some p) x y h path r =
    subst (λ o. IsFreedBelow m (choice (variable p) e x) (assigned o (Some p) y)) (sym h.1)
    ((path, (h.2.0, r.0)), (h.0, y, refl, (h.2.1, r.1)))

module _ (f : Fsm) (m : ℕ) (fits : length (fsm_inputs f) ≤ m) (name : Name) where
  given_both : (a b : Assignment) → IsFreeAssignment a b
      → AreGiven m (output_given name (moved_assignment (port_places f) a)) (output_given name (moved_assignment (port_places f) b))
  given_both (output target e) b free = by (is_same_name target name) refl free where
    es : List Expression
    es = port_places f

    this : Assignment → Option Expression
    this a = output_given name (moved_assignment es a)

    by : (t : Bool) → is_same_name target name ≡ t → (b ≡ output target e) ⊎ ((e ≡ constant false) × (b ≡ output target (constant true)))
        → AreGiven m (if t then Some (substituted es e) else None) (this b)
    by true s (inl h) =
        (substituted es e, ap this h ∙ ap (λ (t : Bool). if t then Some (substituted es e) else None) s, (substituted_over (fsm_inputs f) (names_of f.ports) e m fits, freed_itself (substituted es e)))
    by true s (inr h) =
        let is : substituted es e ≡ constant false = ap (substituted es) h.0 in (
          constant true,
          ap this h.1 ∙ ap (λ (t : Bool). if t then Some (constant true) else None) s,
          subst (λ z. IsFreedBelow m z (constant true)) (sym is) (tt, inr (refl, refl)),
        )
    by false s (inl h) = ap this h ∙ ap (λ (t : Bool). if t then Some (substituted es e) else None) s
    by false s (inr h) = ap this h.1 ∙ ap (λ (t : Bool). if t then Some (constant true) else None) s
  given_both (next s) b free = ap (λ a. output_given name (moved_assignment (port_places f) a)) free

  pub freed_output : (n : ℕ) (a b : Statements) → AreFreeStatements a b → n + signals (moved (port_places f) a) ≤ m
      → IsFreedBelow m (final (output_given name) None n (moved (port_places f) a) (constant false)) (final (output_given name) None n (moved (port_places f) b) (constant false))
  freed_output n a b h low =
      let es = port_places f in
      related (IsFreedBelow m) es m (output_given name)
      (λ a b free p path x y r. assigned_both m (output_given name (moved_assignment es a)) (output_given name (moved_assignment es b)) p x y (given_both a b free) path r)
      None n a b (constant false) (constant false) tt low h (tt, inl refl)
