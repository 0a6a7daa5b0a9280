-- Steps depend on the ports alone that the statements read.
use Rattle.std.proofs.Common.{◌≡◌, ℕ, zero, suc, ◌+◌, ◌<◌, Bool, true, false, ◌||◌, List, [], ◌∷◌, ◌++◌, map, length, Option, None, Some, if◌then◌else◌, ◌⊎◌, inl, inr, refl, sym, ap, ◌∙◌, subst, arith, nat_eq}
use Rattle.std.proofs.lemmas.Bool.{eqb-true, cases_lt}
use Rattle.std.proofs.lemmas.List.{length-map, get_or_past}
use Rattle.vlsi_base.specs.declared.name.Name.{Name}
use Rattle.vlsi_base.specs.Member.{In, here, there}
use Rattle.bool_expr.specs.Expression.{Expression, val, bit, variables}
use Rattle.bool_expr.specs.Support.{among, meetings_after, first_meetings}
use Rattle.machine_core.specs.Named.{is_same_name}
use Rattle.machine_core.proofs.Values.{In-left, In-right, val-agrees}
use Rattle.fsm_machine.specs.Statements.{Assignment, output, next, Statements, finish, assign, choose, select, Parts, only, either, further, Branches, closed, others, listed}
use Rattle.fsm_machine.specs.Walk.{given_next, given_output}
use Rattle.fsm_machine.specs.Fsm.{Fsm, fsm_outputs}
use Rattle.fsm_machine.specs.MachineOf.{up}
use Rattle.fsm_core.specs.Checked.{IsCheckedFsm}
use Rattle.fsm_walk.specs.declared.step.Step.{Step}
use Rattle.fsm_walk.specs.Trail.{trail, parts_trail, branches_trail, given_or, last_given}
use Rattle.fsm_walk.specs.Reads.{assignment_reads, reads, parts_reads, branches_reads, read_marks}
use Rattle.fsm_walk.specs.Words.{SameAt}
use Rattle.fsm_walk.specs.Step.{step_of, ReadsAlone}
use Rattle.fsm_walk.proofs.Over.{also_in, reads_inputs, input_below}

-- ---- members of lists of variables

among_last : (seen : List ℕ) (x k : ℕ) → among k (seen ++ x ∷ []) ≡ true → (among k seen ≡ true) ⊎ (k ≡ x)
among_last [] x k h = by (nat_eq x k) refl h where
  by : (b : Bool) → nat_eq x k ≡ b → (b || false) ≡ true → (false ≡ true) ⊎ (k ≡ x)
  by true e p = inr (sym (eqb-true x k e))
  by false e p = absurd (cc p)
among_last (y ∷ seen) x k h = by (nat_eq y k) h (among_last seen x k) where
  by : (b : Bool) → (b || among k (seen ++ x ∷ [])) ≡ true → (among k (seen ++ x ∷ []) ≡ true → (among k seen ≡ true) ⊎ (k ≡ x))
      → ((b || among k seen) ≡ true) ⊎ (k ≡ x)
  by true p rest = inl refl
  by false p rest = rest p

-- each member is met
meetings : (seen xs : List ℕ) (k : ℕ) → In k xs → (among k seen ≡ true) ⊎ In k (meetings_after seen xs)
meetings seen [] k h = elim h [ ]
meetings seen (x ∷ xs) k h = by (among x seen) refl h (λ before p. meetings before xs k p) where
  also : In k (x ∷ xs) → (x ≡ k) ⊎ In k xs
  also p = elim (also_in k x xs p) [ inl q ↦ inl (sym q) | inr q ↦ inr q ]

  more : (among k (seen ++ x ∷ []) ≡ true) ⊎ In k (meetings_after (seen ++ x ∷ []) xs) → (among k seen ≡ true) ⊎ In k (x ∷ meetings_after (seen ++ x ∷ []) xs)
  more (inl p) = elim (among_last seen x k p) [ inl q ↦ inl q | inr q ↦ inr (subst (λ (y : ℕ). In k (y ∷ meetings_after (seen ++ x ∷ []) xs)) q here) ]
  more (inr p) = inr (there p)

  by : (b : Bool) → among x seen ≡ b → In k (x ∷ xs) → ((before : List ℕ) → In k xs → (among k before ≡ true) ⊎ In k (meetings_after before xs))
      → (among k seen ≡ true) ⊎ In k (if b then meetings_after seen xs else x ∷ meetings_after (seen ++ x ∷ []) xs)
  by true e h rest = elim (also h) [ inl q ↦ inl (subst (λ (y : ℕ). among y seen ≡ true) q e) | inr p ↦ rest seen p ]
  by false e h rest = elim (also h) [
    | inl q ↦ inr (subst (λ (y : ℕ). In k (y ∷ meetings_after (seen ++ x ∷ []) xs)) (sym q) here)
    | inr p ↦ more (rest (seen ++ x ∷ []) p)
  ]

all_met : (xs : List ℕ) (k : ℕ) → In k xs → In k (first_meetings xs)
all_met xs k h = elim (meetings [] xs k h) [ inl e ↦ absurd (cc e) | inr p ↦ p ]

in_among : (xs : List ℕ) (k : ℕ) → In k xs → among k xs ≡ true
in_among [] k h = elim h [ ]
in_among (x ∷ xs) k h = by (also_in k x xs h) (in_among xs k) where
  same : nat_eq k k ≡ true
  same = grind arith

  later : (b : Bool) → among k xs ≡ true → (b || among k xs) ≡ true
  later true e = refl
  later false e = e

  by : (k ≡ x) ⊎ In k xs → (In k xs → among k xs ≡ true) → (nat_eq x k || among k xs) ≡ true
  by (inl e) rest = subst (λ (y : ℕ). (nat_eq y k || among k xs) ≡ true) e (ap (λ (b : Bool). b || among k xs) same)
  by (inr p) rest = later (nat_eq x k) (rest p)

-- ---- bits that agree on what is read

abbrev Agree : List Bool → List Bool → List ℕ → Type 0
Agree w u xs = (k : ℕ) → In k xs → bit w k ≡ bit u k

agree_left : (w u : List Bool) (xs ys : List ℕ) → Agree w u (xs ++ ys) → Agree w u xs
agree_left w u xs ys h k i = h k (In-left k xs ys i)

agree_right : (w u : List Bool) (xs ys : List ℕ) → Agree w u (xs ++ ys) → Agree w u ys
agree_right w u xs ys h k i = h k (In-right k xs ys i)

same_val : (e : Expression) (w u : List Bool) → Agree w u (first_meetings (variables e)) → val e w ≡ val e u
same_val e w u h = val-agrees e w u (λ k i. h k (all_met (variables e) k i))

last_more : {A : Type 0} (given : Assignment → Option A) (d : A) (xs ys : List Assignment) → last_given given d (xs ++ ys) ≡ last_given given (last_given given d xs) ys
last_more given d [] ys = refl
last_more given d (a ∷ xs) ys = last_more given (given_or (given a) d) xs ys

-- two ways to take assignments that agree on those which read what agrees
abbrev AreAlike : {A : Type 0} → (Assignment → Option A) → (Assignment → Option A) → List Bool → List Bool → Type 0
AreAlike g h w u = (a : Assignment) → Agree w u (assignment_reads a) → g a ≡ h a

last_if : {A : Type 0} (g h : Assignment → Option A) (d : A) (b c : Bool) (x y p q : List Assignment) → b ≡ c
    → last_given g d x ≡ last_given h d p → last_given g d y ≡ last_given h d q → last_given g d (if b then x else y) ≡ last_given h d (if c then p else q)
last_if g h d true true x y p q e i j = i
last_if g h d false false x y p q e i j = j
last_if g h d true false x y p q e i j = absurd (cc)
last_if g h d false true x y p q e i j = absurd (cc)

last_both : {A : Type 0} (g h : Assignment → Option A) (d : A) (x y p q : List Assignment) → last_given g d x ≡ last_given h d p
    → ((c : A) → last_given g c y ≡ last_given h c q) → last_given g d (x ++ y) ≡ last_given h d (p ++ q)
last_both g h d x y p q i j =
    last_more g d x y ∙ ap (λ c. last_given g c y) i ∙ j (last_given h d p) ∙ sym (last_more h d p q)

mutual
  last_same : {A : Type 0} (g h : Assignment → Option A) (w u : List Bool) (s : ℕ) → AreAlike g h w u → (body : Statements) (d : A) → Agree w u (reads body)
      → last_given g d (trail w s body) ≡ last_given h d (trail u s body)
  last_same g h w u s same finish d agree = refl
  last_same g h w u s same (assign a rest) d agree =
      ap (λ o. last_given g (given_or o d) (trail w s rest)) (same a (agree_left w u (assignment_reads a) (reads rest) agree))
      ∙ last_same g h w u s same rest (given_or (h a) d) (agree_right w u (assignment_reads a) (reads rest) agree)
  last_same g h w u s same (choose parts rest) d agree =
      last_both g h d (parts_trail w s parts) (trail w s rest) (parts_trail u s parts) (trail u s rest)
      (parts_same g h w u s same parts d (agree_left w u (parts_reads parts) (reads rest) agree))
      (λ c. last_same g h w u s same rest c (agree_right w u (parts_reads parts) (reads rest) agree))
  last_same g h w u s same (select branches rest) d agree =
      last_both g h d (branches_trail w s branches) (trail w s rest) (branches_trail u s branches) (trail u s rest)
      (branches_same g h w u s same branches d (agree_left w u (branches_reads branches) (reads rest) agree))
      (λ c. last_same g h w u s same rest c (agree_right w u (branches_reads branches) (reads rest) agree))

  parts_same : {A : Type 0} (g h : Assignment → Option A) (w u : List Bool) (s : ℕ) → AreAlike g h w u → (parts : Parts) (d : A) → Agree w u (parts_reads parts)
      → last_given g d (parts_trail w s parts) ≡ last_given h d (parts_trail u s parts)
  parts_same g h w u s same (only c a) d agree =
      let e = same_val c w u (agree_left w u (first_meetings (variables c)) (reads a) agree) in
      last_if g h d (val c w) (val c u) _ _ _ _ e (last_same g h w u s same a d (agree_right w u (first_meetings (variables c)) (reads a) agree)) refl
  parts_same g h w u s same (either c a b) d agree =
      let vars = first_meetings (variables c) in
      let rest = agree_right w u vars (reads a ++ reads b) agree in
      last_if g h d (val c w) (val c u) _ _ _ _ (same_val c w u (agree_left w u vars (reads a ++ reads b) agree))
      (last_same g h w u s same a d (agree_left w u (reads a) (reads b) rest)) (last_same g h w u s same b d (agree_right w u (reads a) (reads b) rest))
  parts_same g h w u s same (further c a more) d agree =
      let vars = first_meetings (variables c) in
      let rest = agree_right w u vars (reads a ++ parts_reads more) agree in
      last_if g h d (val c w) (val c u) _ _ _ _ (same_val c w u (agree_left w u vars (reads a ++ parts_reads more) agree))
      (last_same g h w u s same a d (agree_left w u (reads a) (parts_reads more) rest)) (parts_same g h w u s same more d (agree_right w u (reads a) (parts_reads more) rest))

  branches_same : {A : Type 0} (g h : Assignment → Option A) (w u : List Bool) (s : ℕ) → AreAlike g h w u → (branches : Branches) (d : A) → Agree w u (branches_reads branches)
      → last_given g d (branches_trail w s branches) ≡ last_given h d (branches_trail u s branches)
  branches_same g h w u s same closed d agree = refl
  branches_same g h w u s same (others a) d agree = last_same g h w u s same a d agree
  branches_same g h w u s same (listed states a more) d agree =
      last_if g h d (among s states) (among s states) _ _ _ _ refl (last_same g h w u s same a d (agree_left w u (reads a) (branches_reads more) agree))
      (branches_same g h w u s same more d (agree_right w u (reads a) (branches_reads more) agree))

same_output : (w u : List Bool) (name : Name) → AreAlike (given_output w name) (given_output u name) w u
same_output w u name (output target e) agree = ap (λ b. if is_same_name target name then Some b else None) (same_val e w u agree)
same_output w u name (next s) agree = refl

-- ---- the marks of what is read

pub up_length : (j n : ℕ) → length (up j n) ≡ n
up_length j zero = refl
up_length j (suc n) = ap (λ (m : ℕ). suc m) (up_length (suc j) n)

mark_at : (xs : List ℕ) (j n k : ℕ) → k < n → bit (map (λ p. among p xs) (up j n)) k ≡ among (j + k) xs
mark_at xs j zero k l = absurd (omega arith)
mark_at xs j (suc n) zero l = ap (λ (p : ℕ). among p xs) (omega arith)
mark_at xs j (suc n) (suc k) l = mark_at xs (suc j) n k (omega arith) ∙ ap (λ (p : ℕ). among p xs) (omega arith)

pub mark_is : (f : Fsm) (k : ℕ) → k < length f.ports → bit (read_marks f) k ≡ among k (reads f.body)
mark_is f k l = mark_at (reads f.body) 0 (length f.ports) k l ∙ ap (λ (p : ℕ). among p (reads f.body)) (omega arith)

marks_agree : (f : Fsm) (w u : List Bool) → IsCheckedFsm f → SameAt (read_marks f) w u → Agree w u (reads f.body)
marks_agree f w u checked same k i =
    same k (mark_is f k (input_below f k (reads_inputs f checked k i)) ∙ in_among (reads f.body) k i)

map_each : {A B : Type 0} (g h : A → B) → ((x : A) → g x ≡ h x) → (xs : List A) → map g xs ≡ map h xs
map_each g h same [] = refl
map_each {A} {B} g h same (x ∷ xs) = ap (λ (y : B). y ∷ map g xs) (same x) ∙ ap (λ (ys : List B). h x ∷ ys) (map_each g h same xs)

abbrev made : List Bool → ℕ → Step
made outs to = record { outs = outs; next = to }

pub alone : ReadsAlone
alone f w u s checked same =
    let agree = marks_agree f w u checked same in
    ap (λ (outs : List Bool). made outs (last_given given_next 0 (trail w s f.body)))
    (map_each (λ name. last_given (given_output w name) false (trail w s f.body)) (λ name. last_given (given_output u name) false (trail u s f.body))
    (λ name. last_same (given_output w name) (given_output u name) w u s (same_output w u name) f.body false agree) (fsm_outputs f))
    ∙ ap (made (step_of f.body (fsm_outputs f) u s).outs) (last_same given_next given_next w u s (λ a _. refl) f.body 0 agree)

-- a marked port is read
among_in : (xs : List ℕ) (k : ℕ) → among k xs ≡ true → In k xs
among_in [] k e = absurd (cc)
among_in (x ∷ xs) k e = by (nat_eq x k) refl e (among_in xs k) where
  by : (b : Bool) → nat_eq x k ≡ b → (b || among k xs) ≡ true → (among k xs ≡ true → In k xs) → In k (x ∷ xs)
  by true same h rest = subst (λ (y : ℕ). In y (x ∷ xs)) (eqb-true x k same) here
  by false other h rest = there (rest h)

pub marked_in : (f : Fsm) (k : ℕ) → bit (read_marks f) k ≡ true → In k (reads f.body)
marked_in f k e = elim (cases_lt k (length f.ports)) [
  | inl low ↦ among_in (reads f.body) k (sym (mark_is f k low) ∙ e)
  | inr high ↦ absurd (let none : bit (read_marks f) k ≡ false = get_or_past (read_marks f) k false (omega (arith, high, length-map (up 0 (length f.ports)) (λ p. among p (reads f.body)), up_length 0 (length f.ports))) in cc)
]
