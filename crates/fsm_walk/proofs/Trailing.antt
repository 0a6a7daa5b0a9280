-- What a walk knows at its end, by the assignments that it meets.
use Rattle.std.proofs.Common.{◌≡◌, ℕ, Bool, true, false, List, [], ◌∷◌, ◌++◌, map, Option, None, Some, if◌then◌else◌, refl, sym, ap, ◌∙◌}
use Rattle.vlsi_base.specs.declared.name.Name.{Name}
use Rattle.bool_expr.specs.Expression.{val}
use Rattle.bool_expr.specs.Support.{among}
use Rattle.fsm_machine.specs.Statements.{Assignment, output, next, Statements, finish, assign, choose, select, Parts, only, either, further, Branches, closed, others, listed}
use Rattle.fsm_machine.specs.Walk.{walk, walk_parts, walk_branches, after, given_next, given_output}
use Rattle.fsm_walk.specs.Trail.{trail, parts_trail, branches_trail, given_or, last_given}
use Rattle.fsm_walk.specs.Step.{step_of, StepIsWalk}

-- what the assignments leave of what was known
abbrev pub known_after : {A : Type 0} → (Assignment → Option A) → Option A → List Assignment → Option A
known_after given known [] = known
known_after given known (a ∷ rest) = known_after given (after (given a) known) rest

known_more : {A : Type 0} (given : Assignment → Option A) (known : Option A) (xs ys : List Assignment)
    → known_after given known (xs ++ ys) ≡ known_after given (known_after given known xs) ys
known_more given known [] ys = refl
known_more given known (a ∷ xs) ys = known_more given (after (given a) known) xs ys

known_if : {A : Type 0} (given : Assignment → Option A) (known : Option A) (b : Bool) (xs ys : List Assignment) (x y : Option A)
    → x ≡ known_after given known xs → y ≡ known_after given known ys → (if b then x else y) ≡ known_after given known (if b then xs else ys)
known_if given known true xs ys x y h k = h
known_if given known false xs ys x y h k = k

mutual
  pub walk_known : {A : Type 0} (given : Assignment → Option A) (w : List Bool) (s : ℕ) (body : Statements) (known : Option A)
      → walk given w (Some s) body known ≡ known_after given known (trail w s body)
  walk_known given w s finish known = refl
  walk_known given w s (assign a rest) known = walk_known given w s rest (after (given a) known)
  walk_known given w s (choose parts rest) known =
      walk_known given w s rest (walk_parts given w (Some s) parts known)
      ∙ ap (λ k. known_after given k (trail w s rest)) (parts_known given w s parts known)
      ∙ sym (known_more given known (parts_trail w s parts) (trail w s rest))
  walk_known given w s (select branches rest) known =
      walk_known given w s rest (walk_branches given w (Some s) branches known)
      ∙ ap (λ k. known_after given k (trail w s rest)) (branches_known given w s branches known)
      ∙ sym (known_more given known (branches_trail w s branches) (trail w s rest))

  parts_known : {A : Type 0} (given : Assignment → Option A) (w : List Bool) (s : ℕ) (parts : Parts) (known : Option A)
      → walk_parts given w (Some s) parts known ≡ known_after given known (parts_trail w s parts)
  parts_known given w s (only c a) known = known_if given known (val c w) _ _ _ _ (walk_known given w s a known) refl
  parts_known given w s (either c a b) known = known_if given known (val c w) _ _ _ _ (walk_known given w s a known) (walk_known given w s b known)
  parts_known given w s (further c a more) known = known_if given known (val c w) _ _ _ _ (walk_known given w s a known) (parts_known given w s more known)

  branches_known : {A : Type 0} (given : Assignment → Option A) (w : List Bool) (s : ℕ) (branches : Branches) (known : Option A)
      → walk_branches given w (Some s) branches known ≡ known_after given known (branches_trail w s branches)
  branches_known given w s closed known = refl
  branches_known given w s (others a) known = walk_known given w s a known
  branches_known given w s (listed states a more) known =
      known_if given known (among s states) _ _ _ _ (walk_known given w s a known) (branches_known given w s more known)

-- ---- the last value

-- with a value before, a value is known
some_known : {A : Type 0} (given : Assignment → Option A) (d : A) (xs : List Assignment) → known_after given (Some d) xs ≡ Some (last_given given d xs)
some_known given d [] = refl
some_known {A} given d (a ∷ xs) = by (given a) (λ x. some_known given x xs) where
  by : (o : Option A) → ((x : A) → known_after given (Some x) xs ≡ Some (last_given given x xs))
      → known_after given (after o (Some d)) xs ≡ Some (last_given given (given_or o d) xs)
  by None rest = rest d
  by (Some x) rest = rest x

-- what is known without a value before doesn't depend on one
none_known : {A : Type 0} (given : Assignment → Option A) (d x : A) (xs : List Assignment) → known_after given None xs ≡ Some x → known_after given (Some d) xs ≡ Some x
none_known given d x [] e = absurd (cc)
none_known {A} given d x (a ∷ xs) e = by (given a) (none_known given d x xs) e where
  by : (o : Option A) → (known_after given None xs ≡ Some x → known_after given (Some d) xs ≡ Some x)
      → known_after given (after o None) xs ≡ Some x → known_after given (after o (Some d)) xs ≡ Some x
  by None rest e = rest e
  by (Some y) rest e = e

some_one : {A : Type 0} (x y : A) → Some x ≡ Some y → x ≡ y
some_one x y e = cc

pub last_known : {A : Type 0} (given : Assignment → Option A) (d x : A) (w : List Bool) (s : ℕ) (body : Statements)
    → walk given w (Some s) body None ≡ Some x → last_given given d (trail w s body) ≡ x
last_known given d x w s body e =
    some_one (last_given given d (trail w s body)) x
    (sym (some_known given d (trail w s body)) ∙ none_known given d x (trail w s body) (sym (walk_known given w s body None) ∙ e))

outs_known : (body : Statements) (w : List Bool) (s : ℕ) (outputs : List Name) (y : List Bool)
    → map (λ name. walk (given_output w name) w (Some s) body None) outputs ≡ map (λ b. Some b) y → map (λ name. last_given (given_output w name) false (trail w s body)) outputs ≡ y
outs_known body w s [] [] e = refl
outs_known body w s [] (b ∷ y) e = absurd (cc)
outs_known body w s (name ∷ outputs) [] e = absurd (cc)
outs_known body w s (name ∷ outputs) (b ∷ y) e =
    let first : walk (given_output w name) w (Some s) body None ≡ Some b = cc in
    let rest : map (λ n. walk (given_output w n) w (Some s) body None) outputs ≡ map (λ c. Some c) y = cc in
    ap (λ (c : Bool). c ∷ map (λ n. last_given (given_output w n) false (trail w s body)) outputs) (last_known (given_output w name) false b w s body first)
    ∙ ap (λ (cs : List Bool). b ∷ cs) (outs_known body w s outputs y rest)

pub step_walk : StepIsWalk
step_walk body outputs w s = (λ t e. last_known given_next 0 t w s body e, λ y e. outs_known body w s outputs y e)
