-- Where each path of ifs assigns a target, the walk with a state knows it at its end.
use Rattle.std.proofs.Common.{◌≡◌, ℕ, Bool, true, false, ◌&&◌, ◌||◌, List, Option, None, Some, is_some, refl, if◌then◌else◌}
use Rattle.bool_expr.specs.Expression.{val}
use Rattle.bool_expr.specs.Support.{among}
use Rattle.fsm_machine.specs.Statements.{Assignment, Statements, finish, assign, choose, select, Parts, only, either, further, Branches, closed, others, listed}
use Rattle.fsm_machine.specs.Walk.{after, walk, walk_parts, walk_branches}
use Rattle.fsm_machine.specs.Assigned.{sure, sure_parts, sure_branches}

or_true : (a : Bool) → (a || true) ≡ true
or_true true = refl
or_true false = refl

or_right : (a b : Bool) → b ≡ true → (a || b) ≡ true
or_right true b h = refl
or_right false b h = h

in_assign : {A : Type 0} (set : Bool) (given : Option A) → set ≡ is_some given → (rest : Bool) (known : Option A)
    → ((set || rest) || is_some known) ≡ true → (rest || is_some (after given known)) ≡ true
in_assign set (Some a) e rest known h = or_true rest
in_assign true None e rest known h = absurd (cc)
in_assign false None e rest known h = h

-- what is sure of the first statement, of the rest, and what was known before; what is known between
in_order : (first rest before between : Bool) → ((first || rest) || before) ≡ true → ((first || before) ≡ true → between ≡ true) → (rest || between) ≡ true
in_order first true before between h f = refl
in_order true false before between h f = f refl
in_order false false before between h f = f h

on_left : (a b before : Bool) → ((a && b) || before) ≡ true → (a || before) ≡ true
on_left true b before h = refl
on_left false b before h = h

on_right : (a b before : Bool) → ((a && b) || before) ≡ true → (b || before) ≡ true
on_right true b before h = h
on_right false b before h = or_right b before h

mutual
  pub known_after : {A : Type 0} (given : Assignment → Option A) (sets : Assignment → Bool) (same : (a : Assignment) → sets a ≡ is_some (given a)) (w : List Bool) (s : ℕ) (body : Statements) (known : Option A)
      → (sure sets s body || is_some known) ≡ true → is_some (walk given w (Some s) body known) ≡ true
  known_after given sets same w s finish known h = h
  known_after given sets same w s (assign a rest) known h =
      known_after given sets same w s rest (after (given a) known) (in_assign (sets a) (given a) (same a) (sure sets s rest) known h)
  known_after given sets same w s (choose parts rest) known h =
      known_after given sets same w s rest (walk_parts given w (Some s) parts known)
      (in_order (sure_parts sets s parts) (sure sets s rest) (is_some known) (is_some (walk_parts given w (Some s) parts known)) h
      (λ g. known_after_parts given sets same w s parts known g))
  known_after given sets same w s (select branches rest) known h =
      known_after given sets same w s rest (walk_branches given w (Some s) branches known)
      (in_order (sure_branches sets s branches) (sure sets s rest) (is_some known) (is_some (walk_branches given w (Some s) branches known)) h
      (λ g. known_after_branches given sets same w s branches known g))

  known_after_parts : {A : Type 0} (given : Assignment → Option A) (sets : Assignment → Bool) (same : (a : Assignment) → sets a ≡ is_some (given a)) (w : List Bool) (s : ℕ) (parts : Parts) (known : Option A)
      → (sure_parts sets s parts || is_some known) ≡ true → is_some (walk_parts given w (Some s) parts known) ≡ true
  known_after_parts given sets same w s (only c a) known h =
      elim (val c w) as (λ t. is_some (if t then walk given w (Some s) a known else known) ≡ true) [
        | true ↦ known_after given sets same w s a known (or_right (sure sets s a) (is_some known) h)
        | false ↦ h
      ]
  known_after_parts given sets same w s (either c a b) known h =
      elim (val c w) as (λ t. is_some (if t then walk given w (Some s) a known else walk given w (Some s) b known) ≡ true) [
        | true ↦ known_after given sets same w s a known (on_left (sure sets s a) (sure sets s b) (is_some known) h)
        | false ↦ known_after given sets same w s b known (on_right (sure sets s a) (sure sets s b) (is_some known) h)
      ]
  known_after_parts given sets same w s (further c a more) known h =
      elim (val c w) as (λ t. is_some (if t then walk given w (Some s) a known else walk_parts given w (Some s) more known) ≡ true) [
        | true ↦ known_after given sets same w s a known (on_left (sure sets s a) (sure_parts sets s more) (is_some known) h)
        | false ↦ known_after_parts given sets same w s more known (on_right (sure sets s a) (sure_parts sets s more) (is_some known) h)
      ]

  known_after_branches : {A : Type 0} (given : Assignment → Option A) (sets : Assignment → Bool) (same : (a : Assignment) → sets a ≡ is_some (given a)) (w : List Bool) (s : ℕ) (branches : Branches) (known : Option A)
      → (sure_branches sets s branches || is_some known) ≡ true → is_some (walk_branches given w (Some s) branches known) ≡ true
  known_after_branches given sets same w s closed known h = h
  known_after_branches given sets same w s (others a) known h = known_after given sets same w s a known h
  known_after_branches given sets same w s (listed states a more) known h =
      elim (among s states) as (λ t. ((if t then sure sets s a else sure_branches sets s more) || is_some known) ≡ true
      → is_some (if t then walk given w (Some s) a known else walk_branches given w (Some s) more known) ≡ true) [
        | true ↦ λ g. known_after given sets same w s a known g
        | false ↦ λ g. known_after_branches given sets same w s more known g
      ] h
