-- The walk through the statements with new states, from a new state, is the walk through the old ones from the state that is kept.
use Rattle.std.proofs.Common.{◌≡◌, ℕ, ◌<◌, Bool, true, false, ◌||◌, List, [], ◌∷◌, length, Option, None, Some, is_some, refl, sym, ap, ◌∙◌, if◌then◌else◌}
use Rattle.std.specs.Option.{option_map}
use Rattle.std.proofs.lemmas.Bool.{or_parts, or_from}
use Rattle.bool_expr.specs.Expression.{val}
use Rattle.bool_expr.specs.Support.{among}
use Rattle.fsm_machine.specs.Statements.{Assignment, output, next, Statements, finish, assign, choose, select, Parts, only, either, further, Branches, closed, others, listed}
use Rattle.fsm_machine.specs.Walk.{after, assigns, part_assigns, branch_assigns, cased, walk, walk_parts, walk_branches}
use Rattle.fsm_machine.specs.Assigned.{sure, sure_parts, sure_branches}
use Rattle.fsm_merge.specs.Numbering.{nth, IsNumbering}
use Rattle.fsm_merge.specs.Merged.{kept_of, merged_assignment, with_branch, merged, merged_parts, merged_branches}
use Rattle.fsm_merge.proofs.Kept.{among_kept}

after_same : {A B : Type 0} (g : A → B) (x : Option A) (known : Option A) → after (option_map g x) (option_map g known) ≡ option_map g (after x known)
after_same g None known = refl
after_same g (Some a) known = refl

-- a branch that is dropped is one that lists nothing
with_branch_walks : {B : Type 0} (gives : Assignment → Option B) (w : List Bool) (p : ℕ) (states : List ℕ) (a : Statements) (more : Branches) (known : Option B)
    → walk_branches gives w (Some p) (with_branch states a more) known
    ≡ (if among p states then walk gives w (Some p) a known else walk_branches gives w (Some p) more known)
with_branch_walks gives w p [] a more known = refl
with_branch_walks gives w p (s ∷ states) a more known = refl

tested : {A B : Type 0} (g : A → B) (t : Bool) (x y : Option B) (u v : Option A) → x ≡ option_map g u → y ≡ option_map g v
    → (if t then x else y) ≡ option_map g (if t then u else v)
tested g true x y u v e f = e
tested g false x y u v e f = f

mutual
  pub walk_merged : {A B : Type 0} (g : A → B) (given : Assignment → Option A) (gives : Assignment → Option B) (n : ℕ) (c k : List ℕ) → IsNumbering n c k
      → ((a : Assignment) → gives (merged_assignment c a) ≡ option_map g (given a)) → (w : List Bool) (p : ℕ) → p < length k → (body : Statements) (known : Option A)
      → walk gives w (Some p) (merged c k body) (option_map g known) ≡ option_map g (walk given w (Some (nth k p)) body known)
  walk_merged g given gives n c k h same w p l finish known = refl
  walk_merged {A} {B} g given gives n c k h same w p l (assign a rest) known =
      ap (λ (x : Option B). walk gives w (Some p) (merged c k rest) (after x (option_map g known))) (same a)
      ∙ ap (walk gives w (Some p) (merged c k rest)) (after_same g (given a) known)
      ∙ walk_merged g given gives n c k h same w p l rest (after (given a) known)
  walk_merged g given gives n c k h same w p l (choose parts rest) known =
      ap (walk gives w (Some p) (merged c k rest)) (parts_merged g given gives n c k h same w p l parts known)
      ∙ walk_merged g given gives n c k h same w p l rest (walk_parts given w (Some (nth k p)) parts known)
  walk_merged g given gives n c k h same w p l (select branches rest) known =
      ap (walk gives w (Some p) (merged c k rest)) (branches_merged g given gives n c k h same w p l branches known)
      ∙ walk_merged g given gives n c k h same w p l rest (walk_branches given w (Some (nth k p)) branches known)

  parts_merged : {A B : Type 0} (g : A → B) (given : Assignment → Option A) (gives : Assignment → Option B) (n : ℕ) (c k : List ℕ) → IsNumbering n c k
      → ((a : Assignment) → gives (merged_assignment c a) ≡ option_map g (given a)) → (w : List Bool) (p : ℕ) → p < length k → (parts : Parts) (known : Option A)
      → walk_parts gives w (Some p) (merged_parts c k parts) (option_map g known) ≡ option_map g (walk_parts given w (Some (nth k p)) parts known)
  parts_merged g given gives n c k h same w p l (only e a) known =
      tested g (val e w) (walk gives w (Some p) (merged c k a) (option_map g known)) (option_map g known) (walk given w (Some (nth k p)) a known) known
      (walk_merged g given gives n c k h same w p l a known) refl
  parts_merged g given gives n c k h same w p l (either e a b) known =
      tested g (val e w) (walk gives w (Some p) (merged c k a) (option_map g known)) (walk gives w (Some p) (merged c k b) (option_map g known))
      (walk given w (Some (nth k p)) a known) (walk given w (Some (nth k p)) b known)
      (walk_merged g given gives n c k h same w p l a known) (walk_merged g given gives n c k h same w p l b known)
  parts_merged g given gives n c k h same w p l (further e a more) known =
      tested g (val e w) (walk gives w (Some p) (merged c k a) (option_map g known)) (walk_parts gives w (Some p) (merged_parts c k more) (option_map g known))
      (walk given w (Some (nth k p)) a known) (walk_parts given w (Some (nth k p)) more known)
      (walk_merged g given gives n c k h same w p l a known) (parts_merged g given gives n c k h same w p l more known)

  branches_merged : {A B : Type 0} (g : A → B) (given : Assignment → Option A) (gives : Assignment → Option B) (n : ℕ) (c k : List ℕ) → IsNumbering n c k
      → ((a : Assignment) → gives (merged_assignment c a) ≡ option_map g (given a)) → (w : List Bool) (p : ℕ) → p < length k → (branches : Branches) (known : Option A)
      → walk_branches gives w (Some p) (merged_branches c k branches) (option_map g known) ≡ option_map g (walk_branches given w (Some (nth k p)) branches known)
  branches_merged g given gives n c k h same w p l closed known = refl
  branches_merged g given gives n c k h same w p l (others a) known = walk_merged g given gives n c k h same w p l a known
  branches_merged {A} {B} g given gives n c k h same w p l (listed states a more) known =
      with_branch_walks gives w p (kept_of c k states) (merged c k a) (merged_branches c k more) (option_map g known)
      ∙ ap (λ (t : Bool). if t then walk gives w (Some p) (merged c k a) (option_map g known) else walk_branches gives w (Some p) (merged_branches c k more) (option_map g known))
      (among_kept n c k h p l states)
      ∙ tested g (among (nth k p) states) (walk gives w (Some p) (merged c k a) (option_map g known))
      (walk_branches gives w (Some p) (merged_branches c k more) (option_map g known)) (walk given w (Some (nth k p)) a known)
      (walk_branches given w (Some (nth k p)) more known)
      (walk_merged g given gives n c k h same w p l a known) (branches_merged g given gives n c k h same w p l more known)

-- ---- without a state

-- what is known stays known
abbrev pub Keeps : {A B : Type 0} → (A → B) → Option A → Option B → Type 0
Keeps {A} {B} g None y = Unit {0}
Keeps {A} {B} g (Some a) y = y ≡ Some (g a)

is_some_map : {A B : Type 0} (g : A → B) (x : Option A) → is_some (option_map g x) ≡ is_some x
is_some_map g None = refl
is_some_map g (Some a) = refl

dropped : {B : Type 0} (gives : Assignment → Option B) (states : List ℕ) (a : Statements) (more : Branches) → assigns gives a ≡ false → branch_assigns gives more ≡ false
    → branch_assigns gives (with_branch states a more) ≡ false
dropped gives [] a more e f = f
dropped gives (s ∷ states) a more e f = or_from (assigns gives a) (branch_assigns gives more) e f

mutual
  assigns_merged : {A B : Type 0} (g : A → B) (given : Assignment → Option A) (gives : Assignment → Option B) (c k : List ℕ)
      → ((a : Assignment) → gives (merged_assignment c a) ≡ option_map g (given a)) → (body : Statements) → assigns given body ≡ false → assigns gives (merged c k body) ≡ false
  assigns_merged g given gives c k same finish e = refl
  assigns_merged g given gives c k same (assign a rest) e =
      let both = or_parts (is_some (given a)) (assigns given rest) e in
      or_from (is_some (gives (merged_assignment c a))) (assigns gives (merged c k rest))
      (ap is_some (same a) ∙ is_some_map g (given a) ∙ both.0) (assigns_merged g given gives c k same rest both.1)
  assigns_merged g given gives c k same (choose parts rest) e =
      let both = or_parts (part_assigns given parts) (assigns given rest) e in
      or_from (part_assigns gives (merged_parts c k parts)) (assigns gives (merged c k rest))
      (part_assigns_merged g given gives c k same parts both.0) (assigns_merged g given gives c k same rest both.1)
  assigns_merged g given gives c k same (select branches rest) e =
      let both = or_parts (branch_assigns given branches) (assigns given rest) e in
      or_from (branch_assigns gives (merged_branches c k branches)) (assigns gives (merged c k rest))
      (branch_assigns_merged g given gives c k same branches both.0) (assigns_merged g given gives c k same rest both.1)

  part_assigns_merged : {A B : Type 0} (g : A → B) (given : Assignment → Option A) (gives : Assignment → Option B) (c k : List ℕ)
      → ((a : Assignment) → gives (merged_assignment c a) ≡ option_map g (given a)) → (parts : Parts) → part_assigns given parts ≡ false
      → part_assigns gives (merged_parts c k parts) ≡ false
  part_assigns_merged g given gives c k same (only x a) e = assigns_merged g given gives c k same a e
  part_assigns_merged g given gives c k same (either x a b) e =
      let both = or_parts (assigns given a) (assigns given b) e in
      or_from (assigns gives (merged c k a)) (assigns gives (merged c k b))
      (assigns_merged g given gives c k same a both.0) (assigns_merged g given gives c k same b both.1)
  part_assigns_merged g given gives c k same (further x a more) e =
      let both = or_parts (assigns given a) (part_assigns given more) e in
      or_from (assigns gives (merged c k a)) (part_assigns gives (merged_parts c k more))
      (assigns_merged g given gives c k same a both.0) (part_assigns_merged g given gives c k same more both.1)

  branch_assigns_merged : {A B : Type 0} (g : A → B) (given : Assignment → Option A) (gives : Assignment → Option B) (c k : List ℕ)
      → ((a : Assignment) → gives (merged_assignment c a) ≡ option_map g (given a)) → (branches : Branches) → branch_assigns given branches ≡ false
      → branch_assigns gives (merged_branches c k branches) ≡ false
  branch_assigns_merged g given gives c k same closed e = refl
  branch_assigns_merged g given gives c k same (others a) e = assigns_merged g given gives c k same a e
  branch_assigns_merged g given gives c k same (listed states a more) e =
      let both = or_parts (assigns given a) (branch_assigns given more) e in
      dropped gives (kept_of c k states) (merged c k a) (merged_branches c k more)
      (assigns_merged g given gives c k same a both.0) (branch_assigns_merged g given gives c k same more both.1)

after_keeps : {A B : Type 0} (g : A → B) (x known : Option A) (y : Option B) → Keeps g known y → Keeps g (after x known) (after (option_map g x) y)
after_keeps g None known y h = h
after_keeps g (Some a) known y h = refl

tested_keeps : {A B : Type 0} (g : A → B) (t : Bool) (x y : Option A) (u v : Option B) → Keeps g x u → Keeps g y v → Keeps g (if t then x else y) (if t then u else v)
tested_keeps g true x y u v a b = a
tested_keeps g false x y u v a b = b

cased_keeps : {A B : Type 0} (g : A → B) (t u : Bool) → (t ≡ false → u ≡ false) → (x walked : Option A) (y stepped : Option B) → Keeps g x y
    → Keeps g (cased None t x walked) (cased None u y stepped)
cased_keeps g true u f x walked y stepped h = tt
cased_keeps g false true f x walked y stepped h = absurd (let e = f refl in cc)
cased_keeps g false false f x walked y stepped h = h

mutual
  pub none_merged : {A B : Type 0} (g : A → B) (given : Assignment → Option A) (gives : Assignment → Option B) (c k : List ℕ)
      → ((a : Assignment) → gives (merged_assignment c a) ≡ option_map g (given a)) → (w : List Bool) (body : Statements) (x : Option A) (y : Option B) → Keeps g x y
      → Keeps g (walk given w None body x) (walk gives w None (merged c k body) y)
  none_merged g given gives c k same w finish x y h = h
  none_merged {A} {B} g given gives c k same w (assign a rest) x y h =
      none_merged g given gives c k same w rest (after (given a) x) (after (gives (merged_assignment c a)) y)
      (let P : Option B → Type 0 = λ o. Keeps g (after (given a) x) (after o y) in rw (same a) (after_keeps g (given a) x y h))
  none_merged g given gives c k same w (choose parts rest) x y h =
      none_merged g given gives c k same w rest (walk_parts given w None parts x) (walk_parts gives w None (merged_parts c k parts) y)
      (none_parts_merged g given gives c k same w parts x y h)
  none_merged g given gives c k same w (select branches rest) x y h =
      none_merged g given gives c k same w rest (cased None (branch_assigns given branches) x (walk_branches given w None branches x))
      (cased None (branch_assigns gives (merged_branches c k branches)) y (walk_branches gives w None (merged_branches c k branches) y))
      (cased_keeps g (branch_assigns given branches) (branch_assigns gives (merged_branches c k branches)) (branch_assigns_merged g given gives c k same branches)
      x (walk_branches given w None branches x) y (walk_branches gives w None (merged_branches c k branches) y) h)

  none_parts_merged : {A B : Type 0} (g : A → B) (given : Assignment → Option A) (gives : Assignment → Option B) (c k : List ℕ)
      → ((a : Assignment) → gives (merged_assignment c a) ≡ option_map g (given a)) → (w : List Bool) (parts : Parts) (x : Option A) (y : Option B) → Keeps g x y
      → Keeps g (walk_parts given w None parts x) (walk_parts gives w None (merged_parts c k parts) y)
  none_parts_merged g given gives c k same w (only e a) x y h =
      tested_keeps g (val e w) (walk given w None a x) x (walk gives w None (merged c k a) y) y (none_merged g given gives c k same w a x y h) h
  none_parts_merged g given gives c k same w (either e a b) x y h =
      tested_keeps g (val e w) (walk given w None a x) (walk given w None b x) (walk gives w None (merged c k a) y) (walk gives w None (merged c k b) y)
      (none_merged g given gives c k same w a x y h) (none_merged g given gives c k same w b x y h)
  none_parts_merged g given gives c k same w (further e a more) x y h =
      tested_keeps g (val e w) (walk given w None a x) (walk_parts given w None more x) (walk gives w None (merged c k a) y)
      (walk_parts gives w None (merged_parts c k more) y)
      (none_merged g given gives c k same w a x y h) (none_parts_merged g given gives c k same w more x y h)

-- ---- what each path assigns

with_branch_sure : (sets : Assignment → Bool) (p : ℕ) (states : List ℕ) (a : Statements) (more : Branches)
    → sure_branches sets p (with_branch states a more) ≡ (if among p states then sure sets p a else sure_branches sets p more)
with_branch_sure sets p [] a more = refl
with_branch_sure sets p (s ∷ states) a more = refl

mutual
  pub sure_merged : (sets : Assignment → Bool) (n : ℕ) (c k : List ℕ) → IsNumbering n c k → ((a : Assignment) → sets (merged_assignment c a) ≡ sets a)
      → (p : ℕ) → p < length k → (body : Statements) → sure sets p (merged c k body) ≡ sure sets (nth k p) body
  sure_merged sets n c k h same p l finish = refl
  sure_merged sets n c k h same p l (assign a rest) = rw (same a, sure_merged sets n c k h same p l rest) refl
  sure_merged sets n c k h same p l (choose parts rest) = rw (sure_parts_merged sets n c k h same p l parts, sure_merged sets n c k h same p l rest) refl
  sure_merged sets n c k h same p l (select branches rest) = rw (sure_branches_merged sets n c k h same p l branches, sure_merged sets n c k h same p l rest) refl

  sure_parts_merged : (sets : Assignment → Bool) (n : ℕ) (c k : List ℕ) → IsNumbering n c k → ((a : Assignment) → sets (merged_assignment c a) ≡ sets a)
      → (p : ℕ) → p < length k → (parts : Parts) → sure_parts sets p (merged_parts c k parts) ≡ sure_parts sets (nth k p) parts
  sure_parts_merged sets n c k h same p l (only e a) = refl
  sure_parts_merged sets n c k h same p l (either e a b) = rw (sure_merged sets n c k h same p l a, sure_merged sets n c k h same p l b) refl
  sure_parts_merged sets n c k h same p l (further e a more) = rw (sure_merged sets n c k h same p l a, sure_parts_merged sets n c k h same p l more) refl

  sure_branches_merged : (sets : Assignment → Bool) (n : ℕ) (c k : List ℕ) → IsNumbering n c k → ((a : Assignment) → sets (merged_assignment c a) ≡ sets a)
      → (p : ℕ) → p < length k → (branches : Branches) → sure_branches sets p (merged_branches c k branches) ≡ sure_branches sets (nth k p) branches
  sure_branches_merged sets n c k h same p l closed = refl
  sure_branches_merged sets n c k h same p l (others a) = sure_merged sets n c k h same p l a
  sure_branches_merged sets n c k h same p l (listed states a more) =
      with_branch_sure sets p (kept_of c k states) (merged c k a) (merged_branches c k more)
      ∙ rw (among_kept n c k h p l states, sure_merged sets n c k h same p l a, sure_branches_merged sets n c k h same p l more) refl
