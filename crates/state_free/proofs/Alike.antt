-- State machines that agree in all but outputs that are left free: their signals are as many, they assign the same next states and walk
-- alike.
use Rattle.std.proofs.Common.{◌≡◌, inl, inr, ℕ, suc, ◌+◌, Bool, ◌||◌, List, ◌∷◌, ◌++◌, Option, Some, is_some, ap, ◌∙◌, if◌then◌else◌}
use Rattle.bool_expr.specs.Expression.{Expression, variable, inverse, val}
use Rattle.bool_expr.specs.Support.{among}
use Rattle.fsm_machine.specs.Statements.{Assignment, output, next, Statements, finish, assign, choose, select, Parts, only, either, further, Branches, closed, others, listed}
use Rattle.fsm_machine.specs.Walk.{after, assigns, part_assigns, branch_assigns, is_at, cased, walk, walk_parts, walk_branches, given_next}
use Rattle.fsm_machine.specs.Signals.{along, any_of, without, signals, part_signals, branch_signals, emitted, emitted_parts, emitted_branches}
use Rattle.fsm_machine.specs.Moved.{substituted, moved, moved_parts, moved_branches}
use Rattle.fsm_machine.specs.Encoding.{given_state, leads, parts_lead, branches_lead}
use Rattle.fsm_machine.specs.Fsm.{Fsm}
use Rattle.state_free.specs.Free.{IsFreeAssignment, AreFreeStatements, AreFreeParts, AreFreeBranches, AreFreeFsm}

-- the state machine with other statements
abbrev pub with_body : Fsm → Statements → Fsm
with_body f body = record { name = f.name; ports = f.ports; clock = f.clock; states = f.states; body = body }

pub high_is : (low high : Fsm) → AreFreeFsm low high → high ≡ with_body low high.body
high_is low high h = λ j. record { name = h.name j; ports = h.ports j; clock = h.clock j; states = h.states j; body = high.body }

-- ---- signals

mutual
  pub same_signals : (es : List Expression) (a b : Statements) → AreFreeStatements a b → signals (moved es b) ≡ signals (moved es a)
  same_signals es finish b h = ap (λ x. signals (moved es x)) h
  same_signals es (assign a rest) b h = ap (λ x. signals (moved es x)) h.2 ∙ same_signals es rest h.1 h.3.1
  same_signals es (choose parts rest) b h =
      ap (λ x. signals (moved es x)) h.2 ∙ (λ j. same_part_signals es parts h.0 h.3.0 j + same_signals es rest h.1 h.3.1 j)
  same_signals es (select branches rest) b h =
      ap (λ x. signals (moved es x)) h.2 ∙ (λ j. same_branch_signals es branches h.0 h.3.0 j + same_signals es rest h.1 h.3.1 j)

  pub same_part_signals : (es : List Expression) (a b : Parts) → AreFreeParts a b → part_signals (moved_parts es b) ≡ part_signals (moved_parts es a)
  same_part_signals es (only c a) b h = ap (λ x. part_signals (moved_parts es x)) h.1 ∙ (λ j. suc (suc (same_signals es a h.0 h.2 j)))
  same_part_signals es (either c a o) b h =
      ap (λ x. part_signals (moved_parts es x)) h.2 ∙ (λ j. suc (suc (same_signals es a h.0 h.3.0 j + suc (same_signals es o h.1 h.3.1 j))))
  same_part_signals es (further c a more) b h =
      ap (λ x. part_signals (moved_parts es x)) h.2 ∙ (λ j. suc (suc (same_signals es a h.0 h.3.0 j + suc (same_part_signals es more h.1 h.3.1 j))))

  pub same_branch_signals : (es : List Expression) (a b : Branches) → AreFreeBranches a b
      → branch_signals (moved_branches es b) ≡ branch_signals (moved_branches es a)
  same_branch_signals es closed b h = ap (λ x. branch_signals (moved_branches es x)) h
  same_branch_signals es (others a) b h = ap (λ x. branch_signals (moved_branches es x)) h.1 ∙ (λ j. suc (same_signals es a h.0 h.2 j))
  same_branch_signals es (listed here a more) b h =
      ap (λ x. branch_signals (moved_branches es x)) h.2 ∙ (λ j. suc (same_signals es a h.0 h.3.0 j + same_branch_signals es more h.1 h.3.1 j))

-- the signals of the statements are the same ones
module _ (at : ℕ → ℕ) (states : List ℕ) (es : List Expression) where
  mutual
    pub same_emitted : (p : Option ℕ) (n : ℕ) (a b : Statements) → AreFreeStatements a b
        → emitted at states p n (moved es b) ≡ emitted at states p n (moved es a)
    same_emitted p n finish b h = ap (λ x. emitted at states p n (moved es x)) h
    same_emitted p n (assign a rest) b h = ap (λ x. emitted at states p n (moved es x)) h.2 ∙ same_emitted p n rest h.1 h.3.1
    same_emitted p n (choose parts rest) b h =
        ap (λ x. emitted at states p n (moved es x)) h.2
        ∙ (λ j. same_emitted_parts p n parts h.0 h.3.0 j ++ emitted at states p (n + same_part_signals es parts h.0 h.3.0 j) (moved es h.1))
        ∙ ap (λ (xs : List Expression). emitted_parts at states p n (moved_parts es parts) ++ xs)
        (same_emitted p (n + part_signals (moved_parts es parts)) rest h.1 h.3.1)
    same_emitted p n (select branches rest) b h =
        ap (λ x. emitted at states p n (moved es x)) h.2
        ∙ (λ j. same_emitted_branches p n states branches h.0 h.3.0 j ++ emitted at states p (n + same_branch_signals es branches h.0 h.3.0 j) (moved es h.1))
        ∙ ap (λ (xs : List Expression). emitted_branches at states p n states (moved_branches es branches) ++ xs)
        (same_emitted p (n + branch_signals (moved_branches es branches)) rest h.1 h.3.1)

    same_emitted_parts : (p : Option ℕ) (n : ℕ) (a b : Parts) → AreFreeParts a b
        → emitted_parts at states p n (moved_parts es b) ≡ emitted_parts at states p n (moved_parts es a)
    same_emitted_parts p n (only c a) b h =
        ap (λ x. emitted_parts at states p n (moved_parts es x)) h.1
        ∙ ap (λ (xs : List Expression). substituted es c ∷ along p (variable n) ∷ xs) (same_emitted (Some (suc n)) (suc (suc n)) a h.0 h.2)
    same_emitted_parts p n (either c a o) b h =
        let q : ℕ → ℕ = λ k. suc (suc n) + k in
        ap (λ x. emitted_parts at states p n (moved_parts es x)) h.2
        ∙ (λ j. substituted es c ∷ along p (variable n) ∷ (same_emitted (Some (suc n)) (suc (suc n)) a h.0 h.3.0 j
        ++ along p (inverse (variable n)) ∷ emitted at states (Some (q (same_signals es a h.0 h.3.0 j))) (suc (q (same_signals es a h.0 h.3.0 j))) (moved es h.1)))
        ∙ ap (λ (xs : List Expression). substituted es c ∷ along p (variable n) ∷ (emitted at states (Some (suc n)) (suc (suc n)) (moved es a)
        ++ along p (inverse (variable n)) ∷ xs)) (same_emitted (Some (q (signals (moved es a)))) (suc (q (signals (moved es a)))) o h.1 h.3.1)
    same_emitted_parts p n (further c a more) b h =
        let q : ℕ → ℕ = λ k. suc (suc n) + k in
        ap (λ x. emitted_parts at states p n (moved_parts es x)) h.2
        ∙ (λ j. substituted es c ∷ along p (variable n) ∷ (same_emitted (Some (suc n)) (suc (suc n)) a h.0 h.3.0 j
        ++ along p (inverse (variable n)) ∷ emitted_parts at states (Some (q (same_signals es a h.0 h.3.0 j))) (suc (q (same_signals es a h.0 h.3.0 j))) (moved_parts es h.1)))
        ∙ ap (λ (xs : List Expression). substituted es c ∷ along p (variable n) ∷ (emitted at states (Some (suc n)) (suc (suc n)) (moved es a)
        ++ along p (inverse (variable n)) ∷ xs)) (same_emitted_parts (Some (q (signals (moved es a)))) (suc (q (signals (moved es a)))) more h.1 h.3.1)

    same_emitted_branches : (p : Option ℕ) (n : ℕ) (left : List ℕ) (a b : Branches) → AreFreeBranches a b
        → emitted_branches at states p n left (moved_branches es b) ≡ emitted_branches at states p n left (moved_branches es a)
    same_emitted_branches p n left closed b h = ap (λ x. emitted_branches at states p n left (moved_branches es x)) h
    same_emitted_branches p n left (others a) b h =
        ap (λ x. emitted_branches at states p n left (moved_branches es x)) h.1
        ∙ ap (λ (xs : List Expression). along p (any_of at left) ∷ xs) (same_emitted (Some n) (suc n) a h.0 h.2)
    same_emitted_branches p n left (listed here a more) b h =
        ap (λ x. emitted_branches at states p n left (moved_branches es x)) h.2
        ∙ (λ j. along p (any_of at here) ∷ (same_emitted (Some n) (suc n) a h.0 h.3.0 j
        ++ emitted_branches at states p (suc n + same_signals es a h.0 h.3.0 j) (without here left) (moved_branches es h.1)))
        ∙ ap (λ (xs : List Expression). along p (any_of at here) ∷ (emitted at states (Some n) (suc n) (moved es a) ++ xs))
        (same_emitted_branches p (suc n + signals (moved es a)) (without here left) more h.1 h.3.1)

-- ---- walks

-- where assignments give the same to a target, it is known alike
module _ {A : Type 0} (given : Assignment → Option A) (same : (a b : Assignment) → IsFreeAssignment a b → given b ≡ given a) where
  mutual
    pub same_assigns : (a b : Statements) → AreFreeStatements a b → assigns given b ≡ assigns given a
    same_assigns finish b h = ap (assigns given) h
    same_assigns (assign a rest) b h = ap (assigns given) h.2 ∙ (λ j. is_some (same a h.0 h.3.0 j) || same_assigns rest h.1 h.3.1 j)
    same_assigns (choose parts rest) b h = ap (assigns given) h.2 ∙ (λ j. same_part_assigns parts h.0 h.3.0 j || same_assigns rest h.1 h.3.1 j)
    same_assigns (select branches rest) b h = ap (assigns given) h.2 ∙ (λ j. same_branch_assigns branches h.0 h.3.0 j || same_assigns rest h.1 h.3.1 j)

    pub same_part_assigns : (a b : Parts) → AreFreeParts a b → part_assigns given b ≡ part_assigns given a
    same_part_assigns (only c a) b h = ap (part_assigns given) h.1 ∙ same_assigns a h.0 h.2
    same_part_assigns (either c a o) b h = ap (part_assigns given) h.2 ∙ (λ j. same_assigns a h.0 h.3.0 j || same_assigns o h.1 h.3.1 j)
    same_part_assigns (further c a more) b h = ap (part_assigns given) h.2 ∙ (λ j. same_assigns a h.0 h.3.0 j || same_part_assigns more h.1 h.3.1 j)

    pub same_branch_assigns : (a b : Branches) → AreFreeBranches a b → branch_assigns given b ≡ branch_assigns given a
    same_branch_assigns closed b h = ap (branch_assigns given) h
    same_branch_assigns (others a) b h = ap (branch_assigns given) h.1 ∙ same_assigns a h.0 h.2
    same_branch_assigns (listed here a more) b h = ap (branch_assigns given) h.2 ∙ (λ j. same_assigns a h.0 h.3.0 j || same_branch_assigns more h.1 h.3.1 j)

  module _ (w : List Bool) (st : Option ℕ) where
    mutual
      pub same_walk : (a b : Statements) (known : Option A) → AreFreeStatements a b → walk given w st b known ≡ walk given w st a known
      same_walk finish b known h = ap (λ x. walk given w st x known) h
      same_walk (assign a rest) b known h =
          ap (λ x. walk given w st x known) h.2 ∙ ap (λ (g : Option A). walk given w st h.1 (after g known)) (same a h.0 h.3.0)
          ∙ same_walk rest h.1 (after (given a) known) h.3.1
      same_walk (choose parts rest) b known h =
          ap (λ x. walk given w st x known) h.2 ∙ ap (walk given w st h.1) (same_walk_parts parts h.0 known h.3.0)
          ∙ same_walk rest h.1 (walk_parts given w st parts known) h.3.1
      same_walk (select branches rest) b known h =
          ap (λ x. walk given w st x known) h.2
          ∙ (λ j. walk given w st h.1 (cased st (same_branch_assigns branches h.0 h.3.0 j) known (same_walk_branches branches h.0 known h.3.0 j)))
          ∙ same_walk rest h.1 (cased st (branch_assigns given branches) known (walk_branches given w st branches known)) h.3.1

      same_walk_parts : (a b : Parts) (known : Option A) → AreFreeParts a b → walk_parts given w st b known ≡ walk_parts given w st a known
      same_walk_parts (only c a) b known h =
          ap (λ x. walk_parts given w st x known) h.1 ∙ ap (λ (k : Option A). if val c w then k else known) (same_walk a h.0 known h.2)
      same_walk_parts (either c a o) b known h =
          ap (λ x. walk_parts given w st x known) h.2 ∙ (λ j. if val c w then same_walk a h.0 known h.3.0 j else same_walk o h.1 known h.3.1 j)
      same_walk_parts (further c a more) b known h =
          ap (λ x. walk_parts given w st x known) h.2 ∙ (λ j. if val c w then same_walk a h.0 known h.3.0 j else same_walk_parts more h.1 known h.3.1 j)

      same_walk_branches : (a b : Branches) (known : Option A) → AreFreeBranches a b → walk_branches given w st b known ≡ walk_branches given w st a known
      same_walk_branches closed b known h = ap (λ x. walk_branches given w st x known) h
      same_walk_branches (others a) b known h = ap (λ x. walk_branches given w st x known) h.1 ∙ same_walk a h.0 known h.2
      same_walk_branches (listed here a more) b known h =
          ap (λ x. walk_branches given w st x known) h.2
          ∙ (λ j. if is_at st here then same_walk a h.0 known h.3.0 j else same_walk_branches more h.1 known h.3.1 j)

pub same_next : (a b : Assignment) → IsFreeAssignment a b → given_next b ≡ given_next a
same_next (output name e) b (inl h) = ap given_next h
same_next (output name e) b (inr h) = ap given_next h.1
same_next (next s) b h = ap given_next h

pub same_state : (t : ℕ) (a b : Assignment) → IsFreeAssignment a b → given_state t b ≡ given_state t a
same_state t (output name e) b (inl h) = ap (given_state t) h
same_state t (output name e) b (inr h) = ap (given_state t) h.1
same_state t (next s) b h = ap (given_state t) h

-- ---- which states lead to which

module _ (s t : ℕ) where
  mutual
    pub same_leads : (a b : Statements) → AreFreeStatements a b → leads s t b ≡ leads s t a
    same_leads finish b h = ap (leads s t) h
    same_leads (assign a rest) b h = ap (leads s t) h.2 ∙ same_leads rest h.1 h.3.1
    same_leads (choose parts rest) b h = ap (leads s t) h.2 ∙ (λ j. same_parts_lead parts h.0 h.3.0 j || same_leads rest h.1 h.3.1 j)
    same_leads (select branches rest) b h = ap (leads s t) h.2 ∙ (λ j. same_branches_lead branches h.0 h.3.0 j || same_leads rest h.1 h.3.1 j)

    same_parts_lead : (a b : Parts) → AreFreeParts a b → parts_lead s t b ≡ parts_lead s t a
    same_parts_lead (only c a) b h = ap (parts_lead s t) h.1 ∙ same_leads a h.0 h.2
    same_parts_lead (either c a o) b h = ap (parts_lead s t) h.2 ∙ (λ j. same_leads a h.0 h.3.0 j || same_leads o h.1 h.3.1 j)
    same_parts_lead (further c a more) b h = ap (parts_lead s t) h.2 ∙ (λ j. same_leads a h.0 h.3.0 j || same_parts_lead more h.1 h.3.1 j)

    same_branches_lead : (a b : Branches) → AreFreeBranches a b → branches_lead s t b ≡ branches_lead s t a
    same_branches_lead closed b h = ap (branches_lead s t) h
    same_branches_lead (others a) b h = ap (branches_lead s t) h.1 ∙ same_assigns (given_state t) (same_state t) a h.0 h.2
    same_branches_lead (listed here a more) b h =
        ap (branches_lead s t) h.2
        ∙ (λ j. if among s here then same_assigns (given_state t) (same_state t) a h.0 h.3.0 j else same_branches_lead more h.1 h.3.1 j)
