-- The statements with new states list known states once, and lead to known states; they have one case, and each of its branches a state.
use Rattle.std.proofs.Common.{◌≡◌, ℕ, zero, suc, ◌+◌, ◌<◌, ◌≤◌, Bool, true, false, not, ◌&&◌, List, [], ◌∷◌, filter, length, refl, sym, ap, ◌∙◌, subst, arith}
use Rattle.bool_expr.specs.Support.{among}
use Rattle.fsm_machine.specs.Statements.{Assignment, output, next, Statements, finish, assign, choose, select, Parts, only, either, further, Branches, closed, others, listed}
use Rattle.fsm_machine.specs.MachineOf.{up}
use Rattle.fsm_machine.specs.Signals.{without}
use Rattle.fsm_machine.specs.Sound.{AreLeft, IsKnownNext, IsSound, ArePartsSound, AreBranchesSound}
use Rattle.fsm_machine.proofs.Holding.{among_without, left_without}
use Rattle.fsm_machine.proofs.States.{among_up, up_among}
use Rattle.fsm_core.specs.Checked.{cases_in, cases_in_parts, cases_in_branches, ListsStates, PartsListStates, BranchesListStates}
use Rattle.vlsi_base.specs.Member.{AllDifferent}
use Rattle.fsm_merge.specs.Numbering.{nth, IsNumbering}
use Rattle.fsm_merge.specs.Merged.{kept_of, merged_assignment, with_branch, merged, merged_parts, merged_branches}
use Rattle.fsm_merge.proofs.Kept.{among_kept, kept_from, kept_differ}

without_none : (left : List ℕ) → without [] left ≡ left
without_none [] = refl
without_none (s ∷ left) = ap (λ (xs : List ℕ). s ∷ xs) (without_none left)

-- a branch before others that are sound behind it
branch_sound : (states left here : List ℕ) (a : Statements) (more : Branches) → AreLeft here left → IsSound states a → AreBranchesSound states (without here left) more
    → AreBranchesSound states left (with_branch here a more)
branch_sound states left [] a more h sound later =
    let P : List ℕ → Type 0 = λ xs. AreBranchesSound states xs more in subst P (without_none left) later
branch_sound states left (s ∷ here) a more h sound later = (h, (sound, later))

-- the new states that are left are those whose kept ones are left
abbrev StayLeft : List ℕ → List ℕ → List ℕ → Type 0
StayLeft k left kept = (p : ℕ) → p < length k → among p kept ≡ among (nth k p) left

stays : (n : ℕ) (c k : List ℕ) → IsNumbering n c k → (here left kept : List ℕ) → StayLeft k left kept → StayLeft k (without here left) (without (kept_of c k here) kept)
stays n c k h here left kept stay p l =
    among_without p (kept_of c k here) kept ∙ rw (stay p l, among_kept n c k h p l here) (sym (among_without (nth k p) here left))

are_left : (n : ℕ) (c k : List ℕ) → IsNumbering n c k → (here left kept : List ℕ) → ((s : ℕ) → among s left ≡ true → s < n) → StayLeft k left kept → AreLeft here left
    → AreLeft (kept_of c k here) kept
are_left n c k h here left kept below stay old q a =
    let g = kept_from c k q here a in
    let inside : among g.0 left ≡ true = old g.0 g.1 in
    let known = h.known g.0 (below g.0 inside) in
    let P : ℕ → Type 0 = λ p. p < length k in
    let Q : ℕ → Type 0 = λ s. among s left ≡ true in
    stay q (subst P g.2 known) ∙ subst Q (sym g.3) inside

mutual
  pub sound_merged : (n : ℕ) (c k : List ℕ) → IsNumbering n c k → (body : Statements) → IsSound (up 0 n) body → IsSound (up 0 (length k)) (merged c k body)
  sound_merged n c k h finish sound = tt
  sound_merged n c k h (assign (output name e) rest) sound = (tt, sound_merged n c k h rest sound.1)
  sound_merged n c k h (assign (next s) rest) sound = (
    (let low = among_up s 0 n sound.0 in let l = h.known s (omega arith) in up_among (nth c s) 0 (length k) (omega arith) (omega arith)),
    sound_merged n c k h rest sound.1,
  )
  sound_merged n c k h (choose parts rest) sound = (sound_parts n c k h parts sound.0, sound_merged n c k h rest sound.1)
  sound_merged n c k h (select branches rest) sound = (
    sound_branches n c k h (up 0 n) (up 0 (length k)) (λ s a. let l = among_up s 0 n a in omega arith)
        (λ p l. up_among p 0 (length k) (omega arith) (omega arith) ∙ sym (let o = (h.own p l).0 in up_among (nth k p) 0 n (omega arith) (omega arith))) branches sound.0,
    sound_merged n c k h rest sound.1,
  )

  sound_parts : (n : ℕ) (c k : List ℕ) → IsNumbering n c k → (parts : Parts) → ArePartsSound (up 0 n) parts → ArePartsSound (up 0 (length k)) (merged_parts c k parts)
  sound_parts n c k h (only e a) sound = sound_merged n c k h a sound
  sound_parts n c k h (either e a b) sound = (sound_merged n c k h a sound.0, sound_merged n c k h b sound.1)
  sound_parts n c k h (further e a more) sound = (sound_merged n c k h a sound.0, sound_parts n c k h more sound.1)

  sound_branches : (n : ℕ) (c k : List ℕ) → IsNumbering n c k → (left kept : List ℕ) → ((s : ℕ) → among s left ≡ true → s < n) → StayLeft k left kept
      → (branches : Branches) → AreBranchesSound (up 0 n) left branches → AreBranchesSound (up 0 (length k)) kept (merged_branches c k branches)
  sound_branches n c k h left kept below stay closed sound = tt
  sound_branches n c k h left kept below stay (others a) sound = sound_merged n c k h a sound
  sound_branches n c k h left kept below stay (listed here a more) sound =
      branch_sound (up 0 (length k)) kept (kept_of c k here) (merged c k a) (merged_branches c k more) (are_left n c k h here left kept below stay sound.0)
      (sound_merged n c k h a sound.1.0)
      (sound_branches n c k h (without here left) (without (kept_of c k here) kept) (λ s g. below s (left_without here left s g)) (stays n c k h here left kept stay)
      more sound.1.1)

-- ---- cases

branch_cases : (here : List ℕ) (a : Statements) (more : Branches) → cases_in a ≡ 0 → cases_in_branches more ≡ 0 → cases_in_branches (with_branch here a more) ≡ 0
branch_cases [] a more e f = f
branch_cases (s ∷ here) a more e f = omega arith

mutual
  no_cases : (c k : List ℕ) (body : Statements) → cases_in body ≡ 0 → cases_in (merged c k body) ≡ 0
  no_cases c k finish e = refl
  no_cases c k (assign a rest) e = no_cases c k rest e
  no_cases c k (choose parts rest) e =
      let x = no_cases_parts c k parts (omega arith) in let y = no_cases c k rest (omega arith) in omega arith
  no_cases c k (select branches rest) e = absurd (omega arith)

  no_cases_parts : (c k : List ℕ) (parts : Parts) → cases_in_parts parts ≡ 0 → cases_in_parts (merged_parts c k parts) ≡ 0
  no_cases_parts c k (only x a) e = no_cases c k a e
  no_cases_parts c k (either x a b) e = let y = no_cases c k a (omega arith) in let z = no_cases c k b (omega arith) in omega arith
  no_cases_parts c k (further x a more) e = let y = no_cases c k a (omega arith) in let z = no_cases_parts c k more (omega arith) in omega arith

  no_cases_branches : (c k : List ℕ) (branches : Branches) → cases_in_branches branches ≡ 0 → cases_in_branches (merged_branches c k branches) ≡ 0
  no_cases_branches c k closed e = refl
  no_cases_branches c k (others a) e = no_cases c k a e
  no_cases_branches c k (listed here a more) e =
      branch_cases (kept_of c k here) (merged c k a) (merged_branches c k more) (no_cases c k a (omega arith)) (no_cases_branches c k more (omega arith))

mutual
  pub one_case : (c k : List ℕ) (body : Statements) → cases_in body ≤ 1 → cases_in (merged c k body) ≡ cases_in body
  one_case c k finish l = refl
  one_case c k (assign a rest) l = one_case c k rest l
  one_case c k (choose parts rest) l =
      let x = one_case_parts c k parts (omega arith) in let y = one_case c k rest (omega arith) in omega arith
  one_case c k (select branches rest) l =
      let x = no_cases_branches c k branches (omega arith) in let y = no_cases c k rest (omega arith) in omega arith

  one_case_parts : (c k : List ℕ) (parts : Parts) → cases_in_parts parts ≤ 1 → cases_in_parts (merged_parts c k parts) ≡ cases_in_parts parts
  one_case_parts c k (only x a) l = one_case c k a l
  one_case_parts c k (either x a b) l = let y = one_case c k a (omega arith) in let z = one_case c k b (omega arith) in omega arith
  one_case_parts c k (further x a more) l = let y = one_case c k a (omega arith) in let z = one_case_parts c k more (omega arith) in omega arith

-- ---- each branch has states, and none twice

branch_lists : (here : List ℕ) (a : Statements) (more : Branches) → AllDifferent here → ListsStates a → BranchesListStates more → BranchesListStates (with_branch here a more)
branch_lists [] a more d x y = y
branch_lists (s ∷ here) a more d x y = ((omega arith, d), (x, y))

mutual
  pub lists_merged : (c k : List ℕ) (body : Statements) → ListsStates body → ListsStates (merged c k body)
  lists_merged c k finish h = tt
  lists_merged c k (assign a rest) h = lists_merged c k rest h
  lists_merged c k (choose parts rest) h = (lists_parts c k parts h.0, lists_merged c k rest h.1)
  lists_merged c k (select branches rest) h = (lists_branches c k branches h.0, lists_merged c k rest h.1)

  lists_parts : (c k : List ℕ) (parts : Parts) → PartsListStates parts → PartsListStates (merged_parts c k parts)
  lists_parts c k (only x a) h = lists_merged c k a h
  lists_parts c k (either x a b) h = (lists_merged c k a h.0, lists_merged c k b h.1)
  lists_parts c k (further x a more) h = (lists_merged c k a h.0, lists_parts c k more h.1)

  lists_branches : (c k : List ℕ) (branches : Branches) → BranchesListStates branches → BranchesListStates (merged_branches c k branches)
  lists_branches c k closed h = tt
  lists_branches c k (others a) h = lists_merged c k a h
  lists_branches c k (listed here a more) h =
      branch_lists (kept_of c k here) (merged c k a) (merged_branches c k more) (kept_differ c k here h.0.1) (lists_merged c k a h.1.0) (lists_branches c k more h.1.1)
