-- The machine with the fewest states.
use Rattle.std.specs.Prelude.{◌≡◌, ◌<◌, ◌≤◌, ◌↔◌, ℕ, Bool, List, length}
use Rattle.fsm_machine.specs.Fsm.{Fsm, Resets}
use Rattle.fsm_core.specs.Checked.{IsCheckedFsm}
use Rattle.fsm_merge.specs.Numbering.{nth, IsNumbering}
use Rattle.fsm_merge.specs.Merged.{merged_fsm}
use Rattle.fsm_merge.specs.Runs.{Agree, Differ, IsTest}

-- g is f with those states made one that do the same: it does the same from a state's new state as f from the state, for every list
-- of vectors. Two states become one exactly where they do the same for every list of vectors. For each two new states there are
-- vectors that tell them apart, at most as many as there are new states. Where a vector resets f, it resets g to the new state.
pub record IsFewest (f g : Fsm) (state_of : List ℕ) (tests : ℕ → ℕ → List (List Bool)) : Type 0 where
  pub kept : List ℕ
  pub numbered : IsNumbering (length f.states) state_of kept
  pub made : g ≡ merged_fsm f state_of kept
  pub count : length g.states ≡ length kept
  pub alike : (s : ℕ) (v : List (List Bool)) → s < length f.states → Agree f s g (nth state_of s) v
  pub classes : (s t : ℕ) → s < length f.states → t < length f.states
      → (nth state_of s ≡ nth state_of t) ↔ ((v : List (List Bool)) → Agree f s f t v)
  pub told : (p q : ℕ) → p < q → q < length g.states → IsTest g p q (tests p q)
  pub resets : (i : List Bool) (r : ℕ) → Resets f i r → (r < length f.states) × Resets g i (nth state_of r)

-- each state of f does the same as some state of h
pub record Matches (f h : Fsm) (state : ℕ → ℕ) : Type 0 where
  pub known : (s : ℕ) → s < length f.states → state s < length h.states
  pub alike : (s : ℕ) (v : List (List Bool)) → s < length f.states → Agree f s h (state s) v

-- no machine that does the same as f from some state for each of f's has fewer states than g
abbrev pub HasFewest : Fsm → Fsm → Type 0
HasFewest f g = (h : Fsm) (state : ℕ → ℕ) → Matches f h state → length g.states ≤ length h.states

-- what is made has the fewest states
abbrev pub NoneHasFewer : Type 0
NoneHasFewer = (f g : Fsm) (state_of : List ℕ) (tests : ℕ → ℕ → List (List Bool)) → IsFewest f g state_of tests → HasFewest f g

-- the merged machine of a checked one is checked
abbrev pub MergedIsChecked : Type 0
MergedIsChecked =
    (f : Fsm) (state_of kept : List ℕ) → IsCheckedFsm f → IsNumbering (length f.states) state_of kept
    → IsCheckedFsm (merged_fsm f state_of kept)
