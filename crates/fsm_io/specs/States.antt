-- Names of states that are none, or that a case lists twice, in file order.
use Rattle.std.specs.Prelude.{ℕ, Bool, not, ◌&&◌, bytes_eq, List, [], ◌∷◌, ◌++◌, Option, None, Some, if◌then◌else◌}
use Rattle.std.specs.List.{list_any}
use Rattle.vlsi_base.specs.Tree.{Tree}
use Rattle.vlsi_base.specs.declared.entity.NewName.{NewName}
use Rattle.source_checks.specs.Places.{Use}
use Rattle.fsm_text.specs.Written.{MachineTree}
use Rattle.fsm_io.specs.Known.{Named, texts}
use Rattle.fsm_io.specs.Looks.{Mention, asserting, assigning, testing, selecting, listing, all_mentions, use_of, plain_use}

abbrev pub is_one_of : List (List ℕ) → List ℕ → Bool
is_one_of all text = list_any (λ (x : List ℕ). bytes_eq x text) all

-- of listed names those that are no states, or that stand among those that were listed before
abbrev pub bad_names : List (List ℕ) → List (List ℕ) → List NewName → List Use
bad_names states before [] = []
bad_names states before (n ∷ more) =
    (if is_one_of states n.text && not (is_one_of before n.text) then [] else use_of n ∷ []) ++ bad_names states (before ++ n.text ∷ []) more

abbrev pub bad_use : List (List ℕ) → Option Use → List Use
bad_use states None = []
bad_use states (Some u) = if is_one_of states u.text then [] else u ∷ []

-- what is assigned to the next state
abbrev pub bad_value : List (List ℕ) → Tree → List Use
bad_value states e = bad_use states (plain_use e)

-- what is at fault in one place, where these were listed before
abbrev pub bad_at : List (List ℕ) → List ℕ → List (List ℕ) → Mention → List Use
bad_at states to before (asserting e) = []
bad_at states to before (assigning t first e) = if bytes_eq t.name to then bad_value states e else []
bad_at states to before (testing line e) = []
bad_at states to before (selecting seen line called) = []
bad_at states to before (listing names) = bad_names states before names

-- what was listed before the next place
abbrev pub listed_after : List (List ℕ) → Mention → List (List ℕ)
listed_after before (asserting e) = before
listed_after before (assigning t first e) = before
listed_after before (testing line e) = before
listed_after before (selecting seen line called) = before
listed_after before (listing names) = before ++ texts names

-- a state machine has one case, so all that were listed before count
abbrev pub bad_states : List (List ℕ) → List ℕ → List (List ℕ) → List Mention → List Use
bad_states states to before [] = []
bad_states states to before (m ∷ more) = bad_at states to before m ++ bad_states states to (listed_after before m) more

abbrev pub all_bad_states : MachineTree → Named → List Use
all_bad_states m n = bad_states (texts m.states.states) n.next [] (all_mentions m)
