-- Tests for pairs of states.
use Rattle.std.specs.Prelude.{◌≡◌, ◌<◌, ℕ, Bool, List, [], length, map}
use Rattle.std.specs.List.{slice_index_or}
use Rattle.fsm_merge.specs.Numbering.{nth}
use Rattle.fmi_refine.specs.declared.round.Move.{Move}
use Rattle.fmi_refine.specs.declared.round.Partition.{Partition}
use Rattle.fmi_refine.specs.Refined.{last_level, Tells}

-- the test of p and q by numbers of vectors, where p < q: row q has one for each state before q
abbrev pub test_of : List (List (List ℕ)) → ℕ → ℕ → List ℕ
test_of tests p q = slice_index_or (slice_index_or tests q []) p []

-- the vectors of these numbers
abbrev pub numbered : List (List Bool) → List ℕ → List (List Bool)
numbered vectors numbers = map (λ v. slice_index_or vectors v []) numbers

-- the vectors of the test of p and q
abbrev pub vectors_of_test : List (List Bool) → List (List (List ℕ)) → ℕ → ℕ → List (List Bool)
vectors_of_test vectors tests p q = numbered vectors (test_of tests p q)

-- the test consists of numbers of vectors that tell s from t, fewer than there are partitions
pub record TellsApart (rows : List (List Move)) (levels : List Partition) (s t : ℕ) (test : List ℕ) : Type 0 where
  pub tells : Tells rows s t test
  pub few : length test < length levels

-- number k of the states that the last partition keeps
abbrev pub kept_at : List Partition → ℕ → ℕ
kept_at levels k = nth (last_level levels).kept k

-- for each kept state before number q a test that tells it from that
pub record AreTestsWith (rows : List (List Move)) (levels : List Partition) (q : ℕ) (row : List (List ℕ)) : Type 0 where
  pub each : length row ≡ q
  pub told : (p : ℕ) → p < q → TellsApart rows levels (kept_at levels p) (kept_at levels q) (slice_index_or row p [])

-- such tests for each kept state
pub record AreAllTests (rows : List (List Move)) (levels : List Partition) (tests : List (List (List ℕ))) : Type 0 where
  pub each : length tests ≡ length (last_level levels).kept
  pub told : (q : ℕ) → q < length tests → AreTestsWith rows levels q (slice_index_or tests q [])
