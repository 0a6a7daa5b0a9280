-- Parts of the search for adjacent codes.
use Rattle.std.specs.Prelude.{◌≡◌, ℕ, ◌+◌, ◌==◌, Bool, false, not, ◌&&◌, List, [], ◌++◌, map, filter, length, if◌then◌else◌}
use Rattle.std.specs.List.{sum_by, slice_index_or}
use Rattle.fsm_machine.specs.Statements.{Statements}
use Rattle.fsm_machine.specs.Encoding.{leads, distance, Exchange}
use Rattle.fsm_machine.specs.MachineOf.{up}
use Rattle.syf_encode.specs.declared.adjacent.Pair.{Pair}

-- whether a state is marked as one that is led to
abbrev pub is_marked : List Bool → ℕ → Bool
is_marked marks t = slice_index_or marks t false

-- a row of a table, and the edge that it tells
abbrev pub row : List (List Bool) → ℕ → List Bool
row table s = slice_index_or table s []

abbrev pub edge : List (List Bool) → ℕ → ℕ → Bool
edge table s t = is_marked (row table s) t

-- the states with which s has an edge, once for each direction, without itself
abbrev pub neighbours_by : (ℕ → ℕ → Bool) → ℕ → ℕ → List ℕ
neighbours_by edge n s =
    filter (λ t. edge s t && not (s == t)) (up 0 n) ++ filter (λ t. edge t s && not (t == s)) (up 0 n)

-- all states' neighbours, where the branch of the first leads to the second
abbrev pub all_neighbours : Statements → ℕ → List (List ℕ)
all_neighbours body n = map (neighbours_by (λ s t. leads s t body) n) (up 0 n)

-- the neighbours of n states by some edges
pub record AreEdges (n : ℕ) (near : List (List ℕ)) : Type 0 where
  pub edges : ℕ → ℕ → Bool
  pub are : near ≡ map (neighbours_by edges n) (up 0 n)

-- how far these states are from s, without the one that s is exchanged with
abbrev pub reach : ℕ → List ℕ → ℕ → ℕ → List ℕ → ℕ
reach n numbers s other near = sum_by (λ t. if t == other then 0 else distance n numbers s t) near

-- what the edges of two states cost, without those between them
abbrev pub pair_weight : List ℕ → Exchange → List (List ℕ) → ℕ
pair_weight numbers x near =
    reach (length numbers) numbers x.first x.second (slice_index_or near x.first [])
    + reach (length numbers) numbers x.second x.first (slice_index_or near x.second [])

abbrev pub exchange_view : Pair → Exchange
exchange_view p = record { first = p.first; second = p.second }
