-- No way leads from a node back to itself where there is an order.
use Rattle.std.proofs.Common.{◌≡◌, ℕ, ◌+◌, ◌-◌, ◌<◌, ◌≤◌, zero, suc, inl, inr, List, [], length, get_or, arith, sym, subst}
use Rattle.std.proofs.lemmas.Bool.{cases_lt}
use Rattle.std.proofs.lemmas.List.{get_or_past}
use Rattle.std.proofs.lemmas.List.Elements.{All-get_or}
use Rattle.bit_order.specs.Order.{reads_of, Reads, StandsBefore, IsSortedOrder, IsRound, SortedLeavesNoRing}

-- what is read by the node at a place of an order stands before that place
read_before : (reads : List (List ℕ)) (order : List ℕ) (place node other : ℕ) → IsSortedOrder reads order → place < length order → get_or order place 0 ≡ node
    → Reads reads node other → StandsBefore order place other
read_before reads order place node other sorted inside at (k, low, is) =
    let here : Reads reads (get_or order place 0) other = let P : ℕ → Type 0 = λ n. Reads reads n other in subst P (sym at) (k, low, is) in
    let P : ℕ → Type 0 = λ n. StandsBefore order place n in
    subst P here.2 (All-get_or (StandsBefore order place) (reads_of reads (get_or order place 0)) here.0 other here.1 (sorted.behind place inside))

-- a node that reads anything is one of the nodes
reader_inside : (reads : List (List ℕ)) (node other : ℕ) → Reads reads node other → node < length reads
reader_inside reads node other (k, low, is) = elim (cases_lt node (length reads)) [
  | inl h ↦ h
  | inr h ↦ absurd (let none : k < length (reads_of reads node) = low in omega (arith, rw (get_or_past reads node [] h) at none))
]

-- the node behind a place of the round, the first behind the last
behind_it : (reads : List (List ℕ)) (round : List ℕ) → IsRound reads round → (i : ℕ) → i < length round
    → (j : ℕ) × (j < length round) × Reads reads (get_or round i 0) (get_or round j 0)
behind_it reads round r i low = elim (cases_lt (i + 1) (length round)) [
  | inl h ↦ (i + 1, h, r.next i h)
  | inr h ↦
      let last : length round - 1 ≡ i = omega arith in
      let P : ℕ → Type 0 = λ n. Reads reads (get_or round n 0) (get_or round 0 0) in
      (0, r.some, subst P last r.first)
]

-- no node of the round stands before a place of the order
none_before : (reads : List (List ℕ)) (order round : List ℕ) → IsSortedOrder reads order → IsRound reads round
    → (place : ℕ) → place ≤ length order → (i : ℕ) → i < length round → StandsBefore order place (get_or round i 0) → ⊥
none_before reads order round s r zero high i low (k, below, is) = absurd (omega arith)
none_before reads order round s r (suc place) high i low (k, below, is) =
    let more = behind_it reads round r i low in
    let earlier : StandsBefore order k (get_or round more.0 0) = read_before reads order k (get_or round i 0) (get_or round more.0 0) s (omega arith) is more.2 in
    let nearer : earlier.0 < place = omega arith in
    none_before reads order round s r place (omega arith) more.0 more.1 (earlier.0, nearer, earlier.2)

pub sorted_leaves_no_ring : SortedLeavesNoRing
sorted_leaves_no_ring reads order round s r =
    let more = behind_it reads round r 0 r.some in
    let node : get_or round 0 0 < length reads = reader_inside reads (get_or round 0 0) (get_or round more.0 0) more.2 in
    none_before reads order round s r (length order) (omega arith) 0 r.some (s.complete (get_or round 0 0) node)
