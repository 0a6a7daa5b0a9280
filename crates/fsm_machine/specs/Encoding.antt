-- The three ways to give codes to the states of a state machine.
use Rattle.std.specs.Prelude.{◌≡◌, ℕ, zero, suc, ◌+◌, ◌-◌, ◌/◌, ◌%◌, ◌^◌, ◌==◌, nat_le, nat_lt, Bool, true, false, not, ◌&&◌, ◌||◌, List, [], ◌∷◌, map, length, slice_index, swap, Option, None, Some, if◌then◌else◌}
use Rattle.std.specs.List.{flat_map, sum_by}
use Rattle.bool_expr.specs.Support.{among}
use Rattle.fsm_machine.specs.Statements.{Assignment, output, next, Statements, finish, assign, choose, select, Parts, only, either, further, Branches, closed, others, listed}
use Rattle.fsm_machine.specs.Walk.{assigns}
use Rattle.fsm_machine.specs.Fsm.{Fsm}
use Rattle.fsm_machine.specs.Codes.{Codes, AreCodes}
use Rattle.fsm_machine.specs.MachineOf.{up}

-- one bit for each state: state s has bit s alone
abbrev pub one_hot : ℕ → Codes
one_hot n = record { one_hot = true; width = n; codes = map (λ s. map (λ k. k == s) (up 0 n)) (up 0 n) }

-- a number's lowest bits, bit 0 first
abbrev pub bits_of : ℕ → ℕ → List Bool
bits_of zero m = []
bits_of (suc b) m = (m % 2 == 1) ∷ bits_of b (m / 2)

-- the least width from b on that has room for n codes, `more` further ones being tried at most
abbrev pub width_from : ℕ → ℕ → ℕ → ℕ
width_from n b zero = b
width_from n b (suc more) = if nat_le n (2 ^ b) then b else width_from n (suc b) more

-- the least width that has room for n codes: n ≤ 2 ^ width
abbrev pub width_of : ℕ → ℕ
width_of n = width_from n 0 n

-- the codes that are these numbers in bits, as few as n states want
abbrev pub numbered : ℕ → List ℕ → Codes
numbered n numbers = record { one_hot = false; width = width_of n; codes = map (bits_of (width_of n)) numbers }

-- for i from the one given down to 1, places i and (the next word) mod (i + 1) are exchanged
abbrev pub shuffled : ℕ → List ℕ → List ℕ → List ℕ
shuffled zero words numbers = numbers
shuffled (suc i) [] numbers = numbers
shuffled (suc i) (word ∷ words) numbers = shuffled i words (swap numbers (suc i) (word % suc (suc i)))

-- the numbers in order, shuffled by these words from the last place down
abbrev pub random_codes : ℕ → List ℕ → Codes
random_codes n words = numbered n (shuffled (n - 1) words (up 0 n))

-- what an assignment gives to whether t is assigned to the next state
abbrev pub given_state : ℕ → Assignment → Option Bool
given_state t (output name e) = None
given_state t (next s) = if s == t then Some true else None

-- whether an assignment of t to the next state stands in the branch of s
abbrev mutual
  pub leads : ℕ → ℕ → Statements → Bool
  leads s t finish = false
  leads s t (assign a rest) = leads s t rest
  leads s t (choose parts rest) = parts_lead s t parts || leads s t rest
  leads s t (select branches rest) = branches_lead s t branches || leads s t rest

  pub parts_lead : ℕ → ℕ → Parts → Bool
  parts_lead s t (only c a) = leads s t a
  parts_lead s t (either c a b) = leads s t a || leads s t b
  parts_lead s t (further c a more) = leads s t a || parts_lead s t more

  pub branches_lead : ℕ → ℕ → Branches → Bool
  branches_lead s t closed = false
  branches_lead s t (others a) = assigns (given_state t) a
  branches_lead s t (listed here a more) = if among s here then assigns (given_state t) a else branches_lead s t more

-- in how many bits two codes differ
abbrev pub apart : List Bool → List Bool → ℕ
apart [] bs = 0
apart (a ∷ as_) [] = 0
apart (a ∷ as_) (b ∷ bs) = (if a then (if b then 0 else 1) else (if b then 1 else 0)) + apart as_ bs

-- in how many bits the numbers of the states s and t differ
abbrev pub distance : ℕ → List ℕ → ℕ → ℕ → ℕ
distance n numbers s t = apart (bits_of (width_of n) (slice_index numbers s)) (bits_of (width_of n) (slice_index numbers t))

-- the sum of these over ordered pairs of different states, of which the first leads to the second
abbrev pub cost : (ℕ → ℕ → Bool) → ℕ → List ℕ → ℕ
cost edge n numbers =
    sum_by (λ s. sum_by (λ t. if edge s t && not (s == t) then distance n numbers s t else 0) (up 0 n)) (up 0 n)

-- a place and a later one
pub record Exchange : Type 0 where
  pub first : ℕ
  pub second : ℕ

-- all pairs of places below n: (0, 1), (0, 2), and so on
abbrev pub exchanges : ℕ → List Exchange
exchanges n = flat_map (λ i. map (λ j. record { first = i; second = j }) (up (suc i) (n - suc i))) (up 0 n)

-- the two places exchanged
abbrev pub exchanged : List ℕ → Exchange → List ℕ
exchanged numbers x = swap numbers x.first x.second

-- the first exchange that lowers what `weight` says
abbrev pub first_lower : (List ℕ → ℕ) → List ℕ → List Exchange → Option Exchange
first_lower weight numbers [] = None
first_lower weight numbers (x ∷ xs) =
    if nat_lt (weight (exchanged numbers x)) (weight numbers) then Some x else first_lower weight numbers xs

-- what one exchange leaves, where there is one
abbrev pub exchanged_by : List ℕ → Option Exchange → List ℕ
exchanged_by numbers None = numbers
exchanged_by numbers (Some x) = exchanged numbers x

-- the first exchange that lowers the weight, again and again, as often as `more` says at most
abbrev pub lowered : (List ℕ → ℕ) → List Exchange → ℕ → List ℕ → List ℕ
lowered weight xs zero numbers = numbers
lowered weight xs (suc more) numbers = lowered weight xs more (exchanged_by numbers (first_lower weight numbers xs))

-- each exchange lowers the cost, so the search ends within as many exchanges as the cost is at the start
abbrev pub adjacent_numbers : Fsm → List ℕ
adjacent_numbers f =
    lowered (cost (λ s t. leads s t f.body) (length f.states)) (exchanges (length f.states))
    (suc (cost (λ s t. leads s t f.body) (length f.states) (up 0 (length f.states)))) (up 0 (length f.states))

-- the numbers at which that search ends, as codes
abbrev pub adjacent_codes : Fsm → Codes
adjacent_codes f = numbered (length f.states) (adjacent_numbers f)

-- each of the three gives codes
abbrev pub EncodingsAreCodes : Type 0
EncodingsAreCodes = (f : Fsm) (words : List ℕ) →
    AreCodes (length f.states) (one_hot (length f.states)) × AreCodes (length f.states) (random_codes (length f.states) words)
    × AreCodes (length f.states) (adjacent_codes f)

-- where the search for adjacent codes ends, no exchange lowers the cost
abbrev pub SearchEnds : Type 0
SearchEnds =
    (f : Fsm)
    → first_lower (cost (λ s t. leads s t f.body) (length f.states)) (adjacent_numbers f) (exchanges (length f.states)) ≡ None
