-- How far neighbours are, and the numbers after exchanges.
use Rattle.std.proofs.Common.{◌≡◌, ◌≢◌, ℕ, ◌+◌, ◌*◌, ◌^◌, ◌<◌, ◌≤◌, ◌==◌, Bool, true, false, All, List, map, length, get_or, take, swap, refl, sym, ap, ◌∙◌, subst, arith, if◌then◌else◌}
use Rattle.std.specs.List.{slice_index, slice_index_or}
use Rattle.std.specs.Global.{Vec}
use Rattle.std.proofs.lemmas.List.{ext_get_or, length-map}
use Rattle.std.proofs.lemmas.List.Elements.{All-get_or, All-from_get_or}
use Rattle.std.proofs.lemmas.List.Sums.{sum_by_more}
use Rattle.std.proofs.lemmas.Bool.{eq-eqb, ne_eqb, eqb-true}
use Rattle.fsm_machine.specs.Encoding.{width_of, bits_of, apart, distance}
use Rattle.fsm_machine.specs.MachineOf.{up}
use Rattle.fsm_machine.proofs.Coding.{IsArranged, turned, turned_first, turned_second, swapped_at, length_swap, width_enough}
use Rattle.fsm_machine.proofs.States.{length_up}
use Rattle.syf_encode.specs.Pieces.{reach, AreEdges, neighbours_by}
use Rattle.syf_encode.proofs.Neighbours.{near_of, neighbours_below, neighbours_few, neighbours_at}

-- the numbers are below their count, so that the bits of a code hold each
code_fits : (numbers : List ℕ) (s : ℕ) → All (λ k. k < length numbers) numbers → s < length numbers
    → slice_index numbers s < 2 ^ width_of (length numbers)
code_fits numbers s h l =
    let a = All-get_or (λ k. k < length numbers) numbers s 0 l h in
    let b = width_enough (length numbers) in
    omega arith

-- one neighbour more
pub reach_more : (numbers near : List ℕ) (s other i t d : ℕ) → i < length near → t ≡ get_or near i 0 → t ≢ other
    → ((w : ℕ) → slice_index numbers s < 2 ^ w → slice_index numbers t < 2 ^ w → d ≡ apart (bits_of w (slice_index numbers s)) (bits_of w (slice_index numbers t)))
    → All (λ k. k < length numbers) numbers → s < length numbers → t < length numbers
    → reach (length numbers) numbers s other (take i near) + d ≡ reach (length numbers) numbers s other (take (i + 1) near)
reach_more numbers near s other i t d l is unlike far below ls lt =
    let n = length numbers in
    let f : ℕ → ℕ = λ t. if t == other then 0 else distance n numbers s t in
    let more = sum_by_more f near i 0 l in
    let here : f (get_or near i 0) ≡ d = ap f (sym is) ∙ ap (λ (b : Bool). if b then 0 else distance n numbers s t) (ne_eqb t other unlike)
    ∙ sym (far (width_of n) (code_fits numbers s below ls) (code_fits numbers t below lt)) in
    omega arith

-- the neighbour that isn't counted
pub reach_without : (numbers near : List ℕ) (s other i t : ℕ) → i < length near → t ≡ get_or near i 0 → t ≡ other
    → reach (length numbers) numbers s other (take i near) ≡ reach (length numbers) numbers s other (take (i + 1) near)
reach_without numbers near s other i t l is same =
    let n = length numbers in
    let f : ℕ → ℕ = λ t. if t == other then 0 else distance n numbers s t in
    let more = sum_by_more f near i 0 l in
    let here : f (get_or near i 0) ≡ 0 = ap f (sym is) ∙ ap (λ (b : Bool). if b then 0 else distance n numbers s t) (eq-eqb t other same) in
    omega arith

-- there are as many lists of neighbours as states
pub near_length : (n : ℕ) (near : List (Vec ℕ)) → AreEdges n (map (λ v. v.items) near) → length near ≡ n
near_length n near h = sym (length-map near (λ (v : Vec ℕ). v.items)) ∙ ap length h.are ∙ length-map (up 0 n) (neighbours_by h.edges n) ∙ length_up 0 n

-- the neighbours of a state are those of its edges
own_near : (n s : ℕ) (near : List (Vec ℕ)) (v : Vec ℕ) (own : List ℕ) (h : AreEdges n (map (λ v. v.items) near)) → s < n → v ≡ get_or near s v → own ≡ v.items
    → own ≡ neighbours_by h.edges n s
own_near n s near v own h l at e =
    e ∙ sym (near_of near s v (let k = near_length n near h in omega arith) at) ∙ neighbours_at h.edges n s (map (λ v. v.items) near) h.are l

-- they are states, and there are few
pub near_below : (n s : ℕ) (near : List (Vec ℕ)) (v : Vec ℕ) (own : List ℕ) → AreEdges n (map (λ v. v.items) near) → s < n → v ≡ get_or near s v → own ≡ v.items
    → All (λ t. t < n) own
near_below n s near v own h l at e =
    let P : List ℕ → Type 0 = λ xs. All (λ t. t < n) xs in
    subst P (sym (own_near n s near v own h l at e)) (neighbours_below h.edges n s)

pub near_few : (n s : ℕ) (near : List (Vec ℕ)) (v : Vec ℕ) (own : List ℕ) → AreEdges n (map (λ v. v.items) near) → s < n → v ≡ get_or near s v → own ≡ v.items
    → length own ≤ 2 * n
near_few n s near v own h l at e =
    let a = ap length (own_near n s near v own h l at e) in
    let b = neighbours_few h.edges n s in
    omega arith

-- where an exchange takes a number from, twice
back : (i j k : ℕ) → turned i j (turned i j k) ≡ k
back i j k = by (k == j) refl (k == i) refl where
  by : (t : Bool) → (k == j) ≡ t → (u : Bool) → (k == i) ≡ u → turned i j (if t then i else (if u then j else k)) ≡ k
  by true e u g = turned_first i j ∙ sym (eqb-true k j e)
  by false e true g = turned_second i j ∙ sym (eqb-true k i g)
  by false e false g = rw (e, g) refl

inside : (n i j k : ℕ) → i < n → j < n → k < n → turned i j k < n
inside n i j k a b c = by (k == j) (k == i) where
  by : (t u : Bool) → (if t then i else (if u then j else k)) < n
  by true u = a
  by false true = b
  by false false = c

-- the same exchange twice changes nothing
pub swapped_back : (xs : List ℕ) (i j : ℕ) → i < length xs → j < length xs → swap (swap xs i j) i j ≡ xs
swapped_back xs i j l m =
    let a = length_swap xs i j l m in
    let b = length_swap (swap xs i j) i j (omega arith) (omega arith) in
    ext_get_or 0 (swap (swap xs i j) i j) xs (b ∙ a)
    (λ k h.
    (swapped_at (swap xs i j) i j k (omega arith) (omega arith) ∙ swapped_at xs i j (turned i j k) l m
    ∙ ap (λ (t : ℕ). slice_index_or xs t 0) (back i j k)))

-- numbers in some order are below their count
pub arranged_below : (n : ℕ) (numbers : List ℕ) → IsArranged n numbers → All (λ k. k < length numbers) numbers
arranged_below n numbers h =
    let e = h.each in
    All-from_get_or (λ k. k < length numbers) numbers 0 (λ k l. (let b = h.below k (omega arith) in omega arith))
