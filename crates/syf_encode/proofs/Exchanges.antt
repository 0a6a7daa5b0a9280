-- All exchanges of two of n states, in their order, and what the search finds among those that are left.
use Rattle.std.proofs.Common.{◌≡◌, ℕ, suc, ◌+◌, ◌-◌, ◌<◌, ◌≤◌, nat_lt, Bool, true, false, List, [], ◌∷◌, ◌++◌, map, length, flat_map, Some, refl, sym, ap, ◌∙◌, add-one, arith, if◌then◌else◌}
use Rattle.fsm_machine.specs.Encoding.{Exchange, exchanged, first_lower, cost}
use Rattle.fsm_machine.specs.MachineOf.{up}
use Rattle.syf_encode.specs.Pieces.{neighbours_by, pair_weight}
use Rattle.syf_encode.proofs.Exchanging.{lowers_alike}

abbrev pub exchange : ℕ → ℕ → Exchange
exchange i j = record { first = i; second = j }

-- those of a first place, from this second place on
abbrev pub pairs_from : ℕ → ℕ → ℕ → List Exchange
pairs_from n i j = map (exchange i) (up j (n - j))

-- those from this first place on
abbrev pub rows_from : ℕ → ℕ → List Exchange
rows_from n i = flat_map (λ i. map (exchange i) (up (suc i) (n - suc i))) (up i (n - i))

up_split : (j n : ℕ) → j < n → up j (n - j) ≡ j ∷ up (suc j) (n - suc j)
up_split j n l = ap (up j) (let e : n - j ≡ suc (n - suc j) = omega arith in e)

up_past : (j n : ℕ) → n ≤ j → up j (n - j) ≡ []
up_past j n l = ap (up j) (let e : n - j ≡ 0 = omega arith in e)

-- the row of a first place, and those behind it
pub rows_next : (n i : ℕ) → i < n → rows_from n i ≡ pairs_from n i (i + 1) ++ rows_from n (i + 1)
rows_next n i l =
    ap (λ (is : List ℕ). flat_map (λ i. map (exchange i) (up (suc i) (n - suc i))) is) (up_split i n l)
    ∙ ap (λ (k : ℕ). pairs_from n i k ++ rows_from n k) (sym (add-one i))

-- one pair of a row, and those behind it
pub pairs_next : (n i j : ℕ) (more : List Exchange) → j < n
    → pairs_from n i j ++ more ≡ exchange i j ∷ (pairs_from n i (j + 1) ++ more)
pairs_next n i j more l =
    ap (λ (js : List ℕ). map (exchange i) js ++ more) (up_split j n l)
    ∙ ap (λ (k : ℕ). exchange i j ∷ (pairs_from n i k ++ more)) (sym (add-one j))

-- the first of them lowers the weight, or the search goes on behind it
pub lowers_here : (weight : List ℕ → ℕ) (numbers : List ℕ) (xs more : List Exchange) (x : Exchange) → xs ≡ x ∷ more
    → nat_lt (weight (exchanged numbers x)) (weight numbers) ≡ true → first_lower weight numbers xs ≡ Some x
lowers_here weight numbers xs more x is h =
    ap (first_lower weight numbers) is ∙ ap (λ (t : Bool). if t then Some x else first_lower weight numbers more) h

pub lowers_later : (weight : List ℕ → ℕ) (numbers : List ℕ) (xs more : List Exchange) (x : Exchange) → xs ≡ x ∷ more
    → nat_lt (weight (exchanged numbers x)) (weight numbers) ≡ false → first_lower weight numbers xs ≡ first_lower weight numbers more
lowers_later weight numbers xs more x is h =
    ap (first_lower weight numbers) is ∙ ap (λ (t : Bool). if t then Some x else first_lower weight numbers more) h

-- whether an exchange lowers what the edges of its two states cost tells whether it lowers the cost
pub tells_cost : (edge : ℕ → ℕ → Bool) (numbers xs : List ℕ) (x : Exchange) (near : List (List ℕ)) (b : Bool) → xs ≡ numbers → x.first < x.second → x.second < length numbers
    → near ≡ map (neighbours_by edge (length numbers)) (up 0 (length numbers))
    → b ≡ nat_lt (pair_weight (exchanged xs x) x near) (pair_weight xs x near)
    → nat_lt (cost edge (length numbers) (exchanged numbers x)) (cost edge (length numbers) numbers) ≡ b
tells_cost edge numbers xs x near b kept l m is e =
    sym (lowers_alike edge (length numbers) numbers x near refl l m is)
    ∙ ap (λ (ys : List ℕ). nat_lt (pair_weight (exchanged ys x) x near) (pair_weight ys x near)) (sym kept) ∙ sym e
