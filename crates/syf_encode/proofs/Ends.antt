-- The numbers at which the search ends, as codes.
use Rattle.std.proofs.Common.{◌≡◌, ℕ, ◌+◌, Bool, List, map, length, take, drop, ◌++◌, Option, sym, ap, ◌∙◌, add-one, append-nil, arith}
use Rattle.std.proofs.lemmas.List.{take_all, drop_all}
use Rattle.fsm_machine.specs.Statements.{Statements}
use Rattle.fsm_machine.specs.Fsm.{Fsm}
use Rattle.fsm_machine.specs.Encoding.{leads, cost, Exchange, exchanges, first_lower, lowered, numbered, adjacent_numbers, adjacent_codes}
use Rattle.fsm_machine.specs.MachineOf.{up}
use Rattle.syf_encode.specs.Pieces.{neighbours_by, all_neighbours}
use Rattle.fsm_machine.proofs.Coding.{arranged_lowered, exchanges_inside, in_order}

pub length_lowered : (weight : List ℕ → ℕ) (n more : ℕ) → length (lowered weight (exchanges n) more (up 0 n)) ≡ n
length_lowered weight n more = (arranged_lowered n weight (exchanges n) more (up 0 n) (exchanges_inside n) (in_order n)).each

-- what the search gives over the statements
abbrev pub found : Statements → ℕ → List ℕ
found body n = lowered (cost (λ s t. leads s t body) n) (exchanges n) (cost (λ s t. leads s t body) n (up 0 n) + 1) (up 0 n)

pub adjacent_are : (f : Fsm) (xs : List ℕ) (n : ℕ) (body : Statements) → n ≡ length f.states → body ≡ f.body → xs ≡ found body n → numbered (length xs) xs ≡ adjacent_codes f
adjacent_are f xs n body many is e =
    let here : xs ≡ found f.body (length f.states) = e ∙ ap (λ (b : Statements). found b n) is ∙ ap (λ (k : ℕ). found f.body k) many in
    let same : xs ≡ adjacent_numbers f =
    here ∙ ap (λ (k : ℕ). lowered (cost (λ s t. leads s t f.body) (length f.states)) (exchanges (length f.states)) k (up 0 (length f.states)))
    (add-one (cost (λ s t. leads s t f.body) (length f.states) (up 0 (length f.states)))) in
    let each : length xs ≡ length f.states =
    ap length here ∙ length_lowered (cost (λ s t. leads s t f.body) (length f.states)) (length f.states) (cost (λ s t. leads s t f.body) (length f.states) (up 0 (length f.states)) + 1) in
    ap (λ (k : ℕ). numbered k xs) each ∙ ap (numbered (length f.states)) same

-- what is found among the numbers, as a slice has them
pub search_is : (body : Statements) (n : ℕ) (numbers lent : List ℕ) (near : List (List ℕ)) (o : Option Exchange) → length numbers ≡ n → lent ≡ numbers
    → near ≡ all_neighbours body n
    → ((edge : ℕ → ℕ → Bool) → near ≡ map (neighbours_by edge (length lent)) (up 0 (length lent))
    → o ≡ first_lower (cost edge (length lent)) lent (exchanges (length lent)))
    → first_lower (cost (λ s t. leads s t body) n) numbers (exchanges n) ≡ o
search_is body n numbers lent near o each same is h =
    let edge : ℕ → ℕ → Bool = λ s t. leads s t body in
    let many : n ≡ length lent = sym (ap length same ∙ each) in
    ap (λ (ys : List ℕ). first_lower (cost edge n) ys (exchanges n)) (sym same)
    ∙ ap (λ (k : ℕ). first_lower (cost edge k) lent (exchanges k)) many
    ∙ sym (h edge (is ∙ ap (λ (k : ℕ). map (neighbours_by edge k) (up 0 k)) many))

-- a slice that was lent, as the vector has it afterwards
pub written_back : (xs ys : List ℕ) (n : ℕ) → ys ≡ xs → n ≡ length xs → take n (ys ++ drop (length ys) xs) ≡ xs
written_back xs ys n e l =
    ap (λ (zs : List ℕ). take n (zs ++ drop (length zs) xs)) e
    ∙ ap (λ (zs : List ℕ). take n (xs ++ zs)) (drop_all (length xs) xs (omega arith))
    ∙ ap (take n) (append-nil xs) ∙ take_all n xs (omega arith)
