-- The table of which states lead to which, and each state's neighbours.
use Rattle.std.proofs.Common.{◌≡◌, ◌≢◌, ℕ, ◌*◌, ◌<◌, ◌≤◌, ◌==◌, Bool, true, false, not, ◌&&◌, All, List, [], ◌++◌, map, length, filter, get_or, refl, sym, ap, ◌∙◌, arith}
use Rattle.std.specs.List.{slice_index_or}
use Rattle.std.specs.Global.{Vec}
use Rattle.std.proofs.lemmas.List.{length-append}
use Rattle.std.proofs.lemmas.List.Elements.{All-append}
use Rattle.std.proofs.lemmas.Bool.{eq-eqb, ne_eqb}
use Rattle.fsm_machine.specs.Statements.{Statements}
use Rattle.fsm_machine.specs.Encoding.{leads}
use Rattle.fsm_machine.specs.MachineOf.{up}
use Rattle.fsm_machine.proofs.Coding.{at_map, at_up}
use Rattle.fsm_machine.proofs.States.{length_up}
use Rattle.syf_encode.specs.Pieces.{row, edge, neighbours_by, all_neighbours}
use Rattle.syf_encode.proofs.Upward.{map_same, filter_same, filter_below, filter_few}

-- the first rows of a table are whole, and tell which states lead to which
pub record Tells (body : Statements) (count rows : ℕ) (table : List (List Bool)) : Type 0 where
  pub each : length table ≡ rows
  pub whole : (s : ℕ) → s < rows → length (row table s) ≡ count
  pub tells : (s t : ℕ) → s < rows → t < count → edge table s t ≡ leads s t body

pub near_of : (table : List (Vec ℕ)) (s : ℕ) (v : Vec ℕ) → s < length table → v ≡ get_or table s v → slice_index_or (map (λ v. v.items) table) s [] ≡ v.items
near_of table s v l e = at_map (λ (v : Vec ℕ). v.items) v [] table s l ∙ ap (λ (w : Vec ℕ). w.items) (sym e)

-- an edge to another state, and one that is none
pub edge_there : (e : Bool) (s t : ℕ) → e ≡ true → s ≢ t → (e && not (s == t)) ≡ true
edge_there e s t h n = rw (h, ne_eqb s t n) refl

pub edge_away : (e : Bool) (s t : ℕ) → e ≡ false → (e && not (s == t)) ≡ false
edge_away e s t h = rw h refl

pub edge_itself : (e : Bool) (s t : ℕ) → s ≡ t → (e && not (s == t)) ≡ false
edge_itself true s t h = rw (eq-eqb s t h) refl
edge_itself false s t h = refl

-- edges that agree below n give the same neighbours
neighbours_same : (f g : ℕ → ℕ → Bool) (n s : ℕ) → s < n → ((s t : ℕ) → s < n → t < n → f s t ≡ g s t) → neighbours_by f n s ≡ neighbours_by g n s
neighbours_same f g n s l h =
    ap (λ (xs : List ℕ). xs ++ filter (λ t. f t s && not (t == s)) (up 0 n))
    (filter_same (λ t. f s t && not (s == t)) (λ t. g s t && not (s == t)) 0 n (λ t a b. ap (λ (e : Bool). e && not (s == t)) (h s t l (omega arith))))
    ∙ ap (λ (xs : List ℕ). filter (λ t. g s t && not (s == t)) (up 0 n) ++ xs)
    (filter_same (λ t. f t s && not (t == s)) (λ t. g t s && not (t == s)) 0 n (λ t a b. ap (λ (e : Bool). e && not (t == s)) (h t s (omega arith) l)))

pub all_same : (body : Statements) (n : ℕ) (table : List (List Bool)) → Tells body n n table → map (neighbours_by (edge table) n) (up 0 n) ≡ all_neighbours body n
all_same body n table h =
    map_same (neighbours_by (edge table) n) (neighbours_by (λ s t. leads s t body) n) 0 n
    (λ s l m. neighbours_same (edge table) (λ s t. leads s t body) n s (omega arith) h.tells)

-- neighbours are states, and there are at most two for each
pub neighbours_below : (f : ℕ → ℕ → Bool) (n s : ℕ) → All (λ t. t < n) (neighbours_by f n s)
neighbours_below f n s =
    All-append (λ t. t < n) (filter (λ t. f s t && not (s == t)) (up 0 n)) (filter (λ t. f t s && not (t == s)) (up 0 n))
    (filter_below (λ t. f s t && not (s == t)) n) (filter_below (λ t. f t s && not (t == s)) n)

pub neighbours_few : (f : ℕ → ℕ → Bool) (n s : ℕ) → length (neighbours_by f n s) ≤ 2 * n
neighbours_few f n s =
    let a = filter_few (λ t. f s t && not (s == t)) n in
    let b = filter_few (λ t. f t s && not (t == s)) n in
    let c = length-append (filter (λ t. f s t && not (s == t)) (up 0 n)) (filter (λ t. f t s && not (t == s)) (up 0 n)) in
    omega arith

-- what stands at a state's number
pub neighbours_at : (f : ℕ → ℕ → Bool) (n s : ℕ) (near : List (List ℕ)) → near ≡ map (neighbours_by f n) (up 0 n) → s < n
    → slice_index_or near s [] ≡ neighbours_by f n s
neighbours_at f n s near is l =
    ap (λ (rows : List (List ℕ)). slice_index_or rows s []) is
    ∙ at_map (neighbours_by f n) 0 [] (up 0 n) s (let w = length_up 0 n in omega arith)
    ∙ ap (neighbours_by f n) (let w = at_up 0 n s 0 l in omega arith)
