-- Lists over numbers in order.
use Rattle.std.proofs.Common.{◌≡◌, ℕ, zero, suc, ◌+◌, ◌<◌, ◌≤◌, Bool, true, false, cond, All, List, [], ◌∷◌, ◌++◌, map, length, filter, refl, sym, ap, ◌∙◌, zero-add, add-one, append_assoc, append-nil, arith}
use Rattle.std.proofs.lemmas.List.{map-append}
use Rattle.std.proofs.lemmas.List.Elements.{filter-append, All-filter, All-from_get_or}
use Rattle.std.proofs.lemmas.List.Sums.{length-filter, count_by-le-length}
use Rattle.fsm_machine.specs.MachineOf.{up}
use Rattle.fsm_machine.proofs.Coding.{at_up}
use Rattle.fsm_machine.proofs.States.{length_up}

pub up_more : (n : ℕ) → up 0 (n + 1) ≡ up 0 n ++ (n ∷ [])
up_more n = ap (up 0) (add-one n) ∙ more 0 n ∙ ap (λ (m : ℕ). up 0 n ++ (m ∷ [])) (zero-add n) where
  more : (k n : ℕ) → up k (suc n) ≡ up k n ++ ((k + n) ∷ [])
  more k zero = ap (λ (m : ℕ). m ∷ []) (omega arith)
  more k (suc n) = ap (λ (ms : List ℕ). k ∷ ms) (more (suc k) n ∙ ap (λ (m : ℕ). up (suc k) n ++ (m ∷ [])) (omega arith))

-- one number more under a map
pub up_map : {B : Type 0} (g : ℕ → B) (n : ℕ) → map g (up 0 (n + 1)) ≡ map g (up 0 n) ++ (g n ∷ [])
up_map {B} g n = ap (map g) (up_more n) ∙ map-append g (up 0 n) (n ∷ [])

-- two maps that agree at each of the numbers
pub map_same : {B : Type 0} (f g : ℕ → B) (k n : ℕ) → ((t : ℕ) → k ≤ t → t < k + n → f t ≡ g t) → map f (up k n) ≡ map g (up k n)
map_same {B} f g k zero h = refl
map_same {B} f g k (suc n) h =
    ap (λ (x : B). x ∷ map f (up (suc k) n)) (h k (omega arith) (omega arith))
    ∙ ap (λ (xs : List B). g k ∷ xs) (map_same f g (suc k) n (λ t l m. h t (omega arith) (omega arith)))

up_filter : (p : ℕ → Bool) (n : ℕ) → filter p (up 0 (n + 1)) ≡ filter p (up 0 n) ++ cond (p n) (n ∷ []) []
up_filter p n = ap (filter p) (up_more n) ∙ filter-append p (up 0 n) (n ∷ [])

-- one number more that is picked, or is not
pub picked : (p : ℕ → Bool) (front xs : List ℕ) (n : ℕ) → xs ≡ front ++ filter p (up 0 n) → p n ≡ true → xs ++ (n ∷ []) ≡ front ++ filter p (up 0 (n + 1))
picked p front xs n h e =
    ap (λ (ys : List ℕ). ys ++ (n ∷ [])) h ∙ append_assoc front (filter p (up 0 n)) (n ∷ [])
    ∙ ap (λ (ys : List ℕ). front ++ ys) (sym (up_filter p n ∙ ap (λ (b : Bool). filter p (up 0 n) ++ cond b (n ∷ []) []) e))

pub passed : (p : ℕ → Bool) (front xs : List ℕ) (n : ℕ) → xs ≡ front ++ filter p (up 0 n) → p n ≡ false → xs ≡ front ++ filter p (up 0 (n + 1))
passed p front xs n h e =
    h ∙ ap (λ (ys : List ℕ). front ++ ys)
    (sym (up_filter p n ∙ ap (λ (b : Bool). filter p (up 0 n) ++ cond b (n ∷ []) []) e ∙ append-nil (filter p (up 0 n))))

-- two tests that agree at each of the numbers
pub filter_same : (p q : ℕ → Bool) (k n : ℕ) → ((t : ℕ) → k ≤ t → t < k + n → p t ≡ q t) → filter p (up k n) ≡ filter q (up k n)
filter_same p q k zero h = refl
filter_same p q k (suc n) h =
    ap (λ (b : Bool). cond b (k ∷ filter p (up (suc k) n)) (filter p (up (suc k) n))) (h k (omega arith) (omega arith))
    ∙ ap (λ (ks : List ℕ). cond (q k) (k ∷ ks) ks) (filter_same p q (suc k) n (λ t l m. h t (omega arith) (omega arith)))

up_below : (n : ℕ) → All (λ t. t < n) (up 0 n)
up_below n = All-from_get_or (λ t. t < n) (up 0 n) 0 (λ i l.
    (let w = length_up 0 n in
    let e = at_up 0 n i 0 (omega arith) in omega arith))

pub filter_below : (p : ℕ → Bool) (n : ℕ) → All (λ t. t < n) (filter p (up 0 n))
filter_below p n = All-filter p (λ t. t < n) (up 0 n) (up_below n)

pub filter_few : (p : ℕ → Bool) (n : ℕ) → length (filter p (up 0 n)) ≤ n
filter_few p n =
    let a = length-filter p (up 0 n) in
    let b = count_by-le-length p (up 0 n) in
    let c = length_up 0 n in
    omega arith
