-- Elements of lists that are made of the numbers from 0 on.
use Rattle.std.proofs.Common.{◌≡◌, ℕ, zero, suc, ◌+◌, ◌<◌, List, [], ◌∷◌, ◌++◌, map, length, refl, ap, ◌∙◌, arith}
use Rattle.std.specs.List.{slice_index_or}
use Rattle.std.proofs.lemmas.List.{length-map}
use Rattle.fsm_machine.specs.MachineOf.{up}
use Rattle.fsm_walk.proofs.Reading.{up_length}

up_more : (j n : ℕ) → up j (suc n) ≡ up j n ++ (j + n) ∷ []
up_more j zero = ap (λ (k : ℕ). k ∷ []) (omega arith)
up_more j (suc n) = ap (λ (ks : List ℕ). j ∷ ks) (up_more (suc j) n ∙ ap (λ (k : ℕ). up (suc j) n ++ k ∷ []) (omega arith))

map_last : {A B : Type 0} (g : A → B) (xs : List A) (x : A) → map g (xs ++ x ∷ []) ≡ map g xs ++ g x ∷ []
map_last g [] x = refl
map_last {A} {B} g (y ∷ xs) x = ap (λ (ys : List B). g y ∷ ys) (map_last g xs x)

-- what is made of one number more
pub made_more : {A : Type 0} (g : ℕ → A) (n : ℕ) → map g (up 0 (suc n)) ≡ map g (up 0 n) ++ g n ∷ []
made_more {A} g n = ap (map g) (up_more 0 n) ∙ map_last g (up 0 n) (0 + n) ∙ ap (λ (k : ℕ). map g (up 0 n) ++ g k ∷ []) (omega arith)

made_from : {A B : Type 0} (h : A → B) (g : ℕ → A) (j n v : ℕ) (d : B) → v < n → slice_index_or (map h (map g (up j n))) v d ≡ h (g (j + v))
made_from h g j zero v d l = absurd (omega arith)
made_from h g j (suc n) zero d l = ap (λ (k : ℕ). h (g k)) (omega arith)
made_from h g j (suc n) (suc v) d l = made_from h g (suc j) n v d (omega arith) ∙ ap (λ (k : ℕ). h (g k)) (omega arith)

-- number v of what is made of what is made of numbers
pub made_at : {A B : Type 0} (h : A → B) (g : ℕ → A) (n v : ℕ) (d : B) → v < n → slice_index_or (map h (map g (up 0 n))) v d ≡ h (g v)
made_at h g n v d l = made_from h g 0 n v d l ∙ ap (λ (k : ℕ). h (g k)) (omega arith)

pub made_length : {A B : Type 0} (h : A → B) (g : ℕ → A) (n : ℕ) → length (map h (map g (up 0 n))) ≡ n
made_length h g n = length-map (map g (up 0 n)) h ∙ length-map (up 0 n) g ∙ up_length 0 n

pub pushed : {A : Type 0} (P : ℕ → A → Type 0) (xs : List A) (y d : A) → ((k : ℕ) → k < length xs → P k (slice_index_or xs k d)) → P (length xs) y
    → (k : ℕ) → k < length (xs ++ y ∷ []) → P k (slice_index_or (xs ++ y ∷ []) k d)
pushed P [] y d h last zero l = last
pushed P [] y d h last (suc k) l = absurd (omega arith)
pushed P (x ∷ xs) y d h last zero l = h 0 (omega arith)
pushed {A} P (x ∷ xs) y d h last (suc k) l = pushed (λ (n : ℕ) (z : A). P (suc n) z) xs y d (λ n m. h (suc n) (omega arith)) last k (omega arith)
