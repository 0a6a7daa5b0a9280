-- What stands at the places of a list with an item more.
use Rattle.std.proofs.Common.{◌≡◌, ℕ, zero, suc, ◌<◌, List, [], ◌∷◌, ◌++◌, length, refl, arith}
use Rattle.std.specs.List.{slice_index_or}
use Rattle.fsm_merge.specs.Numbering.{nth}

pub before : {A : Type 0} (xs : List A) (y d : A) (i : ℕ) → i < length xs → slice_index_or (xs ++ y ∷ []) i d ≡ slice_index_or xs i d
before [] y d i l = absurd (omega arith)
before (x ∷ xs) y d zero l = refl
before (x ∷ xs) y d (suc i) l = before xs y d i (omega arith)

pub at_end : {A : Type 0} (xs : List A) (y d : A) → slice_index_or (xs ++ y ∷ []) (length xs) d ≡ y
at_end [] y d = refl
at_end (x ∷ xs) y d = at_end xs y d

-- what holds at each place holds with an item more
pub pushed : (P : ℕ → ℕ → Type 0) (xs : List ℕ) (y : ℕ) → ((s : ℕ) → s < length xs → P s (nth xs s)) → P (length xs) y
    → (s : ℕ) → s < suc (length xs) → P s (nth (xs ++ y ∷ []) s)
pushed P [] y old new zero l = new
pushed P [] y old new (suc s) l = absurd (omega arith)
pushed P (x ∷ xs) y old new zero l = old 0 (omega arith)
pushed P (x ∷ xs) y old new (suc s) l = pushed (λ k v. P (suc k) v) xs y (λ k m. old (suc k) (omega arith)) new s (omega arith)
