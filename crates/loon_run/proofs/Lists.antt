-- Places in lists.
use Rattle.std.proofs.Common.{◌≡◌, ℕ, zero, suc, List, [], ◌∷◌, subst}
use Rattle.vlsi_base.specs.Member.{In, here, there}
use Rattle.net_core.specs.Places.{Stands}

pub stands_in : {A : Type 0} (xs : List A) (k : ℕ) (x : A) → Stands xs k x → In x xs
stands_in [] k x h = absurd cc
stands_in (y ∷ xs) zero x h = let same : y ≡ x = cc h in subst (λ z. In z (y ∷ xs)) same here
stands_in (y ∷ xs) (suc k) x h = there (stands_in xs k x h)
