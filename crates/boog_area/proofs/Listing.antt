-- What stands in lists.
use Rattle.std.proofs.Common.{◌≡◌, ℕ, ◌<◌, List, [], ◌∷◌, length, Some, refl, sym, subst, ◌∙◌, arith}
use Prim.Native.Nat.{zero, suc}
use Rattle.std.specs.Prelude.{slice_get}
use Rattle.vlsi_base.specs.Member.{In, here, there}

pub got_in : {A : Type 0} (xs : List A) (k : ℕ) (x : A) → slice_get xs k ≡ Some x → In x xs
got_in [] k x h = absurd cc
got_in {A} (y ∷ xs) zero x h = let e : y ≡ x = cc in subst (λ (z : A). In z (y ∷ xs)) e here
got_in (y ∷ xs) (suc k) x h = there (got_in xs k x h)

pub in_got : {A : Type 0} (x : A) (xs : List A) → In x xs → (k : ℕ) × (slice_get xs k ≡ Some x)
in_got x [] h = elim h [ ]
in_got x (y ∷ xs) here = (0, refl)
in_got x (y ∷ xs) (there h) = let r = in_got x xs h in (suc r.0, r.1)

pub got_at : {A : Type 0} (xs : List A) (k : ℕ) → k < length xs → (x : A) × (slice_get xs k ≡ Some x)
got_at [] k h = absurd (omega (arith, h))
got_at (y ∷ xs) zero h = (y, refl)
got_at (y ∷ xs) (suc k) h = got_at xs k (omega (arith, h))

pub same_got : {A : Type 0} (xs : List A) (k : ℕ) (x y : A) → slice_get xs k ≡ Some x → slice_get xs k ≡ Some y → x ≡ y
same_got xs k x y p q = let e : Some x ≡ Some y = sym p ∙ q in cc
