-- Sums over numbers in order, and over both ends of edges.
use Rattle.std.proofs.Common.{◌≡◌, ℕ, zero, suc, ◌+◌, ◌==◌, ◌<◌, ◌≤◌, Bool, true, false, not, List, [], ◌∷◌, ◌++◌, filter, sum_by, zero-add, refl, sym, ap, ◌∙◌, arith, if◌then◌else◌}
use Rattle.std.proofs.lemmas.Bool.{eqb-true, eqb-false}
use Rattle.std.proofs.lemmas.List.Sums.{sum_by-cons}
use Rattle.fsm_machine.specs.MachineOf.{up}

-- the value where the condition holds, and else nothing
abbrev pub when : Bool → ℕ → ℕ
when c v = if c then v else 0

sum_first : (f : ℕ → ℕ) (x : ℕ) (xs : List ℕ) → sum_by f (x ∷ xs) ≡ f x + sum_by f xs
sum_first f x xs = sum_by-cons f x xs

pub sum_same : (f g : ℕ → ℕ) (k n : ℕ) → ((x : ℕ) → k ≤ x → x < k + n → f x ≡ g x) → sum_by f (up k n) ≡ sum_by g (up k n)
sum_same f g k zero h = refl
sum_same f g k (suc n) h =
    let here = h k (omega arith) (omega arith) in
    let later = sum_same f g (suc k) n (λ x l m. h x (omega arith) (omega arith)) in
    let a = sum_first f k (up (suc k) n) in
    let b = sum_first g k (up (suc k) n) in
    omega arith

pub sum_added : (f g : ℕ → ℕ) (xs : List ℕ) → sum_by (λ x. f x + g x) xs ≡ sum_by f xs + sum_by g xs
sum_added f g [] = refl
sum_added f g (x ∷ xs) =
    let h = sum_added f g xs in
    let a = sum_first (λ y. f y + g y) x xs in
    let b = sum_first f x xs in
    let c = sum_first g x xs in
    omega arith

pub sum_behind : (f : ℕ → ℕ) (xs ys : List ℕ) → sum_by f (xs ++ ys) ≡ sum_by f xs + sum_by f ys
sum_behind f [] ys = sym (zero-add (sum_by f ys))
sum_behind f (x ∷ xs) ys =
    let h = sum_behind f xs ys in
    let a = sum_first f x (xs ++ ys) in
    let b = sum_first f x xs in
    omega arith

-- a sum over those that are picked
pub sum_filtered : (p : ℕ → Bool) (f : ℕ → ℕ) (xs : List ℕ) → sum_by f (filter p xs) ≡ sum_by (λ x. when (p x) (f x)) xs
sum_filtered p f [] = refl
sum_filtered p f (x ∷ xs) = by (p x) (sum_filtered p f xs) ∙ sym (sum_first (λ y. when (p y) (f y)) x xs) where
  by : (t : Bool) → sum_by f (filter p xs) ≡ sum_by (λ y. when (p y) (f y)) xs
      → sum_by f (if t then x ∷ filter p xs else filter p xs) ≡ when t (f x) + sum_by (λ y. when (p y) (f y)) xs
  by true h = let a = sum_first f x (filter p xs) in omega arith
  by false h = h ∙ sym (zero-add (sum_by (λ y. when (p y) (f y)) xs))

-- one of the numbers apart from the others
pub sum_without : (f : ℕ → ℕ) (k n i : ℕ) → k ≤ i → i < k + n → sum_by f (up k n) ≡ f i + sum_by (λ x. when (not (x == i)) (f x)) (up k n)
sum_without f k zero i l m = absurd (omega arith)
sum_without f k (suc n) i l m =
    sum_first f k (up (suc k) n) ∙ by (k == i) refl (λ h. sum_without f (suc k) n i h (omega arith))
    ∙ ap (λ v. f i + v) (sym (sum_first (λ x. when (not (x == i)) (f x)) k (up (suc k) n))) where
      kept : (x : ℕ) (t : Bool) → (x == i) ≡ t → i < x → f x ≡ when (not t) (f x)
      kept x true e g = let same = eqb-true x i e in absurd (omega arith)
      kept x false e g = refl

      others : (j n : ℕ) → i < j → sum_by f (up j n) ≡ sum_by (λ x. when (not (x == i)) (f x)) (up j n)
      others j n h = sum_same f (λ x. when (not (x == i)) (f x)) j n (λ x a b. kept x (x == i) refl (omega arith))

      tested : (t : Bool) → (k == i) ≡ t → (suc k ≤ i → sum_by f (up (suc k) n) ≡ f i + sum_by (λ x. when (not (x == i)) (f x)) (up (suc k) n))
          → f k + sum_by f (up (suc k) n) ≡ f i + (when (not t) (f k) + sum_by (λ x. when (not (x == i)) (f x)) (up (suc k) n))
      tested true e step = let same = ap f (eqb-true k i e) in let later = others (suc k) n (let g = eqb-true k i e in omega arith) in omega arith
      tested false e step = let unlike = eqb-false k i e in let later = step (omega arith) in omega arith

      by : (t : Bool) → (k == i) ≡ t → (suc k ≤ i → sum_by f (up (suc k) n) ≡ f i + sum_by (λ x. when (not (x == i)) (f x)) (up (suc k) n))
          → f k + sum_by f (up (suc k) n) ≡ f i + (when (not (k == i)) (f k) + sum_by (λ x. when (not (x == i)) (f x)) (up (suc k) n))
      by t e step = rw e (tested t e step)
