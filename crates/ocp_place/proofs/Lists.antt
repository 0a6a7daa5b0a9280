-- Lists in which nothing stands twice, and how long they can be.
use Rattle.std.proofs.Common.{◌≡◌, ◌≢◌, ◌⊎◌, inl, inr, ℕ, zero, suc, ◌<◌, ◌≤◌, Bool, true, false, not, cond, nat_eq, List, [], ◌∷◌, ◌++◌, filter, length, refl, sym, ap, subst, ◌∙◌, arith}
use Rattle.std.proofs.lemmas.Bool.{cond-true, cond-false, false_from_ne_true, eqb-true, eq-eqb}
use Rattle.std.specs.Prelude.{IsTrue, AllPairs}
use Rattle.vlsi_base.specs.declared.name.Name.{Name}
use Rattle.vlsi_base.specs.Names.{comes_before}
use Rattle.vlsi_base.specs.Member.{In, here, there, AllDifferent}
use Rattle.cell_model.proofs.Members.{In-split, place-In}
use Rattle.cell_pins.proofs.Ports.{in_filter, before_itself}
use Rattle.net_meaning.specs.Netlist.{Member}
use Rattle.net_right.proofs.Lists.{filter_in}

pub different_append : {A : Type 0} (xs ys : List A) → AllDifferent xs → AllDifferent ys → ((x : A) → In x xs → In x ys → ⊥) → AllDifferent (xs ++ ys)
different_append [] ys dx dy apart = dy
different_append (x ∷ xs) ys dx dy apart = (
  λ i. elim (In-split x xs ys i) [ inl a ↦ dx.0 a | inr b ↦ apart x here b ],
  different_append xs ys dx.1 dy (λ y i j. apart y (there i) j),
)

pub different_filter : {A : Type 0} (t : A → Bool) (xs : List A) → AllDifferent xs → AllDifferent (filter t xs)
different_filter t [] d = tt
different_filter t (x ∷ xs) d = by (t x) (different_filter t xs d.1) where
  by : (b : Bool) → AllDifferent (filter t xs) → AllDifferent (cond b (x ∷ filter t xs) (filter t xs))
  by true rest = (λ i. d.0 (in_filter t xs x i).0, rest)
  by false rest = rest

-- ---- without one number

abbrev pub without : ℕ → List ℕ → List ℕ
without k xs = filter (λ x. not (nat_eq x k)) xs

not_false : (b : Bool) → not b ≡ true → b ≡ false
not_false true e = absurd (cc e)
not_false false e = refl

true_not : (b : Bool) → b ≡ false → not b ≡ true
true_not true e = absurd (cc e)
true_not false e = refl

pub unequal : (x k : ℕ) → (x ≡ k → ⊥) → nat_eq x k ≡ false
unequal x k differ = false_from_ne_true (nat_eq x k) (λ t. differ (eqb-true x k t))

all_stay : (k : ℕ) (xs : List ℕ) → (In k xs → ⊥) → without k xs ≡ xs
all_stay k [] none = refl
all_stay k (x ∷ xs) none =
    let differ : nat_eq x k ≡ false = unequal x k (λ e. none (subst (λ y. In y (x ∷ xs)) e here)) in
    cond-true (not (nat_eq x k)) (x ∷ without k xs) (without k xs) (true_not (nat_eq x k) differ)
    ∙ ap (λ ys. x ∷ ys) (all_stay k xs (λ i. none (there i)))

one_less : (k : ℕ) (xs : List ℕ) → AllDifferent xs → length xs ≤ suc (length (without k xs))
one_less k [] d = omega arith
one_less k (x ∷ xs) d = by (nat_eq x k) refl (one_less k xs d.1) where
  by : (b : Bool) → nat_eq x k ≡ b → length xs ≤ suc (length (without k xs)) → length (x ∷ xs) ≤ suc (length (cond (not b) (x ∷ without k xs) (without k xs)))
  by true e rest =
      let is : x ≡ k = eqb-true x k e in
      let same : length (without k xs) ≡ length xs = ap length (all_stay k xs (λ i. d.0 (subst (λ y. In y xs) (sym is) i))) in
      omega (arith, same)
  by false e rest = omega (arith, rest)

-- so many numbers below n that differ are at most n
pub few : (n : ℕ) (xs : List ℕ) → AllDifferent xs → ((x : ℕ) → In x xs → x < n) → length xs ≤ n
few zero [] d low = omega arith
few zero (x ∷ xs) d low = let h = low x here in omega (arith, h)
few (suc n) xs d low =
    let rest = few n (without n xs) (different_filter (λ x. not (nat_eq x n)) xs d) (below n xs low) in
    let less = one_less n xs d in
    omega (arith, rest, less)
  where
    below : (n : ℕ) (xs : List ℕ) → ((x : ℕ) → In x xs → x < suc n) → (x : ℕ) → In x (without n xs) → x < n
    below n xs low x i =
        let r = in_filter (λ y. not (nat_eq y n)) xs x i in
        let h = low x r.0 in
        let differ : nat_eq x n ≡ false = not_false (nat_eq x n) r.1 in
        elim (last n x h) [ inl less ↦ less | inr is ↦ absurd (let t : true ≡ false = sym (eq-eqb x n is) ∙ differ in cc t) ]
      where
        last : (n x : ℕ) → x < suc n → (x < n) ⊎ (x ≡ n)
        last zero zero h = inr refl
        last zero (suc x) h = absurd (omega (arith, h))
        last (suc n) zero h = inl (omega arith)
        last (suc n) (suc x) h = elim (last n x (omega (arith, h))) [ inl less ↦ inl (omega (arith, less)) | inr is ↦ inr (ap suc is) ]

-- a list that has each number below n is at least so long
pub many : (n : ℕ) (xs : List ℕ) → ((x : ℕ) → x < n → In x xs) → n ≤ length xs
many zero xs each = omega arith
many (suc n) xs each =
    let rest = many n (without n xs) (λ x less. filter_in (λ y. not (nat_eq y n)) xs x (each x (omega (arith, less))) (true_not (nat_eq x n) (unequal x n (λ e. omega (arith, less, e))))) in
    let one = shorter n xs (each n (omega arith)) in
    omega (arith, rest, one)
  where
    no_longer : (k : ℕ) (xs : List ℕ) → length (without k xs) ≤ length xs
    no_longer k [] = omega arith
    no_longer k (x ∷ xs) = by (nat_eq x k) (no_longer k xs) where
      by : (b : Bool) → length (without k xs) ≤ length xs → length (cond (not b) (x ∷ without k xs) (without k xs)) ≤ length (x ∷ xs)
      by true h = omega (arith, h)
      by false h = omega (arith, h)

    head_gone : (k : ℕ) (xs : List ℕ) → length (without k (k ∷ xs)) < length (k ∷ xs)
    head_gone k xs =
        let gone : without k (k ∷ xs) ≡ without k xs = cond-false (not (nat_eq k k)) (k ∷ without k xs) (without k xs) (ap not (eq-eqb k k refl)) in
        let short = no_longer k xs in
        let same = ap length gone in
        omega (arith, short, same)

    shorter : (k : ℕ) (xs : List ℕ) → In k xs → length (without k xs) < length xs
    shorter k [] i = elim i [ ]
    shorter k (x ∷ xs) here = head_gone k xs
    shorter k (x ∷ xs) (there i) = by (nat_eq x k) (shorter k xs i) where
      by : (b : Bool) → length (without k xs) < length xs → length (cond (not b) (x ∷ without k xs) (without k xs)) < length (x ∷ xs)
      by true h = omega (arith, h)
      by false h = omega (arith, h)

-- ---- names

pub different_names : (xs : List Name) → AllPairs (λ a b. IsTrue (comes_before a b)) xs → AllDifferent xs
different_names [] h = tt
different_names (x ∷ xs) h = (
  λ i. let r = place-In x xs i in
      before_itself x (subst (λ (y : Name). IsTrue (comes_before x y)) (r.2 x) (h 0 (suc r.0) x (omega arith) (omega (arith, r.1)))),
  different_names xs (λ i j d low high. h (suc i) (suc j) d (omega (arith, low)) (omega (arith, high))),
)

-- the first of some instances has another name than the others
pub first_differs : (one : Member) (rest : List Member) → AllPairs (λ a b. a.name ≢ b.name) (one ∷ rest) → (i : Member) → In i rest → one.name ≢ i.name
first_differs one rest h i j =
    let r = place-In i rest j in
    subst (λ (x : Member). one.name ≢ x.name) (r.2 one) (h 0 (suc r.0) one (omega arith) (omega (arith, r.1)))

pub rest_differs : (one : Member) (rest : List Member) → AllPairs (λ a b. a.name ≢ b.name) (one ∷ rest) → AllPairs (λ a b. a.name ≢ b.name) rest
rest_differs one rest h i j d low high = h (suc i) (suc j) d (omega (arith, low)) (omega (arith, high))
