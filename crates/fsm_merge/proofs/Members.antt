-- Members of lists, and lists in which nothing stands twice.
use Rattle.std.proofs.Common.{◌≡◌, ℕ, zero, suc, ◌+◌, ◌<◌, Bool, true, false, List, [], ◌∷◌, ◌++◌, map, filter, length, Option, None, Some, if◌then◌else◌, ◌⊎◌, inl, inr, refl, sym, ap, ◌∙◌, subst, arith}
use Rattle.std.specs.List.{slice_get, slice_index_or, Contains}
use Rattle.std.specs.Option.{option_to_list}
use Rattle.vlsi_base.specs.declared.name.Name.{Name}
use Rattle.vlsi_base.specs.Member.{In, here, there, AllDifferent}
use Rattle.fsm_merge.specs.Numbering.{nth}
use Rattle.fsm_merge.specs.Merged.{names_at}

pub in_cons : {A : Type 0} (x y : A) (xs : List A) → In x (y ∷ xs) → (x ≡ y) ⊎ In x xs
in_cons x y xs here = inl refl
in_cons x y xs (there i) = inr i

pub here_by : {A : Type 0} (x y : A) (xs : List A) → x ≡ y → In x (y ∷ xs)
here_by {A} x y xs e = let P : A → Type 0 = λ z. In x (z ∷ xs) in subst P e here

pub contains_in : {A : Type 0} (xs : List A) (x : A) → Contains xs x → In x xs
contains_in [] x (k, l, e) = absurd (omega arith)
contains_in {A} (y ∷ xs) x (zero, l, e) = here_by x y xs (sym e)
contains_in (y ∷ xs) x (suc k, l, e) = there (contains_in xs x (k, omega arith, e))

pub in_contains : {A : Type 0} (x : A) (xs : List A) → In x xs → Contains xs x
in_contains x [] i = elim i [ ]
in_contains x (y ∷ xs) here = (0, omega arith, refl)
in_contains x (y ∷ xs) (there i) = let h = in_contains x xs i in let l = h.1 in (suc h.0, omega arith, h.2)

-- the place of a member
pub in_nth : (x : ℕ) (xs : List ℕ) → In x xs → (k : ℕ) × (k < length xs) × (nth xs k ≡ x)
in_nth x [] i = elim i [ ]
in_nth x (y ∷ xs) here = (0, omega arith, refl)
in_nth x (y ∷ xs) (there i) = let h = in_nth x xs i in let l = h.1 in (suc h.0, omega arith, h.2)

pub got_in : {A : Type 0} (x : A) (k : ℕ) (xs : List A) → slice_get xs k ≡ Some x → In x xs
got_in x k [] e = absurd (cc)
got_in x zero (y ∷ xs) e = here_by x y xs (cc)
got_in x (suc k) (y ∷ xs) e = there (got_in x k xs e)

-- of different names, two places with one name are one
pub got_same : {A : Type 0} (xs : List A) → AllDifferent xs → (j k : ℕ) (x : A) → slice_get xs j ≡ Some x → slice_get xs k ≡ Some x → j ≡ k
got_same [] d j k x e f = absurd (cc)
got_same (y ∷ xs) d zero zero x e f = refl
got_same {A} (y ∷ xs) d zero (suc k) x e f = let same : x ≡ y = cc in let P : A → Type 0 = λ z. In z xs in absurd (d.0 (subst P same (got_in x k xs f)))
got_same {A} (y ∷ xs) d (suc j) zero x e f = let same : x ≡ y = cc in let P : A → Type 0 = λ z. In z xs in absurd (d.0 (subst P same (got_in x j xs e)))
got_same (y ∷ xs) d (suc j) (suc k) x e f = ap (λ (n : ℕ). suc n) (got_same xs d.1 j k x e f)

pub got_some : {A : Type 0} (xs : List A) (k : ℕ) → k < length xs → (x : A) × (slice_get xs k ≡ Some x)
got_some [] k l = absurd (omega arith)
got_some (x ∷ xs) zero l = (x, refl)
got_some (x ∷ xs) (suc k) l = got_some xs k (omega arith)

-- rising numbers are different
pub rising_differ : (xs : List ℕ) → ((p q : ℕ) → p < q → q < length xs → nth xs p < nth xs q) → AllDifferent xs
rising_differ [] h = tt
rising_differ (x ∷ xs) h = (
  λ i. (let at_ = in_nth x xs i in let l = at_.1 in let less = h 0 (suc at_.0) (omega arith) (omega arith) in let e = at_.2 in absurd (omega arith)),
  rising_differ xs (λ p q a b. h (suc p) (suc q) (omega arith) (omega arith)),
)

-- ---- the names at some places

pub in_names : (names : List Name) (x : Name) (places : List ℕ) → In x (names_at names places) → (k : ℕ) × In k places × (slice_get names k ≡ Some x)
in_names names x [] i = elim i [ ]
in_names names x (k ∷ places) i = by (slice_get names k) refl (in_names names x places) i where
  by : (o : Option Name) → slice_get names k ≡ o → (In x (names_at names places) → (j : ℕ) × In j places × (slice_get names j ≡ Some x))
      → In x (option_to_list o ++ names_at names places) → (j : ℕ) × In j (k ∷ places) × (slice_get names j ≡ Some x)
  by None e later i = let h = later i in (h.0, there h.1, h.2)
  by (Some y) e later here = (k, here, e)
  by (Some y) e later (there i) = let h = later i in (h.0, there h.1, h.2)

pub names_differ : (names : List Name) (places : List ℕ) → AllDifferent names → AllDifferent places → AllDifferent (names_at names places)
names_differ names [] a b = tt
names_differ names (k ∷ places) a b = by (slice_get names k) refl (names_differ names places a b.1) where
  by : (o : Option Name) → slice_get names k ≡ o → AllDifferent (names_at names places) → AllDifferent (option_to_list o ++ names_at names places)
  by None e later = later
  by (Some x) e later = (
    λ i. (let h = in_names names x places i in
        let P : ℕ → Type 0 = λ j. In j places in
        b.0 (subst P (got_same names a h.0 k x h.2 e) h.1)),
    later,
  )

pub names_count : (names : List Name) (places : List ℕ) → ((p : ℕ) → p < length places → nth places p < length names) → length (names_at names places) ≡ length places
names_count names [] h = refl
names_count names (k ∷ places) h =
    let first = got_some names k (h 0 (omega arith)) in
    let later = names_count names places (λ p l. h (suc p) (omega arith)) in
    rw (first.1) (ap (λ (n : ℕ). suc n) later)
