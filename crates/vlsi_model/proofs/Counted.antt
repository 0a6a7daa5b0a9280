-- Different things among some are no more than those, so the bits that a source drives have numbers of 32 bits.
use Rattle.std.proofs.Common.{◌≡◌, inl, inr, ℕ, ◌+◌, ◌<◌, ◌≤◌, ◌^◌, List, [], ◌∷◌, ◌++◌, length, refl, sym, ap, ◌∙◌, subst, arith, length-append}
use Rattle.std.specs.List.{All}
use Rattle.std.proofs.lemmas.List.{length-map}
use Rattle.vlsi_base.specs.Range.{rising}
use Rattle.vlsi_base.proofs.Ranges.{length_of_rising}
use Rattle.machine_core.specs.Order.{In, here, there, AllDifferent}
use Rattle.machine_core.proofs.Values.{In-split, In-left, In-right}
use Rattle.source_checks.specs.declared.statement.DesignFile.{DesignFile}
use Rattle.source_checks.specs.Symbols.{symbols, all_names}
use Rattle.source_checks.specs.Elaboration.{Definition, Storage, definitions, storage}
use Rattle.vlsi_model.specs.declared.source.Source.{Source}
use Rattle.vlsi_model.specs.Sources.{IsSourceOf}
use Rattle.vlsi_model.specs.Laid.{names_defined, names_stored}
use Rattle.vlsi_model.proofs.Members.{In-cases}
use Rattle.vlsi_model.proofs.Bits.{rising-In}
use Rattle.vlsi_model.proofs.Sorting.{place_of_In}
use Rattle.vlsi_model.proofs.FineSources.{Facts}
use Rattle.vlsi_model.proofs.Building.{defined_declared, stored_declared}
use Rattle.vlsi_model.proofs.BuildGoals.{driven_count, stored_count}

-- a list with what stands before a member and behind it
record Around {A : Type 0} (x : A) (xs : List A) : Type 0 where
  front : List A
  back : List A
  is : xs ≡ front ++ x ∷ back

around : {A : Type 0} (x : A) (xs : List A) → In x xs → Around x xs
around x (y ∷ xs) here = record { front = []; back = xs; is = refl }
around x (y ∷ xs) (there i) = let r = around x xs i in record { front = y ∷ r.front; back = r.back; is = ap (λ zs. y ∷ zs) r.is }
around x [] i = elim i [ ]

without : {A : Type 0} (x y : A) (front back : List A) → (x ≡ y → ⊥) → In y (front ++ x ∷ back) → In y (front ++ back)
without x y front back apart i = elim (In-split y front (x ∷ back) i) [
  | inl a ↦ In-left y front back a
  | inr b ↦ elim (In-cases y x back b) [ inl same ↦ absurd (apart same) | inr c ↦ In-right y front back c ]
]

count_around : {A : Type 0} (x : A) (front back : List A) → length (front ++ x ∷ back) ≡ length (front ++ back) + 1
count_around x front back =
    let a : length (front ++ x ∷ back) ≡ length front + length (x ∷ back) = length-append front (x ∷ back) in
    let b : length (front ++ back) ≡ length front + length back = length-append front back in
    omega (arith, a, b)

-- different things among some are no more than those
pub no_more : {A : Type 0} (xs ys : List A) → AllDifferent xs → ((x : A) → In x xs → In x ys) → length xs ≤ length ys
no_more [] ys d within = omega arith
no_more (x ∷ xs) ys d within =
    let r = around x ys (within x here) in
    let rest = no_more xs (r.front ++ r.back) d.1
    (λ y i. without x y r.front r.back (λ e. d.0 (subst (λ z. In z xs) (sym e) i)) (subst (λ zs. In y zs) r.is (within y (there i)))) in
    let count : length ys ≡ length (r.front ++ r.back) + 1 = ap (λ zs. length zs) r.is ∙ count_around x r.front r.back in
    omega (arith, rest, count)

-- different numbers below a bound are no more than it
pub few_below : (n : ℕ) (xs : List ℕ) → AllDifferent xs → ((x : ℕ) → In x xs → x < n) → length xs ≤ n
few_below n xs d low =
    let fit = no_more xs (rising 0 n) d (λ x i. rising-In 0 n x (omega arith) (let l = low x i in omega (arith, l))) in
    let count = length_of_rising 0 n in
    omega (arith, fit, count)

pub all_in : {A : Type 0} (P : A → Type 0) (xs : List A) → All P xs → (x : A) → In x xs → P x
all_in P xs h x i = let r = place_of_In xs x i in subst P (r.2 x) (h r.0 x r.1)

pub driven_few : (design : DesignFile) (s : Source) → Facts design → IsSourceOf design s → length s.driven.items < 2 ^ 32
driven_few design s f h =
    let fit = no_more (names_defined (definitions design)) (all_names (symbols design)) f.defined_once (λ n i. defined_declared design f n i) in
    let names = length-map (definitions design) (λ (d : Definition). d.name) in
    let count = driven_count design s h in
    let most = h.few in
    omega (arith, fit, names, count, most)

pub stored_few : (design : DesignFile) (s : Source) → Facts design → IsSourceOf design s → length s.stored.items < 2 ^ 32
stored_few design s f h =
    let fit = no_more (names_stored (storage design)) (all_names (symbols design)) f.stored_once (λ n i. stored_declared design f n i) in
    let names = length-map (storage design) (λ (r : Storage). r.name) in
    let count = stored_count design s h in
    let most = h.few in
    omega (arith, fit, names, count, most)
