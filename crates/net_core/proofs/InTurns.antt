-- Numbers that are given in turn.
use Rattle.std.proofs.Common.{◌≡◌, ℕ, zero, suc, ◌+◌, ◌<◌, ◌≤◌, ◌⊎◌, inl, inr, List, [], ◌∷◌, ◌++◌, length, get_or, Option, Some, None, refl, sym, ap, ◌∙◌, arith}
use Rattle.std.proofs.lemmas.Bool.{cases_lt}
use Rattle.std.proofs.lemmas.List.{length-append}
use Rattle.net_core.specs.Netlist.{InTurn, ended, again, first}
use Rattle.net_core.specs.Joins.{NumbersLabels}

pub turn_again : (met count k : ℕ) (ks : List ℕ) → k < count → InTurn met ks count → InTurn met (ks ++ k ∷ []) count
turn_again met count k [] less ended = again less ended
turn_again met count k (x ∷ ks) less (again l t) = again l (turn_again met count k ks less t)
turn_again met count k (x ∷ ks) less (first t) = first (turn_again (met + 1) count k ks less t)

pub turn_first : (met count : ℕ) (ks : List ℕ) → InTurn met ks count → InTurn met (ks ++ count ∷ []) (count + 1)
turn_first met count [] ended = first ended
turn_first met count (x ∷ ks) (again l t) = again l (turn_first met count ks t)
turn_first met count (x ∷ ks) (first t) = first (turn_first (met + 1) count ks t)

-- the numbers that the first labels have got
pub record Numbered (labels : List ℕ) (i : ℕ) (classes : List ℕ) (count : ℕ) (at : ℕ → Option ℕ) : Type 0 where
  pub each : length classes ≡ i
  pub turns : InTurn 0 classes count
  pub few : count ≤ i
  pub known : (k : ℕ) → k < i → at (get_or labels k 0) ≡ Some (get_or classes k 0)
  pub below : (l c : ℕ) → at l ≡ Some c → c < count
  pub apart : (l m c : ℕ) → at l ≡ Some c → at m ≡ Some c → l ≡ m

pub numbered_start : (labels : List ℕ) (at : ℕ → Option ℕ) → ((l : ℕ) → at l ≡ None) → Numbered labels 0 [] 0 at
numbered_start labels at empty = record {
  each = refl;
  turns = ended;
  few = omega arith;
  known = λ k l. absurd (omega (arith, l));
  below = λ l c e. let no : None ≡ Some c = sym (empty l) ∙ e in absurd cc;
  apart = λ l m c e f. let no : None ≡ Some c = sym (empty l) ∙ e in absurd cc;
}

at_left : (xs : List ℕ) (x k : ℕ) → k < length xs → get_or (xs ++ x ∷ []) k 0 ≡ get_or xs k 0
at_left [] x k l = absurd (omega (arith, l))
at_left (y ∷ xs) x zero l = refl
at_left (y ∷ xs) x (suc k) l = at_left xs x k (omega (arith, l))

at_last : (xs : List ℕ) (x : ℕ) → get_or (xs ++ x ∷ []) (length xs) 0 ≡ x
at_last [] x = refl
at_last (y ∷ xs) x = at_last xs x

same_or_not : (a b : ℕ) → (a ≡ b) ⊎ (a ≡ b → ⊥)
same_or_not a b = by (cases_lt a b) (cases_lt b a) where
  by : (a < b) ⊎ (b ≤ a) → (b < a) ⊎ (a ≤ b) → (a ≡ b) ⊎ (a ≡ b → ⊥)
  by (inl l) q = inr (λ e. omega (arith, l, e))
  by (inr m) (inl l) = inr (λ e. omega (arith, l, e))
  by (inr m) (inr n) = inl (omega (arith, m, n))

known_more : (labels classes : List ℕ) (i c : ℕ) (at : ℕ → Option ℕ) → length classes ≡ i → ((k : ℕ) → k < i → at (get_or labels k 0) ≡ Some (get_or classes k 0)) → at (get_or labels i 0) ≡ Some c
    → (k : ℕ) → k < i + 1 → at (get_or labels k 0) ≡ Some (get_or (classes ++ c ∷ []) k 0)
known_more labels classes i c at each known here k less = by (cases_lt k i) where
  by : (k < i) ⊎ (i ≤ k) → at (get_or labels k 0) ≡ Some (get_or (classes ++ c ∷ []) k 0)
  by (inl l) = known k l ∙ ap Some (sym (at_left classes c k (omega (arith, l, each))))
  by (inr m) = let e : length classes ≡ k = omega (arith, less, m, each) in let f : i ≡ k = omega (arith, less, m) in
      ap (λ j. at (get_or labels j 0)) (sym f) ∙ here ∙ ap Some (sym (at_last classes c) ∙ ap (λ j. get_or (classes ++ c ∷ []) j 0) e)

pub numbered_again : (labels : List ℕ) (i : ℕ) (classes : List ℕ) (count c : ℕ) (at : ℕ → Option ℕ) → Numbered labels i classes count at → at (get_or labels i 0) ≡ Some c
    → Numbered labels (i + 1) (classes ++ c ∷ []) count at
numbered_again labels i classes count c at n here = record {
  each = let m = length-append classes (c ∷ []) in omega (arith, m, n.each);
  turns = turn_again 0 count c classes (n.below (get_or labels i 0) c here) n.turns;
  few = let f = n.few in omega (arith, f);
  known = known_more labels classes i c at n.each n.known here;
  below = n.below;
  apart = n.apart;
}

pub numbered_first : (labels : List ℕ) (i : ℕ) (classes : List ℕ) (count : ℕ) (at new : ℕ → Option ℕ) → Numbered labels i classes count at → at (get_or labels i 0) ≡ None
    → new (get_or labels i 0) ≡ Some count → ((q : ℕ) → (get_or labels i 0 ≡ q → ⊥) → new q ≡ at q)
    → Numbered labels (i + 1) (classes ++ count ∷ []) (count + 1) new
numbered_first labels i classes count at new n none here others = record {
  each = let m = length-append classes (count ∷ []) in omega (arith, m, n.each);
  turns = turn_first 0 count classes n.turns;
  few = let f = n.few in omega (arith, f);
  known = known_more labels classes i count new n.each (λ k l. others (get_or labels k 0) (λ e. let no : Some (get_or classes k 0) ≡ None = sym (n.known k l) ∙ ap at (sym e) ∙ none in absurd cc) ∙ n.known k l) here;
  below = λ l c e. below l c e (same_or_not (get_or labels i 0) l);
  apart = λ l m c e f. apart l m c e f (same_or_not (get_or labels i 0) l) (same_or_not (get_or labels i 0) m);
} where
  is_count : (l c : ℕ) → new l ≡ Some c → get_or labels i 0 ≡ l → count ≡ c
  is_count l c e s = let two : Some count ≡ Some c = sym here ∙ ap new s ∙ e in cc

  below : (l c : ℕ) → new l ≡ Some c → (get_or labels i 0 ≡ l) ⊎ (get_or labels i 0 ≡ l → ⊥) → c < count + 1
  below l c e (inl s) = let q = is_count l c e s in omega (arith, q)
  below l c e (inr d) = let b = n.below l c (sym (others l d) ∙ e) in omega (arith, b)

  apart : (l m c : ℕ) → new l ≡ Some c → new m ≡ Some c → (get_or labels i 0 ≡ l) ⊎ (get_or labels i 0 ≡ l → ⊥) → (get_or labels i 0 ≡ m) ⊎ (get_or labels i 0 ≡ m → ⊥) → l ≡ m
  apart l m c e f (inl s) (inl t) = sym s ∙ t
  apart l m c e f (inl s) (inr d) = let q = is_count l c e s in let b = n.below m c (sym (others m d) ∙ f) in absurd (omega (arith, q, b))
  apart l m c e f (inr d) (inl t) = let q = is_count m c f t in let b = n.below l c (sym (others l d) ∙ e) in absurd (omega (arith, q, b))
  apart l m c e f (inr d) (inr g) = n.apart l m c (sym (others l d) ∙ e) (sym (others m g) ∙ f)

pub numbered_done : (labels classes : List ℕ) (count : ℕ) (at : ℕ → Option ℕ) → Numbered labels (length labels) classes count at → NumbersLabels labels classes count
numbered_done labels classes count at n = record {
  each = n.each;
  alike = λ i j p q. (
    λ e. n.apart (get_or labels i 0) (get_or labels j 0) (get_or classes i 0) (n.known i p) (n.known j q ∙ ap Some (sym e)),
    λ e. let two : Some (get_or classes i 0) ≡ Some (get_or classes j 0) = sym (n.known i p) ∙ ap at e ∙ n.known j q in cc,
  );
  turns = n.turns;
}
