-- A set of texts that one more is put into.
use Rattle.std.proofs.Common.{◌≡◌, ℕ, Bool, true, false, not, ◌&&◌, ◌||◌, zero, suc, ◌<◌, List, [], ◌∷◌, bytes_eq, length, take, slice_index_or, refl, sym, ap, ◌∙◌, arith, ◌+◌, add-one}
use Rattle.std.specs.List.{list_any}
use Rattle.std.specs.BTreeMap.{is_at}
use Rattle.std.specs.BTreeSet.{insert_key}
use Rattle.std.specs.declared.cmp.Ordering.{Ordering}
use Rattle.std.specs.declared.cmp.Ordering.TheVariants.{Less, Equal, Greater}
use Rattle.std.specs.Ordering.{nat_cmp, match_ordering}
use Rattle.std.specs.Cmp.Lexicographic.{slice_cmp}
use Rattle.std.proofs.lemmas.Map.Lookups.{exact_bytes}
use Rattle.std.proofs.lemmas.Map.Text.{is_eq-slice_cmp}
use Rattle.std.proofs.lemmas.Slice.Eq.{bytes_eq-Decides}
use Rattle.text_names.specs.Free.{is_free}

twice : (a b : Bool) → a || b ≡ a || (a || b)
twice true b = refl
twice false b = refl

exchanged : (a b c : Bool) → a || (b || c) ≡ b || (a || c)
exchanged true true c = refl
exchanged true false c = refl
exchanged false true c = refl
exchanged false false c = refl

module _ {V : Type 0} (f : V → List ℕ) (cmp : V → V → Ordering) (agrees : (a b : V) → cmp a b ≡ slice_cmp nat_cmp (f a) (f b)) (t : List ℕ) where
  p : V → Bool
  p v = is_at (λ w. slice_cmp nat_cmp t (f w)) v

  by_order : (o : Ordering) (k x : V) (xs more : List V) → o ≡ slice_cmp nat_cmp (f k) (f x)
      → list_any (is_at (λ w. slice_cmp nat_cmp t (f w))) more ≡ is_at (λ w. slice_cmp nat_cmp t (f w)) k || list_any (is_at (λ w. slice_cmp nat_cmp t (f w))) xs
      → list_any (is_at (λ w. slice_cmp nat_cmp t (f w))) (match_ordering o (k ∷ x ∷ xs) (x ∷ xs) (x ∷ more))
      ≡ is_at (λ w. slice_cmp nat_cmp t (f w)) k || list_any (is_at (λ w. slice_cmp nat_cmp t (f w))) (x ∷ xs)
  by_order Less k x xs more is so = refl
  by_order Equal k x xs more is so =
      let q : V → Bool = is_at (λ w. slice_cmp nat_cmp t (f w)) in
      let same : f k ≡ f x = exact_bytes (f k) (f x) (sym is) in
      let e : q k ≡ q x = ap (λ (s : List ℕ). is_at (λ (w : List ℕ). slice_cmp nat_cmp t w) s) same in
      twice (q x) (list_any q xs) ∙ ap (λ b. b || (q x || list_any q xs)) (sym e)
  by_order Greater k x xs more is so =
      let q : V → Bool = is_at (λ w. slice_cmp nat_cmp t (f w)) in
      ap (λ b. q x || b) so ∙ exchanged (q x) (q k) (list_any q xs)

  any_inserted : (ks : List V) (k : V)
      → list_any (is_at (λ w. slice_cmp nat_cmp t (f w))) (insert_key cmp ks k)
      ≡ is_at (λ w. slice_cmp nat_cmp t (f w)) k || list_any (is_at (λ w. slice_cmp nat_cmp t (f w))) ks
  any_inserted [] k = refl
  any_inserted (x ∷ xs) k = by_order (cmp k x) k x xs (insert_key cmp xs k) (agrees k x) (any_inserted xs k)

  -- a name is known where it is the one that was put in, or was known before
  pub known_after : (ks : List V) (k : V) (name : List ℕ) → f k ≡ name
      → list_any (is_at (λ w. slice_cmp nat_cmp t (f w))) (insert_key cmp ks k) ≡ bytes_eq t name || list_any (is_at (λ w. slice_cmp nat_cmp t (f w))) ks
  known_after ks k name is =
      any_inserted ks k ∙ ap (λ b. b || list_any (is_at (λ w. slice_cmp nat_cmp t (f w))) ks) (is_eq-slice_cmp t (f k) ∙ ap (bytes_eq t) is)

or_not : (a b : Bool) → (a || not b) ≡ not (not a && b)
or_not true b = refl
or_not false b = refl

turned : (a b : List ℕ) → bytes_eq a b ≡ bytes_eq b a
turned a b = by (bytes_eq a b) refl (bytes_eq b a) refl where
  by : (s : Bool) → bytes_eq a b ≡ s → (u : Bool) → bytes_eq b a ≡ u → s ≡ u
  by true e true f = refl
  by false e false f = refl
  by true e false f = let same = (bytes_eq-Decides a b).0 e in sym ((bytes_eq-Decides b a).1 (sym same)) ∙ f
  by false e true f = let same = (bytes_eq-Decides b a).0 f in sym e ∙ (bytes_eq-Decides a b).1 (sym same)

-- one text more
free_more : (taken : List (List ℕ)) (i : ℕ) (t text : List ℕ) → i < length taken → slice_index_or taken i [] ≡ t
    → (bytes_eq text t || not (is_free (take i taken) text)) ≡ not (is_free (take (suc i) taken) text)
free_more [] i t text l is = absurd (omega arith)
free_more (x ∷ taken) zero t text l is = rw (turned text t, is) (or_not (bytes_eq t text) true)
free_more (x ∷ taken) (suc i) t text l is =
    pushed (bytes_eq text t) (not (bytes_eq x text)) (is_free (take i taken) text) (is_free (take (suc i) taken) text) (free_more taken i t text (omega arith) is) where
      pushed : (a b c d : Bool) → (a || not c) ≡ not d → (a || not (b && c)) ≡ not (b && d)
      pushed true true c d e = e
      pushed true false c d e = refl
      pushed false true c d e = e
      pushed false false c d e = refl

pub one_more : (taken : List (List ℕ)) (i : ℕ) (t text : List ℕ) → i < length taken → slice_index_or taken i [] ≡ t
    → (bytes_eq text t || not (is_free (take i taken) text)) ≡ not (is_free (take (i + 1) taken) text)
one_more taken i t text l is = rw (add-one i) (free_more taken i t text l is)
