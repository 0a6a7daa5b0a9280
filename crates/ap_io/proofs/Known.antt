-- A set of names that one more is put into.
use Rattle.std.proofs.Common.{◌≡◌, ℕ, Bool, true, false, ◌||◌, List, [], ◌∷◌, bytes_eq, refl, sym, ap, ◌∙◌}
use Rattle.std.specs.List.{list_any}
use Rattle.std.specs.BTreeMap.{is_at}
use Rattle.std.specs.BTreeSet.{insert_key}
use Rattle.std.specs.declared.cmp.Ordering.{Ordering}
use Rattle.std.specs.declared.cmp.Ordering.TheVariants.{Less, Equal, Greater}
use Rattle.std.specs.Ordering.{nat_cmp, match_ordering}
use Rattle.std.specs.Cmp.Lexicographic.{slice_cmp}
use Rattle.std.proofs.lemmas.Map.Lookups.{exact_bytes}
use Rattle.std.proofs.lemmas.Map.Text.{is_eq-slice_cmp}

twice : (a b : Bool) → a || b ≡ a || (a || b)
twice true b = refl
twice false b = refl

exchanged : (a b c : Bool) → a || (b || c) ≡ b || (a || c)
exchanged true true c = refl
exchanged true false c = refl
exchanged false true c = refl
exchanged false false c = refl

module _ {V : Type 0} (f : V → List ℕ) (cmp : V → V → Ordering) (agrees : (a b : V) → cmp a b ≡ slice_cmp nat_cmp (f a) (f b)) (t : List ℕ) where
  p : V → Bool
  p v = is_at (λ w. slice_cmp nat_cmp t (f w)) v

  by_order : (o : Ordering) (k x : V) (xs more : List V) → o ≡ slice_cmp nat_cmp (f k) (f x)
      → list_any (is_at (λ w. slice_cmp nat_cmp t (f w))) more ≡ is_at (λ w. slice_cmp nat_cmp t (f w)) k || list_any (is_at (λ w. slice_cmp nat_cmp t (f w))) xs
      → list_any (is_at (λ w. slice_cmp nat_cmp t (f w))) (match_ordering o (k ∷ x ∷ xs) (x ∷ xs) (x ∷ more))
      ≡ is_at (λ w. slice_cmp nat_cmp t (f w)) k || list_any (is_at (λ w. slice_cmp nat_cmp t (f w))) (x ∷ xs)
  by_order Less k x xs more is so = refl
  by_order Equal k x xs more is so =
      let q : V → Bool = is_at (λ w. slice_cmp nat_cmp t (f w)) in
      let same : f k ≡ f x = exact_bytes (f k) (f x) (sym is) in
      let e : q k ≡ q x = ap (λ (s : List ℕ). is_at (λ (w : List ℕ). slice_cmp nat_cmp t w) s) same in
      twice (q x) (list_any q xs) ∙ ap (λ b. b || (q x || list_any q xs)) (sym e)
  by_order Greater k x xs more is so =
      let q : V → Bool = is_at (λ w. slice_cmp nat_cmp t (f w)) in
      ap (λ b. q x || b) so ∙ exchanged (q x) (q k) (list_any q xs)

  any_inserted : (ks : List V) (k : V)
      → list_any (is_at (λ w. slice_cmp nat_cmp t (f w))) (insert_key cmp ks k)
      ≡ is_at (λ w. slice_cmp nat_cmp t (f w)) k || list_any (is_at (λ w. slice_cmp nat_cmp t (f w))) ks
  any_inserted [] k = refl
  any_inserted (x ∷ xs) k = by_order (cmp k x) k x xs (insert_key cmp xs k) (agrees k x) (any_inserted xs k)

  -- a name is known where it is the one that was put in, or was known before
  pub known_after : (ks : List V) (k : V) (name : List ℕ) → f k ≡ name
      → list_any (is_at (λ w. slice_cmp nat_cmp t (f w))) (insert_key cmp ks k) ≡ bytes_eq t name || list_any (is_at (λ w. slice_cmp nat_cmp t (f w))) ks
  known_after ks k name is =
      any_inserted ks k ∙ ap (λ b. b || list_any (is_at (λ w. slice_cmp nat_cmp t (f w))) ks) (is_eq-slice_cmp t (f k) ∙ ap (bytes_eq t) is)
