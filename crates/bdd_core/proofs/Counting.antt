-- There is one count, and none that is over the budget is within it.
use Rattle.std.proofs.Common.{◌≡◌, ℕ, zero, suc, ◌<◌, ◌≤◌, ◌⊎◌, inl, inr, List, [], ◌∷◌, ◌++◌, length, sym, ap, subst, arith, length-append}
use Rattle.std.specs.List.{Contains}
use Rattle.std.proofs.lemmas.List.Elements.{Contains-get_or, Contains-append_right, Contains-append_left, Contains-append_cases}
use Rattle.bdd_core.specs.Truths.{Truths, IsDistinct, IsCountOf, IsOver}
use Rattle.bdd_core.proofs.Closing.{at_place}
use Rattle.bdd_core.specs.Nodes.{place}

-- a list around one of its elements
record Split (ys : List Truths) (x : Truths) : Type 0 where
  pub before : List Truths
  pub after : List Truths
  pub is : ys ≡ before ++ x ∷ after

split_at : (ys : List Truths) (i : ℕ) (x : Truths) → i < length ys → place ys i ≡ x → Split ys x
split_at [] i x w e = absurd (omega arith)
split_at (y ∷ ys) zero x w e = record { before = []; after = ys; is = ap (λ (t : Truths). t ∷ ys) e }
split_at (y ∷ ys) (suc i) x w e =
    let s = split_at ys i x (omega arith) e in
    record { before = y ∷ s.before; after = s.after; is = ap (λ (l : List Truths). y ∷ l) s.is }

within_length : (xs ys : List Truths) → IsDistinct xs → ((x : Truths) → Contains xs x → Contains ys x) → length xs ≤ length ys
within_length [] ys d h = omega arith
within_length (x ∷ xs) ys d h = by (split_at ys c.0 x c.1 (at_place ys x c)) (λ l k. within_length xs l d.1 k)
  where
    c : Contains ys x
    c = h x (Contains-get_or (x ∷ xs) 0 x (omega arith))

    by : Split ys x → ((l : List Truths) → ((z : Truths) → Contains xs z → Contains l z) → length xs ≤ length l) → length (x ∷ xs) ≤ length ys
    by s rest =
        omega (arith, ap length s.is, length-append s.before (x ∷ s.after), length-append s.before s.after, rest (s.before ++ s.after) kept)
      where
        kept : (z : Truths) → Contains xs z → Contains (s.before ++ s.after) z
        kept z m = cases (Contains-append_cases s.before (x ∷ s.after) z (subst (λ (l : List Truths). Contains l z) s.is (h z (Contains-append_right (x ∷ []) xs z m))))
          where
            last : (Contains (x ∷ []) z ⊎ Contains s.after z) → Contains (s.before ++ s.after) z
            last (inl q) = absurd (d.0 (subst (λ (t : Truths). Contains xs t) (only q.0 q.1 (at_place (x ∷ []) z q)) m))
              where
                only : (i : ℕ) → i < 1 → place (x ∷ []) i ≡ z → z ≡ x
                only zero w e = sym e
                only (suc i) w e = absurd (omega arith)
            last (inr q) = Contains-append_right s.before s.after z q

            cases : (Contains s.before z ⊎ Contains (x ∷ s.after) z) → Contains (s.before ++ s.after) z
            cases (inl q) = Contains-append_left s.before s.after z q
            cases (inr q) = last (Contains-append_cases (x ∷ []) s.after z q)

pub one_count : (fs : List Truths) (m n : ℕ) → IsCountOf fs m → IsCountOf fs n → m ≡ n
one_count fs m n a b =
    let l : length a.0 ≤ length b.0 = within_length a.0 b.0 a.1.0 (λ x c. b.1.2 x (a.1.1 x c)) in
    let r : length b.0 ≤ length a.0 = within_length b.0 a.0 b.1.0 (λ x c. a.1.2 x (b.1.1 x c)) in
    omega (arith, a.2, b.2)

pub over_count : (fs : List Truths) (n budget : ℕ) → IsCountOf fs n → IsOver fs budget → budget < n
over_count fs n budget a o =
    let l : length o.0 ≤ length a.0 = within_length o.0 a.0 o.1 (λ x c. a.1.2 x (o.2 x c)) in
    omega (arith, a.2, o.3)
