-- Pairs that join numbers, and the terminals with these numbers.
use Rattle.std.proofs.Common.{◌≡◌, ℕ, zero, suc, ◌<◌, ◌⊎◌, inl, inr, List, [], ◌∷◌, ◌++◌, length, Option, None, refl, sym, ap, subst, arith}
use Rattle.std.specs.Prelude.{unwrap_or}
use Rattle.std.specs.List.{All}
use Rattle.vlsi_base.specs.declared.name.Terminal.{Terminal}
use Rattle.vlsi_base.specs.Member.{In, here, there}
use Rattle.sym_groups.specs.Ties.{Tied, Bridged, before, over, back, JoinsTies, Alone}
use Rattle.sym_groups.proofs.Steps.{tied_then, tied_back}
use Rattle.net_core.specs.Places.{Stands, NoneTwice}
use Rattle.net_core.specs.Netlist.{port}
use Rattle.net_core.specs.Joins.{Joined, same, along, against, AreWithin, terminal_at, pairs_at}
use Rattle.net_core.proofs.Standing.{stands_same}

pub in_left : {A : Type 0} {x : A} {xs : List A} (ys : List A) → In x xs → In x (xs ++ ys)
in_left ys here = here
in_left ys (there i) = there (in_left ys i)

pub in_last : {A : Type 0} (xs : List A) (x : A) → In x (xs ++ x ∷ [])
in_last [] x = here
in_last (y ∷ xs) x = there (in_last xs x)

pub in_cases : {A : Type 0} (xs : List A) (x y : A) → In x (xs ++ y ∷ []) → In x xs ⊎ (x ≡ y)
in_cases [] x y here = inr refl
in_cases [] x y (there i) = elim i [ ]
in_cases (z ∷ xs) x y here = inl here
in_cases {A} (z ∷ xs) x y (there i) = by (in_cases xs x y i) where
  by : In x xs ⊎ (x ≡ y) → In x (z ∷ xs) ⊎ (x ≡ y)
  by (inl j) = inl (there j)
  by (inr e) = inr e

pub all_in : {A : Type 0} (P : A → Type 0) (xs : List A) (x : A) → All P xs → In x xs → P x
all_in P (y ∷ xs) x all here = all 0 x (omega arith)
all_in P (y ∷ xs) x all (there i) = all_in P xs x (λ k d l. all (suc k) d (omega (arith, l))) i
all_in P [] x all i = elim i [ ]

within_of : (n : ℕ) (js : List (ℕ × ℕ)) (p : ℕ × ℕ) → AreWithin n js → In p js → (p.0 < n) × (p.1 < n)
within_of n js p within i = all_in (λ (q : ℕ × ℕ). (q.0 < n) × (q.1 < n)) js p within i

pub joined_more : {X : Type 0} {js : List (X × X)} (ks : List (X × X)) {a b : X} → Joined js a b → Joined (js ++ ks) a b
joined_more ks same = same
joined_more ks (along i r) = along (in_left ks i) (joined_more ks r)
joined_more ks (against i r) = against (in_left ks i) (joined_more ks r)

pub joined_then : {X : Type 0} {js : List (X × X)} {a b c : X} → Joined js a b → Joined js b c → Joined js a c
joined_then same r = r
joined_then (along i p) r = along i (joined_then p r)
joined_then (against i p) r = against i (joined_then p r)

-- the groups are those that the pairs make
pub record IsGrouped (js : List (ℕ × ℕ)) (ps : List ℕ) : Type 0 where
  pub sound : (i j : ℕ) → Tied ps i j → Joined js i j
  pub links : (a b : ℕ) → In (a, b) js → Tied ps a b

pub grouped_start : (ps : List ℕ) → Alone ps → IsGrouped [] ps
grouped_start ps alone = record {
  sound = λ i j t. subst (λ k. Joined [] i k) (alone i j t) same;
  links = λ a b i. elim i [ ];
}

pub grouped_step : (js : List (ℕ × ℕ)) (ps qs : List ℕ) (a b : ℕ) → IsGrouped js ps → JoinsTies ps qs a b → IsGrouped (js ++ (a, b) ∷ []) qs
grouped_step js ps qs a b g joins = record {
  sound = λ i j t. by i j (joins.only i j t);
  links = λ x y i. linked x y (in_cases js (x, y) (a, b) i);
} where
  more : (i j : ℕ) → Tied ps i j → Joined (js ++ (a, b) ∷ []) i j
  more i j t = joined_more ((a, b) ∷ []) (g.sound i j t)

  by : (i j : ℕ) → Bridged ps a b i j → Joined (js ++ (a, b) ∷ []) i j
  by i j (before t) = more i j t
  by i j (over s t) = joined_then (more i a s) (along (in_last js (a, b)) (more b j t))
  by i j (back s t) = joined_then (more i b s) (against (in_last js (a, b)) (more a j t))

  linked : (x y : ℕ) → In (x, y) js ⊎ (◌≡◌ {A = ℕ × ℕ} (x, y) (a, b)) → Tied qs x y
  linked x y (inl i) = joins.kept x y (g.links x y i)
  linked x y (inr e) = let first : x ≡ a = ap (λ (p : ℕ × ℕ). p.0) e in let second : y ≡ b = ap (λ (p : ℕ × ℕ). p.1) e in
      subst (λ u. Tied qs u y) (sym first) (subst (λ v. Tied qs a v) (sym second) joins.added)

pub grouped_done : (js : List (ℕ × ℕ)) (ps : List ℕ) → IsGrouped js ps → {i j : ℕ} → Joined js i j → Tied ps i j
grouped_done js ps g same = Tied.same
grouped_done js ps g (along i r) = tied_then (g.links _ _ i) (grouped_done js ps g r)
grouped_done js ps g (against i r) = tied_then (tied_back (g.links _ _ i)) (grouped_done js ps g r)

pub terminal_stands : (ts : List Terminal) (k : ℕ) → k < length ts → Stands ts k (terminal_at ts k)
terminal_stands [] k l = absurd (omega (arith, l))
terminal_stands (t ∷ ts) zero l = refl
terminal_stands (t ∷ ts) (suc k) l = terminal_stands ts k (omega (arith, l))

pub terminal_is : (ts : List Terminal) (k : ℕ) (t : Terminal) → Stands ts k t → terminal_at ts k ≡ t
terminal_is ts k t s = ap (λ (o : Option Terminal). unwrap_or o (port (record { text = []; bit = None }))) s

in_pairs : (ts : List Terminal) (js : List (ℕ × ℕ)) (p : ℕ × ℕ) → In p js → In (terminal_at ts p.0, terminal_at ts p.1) (pairs_at ts js)
in_pairs ts (q ∷ js) p here = here
in_pairs ts (q ∷ js) p (there i) = there (in_pairs ts js p i)
in_pairs ts [] p i = elim i [ ]

pairs_in : (ts : List Terminal) (js : List (ℕ × ℕ)) (t : Terminal × Terminal) → In t (pairs_at ts js) → (p : ℕ × ℕ) × In p js × ((terminal_at ts p.0, terminal_at ts p.1) ≡ t)
pairs_in ts [] t i = elim i [ ]
pairs_in ts (p ∷ js) t here = (p, here, refl)
pairs_in ts (p ∷ js) t (there i) = let r = pairs_in ts js t i in (r.0, there r.1, r.2)

pub numbers_to_terminals : (ts : List Terminal) (js : List (ℕ × ℕ)) → AreWithin (length ts) js → {p q : ℕ} → Joined js p q → (a b : Terminal) → Stands ts p a → Stands ts q b → Joined (pairs_at ts js) a b
numbers_to_terminals ts js within {p} {q} same a b s t = subst (λ (x : Terminal). Joined (pairs_at ts js) a x) (stands_same ts q a b s t) same
numbers_to_terminals ts js within {p} {q} (along {b = r} i rest) a b s t =
    let w = within_of (length ts) js (p, r) within i in
    let e : terminal_at ts p ≡ a = terminal_is ts p a s in
    along (subst (λ (x : Terminal). In (x, terminal_at ts r) (pairs_at ts js)) e (in_pairs ts js (p, r) i)) (numbers_to_terminals ts js within rest (terminal_at ts r) b (terminal_stands ts r w.1) t)
numbers_to_terminals ts js within {p} {q} (against {a = r} i rest) a b s t =
    let w = within_of (length ts) js (r, p) within i in
    let e : terminal_at ts p ≡ a = terminal_is ts p a s in
    against (subst (λ (x : Terminal). In (terminal_at ts r, x) (pairs_at ts js)) e (in_pairs ts js (r, p) i)) (numbers_to_terminals ts js within rest (terminal_at ts r) b (terminal_stands ts r w.0) t)

at_terminal : (ts : List Terminal) → NoneTwice ts → (k p : ℕ) (a : Terminal) → k < length ts → terminal_at ts k ≡ a → Stands ts p a → k ≡ p
at_terminal ts once k p a l e s = once k p a (subst (λ (x : Terminal). Stands ts k x) e (terminal_stands ts k l)) s

pub terminals_to_numbers : (ts : List Terminal) (js : List (ℕ × ℕ)) → NoneTwice ts → AreWithin (length ts) js → {a b : Terminal} → Joined (pairs_at ts js) a b → (p q : ℕ) → Stands ts p a → Stands ts q b → Joined js p q
terminals_to_numbers ts js once within {a} {b} same p q s t = subst (λ k. Joined js p k) (once p q a s t) same
terminals_to_numbers ts js once within {a} {b} (along {b = c} i rest) p q s t =
    let r = pairs_in ts js (a, c) i in
    let w = within_of (length ts) js r.0 within r.1 in
    let first : terminal_at ts r.0.0 ≡ a = ap (λ (x : Terminal × Terminal). x.0) r.2 in
    let second : terminal_at ts r.0.1 ≡ c = ap (λ (x : Terminal × Terminal). x.1) r.2 in
    let e : r.0.0 ≡ p = at_terminal ts once r.0.0 p a w.0 first s in
    along (subst (λ k. In (k, r.0.1) js) e r.1) (terminals_to_numbers ts js once within rest r.0.1 q (subst (λ (x : Terminal). Stands ts r.0.1 x) second (terminal_stands ts r.0.1 w.1)) t)
terminals_to_numbers ts js once within {a} {b} (against {a = c} i rest) p q s t =
    let r = pairs_in ts js (c, a) i in
    let w = within_of (length ts) js r.0 within r.1 in
    let first : terminal_at ts r.0.0 ≡ c = ap (λ (x : Terminal × Terminal). x.0) r.2 in
    let second : terminal_at ts r.0.1 ≡ a = ap (λ (x : Terminal × Terminal). x.1) r.2 in
    let e : r.0.1 ≡ p = at_terminal ts once r.0.1 p a w.1 second s in
    against (subst (λ k. In (r.0.0, k) js) e r.1) (terminals_to_numbers ts js once within rest r.0.0 q (subst (λ (x : Terminal). Stands ts r.0.0 x) first (terminal_stands ts r.0.0 w.0)) t)
