-- Terminals that are joined to the heads of their classes.
use Rattle.std.proofs.Common.{◌≡◌, ℕ, zero, suc, ◌+◌, ◌<◌, ◌≤◌, List, [], ◌∷◌, ◌++◌, length, map, take, get_or, refl, sym, ◌∙◌, ap, subst, arith, append_assoc, Some, inl, inr}
use Rattle.std.proofs.lemmas.Bool.{cases_eq}
use Rattle.std.specs.Prelude.{slice_set}
use Rattle.std.specs.List.{All, zip}
use Rattle.std.proofs.lemmas.List.{get_or-set_same, get_or-set_other, length-set, take_all}
use Rattle.vlsi_base.specs.declared.name.Terminal.{Terminal}
use Rattle.vlsi_base.specs.Member.{In, here, there}
use Rattle.net_core.specs.declared.error.BuildError.{BuildError}
use Rattle.net_core.specs.declared.error.BuildError.TheVariants as error
use Rattle.net_core.specs.Places.{Stands, IsThere, NoneTwice}
use Rattle.net_core.specs.Joins.{Draft, Joined, same, along, against, terminal_at, draft_terminals, with_join, IsNoJoin}
use Rattle.net_core.proofs.Joining.{terminal_stands, terminal_is}
use Rattle.net_theory.proofs.Basics.{In-map, In-map_back, length-map}
use Rattle.loon_fanout.specs.Sinks.{class_among}
use Rattle.loon_fanout.specs.Building.{with_joins, AreHeads, joins_of}
use Rattle.loon_fanout.proofs.Terminals.{class_is}

-- ---- heads

pub record HeadsSoFar (classes heads : List ℕ) (count place : ℕ) : Type 0 where
  pub many : length heads ≡ count
  pub each : (i : ℕ) → i < place → (get_or heads (get_or classes i 0) 0 < length classes) × (get_or classes (get_or heads (get_or classes i 0) 0) 0 ≡ get_or classes i 0)

pub heads_step : (classes heads : List ℕ) (count place class : ℕ) → place < length classes → class ≡ get_or classes place 0 → class < count
    → HeadsSoFar classes heads count place → HeadsSoFar classes (slice_set heads class place) count (place + 1)
heads_step classes heads count place class low is inside so_far = record {
  many = length-set heads class place ∙ so_far.many;
  each = λ i before. each i before;
} where
  each : (i : ℕ) → i < place + 1 → (get_or (slice_set heads class place) (get_or classes i 0) 0 < length classes)
      × (get_or classes (get_or (slice_set heads class place) (get_or classes i 0) 0) 0 ≡ get_or classes i 0)
  each i before = elim (cases_eq (get_or classes i 0) class) [
    | inl hit ↦
        let many = so_far.many in
        let new : get_or (slice_set heads class place) (get_or classes i 0) 0 ≡ place =
        ap (λ (k : ℕ). get_or (slice_set heads class place) k 0) hit ∙ get_or-set_same heads class place 0 (omega (arith, inside, many)) in
        (omega (arith, new, low), ap (λ (h : ℕ). get_or classes h 0) new ∙ sym is ∙ sym hit)
    | inr miss ↦
        let old : get_or (slice_set heads class place) (get_or classes i 0) 0 ≡ get_or heads (get_or classes i 0) 0 = get_or-set_other heads class (get_or classes i 0) place 0 miss in
        let earlier : i < place = elim (cases_eq i place) [
          | inl last ↦ absurd (miss (ap (λ (j : ℕ). get_or classes j 0) last ∙ sym is))
          | inr other ↦ omega (arith, before, other)
        ] in
        let r = so_far.each i earlier in
        let below = r.0 in
        (omega (arith, old, below), ap (λ (h : ℕ). get_or classes h 0) old ∙ r.1)
  ]

pub heads_end : (classes heads : List ℕ) (count place : ℕ) → All (λ class. class < count) classes → length classes ≤ place → HeadsSoFar classes heads count place → AreHeads classes heads
heads_end classes heads count place inside over so_far i low =
    let r = so_far.each i (omega (arith, low, over)) in
    let many = so_far.many in
    let below = inside i 0 low in
    (omega (arith, below, many), r.0, r.1)

-- ---- pairs

abbrev paired : List Terminal → List ℕ → Terminal × ℕ → Terminal × Terminal
paired ts heads p = (p.0, terminal_at ts (get_or heads p.1 0))

pairs_next : (all ts : List Terminal) (classes heads : List ℕ) (i : ℕ) (t : Terminal) → i < length ts → length classes ≡ length ts → t ≡ get_or ts i t
    → take (i + 1) (map (paired all heads) (zip ts classes)) ≡ take i (map (paired all heads) (zip ts classes)) ++ (t, terminal_at all (get_or heads (get_or classes i 0) 0)) ∷ []
pairs_next all [] classes heads i t low each is = absurd (omega (arith, low))
pairs_next all (u ∷ ts) [] heads i t low each is = absurd (omega (arith, each))
pairs_next all (u ∷ ts) (k ∷ classes) heads zero t low each is = ap (λ (x : Terminal). (x, terminal_at all (get_or heads k 0)) ∷ []) (sym is)
pairs_next all (u ∷ ts) (k ∷ classes) heads (suc i) t low each is =
    ap (λ (j : ℕ). take j ((u, terminal_at all (get_or heads k 0)) ∷ map (paired all heads) (zip ts classes))) (let e : suc i + 1 ≡ suc (i + 1) = omega arith in e)
    ∙ ap (λ (xs : List (Terminal × Terminal)). (u, terminal_at all (get_or heads k 0)) ∷ xs) (pairs_next all ts classes heads i t (omega (arith, low)) (omega (arith, each)) is)

module _ (d now : Draft) (ts : List Terminal) (classes heads : List ℕ) (i : ℕ) (a b : Terminal) (are : ts ≡ draft_terminals d) (each : length classes ≡ length ts)
    (are_heads : AreHeads classes heads) (so_far : now ≡ with_joins d (take i (joins_of ts classes heads))) (low : i < length ts)
    (is_a : a ≡ get_or ts i a) (is_b : b ≡ get_or ts (get_or heads (get_or classes i 0) 0) b) where
  at_a : Stands ts i a
  at_a = subst (Stands ts i) (at ∙ sym is_a) (terminal_stands ts i low) where
    at : terminal_at ts i ≡ get_or ts i a
    at = terminal_is ts i (get_or ts i a) (stands ts i low) where
      stands : (us : List Terminal) (j : ℕ) → j < length us → Stands us j (get_or us j a)
      stands [] j l = absurd (omega (arith, l))
      stands (u ∷ us) zero l = refl
      stands (u ∷ us) (suc j) l = stands us j (omega (arith, l))

  head_low : get_or heads (get_or classes i 0) 0 < length ts
  head_low = let h = (are_heads i (omega (arith, low, each))).1 in omega (arith, h, each)

  b_is : terminal_at ts (get_or heads (get_or classes i 0) 0) ≡ b
  b_is = terminal_is ts (get_or heads (get_or classes i 0) 0) b (stands ts (get_or heads (get_or classes i 0) 0) head_low is_b) where
    stands : (us : List Terminal) (j : ℕ) → j < length us → b ≡ get_or us j b → Stands us j b
    stands [] j l e = absurd (omega (arith, l))
    stands (u ∷ us) zero l e = ap Some (sym e)
    stands (u ∷ us) (suc j) l e = stands us j (omega (arith, l)) e

  at_b : Stands ts (get_or heads (get_or classes i 0) 0) b
  at_b = subst (Stands ts (get_or heads (get_or classes i 0) 0)) b_is (terminal_stands ts (get_or heads (get_or classes i 0) 0) head_low)

  same_terminals : draft_terminals now ≡ ts
  same_terminals = ap draft_terminals so_far ∙ sym are

  pub join_memory : (fault : BuildError) → IsNoJoin now a b fault → fault ≡ error.Memory
  join_memory error.Memory h = refl
  join_memory error.Unknown h =
      absurd (h (subst (λ (us : List Terminal). IsThere us a) (sym same_terminals) (i, at_a)) (subst (λ (us : List Terminal). IsThere us b) (sym same_terminals) (get_or heads (get_or classes i 0) 0, at_b)))
  join_memory error.Twice h = absurd h

  pub joined_now : (next : Draft) → next ≡ with_join now a b → next ≡ with_joins d (take (i + 1) (joins_of ts classes heads))
  joined_now next step =
      step
      ∙ ap (λ (x : Draft). with_join x a b) so_far
      ∙ ap (λ (xs : List (Terminal × Terminal)). record d { joins = xs })
      (append_assoc d.joins (take i (joins_of ts classes heads)) ((a, b) ∷ [])
      ∙ ap (λ (xs : List (Terminal × Terminal)). d.joins ++ xs)
      (ap (λ (x : Terminal). take i (joins_of ts classes heads) ++ (a, x) ∷ []) (sym b_is) ∙ sym (pairs_next ts ts classes heads i a low each is_a)))

zip_many : (ts : List Terminal) (ks : List ℕ) → length ks ≡ length ts → length (zip ts ks) ≡ length ts
zip_many [] ks h = refl
zip_many (t ∷ ts) [] h = absurd (omega (arith, h))
zip_many (t ∷ ts) (k ∷ ks) h = let r = zip_many ts ks (omega (arith, h)) in omega (arith, r)

pub joined_all : (d now : Draft) (ts : List Terminal) (classes heads : List ℕ) (i : ℕ) → length classes ≡ length ts → length ts ≤ i
    → now ≡ with_joins d (take i (joins_of ts classes heads)) → now ≡ with_joins d (joins_of ts classes heads)
joined_all d now ts classes heads i each over so_far =
    let many = length-map (paired ts heads) (zip ts classes) in
    let zipped = zip_many ts classes each in
    so_far ∙ ap (with_joins d) (take_all i (joins_of ts classes heads) (omega (arith, many, zipped, over)))

-- ---- classes

zip_in : (ts : List Terminal) (classes : List ℕ) (i : ℕ) (t : Terminal) (k : ℕ) → Stands ts i t → Stands classes i k → In (t, k) (zip ts classes)
zip_in [] classes i t k p q = absurd cc
zip_in (u ∷ ts) [] i t k p q = absurd cc
zip_in (u ∷ ts) (c ∷ classes) zero t k p q = let a : u ≡ t = cc in let b : c ≡ k = cc in
    subst (λ (x : Terminal). In (x, k) ((u, c) ∷ zip ts classes)) a (subst (λ (x : ℕ). In (u, x) ((u, c) ∷ zip ts classes)) b here)
zip_in (u ∷ ts) (c ∷ classes) (suc i) t k p q = there (zip_in ts classes i t k p q)

zip_out : (ts : List Terminal) (classes : List ℕ) (p : Terminal × ℕ) → In p (zip ts classes) → (i : ℕ) × Stands ts i p.0 × Stands classes i p.1
zip_out [] classes p h = elim h [ ]
zip_out (u ∷ ts) [] p h = elim h [ ]
zip_out (u ∷ ts) (c ∷ classes) p here = (0, refl, refl)
zip_out (u ∷ ts) (c ∷ classes) p (there h) = let r = zip_out ts classes p h in (suc r.0, r.1, r.2)

module _ (ts : List Terminal) (classes heads : List ℕ) (once : NoneTwice ts) (each : length classes ≡ length ts) (are_heads : AreHeads classes heads) where
  abbrev joins : List (Terminal × Terminal)
  joins = joins_of ts classes heads

  number_at : (i : ℕ) (t : Terminal) → Stands ts i t → (k : ℕ) × Stands classes i k × (get_or classes i 0 ≡ k) × (i < length classes)
  number_at i t h = find ts classes each i h where
    find : (us : List Terminal) (ks : List ℕ) → length ks ≡ length us → (j : ℕ) → Stands us j t → (k : ℕ) × Stands ks j k × (get_or ks j 0 ≡ k) × (j < length ks)
    find [] ks alike j s = absurd cc
    find (u ∷ us) [] alike j s = absurd (omega (arith, alike))
    find (u ∷ us) (k ∷ ks) alike zero s = (k, refl, refl, omega arith)
    find (u ∷ us) (k ∷ ks) alike (suc j) s = let r = find us ks (omega (arith, alike)) j s in (r.0, r.1, r.2, (let low = r.3 in omega (arith, low)))

  -- the pair of a terminal
  pair_in : (i : ℕ) (t : Terminal) (k : ℕ) → Stands ts i t → Stands classes i k → In (t, terminal_at ts (get_or heads k 0)) joins
  pair_in i t k p q = In-map (paired ts heads) (t, k) (zip ts classes) (zip_in ts classes i t k p q)

  pub star_out : (a b : Terminal) → IsThere ts a → IsThere ts b → class_among ts classes a ≡ class_among ts classes b → Joined joins a b
  star_out a b (i, p) (j, q) e =
      let m = number_at i a p in
      let n = number_at j b q in
      let k_is : m.0 ≡ n.0 = sym (class_is ts classes a i m.0 once p m.1) ∙ e ∙ class_is ts classes b j n.0 once q n.1 in
      let mine = pair_in i a m.0 p m.1 in
      let other = subst (λ (k : ℕ). In (b, terminal_at ts (get_or heads k 0)) joins) (sym k_is) (pair_in j b n.0 q n.1) in
      along mine (against other same)

  pair_same : (x y : Terminal) → In (x, y) joins → class_among ts classes x ≡ class_among ts classes y
  pair_same x y h =
      let p = In-map_back (paired ts heads) (x, y) (zip ts classes) h in
      let at = zip_out ts classes p.0 p.1 in
      let n = number_at at.0 p.0.0 at.1 in
      let k_is : n.0 ≡ p.0.1 = sym (class_is ts classes p.0.0 at.0 n.0 once at.1 n.1) ∙ class_is ts classes p.0.0 at.0 p.0.1 once at.1 at.2 in
      let head = are_heads at.0 n.3 in
      let own : get_or classes at.0 0 ≡ p.0.1 = n.2 ∙ k_is in
      let hd : ℕ = get_or heads p.0.1 0 in
      let hd_low : hd < length classes = subst (λ (k : ℕ). get_or heads k 0 < length classes) own head.1 in
      let hd_class : get_or classes hd 0 ≡ p.0.1 = subst (λ (k : ℕ). get_or classes (get_or heads k 0) 0 ≡ k) own head.2 in
      let stands = terminal_stands ts hd (omega (arith, hd_low, each)) in
      let m = number_at hd (terminal_at ts hd) stands in
      let left : class_among ts classes p.0.0 ≡ p.0.1 = class_is ts classes p.0.0 at.0 p.0.1 once at.1 at.2 in
      let right : class_among ts classes (terminal_at ts hd) ≡ p.0.1 = class_is ts classes (terminal_at ts hd) hd m.0 once stands m.1 ∙ sym m.2 ∙ hd_class in
      let x_is : p.0.0 ≡ x = ap (λ (t : Terminal × Terminal). t.0) p.2 in
      let y_is : terminal_at ts hd ≡ y = ap (λ (t : Terminal × Terminal). t.1) p.2 in
      ap (class_among ts classes) (sym x_is) ∙ left ∙ sym right ∙ ap (class_among ts classes) y_is

  pub star_back : {a b : Terminal} → Joined joins a b → class_among ts classes a ≡ class_among ts classes b
  star_back same = refl
  star_back (along {a = a} {b = b} h rest) = pair_same a b h ∙ star_back rest
  star_back (against {a = a} {b = b} h rest) = sym (pair_same a b h) ∙ star_back rest
