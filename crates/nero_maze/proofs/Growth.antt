-- Trees that begin, or get a path, and the log that tells of it.
use Rattle.std.proofs.Common.{ℕ, zero, suc, ◌≡◌, ◌≢◌, ◌-◌, ◌<◌, ◌≤◌, ◌⊎◌, inl, inr, List, [], ◌∷◌, ◌++◌, map, length, Bool, true, false, Option, Some, None, slice_index, arith, sym, ◌∙◌, ap, refl, subst, nat_eq, nat_lt}
use Rattle.std.specs.Prelude.{flat_map}
use Rattle.std.proofs.lemmas.Bool.{cases_eq, eqb-true, ltb-true, eq-eqb, lt-ltb}
use Rattle.vlsi_base.specs.Member.{In, here, there}
use Rattle.grid_core.specs.declared.grid.Grid.{Grid}
use Rattle.grid_core.specs.declared.grid.Node.{Node}
use Rattle.grid_core.specs.Numbers.{nodes, node_of}
use Rattle.grid_core.specs.Routes.{Tree, NetRoutes, tree_nodes, with_start, with_path}
use Rattle.grid_core.proofs.Owners.{first_or}
use Rattle.nero_maze.specs.Claims.{Told}
use Rattle.nero_maze.specs.Routing.{Move, Began, Joined, routes_of, IsPoint}
use Rattle.nero_maze.specs.Board.{follow, move_at, moves_in, AreBegun}
use Rattle.nero_maze.proofs.Claiming.{Told-more}

-- ---- trees
-- the nodes of one net's tree are more by some, those of the others stay
pub record Grows (r r' : NetRoutes) (net : ℕ) (path : List Node) : Type 0 where
  pub either : (k : ℕ) (q : Node) → In q (tree_nodes (r' k)) → In q (tree_nodes (r k)) ⊎ ((k ≡ net) × In q path)
  pub old : (k : ℕ) (q : Node) → In q (tree_nodes (r k)) → In q (tree_nodes (r' k))
  pub fresh : (q : Node) → In q path → In q (tree_nodes (r' net))

test_same : (k net : ℕ) → k ≡ net → nat_eq k net ≡ true
test_same k net e = eq-eqb k net e

pub test_other : (k net : ℕ) → k ≢ net → nat_eq k net ≡ false
test_other k net ne = by (nat_eq k net) refl
  where
    by : (b : Bool) → nat_eq k net ≡ b → nat_eq k net ≡ false
    by true e = absurd (ne (eqb-true k net e))
    by false e = e

join_either : (xs ys : List Node) (q : Node) → In q (xs ++ ys) → In q xs ⊎ In q ys
join_either [] ys q h = inr h
join_either (x ∷ xs) ys q here = inl here
join_either (x ∷ xs) ys q (there h) = elim (join_either xs ys q h) [ inl a ↦ inl (there a) | inr a ↦ inr a ]

join_left : (xs ys : List Node) (q : Node) → In q xs → In q (xs ++ ys)
join_left [] ys q h = elim h [ ]
join_left (x ∷ xs) ys q here = here
join_left (x ∷ xs) ys q (there h) = there (join_left xs ys q h)

join_right : (xs ys : List Node) (q : Node) → In q ys → In q (xs ++ ys)
join_right [] ys q h = h
join_right (x ∷ xs) ys q h = there (join_right xs ys q h)

more_either : (ps : List (List Node)) (path : List Node) (q : Node) → In q (flat_map (λ p. p) (ps ++ path ∷ [])) → In q (flat_map (λ p. p) ps) ⊎ In q path
more_either [] path q h = elim (join_either path [] q h) [ inl a ↦ inr a | inr a ↦ elim a [ ] ]
more_either (p ∷ ps) path q h = elim (join_either p (flat_map (λ x. x) (ps ++ path ∷ [])) q h) [
  | inl a ↦ inl (join_left p (flat_map (λ x. x) ps) q a)
  | inr a ↦ elim (more_either ps path q a) [ inl b ↦ inl (join_right p (flat_map (λ x. x) ps) q b) | inr b ↦ inr b ]
]

more_old : (ps : List (List Node)) (path : List Node) (q : Node) → In q (flat_map (λ p. p) ps) → In q (flat_map (λ p. p) (ps ++ path ∷ []))
more_old [] path q h = elim h [ ]
more_old (p ∷ ps) path q h = elim (join_either p (flat_map (λ x. x) ps) q h) [
  | inl a ↦ join_left p (flat_map (λ x. x) (ps ++ path ∷ [])) q a
  | inr a ↦ join_right p (flat_map (λ x. x) (ps ++ path ∷ [])) q (more_old ps path q a)
]

more_new : (ps : List (List Node)) (path : List Node) (q : Node) → In q path → In q (flat_map (λ p. p) (ps ++ path ∷ []))
more_new [] path q h = join_left path [] q h
more_new (p ∷ ps) path q h = join_right p (flat_map (λ x. x) (ps ++ path ∷ [])) q (more_new ps path q h)

pub joined_grows : (r : NetRoutes) (net : ℕ) (path : List Node) (t : Tree) → r net ≡ Some t → Grows r (with_path r net path) net path
joined_grows r net path t is =
    let at : (k : ℕ) → k ≡ net → with_path r net path k ≡ Some (record { start = t.start; paths = t.paths ++ path ∷ [] }) =
    λ k e. rw (test_same k net e, is) refl in
    let off : (k : ℕ) → k ≢ net → with_path r net path k ≡ r k = λ k ne. rw (test_other k net ne) refl in
    let was : (k : ℕ) → k ≡ net → r k ≡ Some t = λ k e. ap r e ∙ is in
    record {
      either = λ k q h. elim (cases_eq k net) [
        | inr ne ↦ inl (subst (λ (o : Option Tree). In q (tree_nodes o)) (off k ne) h)
        | inl e ↦ (
            let h' = subst (λ (o : Option Tree). In q (tree_nodes o)) (at k e) h in
            elim (first_or q t.start (flat_map (λ p. p) (t.paths ++ path ∷ [])) h') [
              | inl s ↦ inl (subst (λ (o : Option Tree). In q (tree_nodes o)) (sym (was k e)) (subst (λ (x : Node). In q (x ∷ flat_map (λ p. p) t.paths)) s here))
              | inr m ↦ elim (more_either t.paths path q m) [
                | inl a ↦ inl (subst (λ (o : Option Tree). In q (tree_nodes o)) (sym (was k e)) (there a))
                | inr a ↦ inr (e, a)
              ]
            ])
      ];
      old = λ k q h. elim (cases_eq k net) [
        | inr ne ↦ subst (λ (o : Option Tree). In q (tree_nodes o)) (sym (off k ne)) h
        | inl e ↦ (
            let h' = subst (λ (o : Option Tree). In q (tree_nodes o)) (was k e) h in
            subst (λ (o : Option Tree). In q (tree_nodes o)) (sym (at k e)) (elim (first_or q t.start (flat_map (λ p. p) t.paths) h') [
              | inl s ↦ subst (λ (x : Node). In q (x ∷ flat_map (λ p. p) (t.paths ++ path ∷ []))) s here
              | inr m ↦ there (more_old t.paths path q m)
            ]))
      ];
      fresh = λ q h. subst (λ (o : Option Tree). In q (tree_nodes o)) (sym (at net refl)) (there (more_new t.paths path q h));
    }

pub began_grows : (r : NetRoutes) (net : ℕ) (q0 : Node) → r net ≡ None → Grows r (with_start r net q0) net (q0 ∷ [])
began_grows r net q0 is =
    let at : (k : ℕ) → k ≡ net → with_start r net q0 k ≡ Some (record { start = q0; paths = [] }) = λ k e. rw (test_same k net e) refl in
    let off : (k : ℕ) → k ≢ net → with_start r net q0 k ≡ r k = λ k ne. rw (test_other k net ne) refl in
    record {
      either = λ k q h. elim (cases_eq k net) [
        | inr ne ↦ inl (subst (λ (o : Option Tree). In q (tree_nodes o)) (off k ne) h)
        | inl e ↦ inr (e, subst (λ (o : Option Tree). In q (tree_nodes o)) (at k e) h)
      ];
      old = λ k q h. elim (cases_eq k net) [
        | inr ne ↦ subst (λ (o : Option Tree). In q (tree_nodes o)) (sym (off k ne)) h
        | inl e ↦ (let h' = subst (λ (o : Option Tree). In q (tree_nodes o)) (ap r e ∙ is) h in elim h' [ ])
      ];
      fresh = λ q h. subst (λ (o : Option Tree). In q (tree_nodes o)) (sym (at net refl)) h;
    }

-- ---- the log
pub follow_told : (g : Grid) (links : List ℕ) (fuel q : ℕ) (rest : List ℕ) → Told g links q rest → length rest ≤ fuel → follow g links fuel q ≡ rest
follow_told g l fuel q [] t le = absurd t
follow_told g l zero q (p ∷ rest) t le = let impossible : ⊥ = omega arith in absurd impossible
follow_told g l (suc fuel) q (p ∷ []) (k, k4, link, is) le =
    let test : nat_lt (slice_index l q) 5 ≡ false = high (slice_index l q) (omega arith) in
    let way : slice_index l q - 5 ≡ k = omega arith in
    rw (test, way, is) refl
  where
    high : (n : ℕ) → 5 ≤ n → nat_lt n 5 ≡ false
    high n le' = by (nat_lt n 5) refl
      where
        by : (b : Bool) → nat_lt n 5 ≡ b → nat_lt n 5 ≡ false
        by true e = let lt = ltb-true n 5 e in let impossible : ⊥ = omega arith in absurd impossible
        by false e = e
follow_told g l (suc fuel) q (p ∷ r ∷ rest) (k, k4, link, is, more) le =
    let test : nat_lt (slice_index l q) 5 ≡ true = lt-ltb (slice_index l q) 5 (omega arith) in
    let way : slice_index l q - 1 ≡ k = omega arith in
    let le' : length (r ∷ rest) ≤ fuel = omega arith in
    rw (test, way, is) (ap (λ (xs : List ℕ). p ∷ xs) (follow_told g l fuel p (r ∷ rest) more le'))

-- what a node of the log tells stays
pub move_same : (g : Grid) (o l m o' l' m' : List ℕ) (v : ℕ) → slice_index o' v ≡ slice_index o v → slice_index l' v ≡ slice_index l v → slice_index m' v ≡ slice_index m v
    → (slice_index m v ≢ 2 → slice_index l v ≢ 9 → (rest : List ℕ) × Told g l v rest × (length rest ≤ nodes g))
    → ((w : ℕ) → slice_index l w ≢ 0 → slice_index l' w ≡ slice_index l w)
    → move_at g o' l' m' v ≡ move_at g o l m v
move_same g o l m o' l' m' v eo el em told stays =
    elim (cases_eq (slice_index m v) 2) [
      | inl two ↦ rw (eo, em, eq-eqb (slice_index m v) 2 two) refl
      | inr not_two ↦ elim (cases_eq (slice_index l v) 9) [
        | inl nine ↦ rw (eo, em, el, test_other (slice_index m v) 2 not_two, eq-eqb (slice_index l v) 9 nine) refl
        | inr not_nine ↦ (
            let (rest, t, short) = told not_two not_nine in
            let before = follow_told g l (nodes g) v rest t short in
            let after = follow_told g l' (nodes g) v rest (Told-more g l l' stays v rest t) short in
            rw (eo, em, el, test_other (slice_index m v) 2 not_two, test_other (slice_index l v) 9 not_nine, before, after) refl)
      ]
    ]

pub moves_same : (g : Grid) (o l m ord o' l' m' ord' : List ℕ) (n : ℕ)
    → ((i : ℕ) → i < n → move_at g o' l' m' (slice_index ord' i) ≡ move_at g o l m (slice_index ord i))
    → moves_in g o' l' m' ord' n ≡ moves_in g o l m ord n
moves_same g o l m ord o' l' m' ord' zero f = refl
moves_same g o l m ord o' l' m' ord' (suc n) f =
    let e = f n (omega arith) in
    let rest = moves_same g o l m ord o' l' m' ord' n (λ i lt. f i (omega arith)) in
    rw (e, rest) refl

-- what is asked of a target: a node of the log is a point of its net's tree
ends_more : (ps : List (List Node)) (path : List Node) (one : List Node) → In one ps → In one (ps ++ path ∷ [])
ends_more [] path one h = elim h [ ]
ends_more (p ∷ ps) path one here = here
ends_more (p ∷ ps) path one (there h) = there (ends_more ps path one h)

ends_last : (ps : List (List Node)) (path : List Node) → In path (ps ++ path ∷ [])
ends_last [] path = here
ends_last (p ∷ ps) path = there (ends_last ps path)

pub point_stays : (m : Move) (before : List Move) (net : ℕ) (q : Node) → AreBegun (m ∷ before) → IsPoint (routes_of before net) q → IsPoint (routes_of (m ∷ before) net) q
point_stays (Began k p) before net q h is = elim (cases_eq net k) [
  | inl e ↦ (let none : routes_of before net ≡ None = ap (routes_of before) e ∙ h.0 in absurd (subst (λ (o : Option Tree). IsPoint o q) none is))
  | inr ne ↦ rw (test_other net k ne) is
]
point_stays (Joined k path) before net q h is = elim (cases_eq net k) [
  | inl e ↦ (
      let (t, at) = h.0 in
      let at' : routes_of before net ≡ Some t = ap (routes_of before) e ∙ at in
      let old : IsPoint (Some t) q = subst (λ (o : Option Tree). IsPoint o q) at' is in
      rw (test_same net k e, at) (elim old [ inl s ↦ inl s | inr (rest, i) ↦ inr (rest, ends_more t.paths path (q ∷ rest) i) ]))
  | inr ne ↦ rw (test_other net k ne) is
]

pub point_new : (g : Grid) (o l m : List ℕ) (v : ℕ) (before : List Move) → AreBegun (move_at g o l m v ∷ before)
    → IsPoint (routes_of (move_at g o l m v ∷ before) (slice_index o v)) (node_of g v)
point_new g o l m v before h = elim (cases_eq (slice_index m v) 2) [
  | inl two ↦ (let e = eq-eqb (slice_index m v) 2 two in rw e (by_join (node_of g v ∷ []) [] refl (rw e at h)))
  | inr not_two ↦ (
      let e = test_other (slice_index m v) 2 not_two in
      elim (cases_eq (slice_index l v) 9) [
        | inl nine ↦ (let e' = eq-eqb (slice_index l v) 9 nine in rw (e, e', test_same (slice_index o v) (slice_index o v) refl) (inl refl))
        | inr not_nine ↦ (
            let e' = test_other (slice_index l v) 9 not_nine in
            rw (e, e') (by_join (map (node_of g) (v ∷ follow g l (nodes g) v)) (map (node_of g) (follow g l (nodes g) v)) refl (rw (e, e') at h)))
      ])
]
  where
    by_join : (path rest : List Node) → path ≡ node_of g v ∷ rest → AreBegun (Joined (slice_index o v) path ∷ before)
        → IsPoint (routes_of (Joined (slice_index o v) path ∷ before) (slice_index o v)) (node_of g v)
    by_join path rest is b =
        let (t, at) = b.0 in
        rw (test_same (slice_index o v) (slice_index o v) refl, at) (inr (rest, subst (λ (p : List Node). In p (t.paths ++ path ∷ [])) is (ends_last t.paths path)))

pub points_known : (g : Grid) (o l m ord : List ℕ) (n i : ℕ) → i < n → AreBegun (moves_in g o l m ord n)
    → IsPoint (routes_of (moves_in g o l m ord n) (slice_index o (slice_index ord i))) (node_of g (slice_index ord i))
points_known g o l m ord zero i lt h = let impossible : ⊥ = omega arith in absurd impossible
points_known g o l m ord (suc n) i lt h = elim (cases_eq i n) [
  | inl e ↦ (let family : ℕ → Type 0 = λ j. IsPoint (routes_of (moves_in g o l m ord (suc n)) (slice_index o (slice_index ord j))) (node_of g (slice_index ord j)) in
      subst family (sym e) (point_new g o l m (slice_index ord n) (moves_in g o l m ord n) h))
  | inr ne ↦ (
      let less : i < n = omega arith in
      point_stays (move_at g o l m (slice_index ord n)) (moves_in g o l m ord n) (slice_index o (slice_index ord i)) (node_of g (slice_index ord i)) h
      (points_known g o l m ord n i less (later (move_at g o l m (slice_index ord n)) (moves_in g o l m ord n) h)))
]
  where
    later : (m : Move) (before : List Move) → AreBegun (m ∷ before) → AreBegun before
    later (Began k p) before b = b.1
    later (Joined k path) before b = b.1
