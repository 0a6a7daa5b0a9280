-- The nodes of a function's diagram, step by step.
use Rattle.std.proofs.Common.{◌≡◌, ◌⊎◌, inl, inr, ℕ, zero, suc, ◌<◌, Bool, List, [], ◌∷◌, ◌++◌, length, map, refl, sym, subst, arith}
use Rattle.std.specs.List.{Contains, slice_index_or}
use Rattle.std.proofs.lemmas.List.{length-map}
use Rattle.vlsi_base.specs.Member.{In, here, there, AllDifferent}
use Rattle.bdd_core.specs.declared.node.NodeId.{NodeId}
use Rattle.bdd_core.specs.Truths.{Truths, constant, IsPart, IsUneven, IsCounted, IsDistinct, IsCountOf}
use Rattle.bdd_core.specs.Branching.{IsBranch}
use Rattle.bdd_core.specs.Nodes.{raised, IsWhole}
use Rattle.bdd_core.specs.Diagram.{Diagram, IsNode, function_of, list_of, IsSplit}
use Rattle.bdd_core.proofs.Raised.{part-itself, part-raised_to}
use Rattle.boom_choose.specs.Dag.{Stands, AreSeen, HasSeen, Notes}
use Rattle.boom_choose.proofs.Parts.{below, even_part, part-in_raised_to}

-- ---- members

in_first : (a : NodeId) (xs ys : List NodeId) → In a xs → In a (xs ++ ys)
in_first a (x ∷ xs) ys here = here
in_first a (x ∷ xs) ys (there h) = there (in_first a xs ys h)
in_first a [] ys h = elim h [ ]

in_last : (a : NodeId) (xs : List NodeId) → In a (xs ++ a ∷ [])
in_last a [] = here
in_last a (x ∷ xs) = there (in_last a xs)

of_last : (a b : NodeId) (xs : List NodeId) → In a (xs ++ b ∷ []) → In a xs ⊎ (a ≡ b)
of_last a b [] here = inr refl
of_last a b [] (there h) = elim h [ ]
of_last a b (x ∷ xs) here = inl here
of_last a b (x ∷ xs) (there h) = elim (of_last a b xs h) [ inl i ↦ inl (there i) | inr e ↦ inr e ]

once_last : (a : NodeId) (xs : List NodeId) → AllDifferent xs → (In a xs → ⊥) → AllDifferent (xs ++ a ∷ [])
once_last a [] once new = (λ h. elim h [ ], tt)
once_last a (x ∷ xs) once new = (
  λ h. elim (of_last x a xs h) [ inl i ↦ once.0 i | inr e ↦ new (subst (λ (n : NodeId). In n (x ∷ xs)) e here) ],
  once_last a xs once.1 (λ h. new (there h)),
)

-- ---- the steps

module _ (d : Diagram) where
  more : (old new : List NodeId) → ((a : NodeId) → In a old → In a new) → (x : Truths) → Stands d old x → Stands d new x
  more old new kept x s = (s.0, kept s.0 s.1, s.2)

  -- nothing was seen
  pub none_seen : AreSeen d []
  none_seen = record {
    node = λ a h. elim h [ ];
    uneven = λ a h. elim h [ ];
    once = tt;
    closed = λ a h. elim h [ ];
  }

  -- a constant has no nodes
  pub of_constant : (at : NodeId) (seen : List NodeId) → AreSeen d seen → (b : Bool) × (function_of d at ≡ raised d.table.vars (constant b)) → HasSeen d at seen seen
  of_constant at seen are c = record {
    seen = are;
    kept = λ a h. h;
    all = λ x odd part. absurd (even_part d.table.vars c.0 x odd (subst (IsPart x) c.1 (part-in_raised_to d.table.vars (list_of d at) x part)));
    parts = λ a h. inl h;
  }

  -- all nodes below one that was seen were seen
  pub again : (at : NodeId) (seen : List NodeId) → AreSeen d seen → In at seen → HasSeen d at seen seen
  again at seen are there_it = record {
    seen = are;
    kept = λ a h. h;
    all = λ x odd part. are.closed at there_it x odd part;
    parts = λ a h. inl h;
  }

  -- behind both nodes below
  pub last : (at low high : NodeId) (v : ℕ) (k0 k1 k2 k3 : List NodeId) → IsNode d at → IsSplit d at low high
      → IsBranch d.table.vars (function_of d at) v (function_of d low) (function_of d high)
      → HasSeen d low k0 k1 → HasSeen d high k1 k2 → Notes at k2 k3 → HasSeen d at k0 k3
  last at low high v k0 k1 k2 k3 node split branch g h (inl n) = subst (λ (k : List NodeId). HasSeen d at k0 k) (sym n.1) (record {
    seen = h.seen;
    kept = λ a i. h.kept a (g.kept a i);
    all = λ x odd part. h.seen.closed at n.0 x odd part;
    parts = λ a i. both a (h.parts a i);
  }) where
    both : (a : NodeId) → In a k1 ⊎ IsPart (list_of d a) (list_of d high) → In a k0 ⊎ IsPart (list_of d a) (list_of d at)
    both a (inl i) = elim (g.parts a i) [ inl j ↦ inl j | inr p ↦ inr (split.low (list_of d a) p) ]
    both a (inr p) = inr (split.high (list_of d a) p)
  last at low high v k0 k1 k2 k3 node split branch g h (inr n) = subst (λ (k : List NodeId). HasSeen d at k0 k) (sym n.1) (record {
    seen = record {
      node = λ a i. elim (of_last a at k2 i) [ inl j ↦ h.seen.node a j | inr e ↦ subst (IsNode d) (sym e) node ];
      uneven = λ a i. elim (of_last a at k2 i) [ inl j ↦ h.seen.uneven a j | inr e ↦ subst (λ (b : NodeId). IsUneven (list_of d b)) (sym e) split.uneven ];
      once = once_last at k2 h.seen.once n.0;
      closed = λ a i x odd part. elim (of_last a at k2 i) [
        | inl j ↦ more k2 (k2 ++ at ∷ []) (λ b q. in_first b k2 (at ∷ []) q) x (h.seen.closed a j x odd part)
        | inr e ↦ all x odd (subst (λ (b : NodeId). IsPart x (list_of d b)) e part)
      ];
    };
    kept = λ a i. in_first a k2 (at ∷ []) (h.kept a (g.kept a i));
    all = all;
    parts = λ a i. elim (of_last a at k2 i) [ inl j ↦ both a (h.parts a j) | inr e ↦ inr (subst (λ (b : NodeId). IsPart (list_of d a) (list_of d b)) e (part-itself (list_of d a))) ];
  }) where
    both : (a : NodeId) → In a k1 ⊎ IsPart (list_of d a) (list_of d high) → In a k0 ⊎ IsPart (list_of d a) (list_of d at)
    both a (inl i) = elim (g.parts a i) [ inl j ↦ inl j | inr p ↦ inr (split.low (list_of d a) p) ]
    both a (inr p) = inr (split.high (list_of d a) p)

    all : (x : Truths) → IsUneven x → IsPart x (list_of d at) → Stands d (k2 ++ at ∷ []) x
    all x odd part = by (below d.table.vars v (list_of d at) (list_of d low) (list_of d high) split.uneven branch x odd part) where
      by : (x ≡ list_of d at) ⊎ (IsPart x (list_of d low) ⊎ IsPart x (list_of d high)) → Stands d (k2 ++ at ∷ []) x
      by (inl e) = (at, in_last at k2, sym e)
      by (inr (inl p)) = more k1 (k2 ++ at ∷ []) (λ b q. in_first b k2 (at ∷ []) (h.kept b q)) x (g.all x odd p)
      by (inr (inr p)) = more k2 (k2 ++ at ∷ []) (λ b q. in_first b k2 (at ∷ []) q) x (h.all x odd p)

-- ---- the count

contained : {A : Type 0} (x : A) (xs : List A) → In x xs → Contains xs x
contained x (y ∷ xs) here = (0, omega arith, refl)
contained x (y ∷ xs) (there h) = let c = contained x xs h in (suc c.0, (let w = c.1 in omega (arith, w)), c.2)
contained x [] h = elim h [ ]

-- the first one, or one behind it
split_first : {A : Type 0} (y : A) (xs : List A) (x : A) → In x (y ∷ xs) → (x ≡ y) ⊎ In x xs
split_first y xs x here = inl refl
split_first y xs x (there h) = inr h

found : {A : Type 0} (x : A) (xs : List A) → Contains xs x → In x xs
found {A = A} x xs c = at xs c.0 c.1 c.2 where
  at : (ys : List A) (k : ℕ) → k < length ys → slice_index_or ys k x ≡ x → In x ys
  at [] k w e = absurd (omega arith)
  at (y ∷ ys) zero w e = subst (λ z. In x (z ∷ ys)) (sym e) here
  at (y ∷ ys) (suc k) w e = there (at ys k (omega arith) e)

module _ (d : Diagram) (whole : IsWhole d.table) where
  -- nodes of one list are one node
  one_node : (a b : NodeId) → IsNode d a → IsNode d b → list_of d a ≡ list_of d b → a ≡ b
  one_node a b p q e = let same = whole.distinct a.place b.place p q e in λ j. record { place = same j }

  of_map : (x : Truths) (nodes : List NodeId) → In x (map (list_of d) nodes) → Stands d nodes x
  of_map x [] h = elim h [ ]
  of_map x (n ∷ nodes) h = by (split_first (list_of d n) (map (list_of d) nodes) x h) (of_map x nodes) where
    by : (x ≡ list_of d n) ⊎ In x (map (list_of d) nodes) → (In x (map (list_of d) nodes) → Stands d nodes x) → Stands d (n ∷ nodes) x
    by (inl e) rest = (n, here, sym e)
    by (inr i) rest = let s = rest i in (s.0, there s.1, s.2)

  to_map : (a : NodeId) (nodes : List NodeId) → In a nodes → In (list_of d a) (map (list_of d) nodes)
  to_map a (n ∷ nodes) here = here
  to_map a (n ∷ nodes) (there h) = there (to_map a nodes h)
  to_map a [] h = elim h [ ]

  distinct : (nodes : List NodeId) → ((a : NodeId) → In a nodes → IsNode d a) → AllDifferent nodes → IsDistinct (map (list_of d) nodes)
  distinct [] node once = tt
  distinct (n ∷ nodes) node once = (
    λ c. let s = of_map (list_of d n) nodes (found (list_of d n) (map (list_of d) nodes) c) in
        once.0 (subst (λ (b : NodeId). In b nodes) (one_node s.0 n (node s.0 (there s.1)) (node n here) s.2) s.1),
    distinct nodes (λ a h. node a (there h)) once.1,
  )

  alone : (f g x : Truths) → Contains (f ∷ []) g → IsPart x g → IsPart x f
  alone f g x c part = elim (split_first f [] g (found g (f ∷ []) c)) [ inl e ↦ subst (IsPart x) e part | inr h ↦ absurd (elim h [ ]) ]

  pub counted : (at : NodeId) (seen : List NodeId) → HasSeen d at [] seen → IsCountOf (function_of d at ∷ []) (length seen)
  counted at seen h = (
    map (list_of d) seen,
    (distinct seen h.seen.node h.seen.once, sound, complete),
    length-map seen (list_of d),
  ) where
    none : (a : NodeId) → In a [] ⊎ IsPart (list_of d a) (list_of d at) → IsPart (list_of d a) (list_of d at)
    none a (inl i) = elim i [ ]
    none a (inr p) = p

    sound : (x : Truths) → Contains (map (list_of d) seen) x → IsCounted (function_of d at ∷ []) x
    sound x c =
        let s = of_map x seen (found x (map (list_of d) seen) c) in
        let odd : IsUneven x = subst IsUneven s.2 (h.seen.uneven s.0 s.1) in
        let part : IsPart x (list_of d at) = subst (λ (t : Truths). IsPart t (list_of d at)) s.2 (none s.0 (h.parts s.0 s.1)) in
        (odd, (function_of d at, contained (function_of d at) (function_of d at ∷ []) here, part-in_raised_to d.table.vars (list_of d at) x part))

    complete : (x : Truths) → IsCounted (function_of d at ∷ []) x → Contains (map (list_of d) seen) x
    complete x c =
        let part : IsPart x (function_of d at) = alone (function_of d at) c.1.0 x c.1.1 c.1.2 in
        let s = h.all x c.0 (part-raised_to d.table.vars (list_of d at) x c.0 part) in
        contained x (map (list_of d) seen) (subst (λ (t : Truths). In t (map (list_of d) seen)) s.2 (to_map s.0 seen s.1))
