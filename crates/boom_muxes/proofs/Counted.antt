-- The nodes of a root's diagram at which something was found are no more than its own count.
use Rattle.std.proofs.Common.{◌≡◌, ◌⊎◌, inl, inr, ℕ, zero, suc, ◌+◌, ◌<◌, ◌≤◌, List, [], ◌∷◌, length, map, sym, subst, arith}
use Rattle.std.specs.List.{Contains, slice_index_or}
use Rattle.std.proofs.lemmas.List.{length-map}
use Rattle.std.proofs.lemmas.List.Elements.{Contains-append_left, Contains-append_right, Contains-append_cases, Contains-get_or}
use Rattle.bdd_core.specs.declared.node.NodeId.{NodeId}
use Rattle.bdd_core.specs.Truths.{Truths, IsPart, IsUneven, IsCounted, IsDistinct, IsCountOf, IsOver}
use Rattle.bdd_core.specs.Nodes.{place, IsWhole}
use Rattle.bdd_core.specs.Diagram.{IsNode}
use Rattle.bdd_core.proofs.Counting.{over_count}
use Rattle.bdd_core.proofs.Closing.{at_place}
use Rattle.bdd_core.proofs.Raised.{part-itself}
use Rattle.machine_roots.specs.declared.diagram.RootDiagram.{RootDiagram}
use Rattle.boom_literal.specs.declared.literal.Literal.{Literal}
use Rattle.boom_muxes.specs.Rebuilding.{list_at, IsOnce, IsWithin, AreWithin}

-- the lists of the nodes
abbrev pub lists_known : RootDiagram → List (NodeId × Literal) → List Truths
lists_known d known = map (λ (p : NodeId × Literal). list_at d p.0) known

-- a list among them is that of one of the nodes
list_of_one : (d : RootDiagram) (known : List (NodeId × Literal)) (x : Truths) (i : ℕ) → i < length (lists_known d known) → place (lists_known d known) i ≡ x
    → (p : NodeId × Literal) × Contains known p × (list_at d p.0 ≡ x)
list_of_one d [] x i less is = absurd (omega arith)
list_of_one d (p ∷ known) x zero less is = (p, Contains-append_left (p ∷ []) known p (Contains-get_or (p ∷ []) 0 p (omega arith)), is)
list_of_one d (p ∷ known) x (suc i) less is =
    let r = list_of_one d known x i (omega arith) is in
    (r.0, Contains-append_right (p ∷ []) known r.0 r.1, r.2)

same_node : (a b : NodeId) → a.place ≡ b.place → a ≡ b
same_node a b e = λ j. record { place = e j }

pub distinct_known : (d : RootDiagram) (known : List (NodeId × Literal)) → IsWhole d.diagrams.table → IsOnce known
    → ((p : NodeId × Literal) → Contains known p → IsNode d.diagrams p.0) → IsDistinct (lists_known d known)
distinct_known d [] whole once nodes = tt
distinct_known d (p ∷ known) whole once nodes = (
  λ c. absent (list_of_one d known (list_at d p.0) c.0 c.1 (at_place (lists_known d known) (list_at d p.0) c)),
  distinct_known d known whole once.1 (λ q c. nodes q (Contains-append_right (p ∷ []) known q c)),
) where
  absent : ((q : NodeId × Literal) × Contains known q × (list_at d q.0 ≡ list_at d p.0)) → ⊥
  absent r =
      let q = r.0 in
      let nq = nodes q (Contains-append_right (p ∷ []) known q r.1) in
      let np = nodes p (Contains-append_left (p ∷ []) known p (Contains-get_or (p ∷ []) 0 p (omega arith))) in
      let same : q.0 ≡ p.0 = same_node q.0 p.0 (whole.distinct q.0.place p.0.place nq np r.2) in
      once.0 q.1 (subst (λ (a : NodeId). Contains known (a, q.1)) same r.1)

-- different lists with unequal halves that are parts of a function are no more than its count
pub no_more : (f : Truths) (xs : List Truths) (n : ℕ) → IsDistinct xs → ((x : Truths) → Contains xs x → IsUneven x × IsPart x f) → IsCountOf (f ∷ []) n
    → length xs ≤ n
no_more f [] n distinct parts count = omega arith
no_more f (x ∷ xs) n distinct parts count =
    let over : IsOver (f ∷ []) (length xs) = (x ∷ xs, distinct, (λ y c. counted y (parts y c)), omega arith) in
    let less : length xs < n = over_count (f ∷ []) n (length xs) count over in
    omega (arith, less)
  where
    counted : (y : Truths) → (IsUneven y × IsPart y f) → IsCounted (f ∷ []) y
    counted y h = (h.0, (f, Contains-get_or (f ∷ []) 0 f (omega arith), h.1))

-- so are the nodes at which something was found
pub known_within : (d : RootDiagram) (top : Truths) (known : List (NodeId × Literal)) (n : ℕ) → IsWhole d.diagrams.table → IsOnce known
    → ((a : NodeId) (l : Literal) → Contains known (a, l) → IsNode d.diagrams a) → ((a : NodeId) (l : Literal) → Contains known (a, l) → IsUneven (list_at d a))
    → AreWithin d top known → IsCountOf (top ∷ []) n → length known ≤ n
known_within d top known n whole once nodes uneven within count =
    let l = length-map known (λ (p : NodeId × Literal). list_at d p.0) in
    let less = no_more top (lists_known d known) n (distinct_known d known whole once (λ p c. nodes p.0 p.1 c)) parts count in
    omega (arith, l, less)
  where
    parts : (x : Truths) → Contains (lists_known d known) x → IsUneven x × IsPart x top
    parts x c =
        let r = list_of_one d known x c.0 c.1 (at_place (lists_known d known) x c) in
        let u : IsUneven (list_at d r.0.0) = uneven r.0.0 r.0.1 r.1 in
        let w : IsPart (list_at d r.0.0) top = within r.0.0 r.0.1 r.1 (list_at d r.0.0) (part-itself (list_at d r.0.0)) in
        (subst IsUneven r.2 u, subst (λ (y : Truths). IsPart y top) r.2 w)

-- with a further node there is room for one more
pub known_beyond : (d : RootDiagram) (top : Truths) (known : List (NodeId × Literal)) (at : NodeId) (l : Literal) (n : ℕ) → IsWhole d.diagrams.table → IsOnce known
    → ((a : NodeId) (k : Literal) → Contains known (a, k) → IsNode d.diagrams a) → ((a : NodeId) (k : Literal) → Contains known (a, k) → IsUneven (list_at d a))
    → AreWithin d top known → IsNode d.diagrams at → IsUneven (list_at d at) → IsWithin d top at → ((k : Literal) → Contains known (at, k) → ⊥)
    → IsCountOf (top ∷ []) n → length known + 1 ≤ n
known_beyond d top known at l n whole once nodes uneven within node even inside absent count =
    let all = known_within d top ((at, l) ∷ known) n whole (absent, once) (λ a k c. more (λ (x : NodeId). IsNode d.diagrams x) node nodes a k c)
    (λ a k c. more (λ (x : NodeId). IsUneven (list_at d x)) even uneven a k c) (λ a k c. more (λ (x : NodeId). IsWithin d top x) inside within a k c) count in
    omega (arith, all)
  where
    first : (q : NodeId × Literal) → Contains ((at, l) ∷ known) q → (q ≡ (at, l)) ⊎ Contains known q
    first q c = elim (Contains-append_cases ((at, l) ∷ []) known q c) [ inl h ↦ inl (alone h.0 h.1 h.2) | inr h ↦ inr h ] where
      alone : (i : ℕ) → i < 1 → slice_index_or ((at, l) ∷ []) i q ≡ q → q ≡ (at, l)
      alone zero w is = sym is
      alone (suc i) w is = absurd (omega arith)

    more : (P : NodeId → Type 0) → P at → ((a : NodeId) (k : Literal) → Contains known (a, k) → P a) → (a : NodeId) (k : Literal) → Contains ((at, l) ∷ known) (a, k) → P a
    more P here rest a k c = elim (first (a, k) c) [ inl e ↦ subst (λ (q : NodeId × Literal). P q.0) (sym e) here | inr h ↦ rest a k h ]
