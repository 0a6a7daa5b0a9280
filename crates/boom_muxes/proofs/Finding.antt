-- What was found of a diagram's nodes, step by step.
use Rattle.std.proofs.Common.{◌≡◌, ◌⊎◌, inl, inr, ℕ, zero, suc, ◌+◌, ◌<◌, ◌≤◌, ◌↔◌, Bool, true, false, not, IsTrue, List, [], ◌∷◌, ◌++◌, Result, Ok, Err, refl, sym, ap, subst, ◌∙◌, arith, length-append, append_assoc, append-nil}
use Rattle.std.specs.List.{All, Contains, slice_index_or}
use Rattle.std.proofs.lemmas.List.Elements.{Contains-append_left, Contains-append_right, Contains-append_cases, Contains-get_or}
use Rattle.bdd_core.specs.declared.node.NodeId.{NodeId}
use Rattle.bdd_core.specs.Truths.{Truths, constant, IsPart, IsUneven}
use Rattle.bdd_core.specs.Branching.{IsBranch}
use Rattle.bdd_core.specs.Nodes.{raised}
use Rattle.bdd_core.specs.Diagram.{IsNode, function_of, levels_of, IsSplit}
use Rattle.machine_roots.specs.declared.diagram.RootDiagram.{RootDiagram}
use Rattle.boom_literal.specs.declared.literal.Literal.{Literal}
use Rattle.boom_literal.specs.declared.literal.Literal.TheVariants.{Constant}
use Rattle.boom_muxes.specs.declared.mux.Mux.{Mux}
use Rattle.boom_muxes.specs.declared.muxes.Muxes.{Muxes}
use Rattle.boom_muxes.specs.declared.muxes.Stop.{Stop}
use Rattle.boom_muxes.specs.declared.muxes.Stop.TheVariants.{Memory, Large}
use Rattle.boom_muxes.specs.Muxes.{IsTable, HasGrownBy}
use Rattle.boom_muxes.specs.Rebuilding.{IsUsable, SaysNode, list_at, IsOnce, AreSaid, IsWithin, IsBeyond, HasFound, IsFound, IsChosen}
use Rattle.boom_muxes.proofs.Branches.{says_constant, says_on, says_branch}

-- ---- one more at the end

of_last : (known : List (NodeId × Literal)) (p q : NodeId × Literal) → Contains (known ++ p ∷ []) q → Contains known q ⊎ (q ≡ p)
of_last known p q c = elim (Contains-append_cases known (p ∷ []) q c) [ inl h ↦ inl h | inr h ↦ inr (alone h.0 h.1 h.2) ] where
  alone : (i : ℕ) → i < 1 → slice_index_or (p ∷ []) i q ≡ q → q ≡ p
  alone zero w is = sym is
  alone (suc i) w is = absurd (omega arith)

each_last : (P : NodeId → Literal → Type 0) (known : List (NodeId × Literal)) (a : NodeId) (l : Literal) → ((b : NodeId) (k : Literal) → Contains known (b, k) → P b k)
    → P a l → (b : NodeId) (k : Literal) → Contains (known ++ (a, l) ∷ []) (b, k) → P b k
each_last P known a l all here b k c = elim (of_last known (a, l) (b, k) c) [ inl q ↦ all b k q | inr e ↦ subst (λ (q : NodeId × Literal). P q.0 q.1) (sym e) here ]

once_push : (known : List (NodeId × Literal)) (a : NodeId) (l : Literal) → IsOnce known → ((k : Literal) → Contains known (a, k) → ⊥) → IsOnce (known ++ (a, l) ∷ [])
once_push [] a l once absent = (λ k c. absurd (let h : c.0 < 0 = c.1 in omega (arith, h)), tt)
once_push (p ∷ known) a l once absent = (
  λ k c. elim (of_last known (a, l) (p.0, k) c) [
    | inl q ↦ once.0 k q
    | inr e ↦ absent p.1 (subst (λ (n : NodeId). Contains (p ∷ known) (n, p.1)) (ap (λ (q : NodeId × Literal). q.0) e) (Contains-append_left (p ∷ []) known p (Contains-get_or (p ∷ []) 0 p (omega arith))))
  ],
  once_push known a l once.1 (λ k c. absent k (Contains-append_right (p ∷ []) known (a, k) c)),
)

-- ---- the table grows

pub grown_none : (t : Muxes) → HasGrownBy 0 t t
grown_none t = record { held = refl; given = refl; more = []; nodes = sym (append-nil t.nodes.keys); few = omega arith }

pub grown_then : (i j : ℕ) (t u v : Muxes) → HasGrownBy i t u → HasGrownBy j u v → HasGrownBy (i + j) t v
grown_then i j t u v g h = record {
  held = h.held ∙ g.held;
  given = h.given ∙ g.given;
  more = g.more ++ h.more;
  nodes = h.nodes ∙ ap (λ (xs : List Mux). xs ++ h.more) g.nodes ∙ append_assoc t.nodes.keys g.more h.more;
  few = let l = length-append g.more h.more in let a = g.few in let b = h.few in omega (arith, l, a, b);
}

pub usable_on : (n : ℕ) (t u : Muxes) (d : RootDiagram) → HasGrownBy n t u → IsUsable t d → IsUsable u d
usable_on n t u d g h = record {
  whole = h.whole;
  vars = h.vars;
  held = subst (λ (n : ℕ). All (λ (k : ℕ). k < n) d.order.items) (sym g.held) h.held;
  zero_node = h.zero_node;
  zero_is = h.zero_is;
}

-- ---- what was found

pub found_none : (d : RootDiagram) (a : NodeId) (t : Muxes) (known : List (NodeId × Literal)) → IsTable t → AreSaid t d known → HasFound d a t t known known
found_none d a t known table said = record {
  table = table;
  said = said;
  count = 0;
  grown = grown_none t;
  room = omega arith;
  below = record { kept = λ b l c. c; more = λ b l c. inl c };
  parts = λ top known_in inside. known_in;
}

pub found_above : (d : RootDiagram) (a b : NodeId) (t u : Muxes) (old new : List (NodeId × Literal)) → levels_of d.diagrams a < levels_of d.diagrams b
    → ((x : Truths) → IsPart x (list_at d a) → IsPart x (list_at d b)) → HasFound d a t u old new → HasFound d b t u old new
found_above d a b t u old new less parts h = record {
  table = h.table;
  said = h.said;
  count = h.count;
  grown = h.grown;
  room = h.room;
  below = record { kept = h.below.kept; more = λ n l c. lift n l (h.below.more n l c) };
  parts = λ top known inside. h.parts top known (λ x p. inside x (parts x p));
}
  where
    lift : (n : NodeId) (l : Literal) → Contains old (n, l) ⊎ (levels_of d.diagrams n ≤ levels_of d.diagrams a) → Contains old (n, l) ⊎ (levels_of d.diagrams n ≤ levels_of d.diagrams b)
    lift n l (inl c) = inl c
    lift n l (inr q) = inr (omega (arith, q, less))

pub found_then : (d : RootDiagram) (a : NodeId) (t u v : Muxes) (k0 k1 k2 : List (NodeId × Literal)) → HasFound d a t u k0 k1 → HasFound d a u v k1 k2 → HasFound d a t v k0 k2
found_then d a t u v k0 k1 k2 g h = record {
  table = h.table;
  said = h.said;
  count = g.count + h.count;
  grown = grown_then g.count h.count t u v g.grown h.grown;
  room = let x = g.room in let y = h.room in omega (arith, x, y);
  below = record { kept = λ n l c. h.below.kept n l (g.below.kept n l c); more = λ n l c. back n l (h.below.more n l c) };
  parts = λ top known inside. h.parts top (g.parts top known inside) inside;
}
  where
    back : (n : NodeId) (l : Literal) → Contains k1 (n, l) ⊎ (levels_of d.diagrams n ≤ levels_of d.diagrams a) → Contains k0 (n, l) ⊎ (levels_of d.diagrams n ≤ levels_of d.diagrams a)
    back n l (inl c) = g.below.more n l c
    back n l (inr q) = inr q

-- a node above is no further one
pub absent_above : (d : RootDiagram) (a b : NodeId) (t u : Muxes) (old new : List (NodeId × Literal)) → levels_of d.diagrams a < levels_of d.diagrams b
    → HasFound d a t u old new → ((l : Literal) → Contains old (b, l) → ⊥) → (l : Literal) → Contains new (b, l) → ⊥
absent_above d a b t u old new less h absent l c = by (h.below.more b l c) where
  by : Contains old (b, l) ⊎ (levels_of d.diagrams b ≤ levels_of d.diagrams a) → ⊥
  by (inl q) = absent l q
  by (inr q) = omega (arith, q, less)

found_last : (d : RootDiagram) (a : NodeId) (t u : Muxes) (known : List (NodeId × Literal)) (l : Literal) → IsUneven (list_at d a) → IsNode d.diagrams a
    → ((k : Literal) → Contains known (a, k) → ⊥) → IsTable u → HasGrownBy 1 t u → AreSaid t d known → SaysNode u d a l → HasFound d a t u known (known ++ (a, l) ∷ [])
found_last d a t u known l uneven node absent table g said says = record {
  table = table;
  said = record {
    node = each_last (λ b k. IsNode d.diagrams b) known a l said.node node;
    uneven = each_last (λ b k. IsUneven (list_at d b)) known a l said.uneven uneven;
    says = each_last (λ b k. SaysNode u d b k) known a l (λ b k c. says_on 1 t u d b k g (said.says b k c)) says;
    once = once_push known a l said.once absent;
  };
  count = 1;
  grown = g;
  room = let n = length-append known ((a, l) ∷ []) in omega (arith, n);
  below = record {
    kept = λ b k c. Contains-append_left known ((a, l) ∷ []) (b, k) c;
    more = each_last (λ b k. Contains known (b, k) ⊎ (levels_of d.diagrams b ≤ levels_of d.diagrams a)) known a l (λ b k c. inl c) (inr (omega arith));
  };
  parts = λ top known_in inside. each_last (λ b k. IsWithin d top b) known a l known_in inside;
}

-- ---- a constant

raised_apart : (n : ℕ) → raised n (constant true) ≡ raised n (constant false) → ⊥
raised_apart zero e = (cc)
raised_apart (suc n) e = raised_apart n (cc)

pub says_even : (t : Muxes) (d : RootDiagram) (a : NodeId) (z : Bool) → IsUsable t d → (b : Bool) × (function_of d.diagrams a ≡ raised d.diagrams.table.vars (constant b))
    → (IsTrue z ↔ (function_of d.diagrams a ≡ function_of d.diagrams d.zero)) → SaysNode t d a (Constant (not z))
says_even t d a z usable even same = by z even.0 even.1 same where
  by : (z b : Bool) → function_of d.diagrams a ≡ raised d.diagrams.table.vars (constant b) → (IsTrue z ↔ (function_of d.diagrams a ≡ function_of d.diagrams d.zero))
      → SaysNode t d a (Constant (not z))
  by true true is same = absurd (raised_apart d.diagrams.table.vars (sym is ∙ same.0 refl ∙ usable.zero_is))
  by true false is same = says_constant t d a false usable.vars is
  by false true is same = says_constant t d a true usable.vars is
  by false false is same = absurd (let e : false ≡ true = same.1 (is ∙ sym usable.zero_is) in cc e)

-- ---- a node with two below it

module _ (d : RootDiagram) (a low high : NodeId) (split : IsSplit d.diagrams a low high)
    (low_less : levels_of d.diagrams low < levels_of d.diagrams a) (high_less : levels_of d.diagrams high < levels_of d.diagrams a) where
  pub beyond_low : (u : Muxes) (known : List (NodeId × Literal)) → ((top : Truths) → IsWithin d top low → IsBeyond u d top known) → (top : Truths) → IsWithin d top a → IsBeyond u d top known
  beyond_low u known h top inside = h top (λ x p. inside x (split.low x p))

  pub beyond_high : (u : Muxes) (known : List (NodeId × Literal)) → ((top : Truths) → IsWithin d top high → IsBeyond u d top known) → (top : Truths) → IsWithin d top a → IsBeyond u d top known
  beyond_high u known h top inside = h top (λ x p. inside x (split.high x p))

  -- the lower node was refused
  pub low_refused : (t u : Muxes) (k0 k1 : List (NodeId × Literal)) (e : Stop) → IsFound d low t u k0 k1 (Err e) → IsFound d a t u k0 k1 (Err e)
  low_refused t u k0 k1 Memory h = tt
  low_refused t u k0 k1 Large h = (found_above d low a t u k0 k1 low_less split.low h.0, beyond_low u k1 h.1)

  -- the upper one was
  pub high_refused : (t u v : Muxes) (k0 k1 k2 : List (NodeId × Literal)) (e : Stop) → HasFound d low t u k0 k1 → IsFound d high u v k1 k2 (Err e) → IsFound d a t v k0 k2 (Err e)
  high_refused t u v k0 k1 k2 Memory g h = tt
  high_refused t u v k0 k1 k2 Large g h = (
    found_then d a t u v k0 k1 k2 (found_above d low a t u k0 k1 low_less split.low g) (found_above d high a u v k1 k2 high_less split.high h.0),
    beyond_high v k2 h.1,
  )

  -- both have their literals
  module _ (t u v w : Muxes) (k0 k1 k2 k3 : List (NodeId × Literal)) (usable : IsUsable t d) (node : IsNode d.diagrams a) (absent : (l : Literal) → Contains k0 (a, l) → ⊥)
      (g : HasFound d low t u k0 k1) (h : HasFound d high u v k1 k2) (x : Mux) (says_low : SaysNode u d low x.low) (says_high : SaysNode v d high x.high) where
    pub still_absent : (l : Literal) → Contains k2 (a, l) → ⊥
    still_absent = absent_above d high a u v k1 k2 high_less h (absent_above d low a t u k0 k1 low_less g absent)

    pub still_usable : IsUsable v d
    still_usable = usable_on h.count u v d h.grown (usable_on g.count t u d g.grown usable)

    pub low_again : SaysNode v d low x.low
    low_again = says_on h.count u v d low x.low h.grown says_low

    both : HasFound d a t v k0 k2
    both = found_then d a t u v k0 k1 k2 (found_above d low a t u k0 k1 low_less split.low g) (found_above d high a u v k1 k2 high_less split.high h)

    pub chosen_found : (variable : ℕ) → IsBranch d.diagrams.table.vars (function_of d.diagrams a) variable (function_of d.diagrams low) (function_of d.diagrams high)
        → x.select ≡ slice_index_or d.order.items variable 0 → (r : Result Literal Stop) → IsChosen a x v w k2 k3 r → IsFound d a t w k0 k3 r
    chosen_found variable branch select (Ok l) c = (
      subst (λ (k : List (NodeId × Literal)). HasFound d a t w k0 k) (sym c.3) (found_then d a t v w k0 k2 (k2 ++ (a, l) ∷ []) both (found_last d a v w k2 l split.uneven node still_absent c.0 c.1 h.said says)),
      says,
    )
      where
        says : SaysNode w d a l
        says =
            says_branch v w d a low high variable still_usable.vars (λ k q. still_usable.held k 0 q) branch
            x l 1 select low_again says_high c.1 c.2
    chosen_found variable branch select (Err Memory) c = tt
    chosen_found variable branch select (Err Large) c = (
      subst (λ (y : Muxes). HasFound d a t y k0 k3) (sym c.0) (subst (λ (k : List (NodeId × Literal)). HasFound d a t v k0 k) (sym c.1) both),
      λ top inside. record {
        at = a;
        node = node;
        uneven = split.uneven;
        within = inside;
        absent = λ l q. still_absent l (subst (λ (k : List (NodeId × Literal)). Contains k (a, l)) c.1 q);
        heavy = subst (λ (y : Muxes). y.given ≤ y.weight + 4) (sym c.0) c.2;
      },
    )
