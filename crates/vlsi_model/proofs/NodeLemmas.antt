-- Defined bits as nodes: tables of them, and what their formulas read.
use Rattle.std.proofs.Common.{◌≡◌, ◌≢◌, ◌⊎◌, inl, inr, ℕ, ◌+◌, ◌<◌, ◌≤◌, Bool, true, false, cond, eqb, ltb, List, [], ◌∷◌, ◌++◌, map, length, get_or, refl, sym, ap, ◌∙◌, subst, arith}
use Rattle.std.specs.Prelude.{slice_index, slice_set, nat_lt}
use Rattle.std.specs.List.{All}
use Rattle.std.specs.Prelude.{◌||◌}
use Rattle.std.specs.Global.{Vec}
use Rattle.std.proofs.lemmas.List.{length-map, get_or-set_same, get_or-set_other, length-set, get_or-replicate}
use Rattle.std.proofs.Math.ListN.{replicate, length-replicate}
use Rattle.std.proofs.lemmas.Bool.Decides.{nat_tests}
use Rattle.source_bits.specs.declared.driven.DrivenBit.{DrivenBit}
use Rattle.bool_expr.specs.View.{view}
use Rattle.bool_expr.specs.Expression.{Expression, variables, IsOver}
use Rattle.bool_expr.specs.Support.{first_meetings, meetings_after, among}
use Rattle.machine_core.specs.Order.{In, here, there, AllDifferent}
use Rattle.machine_core.proofs.Known.{IsOver-In}
use Rattle.machine_core.proofs.Values.{In-map, In-split}
use Rattle.vlsi_model.specs.Nodes.{HasNodes, nodes_read}
use Rattle.vlsi_model.proofs.Members.{In-cases, In-map_back}
use Rattle.vlsi_model.proofs.Sorting.{In-at, pairs_from_different}
use Rattle.vlsi_model.proofs.PortBits.{In-filter, filter-In}

-- what is first met is met
pub met_In : (seen xs : List ℕ) (k : ℕ) → In k (meetings_after seen xs) → In k xs
met_In seen [] k i = elim i [ ]
met_In seen (x ∷ xs) k i = by (among x seen) i (met_In seen xs k) (met_In (seen ++ x ∷ []) xs k) where
  by : (b : Bool) → In k (cond b (meetings_after seen xs) (x ∷ meetings_after (seen ++ x ∷ []) xs)) → (In k (meetings_after seen xs) → In k xs) → (In k (meetings_after (seen ++ x ∷ []) xs) → In k xs) → In k (x ∷ xs)
  by true i f g = there (f i)
  by false i f g = elim (In-cases k x (meetings_after (seen ++ x ∷ []) xs) i) [ inl same ↦ subst (λ z. In z (x ∷ xs)) same here | inr j ↦ there (g j) ]

among_In : (k : ℕ) (xs : List ℕ) → among k xs ≡ true → In k xs
among_In k [] e = absurd cc
among_In k (x ∷ xs) e = by (eqb x k) refl e (among_In k xs) where
  by : (b : Bool) → eqb x k ≡ b → (b || among k xs) ≡ true → (among k xs ≡ true → In k xs) → In k (x ∷ xs)
  by true is e rest = let same : x ≡ k = grind (arith, nat_tests) in subst (λ z. In z (x ∷ xs)) same here
  by false is e rest = there (rest e)

-- what is met was seen before, or is first met
pub In_met : (seen xs : List ℕ) (k : ℕ) → In k xs → In k seen ⊎ In k (meetings_after seen xs)
In_met seen (x ∷ xs) k i = by (among x seen) refl (In-cases k x xs i) (In_met seen xs k) (In_met (seen ++ x ∷ []) xs k) where
  later : In k (seen ++ x ∷ []) ⊎ In k (meetings_after (seen ++ x ∷ []) xs) → In k seen ⊎ In k (x ∷ meetings_after (seen ++ x ∷ []) xs)
  later (inl a) = elim (In-split k seen (x ∷ []) a) [ inl p ↦ inl p | inr q ↦ elim (In-cases k x [] q) [ inl same ↦ inr (subst (λ z. In z (x ∷ meetings_after (seen ++ x ∷ []) xs)) same here) | inr r ↦ absurd (elim r [ ]) ] ]
  later (inr b) = inr (there b)

  by : (b : Bool) → among x seen ≡ b → (x ≡ k) ⊎ In k xs → (In k xs → In k seen ⊎ In k (meetings_after seen xs)) → (In k xs → In k (seen ++ x ∷ []) ⊎ In k (meetings_after (seen ++ x ∷ []) xs))
      → In k seen ⊎ In k (cond b (meetings_after seen xs) (x ∷ meetings_after (seen ++ x ∷ []) xs))
  by true is (inl same) f g = inl (subst (λ z. In z seen) same (among_In x seen is))
  by true is (inr j) f g = f j
  by false is (inl same) f g = inr (subst (λ z. In z (x ∷ meetings_after (seen ++ x ∷ []) xs)) same here)
  by false is (inr j) f g = later (g j)
In_met seen [] k i = elim i [ ]

pub first_In : (xs : List ℕ) (k : ℕ) → In k xs → In k (first_meetings xs)
first_In xs k i = elim (In_met [] xs k i) [ inl a ↦ absurd (elim a [ ]) | inr b ↦ b ]

-- each variable of an expression is below n
pub met_below : (e : Expression) (n : ℕ) → IsOver e n → (vars : List ℕ) → vars ≡ first_meetings (variables e) → (i k : ℕ) → i < length vars → k ≡ slice_index vars i → k < n
met_below e n over vars is i k within at =
    IsOver-In e n over k (met_In [] (variables e) k (subst (λ (xs : List ℕ). In k xs) is (subst (λ z. In z vars) (sym at) (In-at vars i 0 within))))

-- the nodes that an expression reads
pub read_In : (count : ℕ) (nodes : List ℕ) (e : Expression) (j : ℕ) → In j (nodes_read count nodes e) → (k : ℕ) × In k (variables e) × (slice_index nodes k ≡ j) × (j < count)
read_In count nodes e j i =
    let a = In-filter (λ n. nat_lt n count) (map (slice_index nodes) (first_meetings (variables e))) j i in
    let m = In-map_back (slice_index nodes) j (first_meetings (variables e)) a.0 in
    let below : j < count = by a.1 in
    (m.0, met_In [] (variables e) m.0 m.1, m.2, below) where
      by : ltb j count ≡ true → j < count
      by e = grind (arith, nat_tests)

pub In_read : (count : ℕ) (nodes : List ℕ) (e : Expression) (j k : ℕ) → In k (variables e) → slice_index nodes k ≡ j → j < count → In j (nodes_read count nodes e)
In_read count nodes e j k i at below =
    let test : ltb j count ≡ true = grind (arith, nat_tests) in
    filter-In (λ n. nat_lt n count) (map (slice_index nodes) (first_meetings (variables e))) j (subst (λ z. In z (map (slice_index nodes) (first_meetings (variables e)))) at (In-map (slice_index nodes) k (first_meetings (variables e)) (first_In (variables e) k i))) test

-- the table of nodes after so many bits
pub record NodesSoFar (bits nodes : List ℕ) (total k : ℕ) : Type 0 where
  pub each : length nodes ≡ total
  pub there : (j : ℕ) → j < k → slice_index nodes (slice_index bits j) ≡ j
  pub back : (b : ℕ) → b < total → slice_index nodes b < length bits → slice_index bits (slice_index nodes b) ≡ b

pub nodes_none : (bits nodes : List ℕ) (total : ℕ) → nodes ≡ replicate total (length bits) → NodesSoFar bits nodes total 0
nodes_none bits nodes total is = record {
  each = ap (λ (xs : List ℕ). length xs) is ∙ length-replicate total (length bits);
  there = λ j h. absurd (omega arith);
  back = λ b h g. let e : slice_index nodes b ≡ length bits = ap (λ (xs : List ℕ). slice_index xs b) is ∙ get_or-replicate total b (length bits) 0 h in absurd (omega arith);
}

different_places : (bits : List ℕ) → AllDifferent bits → (i j : ℕ) → i < j → j < length bits → slice_index bits i ≡ slice_index bits j → ⊥
different_places bits h i j p q e = pairs_from_different bits h i j 0 p q e

pub nodes_more : (bits nodes new : List ℕ) (total k : ℕ) → AllDifferent bits → k < length bits → slice_index bits k < total → new ≡ slice_set nodes (slice_index bits k) k → NodesSoFar bits nodes total k → NodesSoFar bits new total (k + 1)
nodes_more bits nodes new total k different within low is h = record {
  each = ap (λ (xs : List ℕ). length xs) is ∙ length-set nodes b k ∙ h.each;
  there = λ j p. subst (λ (xs : List ℕ). slice_index xs (slice_index bits j) ≡ j) (sym is) (there_is j p (ltb j k) refl);
  back = λ c p. subst (λ (xs : List ℕ). slice_index xs c < length bits → slice_index bits (slice_index xs c) ≡ c) (sym is) (back_is c p (eqb c b) refl);
} where
  b : ℕ
  b = slice_index bits k

  inside : b < length nodes
  inside = omega (arith, h.each, low)

  there_is : (j : ℕ) → j < k + 1 → (t : Bool) → ltb j k ≡ t → slice_index (slice_set nodes b k) (slice_index bits j) ≡ j
  there_is j p true e =
      let below : j < k = grind (arith, nat_tests) in
      get_or-set_other nodes b (slice_index bits j) k 0 (different_places bits different j k below within) ∙ h.there j below
  there_is j p false e =
      let same : j ≡ k = grind (arith, nat_tests) in
      subst (λ i. slice_index (slice_set nodes b k) (slice_index bits i) ≡ i) (sym same) (get_or-set_same nodes b k 0 inside)

  back_is : (c : ℕ) → c < total → (t : Bool) → eqb c b ≡ t → slice_index (slice_set nodes b k) c < length bits → slice_index bits (slice_index (slice_set nodes b k) c) ≡ c
  back_is c p true e q =
      let same : b ≡ c = grind (arith, nat_tests) in
      subst (λ x. slice_index bits (slice_index (slice_set nodes b k) x) ≡ x) same (ap (slice_index bits) (get_or-set_same nodes b k 0 inside))
  back_is c p false e q =
      let apart : c ≢ b = grind (arith, nat_tests) in
      let kept : slice_index (slice_set nodes b k) c ≡ slice_index nodes c = get_or-set_other nodes b c k 0 apart in
      ap (slice_index bits) kept ∙ h.back c p (omega (arith, kept, q))

pub nodes_all : (bits nodes : List ℕ) (total k : ℕ) → length bits ≤ k → NodesSoFar bits nodes total k → HasNodes bits nodes total
nodes_all bits nodes total k over h = record { each = h.each; there = λ j p. h.there j (omega arith); back = h.back }

-- what the nodes read are nodes
pub reads_inside : {D : Type 0} (f : D → List ℕ) (driven : List D) (reads : List (Vec ℕ)) (count : ℕ) → map (λ (r : Vec ℕ). r.items) reads ≡ map f driven → count ≡ length driven → ((d : D) (j : ℕ) → In j (f d) → j < count)
    → All (λ (nodes : Vec ℕ). All (λ node. node < length reads) nodes.items) reads
reads_inside f driven reads count is counted below k d within i e inside =
    let lengths : length reads ≡ count = sym (length-map reads (λ (r : Vec ℕ). r.items)) ∙ ap (λ (xs : List (List ℕ)). length xs) is ∙ length-map driven f ∙ sym counted in
    let list = get_or reads k d in
    let among : In list.items (map f driven) = subst (λ (xs : List (List ℕ)). In list.items xs) is (In-map (λ (r : Vec ℕ). r.items) list reads (In-at reads k d within)) in
    let m = In-map_back f list.items driven among in
    let low = below m.0 (get_or list.items i e) (subst (λ (xs : List ℕ). In (get_or list.items i e) xs) (sym m.2) (In-at list.items i e inside)) in
    omega (arith, low, lengths)

pub lists_of : (count count' : ℕ) (nodes nodes' : List ℕ) (driven : List DrivenBit) → count ≡ count' → nodes ≡ nodes'
    → map (λ (d : DrivenBit). nodes_read count nodes (view d.expr)) driven ≡ map (nodes_read count' nodes') (map (λ (d : DrivenBit). view d.expr) driven)
lists_of count count' nodes nodes' [] p q = refl
lists_of count count' nodes nodes' (d ∷ driven) p q =
    ap (λ (c : ℕ). nodes_read c nodes (view d.expr) ∷ map (λ (d : DrivenBit). nodes_read count nodes (view d.expr)) driven) p
    ∙ ap (λ (ns : List ℕ). nodes_read count' ns (view d.expr) ∷ map (λ (d : DrivenBit). nodes_read count nodes (view d.expr)) driven) q
    ∙ ap (λ (rs : List (List ℕ)). nodes_read count' nodes' (view d.expr) ∷ rs) (lists_of count count' nodes nodes' driven p q)
