-- A node more.
use Rattle.std.proofs.Common.{◌≡◌, ℕ, zero, suc, ◌+◌, ◌-◌, ◌<◌, ◌≤◌, ◌⊎◌, inl, inr, true, false, List, [], ◌∷◌, ◌++◌, length, slice_get, Some, refl, sym, ap, subst, ◌∙◌, arith, length-append}
use Rattle.std.specs.List.{slice_index_or, Contains}
use Rattle.std.proofs.lemmas.List.{get_or_append_left}
use Rattle.std.proofs.lemmas.Option.{slice_get_within, get_or_from_slice_get, slice_get-get_or}
use Rattle.std.proofs.Math.Seq.{get_or-append_seam}
use Rattle.std.proofs.lemmas.Bool.{cases_lt}
use Rattle.bdd_core.specs.declared.node.Node.{Node}
use Rattle.bdd_core.specs.Truths.{Truths, constant, halves, IsUneven}
use Rattle.bdd_core.specs.Nodes.{raised_to, height, place, joined, meaning, lists_after, lists_of, IsSon, IsSound, AreSound}
use Rattle.bdd_core.proofs.Raised.{IsReduced, height-raised_to, raised_to-injective}

after-push : (vars : ℕ) (lists : List Truths) (ns : List Node) (n : Node)
    → lists_after vars lists (ns ++ n ∷ []) ≡ lists_after vars lists ns ++ meaning vars (lists_after vars lists ns) n ∷ []
after-push vars lists [] n = refl
after-push vars lists (x ∷ ns) n = after-push vars (lists ++ meaning vars lists x ∷ []) ns n

pub lists_of-push : (vars : ℕ) (ns : List Node) (n : Node)
    → lists_of vars (ns ++ n ∷ []) ≡ lists_of vars ns ++ meaning vars (lists_of vars ns) n ∷ []
unfolding lists_of
lists_of-push vars ns n = after-push vars (constant false ∷ constant true ∷ []) ns n

-- places that were there stay
pub place-kept : (lists more : List Truths) (i : ℕ) → i < length lists → place (lists ++ more) i ≡ place lists i
place-kept lists more i within = get_or_append_left lists more (constant false) i within

pub place-new : (lists : List Truths) (t : Truths) (i : ℕ) → i ≡ length lists → place (lists ++ t ∷ []) i ≡ t
place-new lists t i e = ap (λ (k : ℕ). place (lists ++ t ∷ []) k) e ∙ get_or-append_seam lists t [] (constant false)

pub joined-kept : (vars : ℕ) (lists more : List Truths) (v low high : ℕ) → low < length lists → high < length lists → joined vars (lists ++ more) v low high ≡ joined vars lists v low high
joined-kept vars lists more v low high l h =
    ap (λ (t : Truths). halves (raised_to (vars - (v + 1)) t) (raised_to (vars - (v + 1)) (place (lists ++ more) high))) (place-kept lists more low l)
    ∙ ap (λ (t : Truths). halves (raised_to (vars - (v + 1)) (place lists low)) (raised_to (vars - (v + 1)) t)) (place-kept lists more high h)

pub son-kept : (vars : ℕ) (lists more : List Truths) (v son : ℕ) → IsSon vars lists v son → IsSon vars (lists ++ more) v son
son-kept vars lists more v son s = record {
  within = omega (arith, s.within, length-append lists more);
  below = omega (arith, s.below, ap height (place-kept lists more son s.within));
}

pub sound-kept : (vars : ℕ) (lists more : List Truths) (i : ℕ) (n : Node) → i + 2 < length lists → IsSound vars lists i n → IsSound vars (lists ++ more) i n
sound-kept vars lists more i n within s = record {
  low = son-kept vars lists more n.variable n.low s.low;
  high = son-kept vars lists more n.variable n.high s.high;
  apart = s.apart;
  is = place-kept lists more (i + 2) within ∙ s.is ∙ sym (joined-kept vars lists more n.variable n.low n.high s.low.within s.high.within);
}

-- places that all have reduced lists
pub reduced : (vars : ℕ) (nodes : List Node) (lists : List Truths) → AreSound vars nodes lists → (i : ℕ) → i < length lists → IsReduced (place lists i)
reduced vars nodes lists s i within = by i within
  where
    from_uneven : (t : Truths) → IsUneven t → IsReduced t
    from_uneven (constant b) u = tt
    from_uneven (halves a b) u = u

    by : (k : ℕ) → k < length lists → IsReduced (place lists k)
    by zero w = subst IsReduced (sym s.zero_is) tt
    by (suc zero) w = subst IsReduced (sym s.one_is) tt
    by (suc (suc k)) w =
        let e : k + 2 ≡ suc (suc k) = omega arith in
        subst (λ (m : ℕ). IsReduced (place lists m)) e (from_uneven (place lists (k + 2)) (s.uneven k (omega (arith, s.count))))

-- a node that means the same is the same
pub same_node : (vars : ℕ) (nodes : List Node) (lists : List Truths) → AreSound vars nodes lists → (i : ℕ) (m n : Node)
    → slice_get nodes i ≡ Some m → IsSon vars lists n.variable n.low → IsSon vars lists n.variable n.high → meaning vars lists m ≡ meaning vars lists n → m ≡ n
same_node vars nodes lists s i m n at low high e =
    let sm = s.sound i m at in
    let l : raised_to (vars - (m.variable + 1)) (place lists m.low) ≡ raised_to (vars - (n.variable + 1)) (place lists n.low) = cc in
    let h : raised_to (vars - (m.variable + 1)) (place lists m.high) ≡ raised_to (vars - (n.variable + 1)) (place lists n.high) = cc in
    let hm : height (raised_to (vars - (m.variable + 1)) (place lists m.low)) ≡ vars - (m.variable + 1) = height-raised_to _ _ (omega (arith, sm.low.below)) in
    let hn : height (raised_to (vars - (n.variable + 1)) (place lists n.low)) ≡ vars - (n.variable + 1) = height-raised_to _ _ (omega (arith, low.below)) in
    let levels : vars - (m.variable + 1) ≡ vars - (n.variable + 1) = sym hm ∙ ap height l ∙ hn in
    let v : m.variable ≡ n.variable = omega (arith, sm.low.below, low.below) in
    let pl : place lists m.low ≡ place lists n.low = raised_to-injective _ _ _ _ (reduced vars nodes lists s m.low sm.low.within) (reduced vars nodes lists s n.low low.within) l in
    let ph : place lists m.high ≡ place lists n.high = raised_to-injective _ _ _ _ (reduced vars nodes lists s m.high sm.high.within) (reduced vars nodes lists s n.high high.within) h in
    let el : m.low ≡ n.low = s.distinct m.low n.low sm.low.within low.within pl in
    let eh : m.high ≡ n.high = s.distinct m.high n.high sm.high.within high.within ph in
    λ j. record { variable = v j; low = el j; high = eh j }

-- what a new node means stands nowhere yet
pub absent : (vars : ℕ) (nodes : List Node) (lists : List Truths) → AreSound vars nodes lists → (n : Node)
    → IsSon vars lists n.variable n.low → IsSon vars lists n.variable n.high → (Contains nodes n → ⊥) → (k : ℕ) → k < length lists → place lists k ≡ meaning vars lists n → ⊥
absent vars nodes lists s n low high new k within e = by k within e
  where
    by : (k : ℕ) → k < length lists → place lists k ≡ meaning vars lists n → ⊥
    by zero w f = let c : constant false ≡ meaning vars lists n = sym s.zero_is ∙ f in (cc)
    by (suc zero) w f = let c : constant true ≡ meaning vars lists n = sym s.one_is ∙ f in (cc)
    by (suc (suc i)) w f =
        let small : i < length nodes = omega (arith, s.count) in
        let at : slice_get nodes i ≡ Some (slice_index_or nodes i n) = slice_get-get_or nodes i n small in
        let e2 : i + 2 ≡ suc (suc i) = omega arith in
        let g : meaning vars lists (slice_index_or nodes i n) ≡ meaning vars lists n =
        sym (s.sound i (slice_index_or nodes i n) at).is ∙ ap (λ (m : ℕ). place lists m) e2 ∙ f in
        new (i, small, same_node vars nodes lists s i (slice_index_or nodes i n) n at low high g)

-- the node that stands at a place after a push
pushed_cases : (nodes : List Node) (n m : Node) (i : ℕ) → slice_get (nodes ++ n ∷ []) i ≡ Some m → ((i < length nodes) × (slice_get nodes i ≡ Some m)) ⊎ ((i ≡ length nodes) × (n ≡ m))
pushed_cases nodes n m i at = by (cases_lt i (length nodes))
  where
    within : i < length (nodes ++ n ∷ [])
    within = slice_get_within (nodes ++ n ∷ []) i m at

    here : slice_index_or (nodes ++ n ∷ []) i n ≡ m
    here = get_or_from_slice_get (nodes ++ n ∷ []) i m n at

    by : ((i < length nodes) ⊎ (length nodes ≤ i)) → ((i < length nodes) × (slice_get nodes i ≡ Some m)) ⊎ ((i ≡ length nodes) × (n ≡ m))
    by (inl small) = inl (small, slice_get-get_or nodes i n small ∙ ap (λ (x : Node). Some x) (sym (get_or_append_left nodes (n ∷ []) n i small) ∙ here))
    by (inr large) =
        let e : i ≡ length nodes = omega (arith, within, length-append nodes (n ∷ [])) in
        inr (e, sym (get_or-append_seam nodes n [] n) ∙ ap (λ (k : ℕ). slice_index_or (nodes ++ n ∷ []) k n) (sym e) ∙ here)

-- a node whose sons are unequal has unequal halves
pub uneven_new : (vars : ℕ) (nodes : List Node) (lists : List Truths) → AreSound vars nodes lists → (n : Node)
    → IsSon vars lists n.variable n.low → IsSon vars lists n.variable n.high → (n.low ≡ n.high → ⊥) → IsUneven (meaning vars lists n)
uneven_new vars nodes lists s n low high apart e =
    apart (s.distinct n.low n.high low.within high.within
    (raised_to-injective _ _ _ _ (reduced vars nodes lists s n.low low.within) (reduced vars nodes lists s n.high high.within) e))

pub sound-push : (vars : ℕ) (nodes : List Node) (lists : List Truths) (n : Node) → AreSound vars nodes lists
    → IsSon vars lists n.variable n.low → IsSon vars lists n.variable n.high → (n.low ≡ n.high → ⊥) → (Contains nodes n → ⊥)
    → AreSound vars (nodes ++ n ∷ []) (lists ++ meaning vars lists n ∷ [])
sound-push vars nodes lists n s low high apart new = record {
  count = omega (arith, s.count, length-append nodes (n ∷ []), length-append lists (meaning vars lists n ∷ []));
  zero_is = place-kept lists (t ∷ []) 0 (omega (arith, s.count)) ∙ s.zero_is;
  one_is = place-kept lists (t ∷ []) 1 (omega (arith, s.count)) ∙ s.one_is;
  sound = λ i m at. sound_at i m (pushed_cases nodes n m i at);
  uneven = λ i w. uneven_at i w (cases_lt i (length nodes));
  distinct = λ i j wi wj e. distinct_at i j wi wj e (cases_lt i (length lists)) (cases_lt j (length lists));
}
  where
    t : Truths
    t = meaning vars lists n

    sound_at : (i : ℕ) (m : Node) → ((i < length nodes) × (slice_get nodes i ≡ Some m)) ⊎ ((i ≡ length nodes) × (n ≡ m)) → IsSound vars (lists ++ t ∷ []) i m
    sound_at i m (inl p) = sound-kept vars lists (t ∷ []) i m (omega (arith, p.0, s.count)) (s.sound i m p.1)
    sound_at i m (inr p) = subst (λ (m : Node). IsSound vars (lists ++ t ∷ []) i m) p.1 (record {
      low = son-kept vars lists (t ∷ []) n.variable n.low low;
      high = son-kept vars lists (t ∷ []) n.variable n.high high;
      apart = apart;
      is = place-new lists t (i + 2) (omega (arith, p.0, s.count)) ∙ sym (joined-kept vars lists (t ∷ []) n.variable n.low n.high low.within high.within);
    })

    uneven_at : (i : ℕ) → i < length (nodes ++ n ∷ []) → ((i < length nodes) ⊎ (length nodes ≤ i)) → IsUneven (place (lists ++ t ∷ []) (i + 2))
    uneven_at i w (inl small) = subst IsUneven (sym (place-kept lists (t ∷ []) (i + 2) (omega (arith, small, s.count)))) (s.uneven i small)
    uneven_at i w (inr large) =
        subst IsUneven (sym (place-new lists t (i + 2) (omega (arith, w, large, s.count, length-append nodes (n ∷ []))))) (uneven_new vars nodes lists s n low high apart)

    distinct_at : (i j : ℕ) → i < length (lists ++ t ∷ []) → j < length (lists ++ t ∷ []) → place (lists ++ t ∷ []) i ≡ place (lists ++ t ∷ []) j
        → ((i < length lists) ⊎ (length lists ≤ i)) → ((j < length lists) ⊎ (length lists ≤ j)) → i ≡ j
    distinct_at i j wi wj e (inl a) (inl b) = s.distinct i j a b (sym (place-kept lists (t ∷ []) i a) ∙ e ∙ place-kept lists (t ∷ []) j b)
    distinct_at i j wi wj e (inl a) (inr b) =
        absurd (absent vars nodes lists s n low high new i a (sym (place-kept lists (t ∷ []) i a) ∙ e ∙ place-new lists t j (omega (arith, wj, b, length-append lists (t ∷ [])))))
    distinct_at i j wi wj e (inr a) (inl b) =
        absurd (absent vars nodes lists s n low high new j b (sym (place-kept lists (t ∷ []) j b) ∙ sym e ∙ place-new lists t i (omega (arith, wi, a, length-append lists (t ∷ [])))))
    distinct_at i j wi wj e (inr a) (inr b) = omega (arith, wi, wj, a, b, length-append lists (t ∷ []))

pub lists_of-none : (vars : ℕ) → lists_of vars [] ≡ constant false ∷ constant true ∷ []
unfolding lists_of
lists_of-none vars = refl

pub sound-none : (vars : ℕ) → AreSound vars [] (lists_of vars [])
unfolding lists_of
sound-none vars = record {
  count = refl;
  zero_is = refl;
  one_is = refl;
  sound = λ i n at. nothing i n at;
  uneven = λ i w. absurd (omega arith);
  distinct = distinct_at;
}
  where
    nothing : (i : ℕ) (n : Node) → slice_get [] i ≡ Some n → IsSound vars (constant false ∷ constant true ∷ []) i n
    nothing zero n at = (cc)
    nothing (suc i) n at = (cc)

    distinct_at : (i j : ℕ) → i < 2 → j < 2 → place (constant false ∷ constant true ∷ []) i ≡ place (constant false ∷ constant true ∷ []) j → i ≡ j
    distinct_at zero zero wi wj e = refl
    distinct_at zero (suc zero) wi wj e = let b : false ≡ true = (cc) in (cc)
    distinct_at (suc zero) zero wi wj e = let b : false ≡ true = (cc) in (cc)
    distinct_at (suc zero) (suc zero) wi wj e = refl
    distinct_at (suc (suc i)) j wi wj e = absurd (omega arith)
    distinct_at zero (suc (suc j)) wi wj e = absurd (omega arith)
    distinct_at (suc zero) (suc (suc j)) wi wj e = absurd (omega arith)
