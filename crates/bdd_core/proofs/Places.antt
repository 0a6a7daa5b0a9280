-- What the places of a table mean, as its methods need it.
use Rattle.std.proofs.Common.{◌≡◌, ℕ, zero, suc, false, nat_eq, ◌+◌, ◌-◌, ◌^◌, ◌<◌, ◌≤◌, ◌⊎◌, inl, inr, List, [], ◌∷◌, ◌++◌, length, slice_get, Some, refl, sym, ap, subst, ◌∙◌, arith, length-append}
use Rattle.std.specs.List.{slice_index_or, Contains, All}
use Rattle.std.proofs.lemmas.Option.{slice_get_within, slice_get-get_or}
use Rattle.std.proofs.Math.Seq.{get_or-append_seam}
use Rattle.bdd_core.specs.declared.node.Node.{Node}
use Rattle.bdd_core.specs.Truths.{Truths, constant, halves, IsUneven}
use Rattle.bdd_core.specs.Nodes.{raised_to, height, place, joined, meaning, lists_of, Lists, IsNarrow, IsSon, AreSound, IsMade, IsFull}
use Rattle.bdd_core.proofs.Raised.{height-raised_to, raised_to-suc, raised_to-itself}
use Rattle.bdd_core.proofs.Pushing.{lists_of-push, sound-push, uneven_new, absent, joined-kept}
use Rattle.std.proofs.lemmas.List.{get_or_default}
use Rattle.std.proofs.lemmas.List.Elements.{All-push}

abbrev pub table : ℕ → ℕ → List Node → Lists
table vars budget nodes = record { vars = vars; budget = budget; lists = lists_of vars nodes }

pub opened : (vars budget : ℕ) (nodes : List Node) (d : Lists) → table vars budget nodes ≡ d → AreSound vars nodes (lists_of vars nodes) → AreSound d.vars nodes d.lists
opened vars budget nodes d e s = subst (λ (d : Lists). AreSound d.vars nodes d.lists) e s

pub height_at : (vars : ℕ) (nodes : List Node) (lists : List Truths) → AreSound vars nodes lists → (i : ℕ) (n : Node) → slice_get nodes i ≡ Some n → n.variable + height (place lists (i + 2)) ≡ vars
height_at vars nodes lists s i n at =
    let m = s.sound i n at in
    let h : height (raised_to (vars - (n.variable + 1)) (place lists n.low)) ≡ vars - (n.variable + 1) = height-raised_to _ _ (omega (arith, m.low.below)) in
    omega (arith, ap height m.is, h, m.low.below)

-- a variable on which the function doesn't depend
pub stays : (vars : ℕ) (lists : List Truths) (v at : ℕ) → height (place lists at) + v < vars → raised_to (vars - v) (place lists at) ≡ joined vars lists v at at
stays vars lists v at below =
    let e : vars - v ≡ suc (vars - (v + 1)) = omega arith in
    ap (λ (h : ℕ). raised_to h (place lists at)) e ∙ raised_to-suc (vars - (v + 1)) (place lists at) (omega arith)

-- the node's own variable
pub parts : (vars : ℕ) (nodes : List Node) (lists : List Truths) → AreSound vars nodes lists → (i : ℕ) (n : Node) → slice_get nodes i ≡ Some n
    → raised_to (vars - n.variable) (place lists (i + 2)) ≡ meaning vars lists n
parts vars nodes lists s i n at =
    raised_to-itself (vars - n.variable) (place lists (i + 2)) (omega (arith, height_at vars nodes lists s i n at)) ∙ (s.sound i n at).is

-- the same at a place that isn't written as a sum
pub at_sum : (at : ℕ) → 2 ≤ at → (at - 2) + 2 ≡ at
at_sum at h = omega arith

pub constant_height : (vars : ℕ) (nodes : List Node) (lists : List Truths) → AreSound vars nodes lists → (at : ℕ) → at < 2 → height (place lists at) ≡ 0
constant_height vars nodes lists s zero w = ap height s.zero_is
constant_height vars nodes lists s (suc zero) w = ap height s.one_is
constant_height vars nodes lists s (suc (suc k)) w = absurd (omega arith)

pub son_itself : (vars : ℕ) (lists : List Truths) (v at : ℕ) → at < length lists → height (place lists at) + v < vars → IsSon vars lists v at
son_itself vars lists v at w b = record { within = w; below = b }

pub made_same : (d : Lists) (v low : ℕ) → IsSon d.vars d.lists v low → IsMade d d v low low low
made_same d v low s = record {
  within = s.within;
  below = omega (arith, s.below);
  is = stays d.vars d.lists v low s.below;
  lists = inl refl;
}

pub made_found : (d : Lists) (nodes : List Node) (n : Node) (i : ℕ) → AreSound d.vars nodes d.lists → slice_get nodes i ≡ Some n → IsMade d d n.variable n.low n.high (i + 2)
made_found d nodes n i s at = record {
  within = omega (arith, s.count, slice_get_within nodes i n at);
  below = omega (arith, height_at d.vars nodes d.lists s i n at);
  is = parts d.vars nodes d.lists s i n at;
  lists = inl refl;
}

pub still_sound : (vars : ℕ) (nodes after : List Node) (n : Node) → AreSound vars nodes (lists_of vars nodes)
    → IsSon vars (lists_of vars nodes) n.variable n.low → IsSon vars (lists_of vars nodes) n.variable n.high → (n.low ≡ n.high → ⊥) → (Contains nodes n → ⊥) → after ≡ nodes ++ n ∷ []
    → AreSound vars after (lists_of vars after)
still_sound vars nodes after n s low high apart new pushed =
    subst (λ (ns : List Node). AreSound vars ns (lists_of vars ns)) (sym pushed)
    (subst (λ (ls : List Truths). AreSound vars (nodes ++ n ∷ []) ls) (sym (lists_of-push vars nodes n)) (sound-push vars nodes (lists_of vars nodes) n s low high apart new))

pub made_new : (vars budget : ℕ) (nodes after : List Node) (n : Node) (i : ℕ) → AreSound vars nodes (lists_of vars nodes)
    → IsSon vars (lists_of vars nodes) n.variable n.low → IsSon vars (lists_of vars nodes) n.variable n.high → (n.low ≡ n.high → ⊥) → (Contains nodes n → ⊥) → after ≡ nodes ++ n ∷ [] → i ≡ length nodes
    → IsMade (table vars budget nodes) (table vars budget after) n.variable n.low n.high (i + 2)
made_new vars budget nodes after n i s low high apart new pushed is =
    let grown : lists_of vars after ≡ lists_of vars nodes ++ meaning vars (lists_of vars nodes) n ∷ [] =
    ap (λ (ns : List Node). lists_of vars ns) pushed ∙ lists_of-push vars nodes n in
    let s3 : AreSound vars after (lists_of vars after) = still_sound vars nodes after n s low high apart new pushed in
    let at : slice_get after i ≡ Some n =
    ap (λ (ns : List Node). slice_get ns i) pushed
    ∙ slice_get-get_or (nodes ++ n ∷ []) i n (omega (arith, is, length-append nodes (n ∷ [])))
    ∙ ap (λ (k : ℕ). Some (slice_index_or (nodes ++ n ∷ []) k n)) is ∙ ap (λ (m : Node). Some m) (get_or-append_seam nodes n [] n) in
    let before : meaning vars (lists_of vars after) n ≡ meaning vars (lists_of vars nodes) n =
    ap (λ (ls : List Truths). meaning vars ls n) grown ∙ joined-kept vars (lists_of vars nodes) (meaning vars (lists_of vars nodes) n ∷ []) n.variable n.low n.high low.within high.within in
    record {
      within = omega (arith, s3.count, slice_get_within after i n at);
      below = omega (arith, height_at vars after (lists_of vars after) s3 i n at);
      is = parts vars after (lists_of vars after) s3 i n at ∙ before;
      lists = inr (grown, uneven_new vars nodes (lists_of vars nodes) s n low high apart);
    }

pub is_full : (d : Lists) (nodes : List Node) (n : Node) → AreSound d.vars nodes d.lists
    → IsSon d.vars d.lists n.variable n.low → IsSon d.vars d.lists n.variable n.high → (n.low ≡ n.high → ⊥) → (Contains nodes n → ⊥) → length nodes ≡ d.budget
    → IsFull d n.variable n.low n.high
is_full d nodes n s low high apart new full = record {
  full = omega (arith, s.count);
  uneven = uneven_new d.vars nodes d.lists s n low high apart;
  absent = λ c. absent d.vars nodes d.lists s n low high new c.0 c.1 (at_default c);
}
  where
    at_default : (c : Contains d.lists (meaning d.vars d.lists n)) → place d.lists c.0 ≡ meaning d.vars d.lists n
    at_default c = get_or_default d.lists c.0 (constant false) (meaning d.vars d.lists n) c.1 ∙ c.2

-- a son whose place needs more than 32 bits is the last place of the greatest budget, and no node has it
pub is_past : (d : Lists) (nodes : List Node) (v low high : ℕ) → AreSound d.vars nodes d.lists → All IsNarrow nodes
    → IsSon d.vars d.lists v low → IsSon d.vars d.lists v high → (low ≡ high → ⊥) → ((2 ^ 32 ≤ low) ⊎ (2 ^ 32 ≤ high)) → length nodes ≤ d.budget → d.budget < 2 ^ 32
    → IsFull d v low high
is_past d nodes v low high s narrow l h apart past room fits =
    is_full d nodes (record { variable = v; low = low; high = high }) s l h apart (λ c. never c past) (full past)
  where
    never : Contains nodes (record { variable = v; low = low; high = high }) → ((2 ^ 32 ≤ low) ⊎ (2 ^ 32 ≤ high)) → ⊥
    never c (inl p) =
        let n : IsNarrow (record { variable = v; low = low; high = high }) = subst IsNarrow c.2 (narrow c.0 _ c.1) in
        omega (arith, n.low, p)
    never c (inr p) =
        let n : IsNarrow (record { variable = v; low = low; high = high }) = subst IsNarrow c.2 (narrow c.0 _ c.1) in
        omega (arith, n.high, p)

    full : ((2 ^ 32 ≤ low) ⊎ (2 ^ 32 ≤ high)) → length nodes ≡ d.budget
    full (inl p) = omega (arith, p, l.within, s.count, room, fits)
    full (inr p) = omega (arith, p, h.within, s.count, room, fits)

-- the list of nodes stays narrow
pub narrow_push : (nodes after : List Node) (n : Node) → after ≡ nodes ++ n ∷ [] → IsNarrow n → All IsNarrow nodes → All IsNarrow after
narrow_push nodes after n e new all = subst (λ (ns : List Node). All IsNarrow ns) (sym e) (All-push IsNarrow nodes n all new)

-- what `halves` answers at the node's own variable
pub record Own (d : Lists) (v at : ℕ) (n : Node) : Type 0 where
  pub low : IsSon d.vars d.lists v n.low
  pub high : IsSon d.vars d.lists v n.high
  pub is : raised_to (d.vars - v) (place d.lists at) ≡ joined d.vars d.lists v n.low n.high

pub own : (d : Lists) (nodes : List Node) (at : ℕ) (n : Node) → AreSound d.vars nodes d.lists → 2 ≤ at → Some n ≡ slice_get nodes (at - 2) → Own d n.variable at n
own d nodes at n s big found =
    let m = s.sound (at - 2) n (sym found) in
    record {
      low = m.low;
      high = m.high;
      is = ap (λ (k : ℕ). raised_to (d.vars - n.variable) (place d.lists k)) (sym (at_sum at big)) ∙ parts d.vars nodes d.lists s (at - 2) n (sym found);
    }

pub own_at : (d : Lists) (nodes : List Node) (v at : ℕ) (n : Node) → AreSound d.vars nodes d.lists → 2 ≤ at → Some n ≡ slice_get nodes (at - 2) → n.variable ≡ v → Own d v at n
own_at d nodes v at n s big found e = subst (λ (v : ℕ). Own d v at n) e (own d nodes at n s big found)

pub variable_is : (d : Lists) (nodes : List Node) (at : ℕ) (n : Node) → AreSound d.vars nodes d.lists → 2 ≤ at → Some n ≡ slice_get nodes (at - 2) → n.variable + height (place d.lists at) ≡ d.vars
variable_is d nodes at n s big found =
    subst (λ (k : ℕ). n.variable + height (place d.lists k) ≡ d.vars) (at_sum at big) (height_at d.vars nodes d.lists s (at - 2) n (sym found))

pub bit_is : (vars : ℕ) (nodes : List Node) (lists : List Truths) → AreSound vars nodes lists → (at : ℕ) → at < length lists → height (place lists at) ≡ 0 → place lists at ≡ constant (nat_eq at 1)
bit_is vars nodes lists s zero w h = s.zero_is
bit_is vars nodes lists s (suc zero) w h = s.one_is
bit_is vars nodes lists s (suc (suc k)) w h =
    let e : k + 2 ≡ suc (suc k) = omega arith in
    absurd (never (place lists (k + 2)) (s.uneven k (omega (arith, s.count))) (ap (λ (m : ℕ). height (place lists m)) e ∙ h))
  where
    never : (t : Truths) → IsUneven t → height t ≡ 0 → ⊥
    never (constant b) u h = u
    never (halves a b) u h = omega arith
