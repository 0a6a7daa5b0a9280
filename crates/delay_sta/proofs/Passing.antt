-- Classes passed in their order, whose arrivals are taken anew where they are stale.
use Rattle.std.proofs.Common.{◌≡◌, ◌≢◌, ◌⊎◌, inl, inr, ℕ, ◌+◌, ◌<◌, ◌≤◌, Bool, true, false, cond, List, [], length, get_or, nat_eq, Option, Some, None, refl, sym, ap, subst, ◌∙◌, arith}
use Rattle.std.specs.Prelude.{not, slice_set}
use Rattle.std.specs.List.{All}
use Rattle.std.specs.Option.{option_eq}
use Rattle.std.specs.Global.{Vec}
use Rattle.std.proofs.lemmas.List.{get_or-set_same, get_or-set_other, length-set, get_or_past}
use Rattle.std.proofs.lemmas.Bool.{cases_lt, eqb-true, eq-eqb}
use Rattle.std.proofs.lemmas.Option.{slice_get_within}
use Rattle.net_core.specs.Places.{Stands, IsThere}
use Rattle.net_core.proofs.Rings.{each_there}
use Rattle.net_core.proofs.Standing.{stands_same}
use Rattle.delay_sta.specs.declared.graph.TimedArc.{TimedArc}
use Rattle.delay_sta.specs.Graph.{group_of, numbers_of, AreReached, IsGraph, later_by, arrival_by, IsBy, IsLatest, IsInTime, AreInTime, AreSources, AreStarts, AreSettled}
use Rattle.delay_sta.proofs.Settling.{some_or_none, nothing_in, group_within, AreBefore, settled_in_time}

-- ---- marks

-- so many classes are marked
pub record MarkedSoFar (classes : List ℕ) (old now : List Bool) (k : ℕ) : Type 0 where
  pub many : length now ≡ length old
  pub marked : (j class : ℕ) → j < k → Stands classes j class → get_or now class false ≡ true
  pub others : (class : ℕ) → (IsThere classes class → ⊥) → get_or now class false ≡ get_or old class false

pub marked_none : (classes : List ℕ) (old : List Bool) → MarkedSoFar classes old old 0
marked_none classes old = record { many = refl; marked = λ j class l s. absurd (omega (arith, l)); others = λ class h. refl }

-- one number, or another
pub same_or_not : (a b : ℕ) → (a ≡ b) ⊎ (a ≢ b)
same_or_not a b = by (nat_eq a b) refl where
  by : (t : Bool) → nat_eq a b ≡ t → (a ≡ b) ⊎ (a ≢ b)
  by true e = inl (eqb-true a b e)
  by false e = inr (λ same. let no : true ≡ false = sym (eq-eqb a b same) ∙ e in absurd cc)

pub marked_next : (classes : List ℕ) (old now : List Bool) (k class : ℕ) → MarkedSoFar classes old now k → Stands classes k class → class < length old
    → MarkedSoFar classes old (slice_set now class true) (k + 1)
marked_next classes old now k class before here low = record {
  many = length-set now class true ∙ before.many;
  marked = λ j d l s. marked j d l s (same_or_not d class);
  others = λ d h. get_or-set_other now class d true false (λ same. h (k, subst (λ c. Stands classes k c) (sym same) here)) ∙ before.others d h;
} where
  put : get_or (slice_set now class true) class false ≡ true
  put = let m = before.many in get_or-set_same now class true false (omega (arith, low, m))

  marked : (j d : ℕ) → j < k + 1 → Stands classes j d → (d ≡ class) ⊎ (d ≢ class) → get_or (slice_set now class true) d false ≡ true
  marked j d l s (inl same) = ap (λ c. get_or (slice_set now class true) c false) same ∙ put
  marked j d l s (inr apart) =
      let ne : j ≢ k = λ e. apart (stands_same classes k d class (subst (λ i. Stands classes i d) e s) here) in
      get_or-set_other now class d true false apart ∙ before.marked j d (omega (arith, l, ne)) s

pub marked_all : (classes : List ℕ) (old now : List Bool) (k class : ℕ) → MarkedSoFar classes old now k → length classes ≤ k → IsThere classes class → get_or now class false ≡ true
marked_all classes old now k class h all t = let w = slice_get_within classes t.0 class t.1 in h.marked t.0 class (omega (arith, w, all)) t.1

-- ---- arrivals compared

pub changed_of : (a b : Option ℕ) → not (option_eq nat_eq a b) ≡ true → a ≢ b
changed_of None None e same = absurd cc
changed_of None (Some y) e same = absurd cc
changed_of (Some x) None e same = absurd cc
changed_of (Some x) (Some y) e same =
    let n : x ≡ y = cc in
    let t : nat_eq x y ≡ true = eq-eqb x y n in
    let no : not true ≡ true = ap not (sym t) ∙ e in absurd cc

pub same_of : (a b : Option ℕ) → not (option_eq nat_eq a b) ≡ false → a ≡ b
same_of None None e = refl
same_of None (Some y) e = absurd cc
same_of (Some x) None e = absurd cc
same_of (Some x) (Some y) e = by (nat_eq x y) refl where
  by : (t : Bool) → nat_eq x y ≡ t → Some x ≡ Some y
  by true q = ap Some (eqb-true x y q)
  by false q = let no : not false ≡ false = ap not (sym q) ∙ e in absurd cc

-- ---- classes in their order

-- so many classes are passed: none of them is stale, and what isn't stale is in time
pub record ArePassed (groups : List (Vec TimedArc)) (order : List ℕ) (count : ℕ) (old now : List (Option ℕ)) (stale : List Bool) (k : ℕ) : Type 0 where
  pub many : (length now ≡ count) × (length stale ≡ count)
  pub passed : (j class : ℕ) → j < k → Stands order j class → get_or stale class false ≡ false
  pub in_time : AreInTime groups old now stale
  pub sources : AreSources groups old now

pub none_passed : (groups : List (Vec TimedArc)) (order : List ℕ) (old now : List (Option ℕ)) (stale : List Bool) → length stale ≡ length now → AreInTime groups old now stale → AreSources groups old now
    → ArePassed groups order (length now) old now stale 0
none_passed groups order old now stale many in_time sources =
    record { many = (refl, many); passed = λ j class l s. absurd (omega (arith, l)); in_time = in_time; sources = sources }

module _ (groups : List (Vec TimedArc)) (order : List ℕ) (count : ℕ) (old now : List (Option ℕ)) (stale : List Bool) (k : ℕ)
    (graph : IsGraph groups order count) (are : ArePassed groups order count old now stale k) where
  -- ones passed are in time
  pub before_of : AreBefore groups order old now k
  before_of = record {
    in_time = λ j class l s.
        let w = graph.inside class (j, s) in
        let m = graph.many in
        are.in_time class (omega (arith, w, m)) (are.passed j class l s);
    sources = are.sources;
  }

  -- at the end all are
  pub all_settled : length order ≤ k → AreStarts old → length old ≡ count → AreSettled groups old now
  all_settled ended zeros each = settled_in_time groups order count old now graph zeros each (λ class l.
      let p = graph.complete class l in
      let w = slice_get_within order p.0 class p.1 in
      let m = graph.many in
      are.in_time class (omega (arith, l, m)) (are.passed p.0 class (omega (arith, w, ended)) p.1))

  pub all_fresh : length order ≤ k → (class : ℕ) → get_or stale class false ≡ false
  all_fresh ended class = by (cases_lt class count) where
    by : (class < count) ⊎ (count ≤ class) → get_or stale class false ≡ false
    by (inl l) =
        let p = graph.complete class l in
        let w = slice_get_within order p.0 class p.1 in
        are.passed p.0 class (omega (arith, w, ended)) p.1
    by (inr l) = let m = are.many.1 in get_or_past stale class false (omega (arith, l, m))

  -- what is reached from a class
  pub reached_low : (class : ℕ) (reached : List (Vec ℕ)) → AreReached groups reached → All (λ d. d < length (slice_set stale class false)) (numbers_of reached class)
  reached_low class reached is = each_there (λ (d : ℕ). d < length (slice_set stale class false)) (numbers_of reached class) (λ d t.
      let x = is.only class d t in
      let w = group_within groups d x.0 x.1 in
      let m = graph.many in
      let n = are.many.1 in
      let e = length-set stale class false in
      omega (arith, w, m, n, e))

  -- a class that isn't stale
  pub passed_fresh : (class : ℕ) → Stands order k class → get_or stale class false ≡ false → ArePassed groups order count old now stale (k + 1)
  passed_fresh class here fresh = record { many = are.many; passed = passed; in_time = are.in_time; sources = are.sources } where
    passed : (j d : ℕ) → j < k + 1 → Stands order j d → get_or stale d false ≡ false
    passed j d l s = by (cases_lt j k) where
      by : (j < k) ⊎ (k ≤ j) → get_or stale d false ≡ false
      by (inl less) = are.passed j d less s
      by (inr last) =
          let e : j ≡ k = omega (arith, l, last) in
          let same : d ≡ class = stands_same order k d class (subst (λ i. Stands order i d) e s) here in
          ap (λ c. get_or stale c false) same ∙ fresh

  module _ (class : ℕ) (latest : Option ℕ) (here : Stands order k class) (is : IsLatest (get_or old class None) now (group_of groups class) latest) where
    low : class < count
    low = graph.inside class (k, here)

    -- no longer stale
    abbrev clear : List Bool
    clear = slice_set stale class false

    cleared : get_or clear class false ≡ false
    cleared = let m = are.many.1 in get_or-set_same stale class false false (omega (arith, low, m))

    clear_other : (d : ℕ) → d ≢ class → get_or clear d false ≡ get_or stale d false
    clear_other d ne = get_or-set_other stale class d false false ne

    clear_passed : (j d : ℕ) → j < k + 1 → Stands order j d → get_or clear d false ≡ false
    clear_passed j d l s = by (same_or_not d class) where
      by : (d ≡ class) ⊎ (d ≢ class) → get_or clear d false ≡ false
      by (inl same) = ap (λ c. get_or clear c false) same ∙ cleared
      by (inr apart) =
          let ne : j ≢ k = λ e. apart (stands_same order k d class (subst (λ i. Stands order i d) e s) here) in
          clear_other d apart ∙ are.passed j d (omega (arith, l, ne)) s

    -- a stale class whose arrival stays
    pub passed_same : latest ≡ get_or now class None → ArePassed groups order count old now (slice_set stale class false) (k + 1)
    passed_same same = record { many = (are.many.0, length-set stale class false ∙ are.many.1); passed = clear_passed; in_time = in_time; sources = are.sources } where
      in_time : AreInTime groups old now clear
      in_time d l fresh = by (same_or_not d class) where
        by : (d ≡ class) ⊎ (d ≢ class) → IsInTime groups old now d
        by (inl e) = subst (IsInTime groups old now) (sym e) (subst (λ (o : Option ℕ). IsLatest (get_or old class None) now (group_of groups class) o) same is)
        by (inr apart) = are.in_time d l (sym (clear_other d apart) ∙ fresh)

    -- a stale class whose arrival changes, so that those reached from it are stale
    module _ (reached : List (Vec ℕ)) (marks : List Bool) (are_reached : AreReached groups reached) (changed : latest ≢ get_or now class None)
        (each : length marks ≡ length clear)
        (marked : (d : ℕ) → IsThere (numbers_of reached class) d → get_or marks d false ≡ true)
        (others : (d : ℕ) → (IsThere (numbers_of reached class) d → ⊥) → get_or marks d false ≡ get_or clear d false) where
      abbrev new : List (Option ℕ)
      new = slice_set now class latest

      at_class : get_or new class None ≡ latest
      at_class = let m = are.many.0 in get_or-set_same now class latest None (omega (arith, low, m))

      elsewhere : (d : ℕ) → d ≢ class → get_or new d None ≡ get_or now d None
      elsewhere d ne = get_or-set_other now class d latest None ne

      -- an arc leads to it, since it would be in time else
      its_arc : (group_of groups class ≡ []) ⊎ ((y : TimedArc) × IsThere (group_of groups class) y) → (y : TimedArc) × IsThere (group_of groups class) y
      its_arc (inr y) = y
      its_arc (inl e) = absurd (by is.is) where
        by : (latest ≡ get_or old class None) ⊎ ((x : TimedArc) × IsThere (group_of groups class) x × (latest ≡ arrival_by now x)) → ⊥
        by (inl same) = let m = graph.many in changed (same ∙ sym (are.sources class (omega (arith, low, m)) e))
        by (inr w) = nothing_in w.0 (subst (λ (xs : List TimedArc). IsThere xs w.0) e w.1)

      -- what is reached stands behind
      reached_behind : (j d : ℕ) → Stands order j d → IsThere (numbers_of reached class) d → k < j
      reached_behind j d s t =
          let x = are_reached.only class d t in
          let y = its_arc (some_or_none (group_of groups class)) in
          graph.behind x.0 y.0 d class j k x.1 y.1 x.2 x.3 s here

      passed : (j d : ℕ) → j < k + 1 → Stands order j d → get_or marks d false ≡ false
      passed j d l s = others d (λ t. let b = reached_behind j d s t in absurd (omega (arith, b, l))) ∙ clear_passed j d l s

      unreached : (d : ℕ) → get_or marks d false ≡ false → IsThere (numbers_of reached class) d → ⊥
      unreached d fresh t = let no : true ≡ false = sym (marked d t) ∙ fresh in absurd cc

      -- an arc to a class that isn't reached from this one arrives as before
      same_arrival : (d : ℕ) (x : TimedArc) → get_or marks d false ≡ false → IsThere (group_of groups d) x → arrival_by new x ≡ arrival_by now x
      same_arrival d x fresh t = by x.begins refl where
        by : (b : Bool) → x.begins ≡ b → cond b (Some x.delay) (later_by x.delay (get_or new x.from None)) ≡ cond b (Some x.delay) (later_by x.delay (get_or now x.from None))
        by true way = refl
        by false way = ap (later_by x.delay) (elsewhere x.from (λ e. unreached d fresh (subst (λ c. IsThere (numbers_of reached c) d) e (are_reached.each d x t way))))

      in_new : (d : ℕ) (o : Option ℕ) → get_or marks d false ≡ false → IsLatest (get_or old d None) now (group_of groups d) o → IsLatest (get_or old d None) new (group_of groups d) o
      in_new d o fresh h = record {
        is = elim h.is [ inl e ↦ inl e | inr w ↦ inr (w.0, w.1, w.2 ∙ sym (same_arrival d w.0 fresh w.1)) ];
        start = h.start;
        each = λ x t. subst (λ (p : Option ℕ). IsBy p o) (sym (same_arrival d x fresh t)) (h.each x t);
      }

      in_time : AreInTime groups old new marks
      in_time d l fresh = by (same_or_not d class) where
        by : (d ≡ class) ⊎ (d ≢ class) → IsInTime groups old new d
        by (inl e) =
            let here_fresh : get_or marks class false ≡ false = subst (λ c. get_or marks c false ≡ false) e fresh in
            subst (IsInTime groups old new) (sym e)
            (subst (λ (o : Option ℕ). IsLatest (get_or old class None) new (group_of groups class) o) (sym at_class) (in_new class latest here_fresh is))
        by (inr apart) =
            let was = are.in_time d l (sym (clear_other d apart) ∙ sym (others d (unreached d fresh)) ∙ fresh) in
            subst (λ (o : Option ℕ). IsLatest (get_or old d None) new (group_of groups d) o) (sym (elsewhere d apart)) (in_new d (get_or now d None) fresh was)

      sources : AreSources groups old new
      sources d l e = elsewhere d apart ∙ are.sources d l e where
        apart : d ≢ class
        apart same =
            let y = its_arc (some_or_none (group_of groups class)) in
            nothing_in y.0 (subst (λ (xs : List TimedArc). IsThere xs y.0) e (subst (λ c. IsThere (group_of groups c) y.0) (sym same) y.1))

      pub passed_changed : ArePassed groups order count old (slice_set now class latest) marks (k + 1)
      passed_changed = record {
        many = (length-set now class latest ∙ are.many.0, each ∙ length-set stale class false ∙ are.many.1);
        passed = passed;
        in_time = in_time;
        sources = sources;
      }
