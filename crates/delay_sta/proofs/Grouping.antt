-- Arcs by the class to which they lead.
use Rattle.std.proofs.Common.{◌≡◌, ◌≢◌, ◌⊎◌, inl, inr, ℕ, zero, suc, ◌+◌, ◌<◌, Bool, true, false, List, [], ◌∷◌, ◌++◌, length, get_or, take, nat_eq, refl, sym, ap, ◌∙◌, subst, arith}
use Rattle.std.specs.Prelude.{◌↔◌, slice_set}
use Rattle.std.specs.Global.{Vec}
use Rattle.std.proofs.lemmas.List.{take_more, get_or-map, get_or-set_same, get_or-set_other, length-set}
use Rattle.std.proofs.lemmas.Bool.{eqb-true, eq-eqb}
use Rattle.net_core.specs.Places.{Stands, IsThere}
use Rattle.net_core.proofs.Standing.{Split, left, right, split, stands_left, stands_last, only_one}
use Rattle.delay_sta.specs.declared.graph.TimedArc.{TimedArc}
use Rattle.delay_sta.specs.Graph.{group_of, AreGrouped}

pub nothing_there : {X : Type 0} (x : X) → IsThere [] x → ⊥
nothing_there {X} x t = by t.0 t.1 where
  by : (k : ℕ) → Stands [] k x → ⊥
  by k s = absurd cc

pub there_more : {X : Type 0} (xs : List X) (x y : X) → IsThere (xs ++ x ∷ []) y ↔ (IsThere xs y ⊎ (x ≡ y))
there_more {X} xs x y = (one, two) where
  one : IsThere (xs ++ x ∷ []) y → IsThere xs y ⊎ (x ≡ y)
  one t = by (split xs (x ∷ []) t.0 y t.1) where
    by : Split xs (x ∷ []) t.0 y → IsThere xs y ⊎ (x ≡ y)
    by (left s) = inl (t.0, s)
    by (right j n s) = inr (only_one x y (j, s))

  two : IsThere xs y ⊎ (x ≡ y) → IsThere (xs ++ x ∷ []) y
  two (inl t) = (t.0, stands_left xs (x ∷ []) t.0 y t.1)
  two (inr e) = subst (λ (z : X). IsThere (xs ++ x ∷ []) z) e (length xs, stands_last xs x)

pub group_at : (groups : List (Vec TimedArc)) (class : ℕ) (g : Vec TimedArc) → class < length groups → g ≡ get_or groups class g → group_of groups class ≡ g.items
group_at groups class g l e = get_or-map (λ (v : Vec TimedArc). v.items) groups class g [] l ∙ ap (λ (v : Vec TimedArc). v.items) (sym e)

pub no_arcs : (groups : List (Vec TimedArc)) → ((class : ℕ) → class < length groups → group_of groups class ≡ []) → AreGrouped [] groups
no_arcs groups empty x class l =
    ((λ t. absurd (nothing_there x (subst (λ (xs : List TimedArc). IsThere xs x) (empty class l) t))), (λ h. absurd (nothing_there x h.0)))

pub empty_more : (old : List (Vec TimedArc)) (g : Vec TimedArc) → g.items ≡ [] → ((class : ℕ) → class < length old → group_of old class ≡ [])
    → (class : ℕ) → class < length (old ++ g ∷ []) → group_of (old ++ g ∷ []) class ≡ []
empty_more [] g e before zero l = e
empty_more [] g e before (suc class) l = absurd (omega (arith, l))
empty_more (h ∷ old) g e before zero l = before 0 (omega arith)
empty_more (h ∷ old) g e before (suc class) l = empty_more old g e (λ c m. before (suc c) (omega (arith, m))) class (omega (arith, l))

pub grouped_step : (arcs : List TimedArc) (x : TimedArc) (groups : List (Vec TimedArc)) (old new : Vec TimedArc) → AreGrouped arcs groups → x.to < length groups
    → old ≡ get_or groups x.to old → new.items ≡ old.items ++ x ∷ [] → AreGrouped (arcs ++ x ∷ []) (slice_set groups x.to new)
grouped_step arcs x groups old new before low is pushed y class l = by (nat_eq class x.to) refl where
  many : length (slice_set groups x.to new) ≡ length groups
  many = length-set groups x.to new

  less : class < length groups
  less = omega (arith, l, many)

  by : (b : Bool) → nat_eq class x.to ≡ b → IsThere (group_of (slice_set groups x.to new) class) y ↔ (IsThere (arcs ++ x ∷ []) y × (y.to ≡ class))
  by true e = (there_to, back) where
    same : class ≡ x.to
    same = eqb-true class x.to e

    at : group_of (slice_set groups x.to new) class ≡ group_of groups class ++ x ∷ []
    at =
        get_or-map (λ (v : Vec TimedArc). v.items) (slice_set groups x.to new) class new [] l
        ∙ ap (λ (v : Vec TimedArc). v.items) (ap (λ c. get_or (slice_set groups x.to new) c new) same ∙ get_or-set_same groups x.to new new low)
        ∙ pushed ∙ ap (λ (xs : List TimedArc). xs ++ x ∷ []) (sym (group_at groups x.to old low is)) ∙ ap (λ c. group_of groups c ++ x ∷ []) (sym same)

    there_to : IsThere (group_of (slice_set groups x.to new) class) y → IsThere (arcs ++ x ∷ []) y × (y.to ≡ class)
    there_to t = from ((there_more (group_of groups class) x y).0 (subst (λ (xs : List TimedArc). IsThere xs y) at t)) where
      from : IsThere (group_of groups class) y ⊎ (x ≡ y) → IsThere (arcs ++ x ∷ []) y × (y.to ≡ class)
      from (inl u) = let r = (before y class less).0 u in ((there_more arcs x y).1 (inl r.0), r.1)
      from (inr e) = ((there_more arcs x y).1 (inr e), ap (λ (z : TimedArc). z.to) (sym e) ∙ sym same)

    back : IsThere (arcs ++ x ∷ []) y × (y.to ≡ class) → IsThere (group_of (slice_set groups x.to new) class) y
    back h = subst (λ (xs : List TimedArc). IsThere xs y) (sym at) ((there_more (group_of groups class) x y).1 (from ((there_more arcs x y).0 h.0))) where
      from : IsThere arcs y ⊎ (x ≡ y) → IsThere (group_of groups class) y ⊎ (x ≡ y)
      from (inl t) = inl ((before y class less).1 (t, h.1))
      from (inr e) = inr e
  by false e = (there_to, back) where
    apart : class ≢ x.to
    apart q = let no : true ≡ false = sym (eq-eqb class x.to q) ∙ e in absurd cc

    at : group_of (slice_set groups x.to new) class ≡ group_of groups class
    at =
        get_or-map (λ (v : Vec TimedArc). v.items) (slice_set groups x.to new) class new [] l
        ∙ ap (λ (v : Vec TimedArc). v.items) (get_or-set_other groups x.to class new new apart)
        ∙ sym (get_or-map (λ (v : Vec TimedArc). v.items) groups class new [] less)

    there_to : IsThere (group_of (slice_set groups x.to new) class) y → IsThere (arcs ++ x ∷ []) y × (y.to ≡ class)
    there_to t = let r = (before y class less).0 (subst (λ (xs : List TimedArc). IsThere xs y) at t) in ((there_more arcs x y).1 (inl r.0), r.1)

    back : IsThere (arcs ++ x ∷ []) y × (y.to ≡ class) → IsThere (group_of (slice_set groups x.to new) class) y
    back h = subst (λ (xs : List TimedArc). IsThere xs y) (sym at) (from ((there_more arcs x y).0 h.0)) where
      from : IsThere arcs y ⊎ (x ≡ y) → IsThere (group_of groups class) y
      from (inl t) = (before y class less).1 (t, h.1)
      from (inr e) = absurd (apart (sym h.1 ∙ ap (λ (z : TimedArc). z.to) (sym e)))

pub grouped_next : (arcs : List TimedArc) (k : ℕ) (x : TimedArc) (groups : List (Vec TimedArc)) (old new : Vec TimedArc) → k < length arcs → x ≡ get_or arcs k x → AreGrouped (take k arcs) groups → x.to < length groups
    → old ≡ get_or groups x.to old → new.items ≡ old.items ++ x ∷ [] → AreGrouped (take (k + 1) arcs) (slice_set groups x.to new)
grouped_next arcs k x groups old new l at before low is pushed =
    let more : take (k + 1) arcs ≡ take k arcs ++ x ∷ [] = take_more arcs k x l ∙ ap (λ (y : TimedArc). take k arcs ++ y ∷ []) (sym at) in
    subst (λ (xs : List TimedArc). AreGrouped xs (slice_set groups x.to new)) (sym more) (grouped_step (take k arcs) x groups old new before low is pushed)
