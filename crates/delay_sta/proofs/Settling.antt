-- Arrivals of classes, settled along an order of them.
use Rattle.std.proofs.Common.{◌≡◌, ◌⊎◌, inl, inr, ℕ, zero, suc, ◌+◌, ◌*◌, ◌^◌, ◌<◌, ◌≤◌, Bool, true, false, cond, List, [], ◌∷◌, ◌++◌, map, length, get_or, take, Option, Some, None, refl, sym, ap, subst, ◌∙◌, arith}
use Rattle.std.specs.Prelude.{IfSome}
use Rattle.std.specs.List.{sum_by, All}
use Rattle.std.specs.Global.{Vec}
use Rattle.std.proofs.lemmas.List.{take_more, length-map, get_or_past}
use Rattle.std.proofs.lemmas.List.Sums.{sum_by-cons}
use Rattle.std.proofs.lemmas.Bool.{cases_lt}
use Rattle.std.proofs.lemmas.Option.{slice_get_within, slice_get-get_or}
use Rattle.net_core.specs.Places.{Stands, IsThere}
use Rattle.net_core.proofs.Rings.{each_there}
use Rattle.net_core.proofs.Standing.{Split, left, right, split, stands_left, stands_last, only_one}
use Rattle.delay_sta.specs.declared.graph.TimedArc.{TimedArc}
use Rattle.delay_sta.specs.Paths.{Step, Leads, starts, begins, goes_on, TakesTo, IsGreatest}
use Rattle.delay_sta.specs.Graph.{step_of, group_of, IsIn, IsGraph, later_by, arrival_by, IsBy, IsLatest, IsInTime, AreSources, StartsIn, AreStarts, AreSettled}

-- ---- not later

pub by_itself : (t : Option ℕ) → IsBy t t
by_itself None = tt
by_itself (Some x) = (x, refl, omega arith)

pub by_through : (a b c : Option ℕ) → IsBy a b → IsBy b c → IsBy a c
by_through None b c h g = tt
by_through (Some x) b c h g =
    let next : IsBy (Some h.0) c = subst (λ (o : Option ℕ). IsBy o c) h.1 g in
    (next.0, next.1, let p = h.2 in let q = next.2 in omega (arith, p, q))

-- ---- members of groups

pub group_within : (groups : List (Vec TimedArc)) (class : ℕ) (x : TimedArc) → IsThere (group_of groups class) x → class < length groups
group_within groups class x t = by (cases_lt class (length groups)) where
  nothing : (k : ℕ) → Stands [] k x → ⊥
  nothing k s = absurd cc

  many : length (map (λ (g : Vec TimedArc). g.items) groups) ≡ length groups
  many = length-map groups (λ (g : Vec TimedArc). g.items)

  by : (class < length groups) ⊎ (length groups ≤ class) → class < length groups
  by (inl l) = l
  by (inr l) =
      let e : group_of groups class ≡ [] = get_or_past (map (λ (g : Vec TimedArc). g.items) groups) class [] (omega (arith, l, many)) in
      let u : IsThere [] x = subst (λ (xs : List TimedArc). IsThere xs x) e t in
      absurd (nothing u.0 u.1)

-- ---- the latest of some arcs

pub latest_start : (initial : Option ℕ) (arrivals : List (Option ℕ)) → IsLatest initial arrivals [] initial
latest_start initial arrivals = record { is = inl refl; start = by_itself initial; each = λ x t. absurd (nothing x t.0 t.1) } where
  nothing : (x : TimedArc) (k : ℕ) → Stands [] k x → ⊥
  nothing x k s = absurd cc

pub latest_more : (initial : Option ℕ) (arrivals : List (Option ℕ)) (arcs : List TimedArc) (k : ℕ) (x : TimedArc) (old now : Option ℕ) → k < length arcs → x ≡ get_or arcs k x
    → IsLatest initial arrivals (take k arcs) old → (now ≡ old) ⊎ (now ≡ arrival_by arrivals x) → IsBy old now → IsBy (arrival_by arrivals x) now
    → IsLatest initial arrivals (take (k + 1) arcs) now
latest_more initial arrivals arcs k x old now l at before is older newer =
    subst (λ (xs : List TimedArc). IsLatest initial arrivals xs now) (sym more) (record { is = source is; start = by_through initial old now before.start older; each = each }) where
      more : take (k + 1) arcs ≡ take k arcs ++ x ∷ []
      more = take_more arcs k x l ∙ ap (λ (y : TimedArc). take k arcs ++ y ∷ []) (sym at)

      kept : (y : TimedArc) → IsThere (take k arcs) y → IsThere (take k arcs ++ x ∷ []) y
      kept y t = (t.0, stands_left (take k arcs) (x ∷ []) t.0 y t.1)

      source : (now ≡ old) ⊎ (now ≡ arrival_by arrivals x) → (now ≡ initial) ⊎ ((y : TimedArc) × IsThere (take k arcs ++ x ∷ []) y × (now ≡ arrival_by arrivals y))
      source (inl same) = elim before.is [
        | inl e ↦ inl (same ∙ e)
        | inr w ↦ inr (w.0, kept w.0 w.1, same ∙ w.2)
      ]
      source (inr same) = inr (x, (length (take k arcs), stands_last (take k arcs) x), same)

      each : (y : TimedArc) → IsThere (take k arcs ++ x ∷ []) y → IsBy (arrival_by arrivals y) now
      each y t = from (split (take k arcs) (x ∷ []) t.0 y t.1) where
        from : Split (take k arcs) (x ∷ []) t.0 y → IsBy (arrival_by arrivals y) now
        from (left s) = by_through (arrival_by arrivals y) old now (before.each y (t.0, s)) older
        from (right j n s) = let e : x ≡ y = only_one x y (j, s) in subst (λ (z : TimedArc). IsBy (arrival_by arrivals z) now) e newer

-- ---- along the order

-- a list is empty, or something is there
pub some_or_none : {X : Type 0} (xs : List X) → (xs ≡ []) ⊎ ((x : X) × IsThere xs x)
some_or_none [] = inl refl
some_or_none (x ∷ xs) = inr (x, (0, refl))

-- the classes before a place of the order are in time, and so are those to which no arc leads
pub record AreBefore (groups : List (Vec TimedArc)) (order : List ℕ) (old now : List (Option ℕ)) (k : ℕ) : Type 0 where
  pub in_time : (j class : ℕ) → j < k → Stands order j class → IsInTime groups old now class
  pub sources : AreSources groups old now

module _ (groups : List (Vec TimedArc)) (order : List ℕ) (count : ℕ) (old now : List (Option ℕ)) (k : ℕ)
    (graph : IsGraph groups order count) (zeros : AreStarts old) (before : AreBefore groups order old now k) where
  abbrev Taken : ℕ → ℕ → Type 0
  Taken class time = TakesTo (StartsIn old) (IsIn groups true) (IsIn groups false) class time

  -- where paths go on from a class, it is a source or stands before
  from_before : (x : TimedArc) (class i : ℕ) → IsThere (group_of groups class) x → x.begins ≡ false → Stands order i class
      → (group_of groups x.from ≡ []) ⊎ ((j : ℕ) × (j < i) × Stands order j x.from)
  from_before x class i t way s = by (some_or_none (group_of groups x.from)) where
    by : (group_of groups x.from ≡ []) ⊎ ((y : TimedArc) × IsThere (group_of groups x.from) y) → (group_of groups x.from ≡ []) ⊎ ((j : ℕ) × (j < i) × Stands order j x.from)
    by (inl e) = inl e
    by (inr y) =
        let p = graph.complete x.from (graph.from class x t) in
        inr (p.0, graph.behind x y.0 class x.from i p.0 t y.1 way refl s p.1, p.1)

  source_at : (class time : ℕ) → class < count → group_of groups class ≡ [] → get_or now class None ≡ Some time → get_or old class None ≡ Some time
  source_at class time l e f = let m = graph.many in sym (before.sources class (omega (arith, l, m)) e) ∙ f

  small_step : (j class time : ℕ) → j < k → Stands order j class → get_or now class None ≡ Some time
      → ((i c t : ℕ) → i < j → Stands order i c → get_or now c None ≡ Some t → t ≤ (i + 1) * 2 ^ 96) → time ≤ (j + 1) * 2 ^ 96
  small_step j class time l s f rest = by (before.in_time j class l s).is where
    by_from : (x : TimedArc) → IsThere (group_of groups class) x → x.begins ≡ false → (o : Option ℕ) → get_or now x.from None ≡ o → later_by x.delay o ≡ Some time → time ≤ (j + 1) * 2 ^ 96
    by_from x t way None g h = absurd cc
    by_from x t way (Some u) g h =
        let d = graph.short class x t in
        let total : u + x.delay ≡ time = cc in
        elim (from_before x class j t way s) [
          | inl e ↦ let z = zeros x.from u (source_at x.from u (graph.from class x t) e g) in omega (arith, d, total, z)
          | inr w ↦ let a = w.1 in let r = rest w.0 x.from u w.1 w.2 g in omega (arith, a, r, d, total)
        ]

    by_arc : (x : TimedArc) → IsThere (group_of groups class) x → (b : Bool) → x.begins ≡ b → cond b (Some x.delay) (later_by x.delay (get_or now x.from None)) ≡ Some time → time ≤ (j + 1) * 2 ^ 96
    by_arc x t true way g = let d = graph.short class x t in let total : x.delay ≡ time = cc in omega (arith, d, total)
    by_arc x t false way g = by_from x t way (get_or now x.from None) refl g

    by : (get_or now class None ≡ get_or old class None) ⊎ ((x : TimedArc) × IsThere (group_of groups class) x × (get_or now class None ≡ arrival_by now x)) → time ≤ (j + 1) * 2 ^ 96
    by (inl same) = let z = zeros class time (sym same ∙ f) in omega (arith, z)
    by (inr w) = by_arc w.0 w.1 w.0.begins refl (sym w.2 ∙ f)

  small_below : (m j class time : ℕ) → j < m → m ≤ k → Stands order j class → get_or now class None ≡ Some time → time ≤ (j + 1) * 2 ^ 96
  small_below zero j class time l low s f = absurd (omega (arith, l))
  small_below (suc m) j class time l low s f =
      small_step j class time (omega (arith, l, low)) s f (λ i c t less at g. small_below m i c t (omega (arith, less, l)) (omega (arith, low)) at g)

  started : (class time : ℕ) → get_or old class None ≡ Some time → Taken class time
  started class time e =
      let z = zeros class time e in
      record { path = []; leads = starts (subst (λ t. get_or old class None ≡ Some t) z e); sum = z }

  taken_step : (j class time : ℕ) → j < k → Stands order j class → get_or now class None ≡ Some time
      → ((i c t : ℕ) → i < j → Stands order i c → get_or now c None ≡ Some t → Taken c t) → Taken class time
  taken_step j class time l s f rest = by (before.in_time j class l s).is where
    own : (x : TimedArc) → IsThere (group_of groups class) x → IsThere (group_of groups x.to) x
    own x t = subst (λ c. IsThere (group_of groups c) x) (sym (graph.to class x t)) t

    by_from : (x : TimedArc) → IsThere (group_of groups class) x → x.begins ≡ false → (o : Option ℕ) → get_or now x.from None ≡ o → later_by x.delay o ≡ Some time → Taken x.to time
    by_from x t way None g h = absurd cc
    by_from x t way (Some u) g h =
        let w : Taken x.from u = elim (from_before x class j t way s) [
          | inl e ↦ started x.from u (source_at x.from u (graph.from class x t) e g)
          | inr v ↦ rest v.0 x.from u v.1 v.2 g
        ] in
        let total : u + x.delay ≡ time = cc in
        let sum = sum_by-cons (λ (p : Step). p.delay) (step_of x) w.path in
        let part = w.sum in
        record {
          path = step_of x ∷ w.path;
          leads = goes_on {s = step_of x} w.leads (record { arc = x; listed = own x t; way = way; is = refl });
          sum = omega (arith, total, sum, part);
        }

    by_arc : (x : TimedArc) → IsThere (group_of groups class) x → (b : Bool) → x.begins ≡ b → cond b (Some x.delay) (later_by x.delay (get_or now x.from None)) ≡ Some time → Taken x.to time
    by_arc x t true way g =
        let total : x.delay ≡ time = cc in
        let sum = sum_by-cons (λ (p : Step). p.delay) (step_of x) [] in
        record {
          path = step_of x ∷ [];
          leads = begins {s = step_of x} (record { arc = x; listed = own x t; way = way; is = refl });
          sum = omega (arith, total, sum);
        }
    by_arc x t false way g = by_from x t way (get_or now x.from None) refl g

    by : (get_or now class None ≡ get_or old class None) ⊎ ((x : TimedArc) × IsThere (group_of groups class) x × (get_or now class None ≡ arrival_by now x)) → Taken class time
    by (inl same) = started class time (sym same ∙ f)
    by (inr w) = subst (λ c. Taken c time) (graph.to class w.0 w.1) (by_arc w.0 w.1 w.0.begins refl (sym w.2 ∙ f))

  taken_below : (m j class time : ℕ) → j < m → m ≤ k → Stands order j class → get_or now class None ≡ Some time → Taken class time
  taken_below zero j class time l low s f = absurd (omega (arith, l))
  taken_below (suc m) j class time l low s f =
      taken_step j class time (omega (arith, l, low)) s f (λ i c t less at g. taken_below m i c t (omega (arith, less, l)) (omega (arith, low)) at g)

  pub taken : (j class time : ℕ) → j < k → Stands order j class → get_or now class None ≡ Some time → Taken class time
  taken j class time l s f = taken_below k j class time l (omega arith) s f

  -- what taking the latest of the arcs to the next class asks for
  pub inside_at : (class : ℕ) (arcs : List TimedArc) → length now ≡ count → arcs ≡ group_of groups class → All (λ x. x.from < length now) arcs
  inside_at class arcs many e = each_there (λ (x : TimedArc). x.from < length now) arcs (λ x t.
      let l = graph.from class x (subst (λ (xs : List TimedArc). IsThere xs x) e t) in omega (arith, l, many))

  pub few_at : (class : ℕ) (arcs : List TimedArc) → Stands order k class → arcs ≡ group_of groups class
      → All (λ x. x.begins ≡ false → IfSome (get_or now x.from None) (λ t. t + x.delay < 2 ^ 128)) arcs
  few_at class arcs here e = each_there (λ (x : TimedArc). x.begins ≡ false → IfSome (get_or now x.from None) (λ t. t + x.delay < 2 ^ 128)) arcs each where
    each : (x : TimedArc) → IsThere arcs x → x.begins ≡ false → IfSome (get_or now x.from None) (λ t. t + x.delay < 2 ^ 128)
    each x t way = by (get_or now x.from None) refl where
      at : IsThere (group_of groups class) x
      at = subst (λ (xs : List TimedArc). IsThere xs x) e t

      by : (o : Option ℕ) → get_or now x.from None ≡ o → IfSome o (λ t. t + x.delay < 2 ^ 128)
      by None f = tt
      by (Some u) f =
          let d = graph.short class x at in
          elim (from_before x class k at way here) [
            | inl q ↦ let z = zeros x.from u (source_at x.from u (graph.from class x at) q f) in omega (arith, d, z)
            | inr w ↦
                let a = w.1 in
                let r = small_below k w.0 x.from u w.1 (omega arith) w.2 f in
                let b = slice_get_within order k class here in
                let n = graph.few in
                omega (arith, a, r, d, b, n)
          ]

-- a class of the order has a place
pub class_inside : (groups : List (Vec TimedArc)) (order : List ℕ) (count k : ℕ) → IsGraph groups order count → k < length order → get_or order k 0 < count
class_inside groups order count k graph l = graph.inside (get_or order k 0) (k, slice_get-get_or order k 0 l)

-- ---- what is settled

pub nothing_in : {X : Type 0} (x : X) → IsThere [] x → ⊥
nothing_in {X} x t = by t.0 t.1 where
  by : (k : ℕ) → Stands [] k x → ⊥
  by k s = absurd cc

pub arrives_within : (xs : List (Option ℕ)) (class time : ℕ) → get_or xs class None ≡ Some time → class < length xs
arrives_within xs class time e = by (cases_lt class (length xs)) where
  by : (class < length xs) ⊎ (length xs ≤ class) → class < length xs
  by (inl l) = l
  by (inr l) = let no : None ≡ Some time = sym (get_or_past xs class None l) ∙ e in absurd cc

-- where no arc leads to a class and it is in time, it arrives when it starts
pub source_in_time : (groups : List (Vec TimedArc)) (old now : List (Option ℕ)) (class : ℕ) → group_of groups class ≡ [] → IsInTime groups old now class → get_or now class None ≡ get_or old class None
source_in_time groups old now class e h = by h.is where
  by : (get_or now class None ≡ get_or old class None) ⊎ ((x : TimedArc) × IsThere (group_of groups class) x × (get_or now class None ≡ arrival_by now x)) → get_or now class None ≡ get_or old class None
  by (inl same) = same
  by (inr w) = absurd (nothing_in w.0 (subst (λ (xs : List TimedArc). IsThere xs w.0) e w.1))

-- where all classes are in time, their arrivals are the greatest
module _ (groups : List (Vec TimedArc)) (order : List ℕ) (count : ℕ) (old now : List (Option ℕ))
    (graph : IsGraph groups order count) (zeros : AreStarts old) (many : length old ≡ count)
    (all : (class : ℕ) → class < count → IsInTime groups old now class) where
  whole : AreBefore groups order old now (length order)
  whole = record {
    in_time = λ j class l s. all class (graph.inside class (j, s));
    sources = λ class l e. let m = graph.many in source_in_time groups old now class e (all class (omega (arith, l, m)));
  }

  done_at : (class : ℕ) (x : TimedArc) → IsThere (group_of groups class) x → IsBy (arrival_by now x) (get_or now class None)
  done_at class x t =
      let low = group_within groups class x t in
      let m = graph.many in
      (all class (omega (arith, low, m))).each x t

  begun : (class : ℕ) → StartsIn old class → IsBy (Some 0) (get_or now class None)
  begun class h =
      let low = arrives_within old class 0 h in
      subst (λ (o : Option ℕ). IsBy o (get_or now class None)) h (all class (omega (arith, low, many))).start

  by_way : (x : TimedArc) (b : Bool) → x.begins ≡ b → arrival_by now x ≡ cond b (Some x.delay) (later_by x.delay (get_or now x.from None))
  by_way x b e = ap (λ c. cond c (Some x.delay) (later_by x.delay (get_or now x.from None))) e

  longest : (class : ℕ) (path : List Step) → Leads (StartsIn old) (IsIn groups true) (IsIn groups false) class path
      → IsBy (Some (sum_by (λ s. s.delay) path)) (get_or now class None)
  longest class _ (starts h) = begun class h
  longest _ _ (begins {s = s} h) =
      let x = h.arc in
      let by = subst (λ (o : Option ℕ). IsBy o (get_or now x.to None)) (by_way x true h.way) (done_at x.to x h.listed) in
      let to : x.to ≡ s.to = ap (λ (u : Step). u.to) h.is in
      let delay : x.delay ≡ s.delay = ap (λ (u : Step). u.delay) h.is in
      let sum = sum_by-cons (λ (u : Step). u.delay) s [] in
      let total : x.delay ≡ sum_by (λ u. u.delay) (s ∷ []) = omega (arith, delay, sum) in
      subst (λ c. IsBy (Some (sum_by (λ u. u.delay) (s ∷ []))) (get_or now c None)) to (subst (λ d. IsBy (Some d) (get_or now x.to None)) total by)
  longest _ _ (goes_on {s = s} {path = path} lead h) =
      let x = h.arc in
      let to : x.to ≡ s.to = ap (λ (u : Step). u.to) h.is in
      let from : s.from ≡ x.from = ap (λ (u : Step). u.from) (sym h.is) in
      let delay : x.delay ≡ s.delay = ap (λ (u : Step). u.delay) h.is in
      let r : IsBy (Some (sum_by (λ u. u.delay) path)) (get_or now x.from None) = subst (λ c. IsBy (Some (sum_by (λ u. u.delay) path)) (get_or now c None)) from (longest s.from path lead) in
      let is : arrival_by now x ≡ Some (r.0 + x.delay) = by_way x false h.way ∙ ap (later_by x.delay) r.1 in
      let by : IsBy (Some (r.0 + x.delay)) (get_or now x.to None) = subst (λ (o : Option ℕ). IsBy o (get_or now x.to None)) is (done_at x.to x h.listed) in
      let sum = sum_by-cons (λ (u : Step). u.delay) s path in
      let less = r.2 in
      let more = by.2 in
      let whole : IsBy (Some (sum_by (λ u. u.delay) (s ∷ path))) (get_or now x.to None) = (by.0, by.1, omega (arith, less, more, sum, delay)) in
      subst (λ c. IsBy (Some (sum_by (λ u. u.delay) (s ∷ path))) (get_or now c None)) to whole

  pub settled_in_time : AreSettled groups old now
  settled_in_time class l = by (get_or now class None) refl where
    by : (o : Option ℕ) → get_or now class None ≡ o → IsGreatest (TakesTo (StartsIn old) (IsIn groups true) (IsIn groups false) class) o
    by None e = λ d p.
        let r = subst (λ (o : Option ℕ). IsBy (Some (sum_by (λ s. s.delay) p.path)) o) e (longest class p.path p.leads) in
        let no = r.1 in absurd cc
    by (Some t) e = (
      (let p = graph.complete class (omega (arith, l, many)) in
          taken groups order count old now (length order) graph zeros whole p.0 class t (slice_get_within order p.0 class p.1) p.1 e),
      λ d p.
          let r = subst (λ (o : Option ℕ). IsBy (Some (sum_by (λ s. s.delay) p.path)) o) e (longest class p.path p.leads) in
          let same : t ≡ r.0 = let q = r.1 in cc in
          let less = r.2 in
          let is = p.sum in
          omega (arith, same, less, is),
    )
