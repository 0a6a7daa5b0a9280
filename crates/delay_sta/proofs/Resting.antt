-- Greatest arrivals are in time: what an exchange starts from.
use Rattle.std.proofs.Common.{◌≡◌, ◌⊎◌, inl, inr, ℕ, ◌+◌, ◌^◌, ◌<◌, Bool, true, false, cond, List, [], ◌∷◌, get_or, length, Option, Some, None, refl, sym, ap, subst, ◌∙◌, arith}
use Rattle.std.specs.List.{sum_by}
use Rattle.std.specs.Global.{Vec}
use Rattle.std.proofs.lemmas.List.Sums.{sum_by-cons}
use Rattle.cell_model.specs.Library.{Library}
use Rattle.net_core.specs.Places.{IsThere}
use Rattle.net_core.specs.Netlist.{Netlist, IsNetlist}
use Rattle.delay_sta.specs.declared.arrivals.Delays.{Delays}
use Rattle.delay_sta.specs.declared.graph.TimedArc.{TimedArc}
use Rattle.delay_sta.specs.Paths.{Step, Leads, starts, begins, goes_on, TakesTo, IsGreatest}
use Rattle.delay_sta.specs.Graph.{step_of, group_of, IsIn, IsGraph, later_by, arrival_by, IsBy, IsInTime, AreSources, StartsIn, AreStarts, AreSettled}
use Rattle.delay_sta.specs.Timed.{AreDelaysOf}
use Rattle.delay_sta.proofs.Settling.{source_in_time}
use Rattle.delay_sta.proofs.Routes.{graph_of, settled_of}

module _ (groups : List (Vec TimedArc)) (order : List ℕ) (count : ℕ) (old now : List (Option ℕ))
    (graph : IsGraph groups order count) (zeros : AreStarts old) (many : length old ≡ count) (settled : AreSettled groups old now) where
  abbrev Taken : ℕ → ℕ → Type 0
  Taken class time = TakesTo (StartsIn old) (IsIn groups true) (IsIn groups false) class time

  greatest : (class : ℕ) → class < count → IsGreatest (Taken class) (get_or now class None)
  greatest class l = settled class (omega (arith, l, many))

  -- no path comes later than the arrival of its class
  latest_of : (class time : ℕ) → class < count → Taken class time → IsBy (Some time) (get_or now class None)
  latest_of class time l p = by (get_or now class None) (greatest class l) where
    by : (o : Option ℕ) → IsGreatest (Taken class) o → IsBy (Some time) o
    by None g = absurd (g time p)
    by (Some t) g = (t, refl, g.1 time p)

  starting : (class time : ℕ) → get_or old class None ≡ Some time → Taken class time
  starting class time e =
      let z = zeros class time e in
      record { path = []; leads = starts (subst (λ t. get_or old class None ≡ Some t) z e); sum = z }

  own : (class : ℕ) (x : TimedArc) → IsThere (group_of groups class) x → IsThere (group_of groups x.to) x
  own class x t = subst (λ c. IsThere (group_of groups c) x) (sym (graph.to class x t)) t

  beginning : (class : ℕ) (x : TimedArc) → IsThere (group_of groups class) x → x.begins ≡ true → Taken class x.delay
  beginning class x t way =
      let sum = sum_by-cons (λ (p : Step). p.delay) (step_of x) [] in
      let made : Taken x.to x.delay = record {
        path = step_of x ∷ [];
        leads = begins {s = step_of x} (record { arc = x; listed = own class x t; way = way; is = refl });
        sum = omega (arith, sum);
      } in
      subst (λ c. Taken c x.delay) (graph.to class x t) made

  going_on : (class time : ℕ) (x : TimedArc) → IsThere (group_of groups class) x → x.begins ≡ false → Taken x.from time → Taken class (time + x.delay)
  going_on class time x t way p =
      let sum = sum_by-cons (λ (q : Step). q.delay) (step_of x) p.path in
      let part = p.sum in
      let made : Taken x.to (time + x.delay) = record {
        path = step_of x ∷ p.path;
        leads = goes_on {s = step_of x} p.leads (record { arc = x; listed = own class x t; way = way; is = refl });
        sum = omega (arith, sum, part);
      } in
      subst (λ c. Taken c (time + x.delay)) (graph.to class x t) made

  by_way : (x : TimedArc) (b : Bool) → x.begins ≡ b → arrival_by now x ≡ cond b (Some x.delay) (later_by x.delay (get_or now x.from None))
  by_way x b e = ap (λ c. cond c (Some x.delay) (later_by x.delay (get_or now x.from None))) e

  each : (class : ℕ) → class < count → (x : TimedArc) → IsThere (group_of groups class) x → IsBy (arrival_by now x) (get_or now class None)
  each class l x t = by x.begins refl where
    low : x.from < count
    low = graph.from class x t

    from : x.begins ≡ false → (o : Option ℕ) → IsGreatest (Taken x.from) o → IsBy (later_by x.delay o) (get_or now class None)
    from way None g = tt
    from way (Some u) g = latest_of class (u + x.delay) l (going_on class u x t way g.0)

    by : (b : Bool) → x.begins ≡ b → IsBy (arrival_by now x) (get_or now class None)
    by true way = subst (λ (o : Option ℕ). IsBy o (get_or now class None)) (sym (by_way x true way)) (latest_of class x.delay l (beginning class x t way))
    by false way =
        subst (λ (o : Option ℕ). IsBy o (get_or now class None)) (sym (by_way x false way)) (from way (get_or now x.from None) (greatest x.from low))

  start : (class : ℕ) → class < count → IsBy (get_or old class None) (get_or now class None)
  start class l = by (get_or old class None) refl where
    by : (o : Option ℕ) → get_or old class None ≡ o → IsBy o (get_or now class None)
    by None e = tt
    by (Some t) e = latest_of class t l (starting class t e)

  abbrev Source : ℕ → Option ℕ → Type 0
  Source class o = (o ≡ get_or old class None) ⊎ ((x : TimedArc) × IsThere (group_of groups class) x × (o ≡ arrival_by now x))

  -- a longest path to a class ends with an arc that arrives then, or it starts there
  last_arc : (class time : ℕ) → IsGreatest (Taken class) (Some time) → (path : List Step) → Leads (StartsIn old) (IsIn groups true) (IsIn groups false) class path
      → time ≡ sum_by (λ s. s.delay) path → Source class (Some time)
  last_arc class time g _ (starts h) sum = inl (ap Some sum ∙ sym h)
  last_arc _ time g _ (begins {s = s} h) sum =
      let x = h.arc in
      let to : x.to ≡ s.to = ap (λ (u : Step). u.to) h.is in
      let delay : x.delay ≡ s.delay = ap (λ (u : Step). u.delay) h.is in
      let whole = sum_by-cons (λ (u : Step). u.delay) s [] in
      let total : time ≡ x.delay = omega (arith, sum, delay, whole) in
      inr (x, subst (λ c. IsThere (group_of groups c) x) to h.listed, ap Some total ∙ sym (by_way x true h.way))
  last_arc _ time g _ (goes_on {s = s} {path = path} lead h) sum = by (get_or now x.from None) refl where
    x : TimedArc
    x = h.arc

    to : x.to ≡ s.to
    to = ap (λ (u : Step). u.to) h.is

    at : IsThere (group_of groups s.to) x
    at = subst (λ c. IsThere (group_of groups c) x) to h.listed

    low : x.from < count
    low = graph.from s.to x at

    before : Taken x.from (sum_by (λ u. u.delay) path)
    before = subst (λ c. Taken c (sum_by (λ u. u.delay) path)) (sym (ap (λ (u : Step). u.from) h.is)) (record { path = path; leads = lead; sum = refl })

    by : (o : Option ℕ) → get_or now x.from None ≡ o → Source s.to (Some time)
    by None e = let no = (subst (λ (o : Option ℕ). IsBy (Some (sum_by (λ u. u.delay) path)) o) e (latest_of x.from (sum_by (λ u. u.delay) path) low before)).1 in absurd cc
    by (Some u) e =
        let known : IsGreatest (Taken x.from) (Some u) = subst (λ (o : Option ℕ). IsGreatest (Taken x.from) o) e (greatest x.from low) in
        let more = known.1 (sum_by (λ v. v.delay) path) before in
        let less = g.1 (u + x.delay) (going_on s.to u x at h.way known.0) in
        let delay : x.delay ≡ s.delay = ap (λ (v : Step). v.delay) h.is in
        let whole = sum_by-cons (λ (v : Step). v.delay) s path in
        let total : time ≡ u + x.delay = omega (arith, more, less, delay, whole, sum) in
        inr (x, at, ap Some total ∙ sym (by_way x false h.way ∙ ap (later_by x.delay) e))

  source : (class : ℕ) → class < count → Source class (get_or now class None)
  source class l = by (get_or now class None) (greatest class l) where
    never : (o : Option ℕ) → get_or old class None ≡ o → IsGreatest (Taken class) None → None ≡ get_or old class None
    never None e g = sym e
    never (Some t) e g = absurd (g t (starting class t e))

    by : (o : Option ℕ) → IsGreatest (Taken class) o → Source class o
    by None g = inl (never (get_or old class None) refl g)
    by (Some t) g = let p = g.0 in last_arc class t g p.path p.leads p.sum

  pub settled_rest : (class : ℕ) → class < count → IsInTime groups old now class
  settled_rest class l = record { is = source class l; start = start class l; each = each class l }

  pub settled_sources : AreSources groups old now
  settled_sources class l e = let m = graph.many in source_in_time groups old now class e (settled_rest class (omega (arith, l, m)))

-- so are the delays of a netlist
module _ (n : Netlist) (l : Library) (sound : IsNetlist n) (d : Delays) (few : n.count < 2 ^ 32) (are : AreDelaysOf n l d) where
  graph_now : IsGraph d.arcs.items d.order.items n.count
  graph_now = graph_of n l sound d.arcs.items d.order.items are.arcs are.order few

  settled_now : AreSettled d.arcs.items d.starts.items d.arrivals.items
  settled_now = settled_of n l sound d.arcs.items d.order.items are.arcs are.order d.starts.items d.arrivals.items are.starts are.arrivals

  pub delays_in_time : (class : ℕ) → class < n.count → IsInTime d.arcs.items d.starts.items d.arrivals.items class
  delays_in_time = settled_rest d.arcs.items d.order.items n.count d.starts.items d.arrivals.items graph_now are.starts.zero are.starts.many settled_now

  pub delays_sources : AreSources d.arcs.items d.starts.items d.arrivals.items
  delays_sources = settled_sources d.arcs.items d.order.items n.count d.starts.items d.arrivals.items graph_now are.starts.zero are.starts.many settled_now
