-- A longest path, step by step from its end back.
use Rattle.std.proofs.Common.{◌≡◌, ◌≢◌, ◌⊎◌, inl, inr, ℕ, zero, suc, ◌+◌, ◌<◌, ◌≤◌, Bool, true, false, cond, List, [], ◌∷◌, ◌++◌, map, length, get_or, nat_eq, Option, Some, None, refl, sym, ap, ◌∙◌, subst, append_assoc, append-nil, arith}
use Rattle.std.specs.Prelude.{slice_set, MatchOption}
use Rattle.std.specs.Bool.{MatchBool}
use Rattle.std.specs.List.{flat_map, sum_by}
use Rattle.std.specs.Global.{Vec}
use Rattle.std.specs.Option.{option_eq}
use Rattle.std.proofs.lemmas.List.{get_or-set_same, get_or-set_other, length-set}
use Rattle.std.proofs.lemmas.List.Sums.{sum_by-cons, sum_by-append}
use Rattle.std.proofs.lemmas.Bool.{cases_lt, eqb-true, eq-eqb}
use Rattle.std.proofs.lemmas.Option.{slice_get_within, slice_get-get_or}
use Rattle.vlsi_base.specs.declared.name.Name.{Name}
use Rattle.vlsi_base.specs.declared.name.Port.{Port}
use Rattle.vlsi_base.specs.declared.name.Terminal.{Terminal}
use Rattle.cell_model.specs.Cell.{Cell}
use Rattle.cell_model.specs.Library.{Library}
use Rattle.cell_checks.specs.Arcs.{BeginsThere, GoesThrough}
use Rattle.net_core.specs.Places.{Stands, IsThere}
use Rattle.net_core.specs.Netlist.{Instance, Netlist, IsNetlist, port, pin_of, pins_of, terminals, HasClass}
use Rattle.net_core.proofs.Frames.{Within, flat_split, mapped, unmapped}
use Rattle.net_core.proofs.Rings.{class_below}
use Rattle.net_core.proofs.Standing.{Split, left, right, split, only_one, stands_same}
use Rattle.delay_sta.specs.declared.arrivals.Delays.{Delays}
use Rattle.delay_sta.specs.declared.graph.TimedArc.{TimedArc}
use Rattle.delay_sta.specs.Loads.{load}
use Rattle.delay_sta.specs.Paths.{Step, Leads, starts, begins, goes_on, TakesTo, IsStepAt, IsStep, IsStart, IsEnd, at_port, at_data, Arrives, Ends, IsGreatest, IsWorst}
use Rattle.delay_sta.specs.Timed.{IsAnyStep, a_beginning, going_on, AreDelaysOf}
use Rattle.delay_sta.specs.Graph.{step_of, IsTimedAt, IsOwned, group_of, later_by, arrival_by}
use Rattle.delay_sta.specs.Exchanged.{IsMarked, IsTraced}
use Rattle.delay_sta.specs.Traces.{IsLatestEnd, IsLatestArc, GoesBack, without_step, at_first, back}

-- ---- pins among those of their instance

pin_inside : (n : Netlist) → IsNetlist n → (number : ℕ) (owner : Instance) (pin : Name) → Stands n.instances number owner → IsThere (terminals n) (pin_of owner.name pin) → IsThere owner.pins pin
pin_inside n sound number owner pin stood t = by (split _ _ t.0 (pin_of owner.name pin) t.1) where
  by : Split (map (λ (p : Port). port p.name) n.ports) (flat_map pins_of n.instances) t.0 (pin_of owner.name pin) → IsThere owner.pins pin
  by (left s) =
      let u = unmapped (λ (p : Port). port p.name) n.ports t.0 (pin_of owner.name pin) s in
      let no : None ≡ Some owner.name = ap (λ (x : Terminal). x.instance) u.2 in absurd cc
  by (right j e s) =
      let w = flat_split pins_of n.instances j (pin_of owner.name pin) s in
      let u = unmapped (pin_of w.item.name) w.item.pins w.inner (pin_of owner.name pin) w.inside in
      let owners : Some w.item.name ≡ Some owner.name = ap (λ (x : Terminal). x.instance) u.2 in
      let name : w.item.name ≡ owner.name = cc in
      let one : Stands (map (λ (i : Instance). i.name) n.instances) w.place owner.name =
      subst (λ (m : List ℕ). Stands (map (λ (i : Instance). i.name) n.instances) w.place m) name (mapped (λ (i : Instance). i.name) n.instances w.place w.item w.stands) in
      let same : w.place ≡ number = sound.names w.place number owner.name one (mapped (λ (i : Instance). i.name) n.instances number owner stood) in
      let item : w.item ≡ owner = stands_same n.instances number w.item owner (subst (λ k. Stands n.instances k w.item) same w.stands) stood in
      let here : Stands w.item.pins w.inner pin = subst (λ (x : Name). Stands w.item.pins w.inner x) (ap (λ (x : Terminal). x.pin) u.2) u.1 in
      (w.inner, subst (λ (o : Instance). Stands o.pins w.inner pin) item here)

end_low : (n : Netlist) → IsNetlist n → (l : Library) (class : ℕ) → IsEnd n l class → class < n.count
end_low n sound l class (at_port output t gives joined) = class_below n sound (port output.name) class joined
end_low n sound l class (at_data i c data_name clock_name t found is joined) = class_below n sound (pin_of i.name data_name) class joined

-- ---- arcs and steps

module _ (n : Netlist) (l : Library) (sound : IsNetlist n) (d : Delays) (are : AreDelaysOf n l d) where
  abbrev Path : ℕ → List Step → Type 0
  Path class path = Leads (IsStart n) (IsStep n l BeginsThere) (IsStep n l GoesThrough) class path

  abbrev delay_of : Step → ℕ
  delay_of s = s.delay

  -- a step as an arc
  record AsArc (flag : Bool) (s : Step) : Type 0 where
    arc : TimedArc
    listed : IsThere (group_of d.arcs.items s.to) arc
    is : step_of arc ≡ s
    way : arc.begins ≡ flag

  begin_arc : (s : Step) → IsStep n l BeginsThere s → AsArc true s
  begin_arc s h =
      let i = pin_inside n sound h.listed.0 h.owner h.arc.from h.listed.1 (h.is.from.0, h.is.from.1) in
      let o = pin_inside n sound h.listed.0 h.owner h.arc.to h.listed.1 (h.is.to.0, h.is.to.1) in
      let x : TimedArc = record { from = s.from; to = s.to; delay = s.delay; begins = true; owner = h.listed.0; input = i.0; output = o.0 } in
      record {
        arc = x;
        listed = are.arcs.complete x (record { owner = h.owner; stands = h.listed.1; cell = h.cell; found = h.found; arc = h.arc; has = h.has; input = i.1; output = o.1; is = h.is });
        is = refl;
        way = refl;
      }

  through_arc : (s : Step) → IsStep n l GoesThrough s → AsArc false s
  through_arc s h =
      let i = pin_inside n sound h.listed.0 h.owner h.arc.from h.listed.1 (h.is.from.0, h.is.from.1) in
      let o = pin_inside n sound h.listed.0 h.owner h.arc.to h.listed.1 (h.is.to.0, h.is.to.1) in
      let x : TimedArc = record { from = s.from; to = s.to; delay = s.delay; begins = false; owner = h.listed.0; input = i.0; output = o.0 } in
      record {
        arc = x;
        listed = are.arcs.complete x (record { owner = h.owner; stands = h.listed.1; cell = h.cell; found = h.found; arc = h.arc; has = h.has; input = i.1; output = o.1; is = h.is });
        is = refl;
        way = refl;
      }

  -- an arc as a step
  step_begins : (x : TimedArc) → IsOwned n l x → x.begins ≡ true → IsStep n l BeginsThere (step_of x)
  step_begins x h e = record {
    owner = h.owner;
    listed = (x.owner, h.stands);
    cell = h.cell;
    found = h.found;
    arc = h.arc;
    has = h.has;
    is = subst (λ b. MatchBool b (IsStepAt n (load n l) BeginsThere h.owner.name h.cell h.arc (step_of x)) (IsStepAt n (load n l) GoesThrough h.owner.name h.cell h.arc (step_of x))) e h.is;
  }

  step_through : (x : TimedArc) → IsOwned n l x → x.begins ≡ false → IsStep n l GoesThrough (step_of x)
  step_through x h e = record {
    owner = h.owner;
    listed = (x.owner, h.stands);
    cell = h.cell;
    found = h.found;
    arc = h.arc;
    has = h.has;
    is = subst (λ b. MatchBool b (IsStepAt n (load n l) BeginsThere h.owner.name h.cell h.arc (step_of x)) (IsStepAt n (load n l) GoesThrough h.owner.name h.cell h.arc (step_of x))) e h.is;
  }

  any_step : (x : TimedArc) → IsOwned n l x → IsAnyStep n l (step_of x)
  any_step x h = by x.begins refl where
    by : (b : Bool) → x.begins ≡ b → IsAnyStep n l (step_of x)
    by true e = a_beginning (step_begins x h e)
    by false e = going_on (step_through x h e)

  from_low : (x : TimedArc) → IsOwned n l x → x.from < n.count
  from_low x h = by (any_step x h) where
    by : IsAnyStep n l (step_of x) → x.from < n.count
    by (a_beginning s) = class_below n sound (pin_of s.owner.name s.arc.from) x.from s.is.from
    by (going_on s) = class_below n sound (pin_of s.owner.name s.arc.from) x.from s.is.from

  -- ---- where a path arrives latest

  greatest : (class time : ℕ) → class < n.count → get_or d.arrivals.items class None ≡ Some time → Arrives n l class time × ((e : ℕ) → Arrives n l class e → e ≤ time)
  greatest class time low e = subst (λ (o : Option ℕ). IsGreatest (Arrives n l class) o) e (are.arrivals class low)

  -- a latest path with no arc at its end has no step
  start_by : (class time : ℕ) (path : List Step) → Path class path → time ≡ sum_by delay_of path → get_or d.arrivals.items class None ≡ Some time → ((e : ℕ) → Arrives n l class e → e ≤ time)
      → ((x : TimedArc) → IsLatestArc d.arcs.items d.arrivals.items class x → ⊥) → (time ≡ 0) × IsStart n class
  start_by class time _ (starts p) sum arrives most never = (sum, p)
  start_by _ time _ (begins {s = s} p) sum arrives most never =
      let a = begin_arc s p in
      let c = sum_by-cons delay_of s [] in
      let delay : a.arc.delay ≡ time = ap delay_of a.is ∙ (let e : s.delay ≡ time = omega (arith, c, sum) in e) in
      absurd (never a.arc (record {
        listed = a.listed;
        time = time;
        arrives = arrives;
        by = ap (λ b. cond b (Some a.arc.delay) (later_by a.arc.delay (get_or d.arrivals.items a.arc.from None))) a.way ∙ ap Some delay;
      }))
  start_by _ time _ (goes_on {s = s} {path = path} lead p) sum arrives most never = by (get_or d.arrivals.items s.from None) refl (are.arrivals s.from low) where
    low : s.from < n.count
    low = class_below n sound (pin_of p.owner.name p.arc.from) s.from p.is.from

    by : (o : Option ℕ) → get_or d.arrivals.items s.from None ≡ o → IsGreatest (Arrives n l s.from) o → (time ≡ 0) × IsStart n s.to
    by None e g = absurd (g (sum_by delay_of path) (record { path = path; leads = lead; sum = refl }))
    by (Some u) e g =
        let a = through_arc s p in
        let least = g.1 (sum_by delay_of path) (record { path = path; leads = lead; sum = refl }) in
        let c = sum_by-cons delay_of s path in
        let before = g.0 in
        let again = sum_by-cons delay_of s before.path in
        let own = before.sum in
        let late = most (u + s.delay) (record { path = s ∷ before.path; leads = goes_on before.leads p; sum = omega (arith, again, own) }) in
        let delay : u + s.delay ≡ time = omega (arith, least, c, late, sum) in
        let from : get_or d.arrivals.items a.arc.from None ≡ Some u = ap (λ (t : Step). get_or d.arrivals.items t.from None) a.is ∙ e in
        absurd (never a.arc (record {
          listed = a.listed;
          time = time;
          arrives = arrives;
          by =
              ap (λ b. cond b (Some a.arc.delay) (later_by a.arc.delay (get_or d.arrivals.items a.arc.from None))) a.way
              ∙ ap (later_by a.arc.delay) from ∙ ap (λ (t : Step). Some (u + t.delay)) a.is ∙ ap Some delay;
        }))

  start_of : (class time : ℕ) → class < n.count → get_or d.arrivals.items class None ≡ Some time → ((x : TimedArc) → IsLatestArc d.arcs.items d.arrivals.items class x → ⊥) → (time ≡ 0) × IsStart n class
  start_of class time low e never =
      let g = greatest class time low e in
      start_by class time g.0.path g.0.leads g.0.sum e g.1 never

  -- ---- marks

  marked_more : (marks : List Bool) (class k : ℕ) → class < length marks → (get_or marks k false ≡ true) ⊎ (k ≡ class) → get_or (slice_set marks class true) k false ≡ true
  marked_more marks class k low h = by (nat_eq k class) refl h where
    by : (b : Bool) → nat_eq k class ≡ b → (get_or marks k false ≡ true) ⊎ (k ≡ class) → get_or (slice_set marks class true) k false ≡ true
    by true e g = ap (λ j. get_or (slice_set marks class true) j false) (eqb-true k class e) ∙ get_or-set_same marks class true false low
    by false e (inl m) = get_or-set_other marks class k true false (λ q. let no : true ≡ false = sym (eq-eqb k class q) ∙ e in absurd cc) ∙ m
    by false e (inr q) = let no : true ≡ false = sym (eq-eqb k class q) ∙ e in absurd cc

  -- ---- from a class on

  -- steps from a class to an end, which make a longest path of a latest path to the class, and lead to marked classes
  pub record IsTail (marks : List Bool) (at : ℕ) : Type 0 where
    pub class : ℕ
    pub end : IsEnd n l class
    pub worst : ℕ
    pub longest : IsWorst n l worst
    pub time : ℕ
    pub arrives : get_or d.arrivals.items at None ≡ Some time
    pub steps : List Step
    pub joins : (path : List Step) → Path at path → Path class (steps ++ path)
    pub sum : worst ≡ sum_by delay_of steps + time
    pub marked : (s : Step) → IsThere steps s → get_or marks s.to false ≡ true

  tail_start : (marks : List Bool) (class : ℕ) → IsLatestEnd n l d.arrivals.items class → IsTail marks class
  tail_start marks class h = record {
    class = class;
    end = h.end;
    worst = h.time;
    longest = h.longest;
    time = h.time;
    arrives = h.arrives;
    steps = [];
    joins = λ path p. p;
    sum = omega arith;
    marked = λ s t. let no : None ≡ Some s = t.1 in absurd cc;
  }

  -- the path to it has no step
  traced_start : (marks : List Bool) (at : ℕ) → at < n.count → IsTail marks at → ((x : TimedArc) → IsLatestArc d.arcs.items d.arrivals.items at x → ⊥) → IsTraced n l marks
  traced_start marks at low t never =
      let s = start_of at t.time low t.arrives never in
      let e = append-nil t.steps in
      let sum = t.sum in
      let zero_long = s.0 in
      inl (record {
        class = t.class;
        end = t.end;
        time = t.worst;
        path = record { path = t.steps; leads = subst (λ (p : List Step). Path t.class p) e (t.joins [] (starts s.1)); sum = omega (arith, sum, zero_long) };
        longest = t.longest;
        marked = t.marked;
      })

  split_there : (steps : List Step) (s u : Step) → IsThere (steps ++ s ∷ []) u → IsThere steps u ⊎ (u ≡ s)
  split_there steps s u t = by (split steps (s ∷ []) t.0 u t.1) where
    by : Split steps (s ∷ []) t.0 u → IsThere steps u ⊎ (u ≡ s)
    by (left w) = inl (t.0, w)
    by (right j e w) = inr (sym (only_one s u (j, w)))

  marked_tail : (marks : List Bool) (at : ℕ) → at < length marks → (t : IsTail marks at) (s : Step) → s.to ≡ at → (u : Step) → IsThere (t.steps ++ s ∷ []) u → get_or (slice_set marks at true) u.to false ≡ true
  marked_tail marks at low t s to u there = by (split_there t.steps s u there) where
    by : IsThere t.steps u ⊎ (u ≡ s) → get_or (slice_set marks at true) u.to false ≡ true
    by (inl w) = marked_more marks at u.to low (inl (t.marked u w))
    by (inr e) = marked_more marks at u.to low (inr (ap (λ (v : Step). v.to) e ∙ to))

  -- an arc by which a latest path comes
  by_begin : (x : TimedArc) (time : ℕ) → x.begins ≡ true → arrival_by d.arrivals.items x ≡ Some time → x.delay ≡ time
  by_begin x time e by =
      let f : Some x.delay ≡ Some time = sym (ap (λ b. cond b (Some x.delay) (later_by x.delay (get_or d.arrivals.items x.from None))) e) ∙ by in cc

  by_through : (x : TimedArc) (time : ℕ) → x.begins ≡ false → arrival_by d.arrivals.items x ≡ Some time → (u : ℕ) × (get_or d.arrivals.items x.from None ≡ Some u) × (u + x.delay ≡ time)
  by_through x time e by = from (get_or d.arrivals.items x.from None) refl (sym (ap (λ b. cond b (Some x.delay) (later_by x.delay (get_or d.arrivals.items x.from None))) e) ∙ by) where
    from : (o : Option ℕ) → get_or d.arrivals.items x.from None ≡ o → later_by x.delay o ≡ Some time → (u : ℕ) × (get_or d.arrivals.items x.from None ≡ Some u) × (u + x.delay ≡ time)
    from None f g = absurd cc
    from (Some u) f g = (u, f, cc)

  same_time : (at a b : ℕ) → get_or d.arrivals.items at None ≡ Some a → get_or d.arrivals.items at None ≡ Some b → a ≡ b
  same_time at a b p q = let f : Some a ≡ Some b = sym p ∙ q in cc

  -- the path begins with the arc
  traced_first : (marks : List Bool) (at : ℕ) → at < length marks → IsTail marks at → (x : TimedArc) → IsLatestArc d.arcs.items d.arrivals.items at x → x.begins ≡ true → IsTraced n l (slice_set marks at true)
  traced_first marks at low t x h way =
      let own = are.arcs.owned at x h.listed in
      let to : x.to ≡ at = own.1 in
      let step = step_begins x own.0 way in
      let delay = by_begin x h.time way h.by in
      let same = same_time at h.time t.time h.arrives t.arrives in
      let more = sum_by-append delay_of t.steps (step_of x ∷ []) in
      let one = sum_by-cons delay_of (step_of x) [] in
      let sum = t.sum in
      inl (record {
        class = t.class;
        end = t.end;
        time = t.worst;
        path = record {
          path = t.steps ++ step_of x ∷ [];
          leads = t.joins (step_of x ∷ []) (subst (λ c. Path c (step_of x ∷ [])) to (begins {s = step_of x} step));
          sum = omega (arith, sum, more, one, delay, same);
        };
        longest = t.longest;
        marked = marked_tail marks at low t (step_of x) to;
      })

  -- the path comes from another class
  tail_back : (marks : List Bool) (at : ℕ) → at < length marks → IsTail marks at → (x : TimedArc) → IsLatestArc d.arcs.items d.arrivals.items at x → x.begins ≡ false → IsTail (slice_set marks at true) x.from
  tail_back marks at low t x h way =
      let own = are.arcs.owned at x h.listed in
      let to : x.to ≡ at = own.1 in
      let step = step_through x own.0 way in
      let from = by_through x h.time way h.by in
      let total : from.0 + x.delay ≡ h.time = from.2 in
      let same = same_time at h.time t.time h.arrives t.arrives in
      let more = sum_by-append delay_of t.steps (step_of x ∷ []) in
      let one = sum_by-cons delay_of (step_of x) [] in
      let sum = t.sum in
      record {
        class = t.class;
        end = t.end;
        worst = t.worst;
        longest = t.longest;
        time = from.0;
        arrives = from.1;
        steps = t.steps ++ step_of x ∷ [];
        joins = λ path p.
            subst (λ (q : List Step). Path t.class q) (sym (append_assoc t.steps (step_of x ∷ []) path))
            (t.joins (step_of x ∷ path) (subst (λ c. Path c (step_of x ∷ path)) to (goes_on {s = step_of x} p step)));
        sum = omega (arith, sum, more, one, total, same);
        marked = marked_tail marks at low t (step_of x) to;
      }

  -- ---- along the order, from its end on

  -- the class stands before this place of the order, or no arc leads to it
  abbrev pub IsAhead : ℕ → ℕ → Type 0
  IsAhead at k = ((j : ℕ) × (j < k) × Stands d.order.items j at) ⊎ ((x : TimedArc) → IsThere (group_of d.arcs.items at) x → ⊥)

  -- a longest path is marked, or it is from a class ahead on
  abbrev pub IsTracing : List Bool → ℕ → Option ℕ → Type 0
  IsTracing marks k None = IsTraced n l marks
  IsTracing marks k (Some at) = (at < n.count) × IsTail marks at × IsAhead at k

  pub tracing_start : (marks : List Bool) (at : Option ℕ) → MatchOption at (IsWorst n l 0) (IsLatestEnd n l d.arrivals.items) → IsTracing marks (length d.order.items) at
  tracing_start marks None h = inr h
  tracing_start marks (Some at) h =
      let low = end_low n sound l at h.end in
      let place = are.order.complete at low in
      (low, tail_start marks at h, inl (place.0, slice_get_within d.order.items place.0 at place.1, place.1))

  -- another class is at this place
  pub tracing_past : (marks : List Bool) (k class : ℕ) (at : Option ℕ) → Stands d.order.items k class → (at ≡ Some class → ⊥) → IsTracing marks (k + 1) at → IsTracing marks k at
  tracing_past marks k class None here other h = h
  tracing_past marks k class (Some at) here other h = (h.0, h.1, by h.2) where
    by : IsAhead at (k + 1) → IsAhead at k
    by (inr never) = inr never
    by (inl w) =
        let apart : w.0 ≢ k = λ e. other (ap Some (stands_same d.order.items k at class (subst (λ j. Stands d.order.items j at) e w.2) here)) in
        let low = w.1 in
        inl (w.0, omega (arith, low, apart), w.2)

  ahead : (k at : ℕ) (x : TimedArc) → Stands d.order.items k at → IsThere (group_of d.arcs.items at) x → x.begins ≡ false → IsAhead x.from k
  ahead k at x here listed way = by (group_of d.arcs.items x.from) refl where
    own : IsOwned n l x
    own = (are.arcs.owned at x listed).0

    to : at ≡ x.to
    to = sym (are.arcs.owned at x listed).1

    place : IsThere d.order.items x.from
    place = are.order.complete x.from (from_low x own)

    nothing : (y : TimedArc) (j : ℕ) → Stands [] j y → ⊥
    nothing y j s = absurd cc

    by : (xs : List TimedArc) → group_of d.arcs.items x.from ≡ xs → IsAhead x.from k
    by [] e = inr (λ y t. let u : IsThere [] y = subst (λ (ys : List TimedArc). IsThere ys y) e t in nothing y u.0 u.1)
    by (y ∷ ys) e =
        let there : IsThere (group_of d.arcs.items x.from) y = subst (λ (zs : List TimedArc). IsThere zs y) (sym e) (0, refl) in
        let other = are.arcs.owned x.from y there in
        inl (
          place.0,
          are.order.behind (step_of x) (step_of y) k place.0 (step_through x own way) (any_step y other.0) (sym other.1)
              (subst (λ c. Stands d.order.items k c) to here) (subst (λ c. Stands d.order.items place.0 c) (sym other.1) place.1),
          place.1,
        )

  pub tracing_back : (marks new : List Bool) (k class : ℕ) (at : Option ℕ) → Stands d.order.items k class → class < length marks → IsTracing marks (k + 1) (Some class)
      → GoesBack d.arcs.items d.arrivals.items class marks new at → IsTracing new k at
  tracing_back marks new k class _ here low h (without_step never e) = subst (λ (ms : List Bool). IsTraced n l ms) (sym e) (traced_start marks class h.0 h.1 never)
  tracing_back marks new k class _ here low h (at_first x is way e) = subst (λ (ms : List Bool). IsTraced n l ms) (sym e) (traced_first marks class low h.1 x is way)
  tracing_back marks new k class _ here low h (back x is way e) = (
    from_low x (are.arcs.owned class x is.listed).0,
    subst (λ (ms : List Bool). IsTail ms x.from) (sym e) (tail_back marks class low h.1 x is way),
    ahead k class x here is.listed way,
  )

  pub traced_all : (marks : List Bool) (k : ℕ) (at : Option ℕ) → k ≤ 0 → IsTracing marks k at → IsTraced n l marks
  traced_all marks k None z h = h
  traced_all marks k (Some at) z h = by h.2 where
    by : IsAhead at k → IsTraced n l marks
    by (inl w) = let low = w.1 in absurd (omega (arith, low, z))
    by (inr never) = traced_start marks at h.0 h.1 (λ x is. never x is.listed)

  -- ---- delays with other marks

  -- one class of the order, where so many are ahead
  module _ (now : Delays) (items : List ℕ) (m k : ℕ) (e : record now { marks = d.marks } ≡ d) (is : items ≡ now.order.items) (low : k < length items) (next : m ≡ k + 1) where
    here_at : Stands d.order.items k (get_or items k 0)
    here_at = subst (λ (xs : List ℕ). Stands xs k (get_or items k 0)) (is ∙ ap (λ (x : Delays). x.order.items) e) (slice_get-get_or items k 0 low)

    pub low_at : length now.marks.items ≡ length d.marks.items → get_or items k 0 < length now.marks.items
    low_at many =
        let inside = are.order.inside (get_or items k 0) (k, here_at) in
        let kept = are.kept.1 in
        omega (arith, inside, kept, many)

    pub trace_past : (at : Option ℕ) → (at ≡ Some (get_or items k 0) → ⊥) → IsTracing now.marks.items m at → IsTracing now.marks.items k at
    trace_past at apart h = tracing_past now.marks.items k (get_or items k 0) at here_at apart (subst (λ i. IsTracing now.marks.items i at) next h)

    pub trace_back : (new : Delays) (at back_at : Option ℕ) → length now.marks.items ≡ length d.marks.items → at ≡ Some (get_or items k 0) → IsTracing now.marks.items m at
        → GoesBack now.arcs.items now.arrivals.items (get_or items k 0) now.marks.items new.marks.items back_at → IsTracing new.marks.items k back_at
    trace_back new at back_at many same h g =
        tracing_back now.marks.items new.marks.items k (get_or items k 0) back_at here_at (low_at many)
        (subst (λ i. IsTracing now.marks.items i (Some (get_or items k 0))) next (subst (IsTracing now.marks.items m) same h))
        (subst (λ (xs : List (Vec TimedArc)). GoesBack xs d.arrivals.items (get_or items k 0) now.marks.items new.marks.items back_at) (ap (λ (x : Delays). x.arcs.items) e)
        (subst (λ (xs : List (Option ℕ)). GoesBack now.arcs.items xs (get_or items k 0) now.marks.items new.marks.items back_at) (ap (λ (x : Delays). x.arrivals.items) e) g))

pub back_many : (arcs : List (Vec TimedArc)) (arrivals : List (Option ℕ)) (class : ℕ) (old new : List Bool) (at : Option ℕ) → GoesBack arcs arrivals class old new at → length new ≡ length old
back_many arcs arrivals class old new _ (without_step never e) = ap length e
back_many arcs arrivals class old new _ (at_first x is way e) = ap length e ∙ length-set old class true
back_many arcs arrivals class old new _ (back x is way e) = ap length e ∙ length-set old class true

pub delays_marked : (n : Netlist) (l : Library) (d e : Delays) → AreDelaysOf n l d → record e { marks = d.marks } ≡ d → length e.marks.items ≡ length d.marks.items → AreDelaysOf n l e
delays_marked n l d e are same many = record {
  counted = all.counted;
  arrivals = all.arrivals;
  loads = all.loads;
  short = all.short;
  ends = all.ends;
  order = all.order;
  starts = all.starts;
  arcs = all.arcs;
  reached = all.reached;
  places = all.places;
  fresh = all.fresh;
  kept = (all.kept.0, many ∙ are.kept.1);
} where
  all : AreDelaysOf n l (record e { marks = d.marks })
  all = subst (λ (k : Delays). AreDelaysOf n l k) (sym same) are

-- ---- the latest end

-- where none of the ends has the greatest time, no path ends
pub no_end : (n : Netlist) (l : Library) (d : Delays) (k worst : ℕ) → IsNetlist n → AreDelaysOf n l d → length d.ends.items ≤ k → IsWorst n l worst
    → ((j class : ℕ) → j < k → Stands d.ends.items j class → get_or d.arrivals.items class None ≡ Some worst → ⊥) → IsWorst n l 0
no_end n l d k worst sound are all h never = by h.is where
  by : Ends n l worst ⊎ (worst ≡ 0) → IsWorst n l 0
  by (inr e) = subst (IsWorst n l) e h
  by (inl e) = from (get_or d.arrivals.items e.0 None) refl (are.arrivals e.0 (end_low n sound l e.0 e.1)) where
    from : (o : Option ℕ) → get_or d.arrivals.items e.0 None ≡ o → IsGreatest (Arrives n l e.0) o → IsWorst n l 0
    from None q g = absurd (g worst e.2)
    from (Some t) q g =
        let t_least = g.1 worst e.2 in
        let t_most = h.most t (e.0, e.1, g.0) in
        let same : t ≡ worst = omega (arith, t_least, t_most) in
        let p = (are.ends e.0).1 e.1 in
        let low = slice_get_within d.ends.items p.0 e.0 p.1 in
        absurd (never p.0 e.0 (omega (arith, low, all)) p.1 (q ∙ ap Some same))

pub an_end : (n : Netlist) (l : Library) (d : Delays) (class worst : ℕ) → AreDelaysOf n l d → IsThere d.ends.items class → get_or d.arrivals.items class None ≡ Some worst → IsWorst n l worst
    → IsLatestEnd n l d.arrivals.items class
an_end n l d class worst are there e h = record { end = (are.ends class).0 there; time = worst; arrives = e; longest = h }

-- so many ends, and the next
pub end_more : (arrivals : List (Option ℕ)) (ends items : List ℕ) (k worst : ℕ) → items ≡ ends → k < length items
    → ((j class : ℕ) → j < k → Stands ends j class → get_or arrivals class None ≡ Some worst → ⊥) → (get_or arrivals (get_or items k 0) None ≡ Some worst → ⊥)
    → (j class : ℕ) → j < k + 1 → Stands ends j class → get_or arrivals class None ≡ Some worst → ⊥
end_more arrivals ends items k worst same low before here j class l s e = by (cases_lt j k) where
  at : Stands ends k (get_or items k 0)
  at = subst (λ (xs : List ℕ). Stands xs k (get_or items k 0)) same (slice_get-get_or items k 0 low)

  by : (j < k) ⊎ (k ≤ j) → ⊥
  by (inl less) = before j class less s e
  by (inr last) =
      let is : j ≡ k = omega (arith, l, last) in
      let own : class ≡ get_or items k 0 = stands_same ends k class (get_or items k 0) (subst (λ i. Stands ends i class) is s) at in
      here (ap (λ c. get_or arrivals c None) (sym own) ∙ e)

-- so many arcs, and the next
pub arc_more : (arrivals : List (Option ℕ)) (arcs : List TimedArc) (k time : ℕ) (x : TimedArc) → Stands arcs k x
    → ((j : ℕ) (y : TimedArc) → j < k → Stands arcs j y → arrival_by arrivals y ≡ Some time → ⊥) → (arrival_by arrivals x ≡ Some time → ⊥)
    → (j : ℕ) (y : TimedArc) → j < k + 1 → Stands arcs j y → arrival_by arrivals y ≡ Some time → ⊥
arc_more arrivals arcs k time x at before here j y l s e = by (cases_lt j k) where
  by : (j < k) ⊎ (k ≤ j) → ⊥
  by (inl less) = before j y less s e
  by (inr last) =
      let is : j ≡ k = omega (arith, l, last) in
      let own : y ≡ x = stands_same arcs k y x (subst (λ i. Stands arcs i y) is s) at in
      here (subst (λ (z : TimedArc). arrival_by arrivals z ≡ Some time) own e)

-- ---- the class at which the walk is

pub is_here : (at : Option ℕ) (class : ℕ) → option_eq nat_eq at (Some class) ≡ true → at ≡ Some class
is_here None class e = absurd cc
is_here (Some x) class e = ap Some (eqb-true x class e)

pub is_elsewhere : (at : Option ℕ) (class : ℕ) → option_eq nat_eq at (Some class) ≡ false → at ≡ Some class → ⊥
is_elsewhere None class e f = absurd cc
is_elsewhere (Some x) class e f = let q : x ≡ class = cc in let no : true ≡ false = sym (eq-eqb x class q) ∙ e in absurd cc
