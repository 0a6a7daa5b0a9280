-- Paths through the graph are paths through the netlist, and back.
use Rattle.std.proofs.Common.{◌≡◌, ◌⊎◌, inl, inr, ℕ, zero, suc, ◌+◌, ◌<◌, ◌≤◌, ◌^◌, Bool, true, false, List, [], ◌∷◌, length, get_or, Option, Some, None, refl, sym, ◌∙◌, subst, arith}
use Rattle.std.specs.Bool.{MatchBool}
use Rattle.std.specs.List.{All}
use Rattle.std.specs.Global.{Vec}
use Rattle.std.proofs.lemmas.Bool.{cases_lt}
use Rattle.vlsi_base.specs.Member.{In, here, there, AllDifferent}
use Rattle.cell_model.specs.Library.{Library}
use Rattle.cell_checks.specs.Arcs.{BeginsThere, GoesThrough}
use Rattle.net_core.specs.Places.{Stands, IsThere, NoneTwice}
use Rattle.net_core.specs.Netlist.{Netlist, IsNetlist, pin_of}
use Rattle.net_core.proofs.Rings.{class_below, each_there}
use Rattle.delay_sta.specs.declared.graph.TimedArc.{TimedArc}
use Rattle.delay_sta.specs.Loads.{load}
use Rattle.delay_sta.specs.Paths.{Step, Leads, starts, begins, goes_on, TakesTo, IsStepAt, IsStep, IsStart, Arrives, IsGreatest}
use Rattle.delay_sta.specs.Timed.{IsAnyStep, a_beginning, going_on, IsPathOrder}
use Rattle.delay_sta.specs.Graph.{step_of, IsOwned, AreTimedArcs, group_of, AreGrouped, AreArcsOf, AreOnward, AreReached, IsIn, IsGraph, StartsIn, AreStartsOf, AreSettled}
use Rattle.delay_sta.proofs.Tables.{In_there}
use Rattle.delay_sta.proofs.Placing.{pin_of_class}
use Rattle.delay_sta.proofs.Settling.{group_within}

-- ---- paths by other words

pub leads_as : (S T : ℕ → Type 0) (B C G H : Step → Type 0) → ((class : ℕ) → S class → T class) → ((s : Step) → B s → C s) → ((s : Step) → G s → H s)
    → (class : ℕ) (path : List Step) → Leads S B G class path → Leads T C H class path
leads_as S T B C G H f g h class _ (starts p) = starts (f class p)
leads_as S T B C G H f g h _ _ (begins {s = s} p) = begins (g s p)
leads_as S T B C G H f g h _ _ (goes_on {s = s} {path = path} lead p) = goes_on (leads_as S T B C G H f g h s.from path lead) (h s p)

pub takes_as : (S T : ℕ → Type 0) (B C G H : Step → Type 0) → ((class : ℕ) → S class → T class) → ((s : Step) → B s → C s) → ((s : Step) → G s → H s)
    → (class time : ℕ) → TakesTo S B G class time → TakesTo T C H class time
takes_as S T B C G H f g h class time t = record { path = t.path; leads = leads_as S T B C G H f g h class t.path t.leads; sum = t.sum }

pub greatest_as : (P Q : ℕ → Type 0) → ((d : ℕ) → P d → Q d) → ((d : ℕ) → Q d → P d) → (o : Option ℕ) → IsGreatest P o → IsGreatest Q o
greatest_as P Q f g None h = λ d q. h d (g d q)
greatest_as P Q f g (Some d) h = (f d h.0, λ e q. h.1 e (g e q))

-- ---- different classes are few

record Cut (x : ℕ) (ys : List ℕ) : Type 0 where
  rest : List ℕ
  many : length ys ≡ length rest + 1
  cases : (n : ℕ) → In n ys → (n ≡ x) ⊎ In n rest

head_cases : (n x : ℕ) (ys : List ℕ) → In n (x ∷ ys) → (n ≡ x) ⊎ In n ys
head_cases n x ys here = inl refl
head_cases n x ys (there i) = inr i

tail_cases : (n x y : ℕ) (rest ys : List ℕ) → ((m : ℕ) → In m ys → (m ≡ x) ⊎ In m rest) → In n (y ∷ ys) → (n ≡ x) ⊎ In n (y ∷ rest)
tail_cases n x y rest ys cases here = inr here
tail_cases n x y rest ys cases (there i) = elim (cases n i) [ inl e ↦ inl e | inr j ↦ inr (there j) ]

cut : (x : ℕ) (ys : List ℕ) → In x ys → Cut x ys
cut x [] i = elim i [ ]
cut x (y ∷ ys) here = record { rest = ys; many = omega arith; cases = λ n i. head_cases n x ys i }
cut x (y ∷ ys) (there i) =
    let r = cut x ys i in
    record { rest = y ∷ r.rest; many = omega (arith, r.many); cases = λ n j. tail_cases n x y r.rest ys r.cases j }

fits : (xs ys : List ℕ) → AllDifferent xs → ((n : ℕ) → In n xs → In n ys) → length xs ≤ length ys
fits [] ys d within = omega arith
fits (x ∷ xs) ys d within =
    let r = cut x ys (within x here) in
    let rest = fits xs r.rest d.1 (λ n i. elim (r.cases n (within n (there i))) [ inl is ↦ absurd (d.0 (subst (λ m. In m xs) is i)) | inr j ↦ j ]) in
    omega (arith, rest, r.many)

below : ℕ → List ℕ
below zero = []
below (suc n) = n ∷ below n

below_count : (n : ℕ) → length (below n) ≡ n
unfolding below
below_count zero = refl
below_count (suc n) = let r = below_count n in omega (arith, r)

below_in : (n x : ℕ) → x < n → In x (below n)
unfolding below
below_in zero x l = absurd (omega (arith, l))
below_in (suc n) x l = by (cases_lt x n) (below_in n x) where
  by : (x < n) ⊎ (n ≤ x) → (x < n → In x (below n)) → In x (n ∷ below n)
  by (inl m) rest = there (rest m)
  by (inr m) rest = let e : n ≡ x = omega (arith, l, m) in subst (λ j. In j (n ∷ below n)) e here

different : (xs : List ℕ) → NoneTwice xs → AllDifferent xs
different [] once = tt
different (x ∷ xs) once = (
  (λ i. let t = In_there x xs i in let e : 0 ≡ suc t.0 = once 0 (suc t.0) x refl t.1 in absurd (omega (arith, e))),
  different xs (λ i j y p q. let e : suc i ≡ suc j = once (suc i) (suc j) y p q in omega (arith, e)),
)

pub few_classes : (n : ℕ) (xs : List ℕ) → NoneTwice xs → ((x : ℕ) → IsThere xs x → x < n) → length xs ≤ n
few_classes n xs once low =
    let f = fits xs (below n) (different xs once) (λ x i. below_in n x (low x (In_there x xs i))) in
    let c = below_count n in
    omega (arith, f, c)

-- ---- the arcs of a netlist

module _ (n : Netlist) (l : Library) (sound : IsNetlist n) where
  begins_step : (x : TimedArc) → x.begins ≡ true → IsOwned n l x → IsStep n l BeginsThere (step_of x)
  begins_step x e o = by x.begins e o.is where
    by : (b : Bool) → b ≡ true → MatchBool b (IsStepAt n (load n l) BeginsThere o.owner.name o.cell o.arc (step_of x)) (IsStepAt n (load n l) GoesThrough o.owner.name o.cell o.arc (step_of x)) → IsStep n l BeginsThere (step_of x)
    by true e h = record { owner = o.owner; listed = (x.owner, o.stands); cell = o.cell; found = o.found; arc = o.arc; has = o.has; is = h }
    by false e h = absurd cc

  goes_step : (x : TimedArc) → x.begins ≡ false → IsOwned n l x → IsStep n l GoesThrough (step_of x)
  goes_step x e o = by x.begins e o.is where
    by : (b : Bool) → b ≡ false → MatchBool b (IsStepAt n (load n l) BeginsThere o.owner.name o.cell o.arc (step_of x)) (IsStepAt n (load n l) GoesThrough o.owner.name o.cell o.arc (step_of x)) → IsStep n l GoesThrough (step_of x)
    by false e h = record { owner = o.owner; listed = (x.owner, o.stands); cell = o.cell; found = o.found; arc = o.arc; has = o.has; is = h }
    by true e h = absurd cc

  any_step : (x : TimedArc) → IsOwned n l x → IsAnyStep n l (step_of x)
  any_step x o = by x.begins refl where
    by : (b : Bool) → x.begins ≡ b → IsAnyStep n l (step_of x)
    by true e = a_beginning (begins_step x e o)
    by false e = going_on (goes_step x e o)

  pub low_from : (x : TimedArc) → IsOwned n l x → x.from < n.count
  low_from x o = by (any_step x o) where
    by : IsAnyStep n l (step_of x) → x.from < n.count
    by (a_beginning h) = class_below n sound (pin_of h.owner.name h.arc.from) x.from h.is.from
    by (going_on h) = class_below n sound (pin_of h.owner.name h.arc.from) x.from h.is.from

  pub low_to : (x : TimedArc) → IsOwned n l x → x.to < n.count
  low_to x o = by (any_step x o) where
    by : IsAnyStep n l (step_of x) → x.to < n.count
    by (a_beginning h) = class_below n sound (pin_of h.owner.name h.arc.to) x.to h.is.to
    by (going_on h) = class_below n sound (pin_of h.owner.name h.arc.to) x.to h.is.to

  -- a step, and the instance and the places of its pins
  arc_for : Bool → Step → ℕ → ℕ → ℕ → TimedArc
  arc_for b s owner input output = record { from = s.from; to = s.to; delay = s.delay; begins = b; owner = owner; input = input; output = output }

  abbrev ArcOf : Bool → Step → Type 0
  ArcOf b s = (x : TimedArc) × IsOwned n l x × (x.begins ≡ b) × (step_of x ≡ s)

  begins_arc : (s : Step) → IsStep n l BeginsThere s → ArcOf true s
  unfolding arc_for
  begins_arc s h =
      let p = pin_of_class n sound h.listed.0 h.owner h.listed.1 h.arc.from s.from h.is.from in
      let q = pin_of_class n sound h.listed.0 h.owner h.listed.1 h.arc.to s.to h.is.to in (
        arc_for true s h.listed.0 p.0 q.0,
        record { owner = h.owner; stands = h.listed.1; cell = h.cell; found = h.found; arc = h.arc; has = h.has; input = p.1; output = q.1; is = h.is },
        refl,
        refl,
      )

  goes_arc : (s : Step) → IsStep n l GoesThrough s → ArcOf false s
  unfolding arc_for
  goes_arc s h =
      let p = pin_of_class n sound h.listed.0 h.owner h.listed.1 h.arc.from s.from h.is.from in
      let q = pin_of_class n sound h.listed.0 h.owner h.listed.1 h.arc.to s.to h.is.to in (
        arc_for false s h.listed.0 p.0 q.0,
        record { owner = h.owner; stands = h.listed.1; cell = h.cell; found = h.found; arc = h.arc; has = h.has; input = p.1; output = q.1; is = h.is },
        refl,
        refl,
      )

  -- arcs in a row, grouped and listed
  module _ (arcs : List TimedArc) (are : AreTimedArcs n l arcs) where
    pub all_to : All (λ x. x.to < n.count) arcs
    all_to = each_there (λ (x : TimedArc). x.to < n.count) arcs (λ x t. low_to x ((are.each x).0 t))

    pub all_from : All (λ x. x.from < n.count) arcs
    all_from = each_there (λ (x : TimedArc). x.from < n.count) arcs (λ x t. low_from x ((are.each x).0 t))

    pub arcs_of : (groups : List (Vec TimedArc)) → AreGrouped arcs groups → length groups ≡ n.count → AreArcsOf n l groups
    arcs_of groups grouped many = record {
      many = many;
      owned = λ class x t.
          let g = (grouped x class (group_within groups class x t)).0 t in
          ((are.each x).0 g.0, g.1, are.short x g.0);
      complete = λ x o. let low = low_to x o in (grouped x x.to (omega (arith, low, many))).1 ((are.each x).1 o, refl);
    }

    pub reached_of : (groups : List (Vec TimedArc)) (lists : List (Vec ℕ)) → AreGrouped arcs groups → length groups ≡ n.count → AreOnward arcs lists → length lists ≡ n.count → AreReached groups lists
    reached_of groups lists grouped many onward each = record {
      many = each ∙ sym many;
      only = λ from to t.
          let w = (onward from to).0 t in
          let low = low_to w.0 ((are.each w.0).0 w.1) in
          let to_is = w.4 in
          (w.0, (grouped w.0 to (omega (arith, low, many, to_is))).1 (w.1, w.4), w.2, w.3);
      each = λ class x t way.
          let g = (grouped x class (group_within groups class x t)).0 t in
          (onward x.from class).1 (x, g.0, way, refl, g.1);
    }

-- ---- the graph of a netlist

module _ (n : Netlist) (l : Library) (sound : IsNetlist n) (groups : List (Vec TimedArc)) (order : List ℕ)
    (are : AreArcsOf n l groups) (ordered : IsPathOrder n l order) where
  behind : (x y : TimedArc) (c d i j : ℕ) → IsThere (group_of groups c) x → IsThere (group_of groups d) y → x.begins ≡ false → x.from ≡ d → Stands order i c → Stands order j d → j < i
  behind x y c d i j hx hy way e si sj =
      let a = are.owned c x hx in
      let b = are.owned d y hy in
      ordered.behind (step_of x) (step_of y) i j (goes_step n l sound x way a.0) (any_step n l sound y b.0) (e ∙ sym b.1)
      (subst (λ k. Stands order i k) (sym a.1) si) (subst (λ k. Stands order j k) (sym b.1) sj)

  pub graph_of : n.count < 2 ^ 32 → IsGraph groups order n.count
  graph_of few = record {
    many = are.many;
    to = λ class x t. (are.owned class x t).1;
    from = λ class x t. low_from n l sound x (are.owned class x t).0;
    short = λ class x t. (are.owned class x t).2;
    inside = ordered.inside;
    once = ordered.once;
    complete = ordered.complete;
    behind = behind;
    few = let f = few_classes n.count order ordered.once ordered.inside in omega (arith, f, few);
  }

  -- a step of the graph is one of the netlist, and back
  begins_in : (s : Step) → IsIn groups true s → IsStep n l BeginsThere s
  begins_in s h = subst (λ (u : Step). IsStep n l BeginsThere u) h.is (begins_step n l sound h.arc h.way (are.owned h.arc.to h.arc h.listed).0)

  goes_in : (s : Step) → IsIn groups false s → IsStep n l GoesThrough s
  goes_in s h = subst (λ (u : Step). IsStep n l GoesThrough u) h.is (goes_step n l sound h.arc h.way (are.owned h.arc.to h.arc h.listed).0)

  in_begins : (s : Step) → IsStep n l BeginsThere s → IsIn groups true s
  in_begins s h = let a = begins_arc n l sound s h in record { arc = a.0; listed = are.complete a.0 a.1; way = a.2; is = a.3 }

  in_goes : (s : Step) → IsStep n l GoesThrough s → IsIn groups false s
  in_goes s h = let a = goes_arc n l sound s h in record { arc = a.0; listed = are.complete a.0 a.1; way = a.2; is = a.3 }

  pub arrivals_of : (old now : List (Option ℕ)) → AreStartsOf n old → AreSettled groups old now → (class : ℕ) → class < n.count → IsGreatest (Arrives n l class) (get_or now class None)
  arrivals_of old now starts_are settled class low =
      let m = starts_are.many in
      greatest_as (TakesTo (StartsIn old) (IsIn groups true) (IsIn groups false) class) (Arrives n l class)
      (λ d p. takes_as (StartsIn old) (IsStart n) (IsIn groups true) (IsStep n l BeginsThere) (IsIn groups false) (IsStep n l GoesThrough) (λ c h. (starts_are.each c).0 h) begins_in goes_in class d p)
      (λ d p. takes_as (IsStart n) (StartsIn old) (IsStep n l BeginsThere) (IsIn groups true) (IsStep n l GoesThrough) (IsIn groups false) (λ c h. (starts_are.each c).1 h) in_begins in_goes class d p)
      (get_or now class None) (settled class (omega (arith, low, m)))

  -- and back: the greatest arrivals of the netlist are those of the graph
  pub settled_of : (old now : List (Option ℕ)) → AreStartsOf n old → ((class : ℕ) → class < n.count → IsGreatest (Arrives n l class) (get_or now class None)) → AreSettled groups old now
  settled_of old now starts_are greatest class low =
      let m = starts_are.many in
      greatest_as (Arrives n l class) (TakesTo (StartsIn old) (IsIn groups true) (IsIn groups false) class)
      (λ d p. takes_as (IsStart n) (StartsIn old) (IsStep n l BeginsThere) (IsIn groups true) (IsStep n l GoesThrough) (IsIn groups false) (λ c h. (starts_are.each c).1 h) in_begins in_goes class d p)
      (λ d p. takes_as (StartsIn old) (IsStart n) (IsIn groups true) (IsStep n l BeginsThere) (IsIn groups false) (IsStep n l GoesThrough) (λ c h. (starts_are.each c).0 h) begins_in goes_in class d p)
      (get_or now class None) (greatest class (omega (arith, low, m)))
