-- Arcs that take another time than before, and are else as they were.
use Rattle.std.proofs.Common.{◌≡◌, ◌⊎◌, inl, inr, ℕ, zero, suc, ◌+◌, ◌^◌, ◌<◌, ◌≤◌, Bool, true, false, List, [], ◌∷◌, map, length, get_or, nat_eq, Some, refl, sym, ap, ◌∙◌, subst, arith}
use Rattle.std.specs.Prelude.{slice_set}
use Rattle.std.specs.Global.{Vec}
use Rattle.std.proofs.lemmas.List.{length-map, length-set, get_or-map, get_or-set_same}
use Rattle.std.proofs.lemmas.Bool.{cases_lt, eqb-true}
use Rattle.std.proofs.lemmas.Option.{slice_get_within}
use Rattle.vlsi_base.specs.declared.name.Name.{Name}
use Rattle.cell_model.specs.declared.cell.Arc.{Arc}
use Rattle.cell_model.specs.Cell.{Cell}
use Rattle.cell_model.specs.Library.{Library, cell_of}
use Rattle.net_core.specs.declared.frame.Node.{Node}
use Rattle.net_core.specs.Places.{Stands, IsThere}
use Rattle.net_core.specs.Frame.{instance_of}
use Rattle.net_core.specs.Netlist.{Instance, Netlist}
use Rattle.net_core.proofs.Rings.{at_place}
use Rattle.net_core.proofs.Standing.{stands_same}
use Rattle.delay_sta.specs.declared.graph.TimedArc.{TimedArc}
use Rattle.delay_sta.specs.Arcs.{arc_delay}
use Rattle.delay_sta.specs.Graph.{group_of}
use Rattle.delay_sta.specs.Changes.{IsPlaced, IsRetimed, AreRetimed}
use Rattle.delay_sta.proofs.Differing.{stands_set, stands_other, stands_back, apart_of, with_delay}

-- ---- the arc between two pins

-- none of the first k arcs is one
abbrev pub LacksArc : List Arc → Name → Name → ℕ → Type 0
LacksArc arcs from to k = (j : ℕ) (a : Arc) → j < k → Stands arcs j a → a.from ≡ from → a.to ≡ to → ⊥

-- ---- nodes

pub node_low : (n : Netlist) (nodes : List Node) (k : ℕ) (i : Instance) → map (instance_of n.models) nodes ≡ n.instances → Stands n.instances k i → k < length nodes
node_low n nodes k i seen s =
    let w = slice_get_within n.instances k i s in
    let e = ap length seen in
    let m = length-map nodes (instance_of n.models) in
    omega (arith, w, e, m)

-- ---- arcs at their places

-- the same arc, after another time
pub placed_as : (n : Netlist) (l : Library) (x y : TimedArc) → y ≡ with_delay x y.delay → (p : IsPlaced n l x) → (q : IsPlaced n l y) × (q.arc ≡ p.arc)
placed_as n l x y e p = subst (λ (z : TimedArc). (q : IsPlaced n l z) × (q.arc ≡ p.arc)) (sym e) (
  record {
    owner = p.owner;
    stands = p.stands;
    cell = p.cell;
    found = p.found;
    input = p.input;
    output = p.output;
    begins_at = p.begins_at;
    ends_at = p.ends_at;
    arc = p.arc;
    only = p.only;
  },
  refl,
)

-- the arc of an arc's place
pub placed_once : (n : Netlist) (l : Library) (x : TimedArc) (p q : IsPlaced n l x) → p.arc ≡ q.arc
placed_once n l x p q =
    let owner : q.owner ≡ p.owner = stands_same n.instances x.owner q.owner p.owner q.stands p.stands in
    let cell : q.cell ≡ p.cell = (let f : Some q.cell ≡ Some p.cell = sym q.found ∙ ap (λ (o : Instance). cell_of l o.model) owner ∙ p.found in cc) in
    let input : q.input ≡ p.input = stands_same p.owner.pins x.input q.input p.input (subst (λ (o : Instance). Stands o.pins x.input q.input) owner q.begins_at) p.begins_at in
    let output : q.output ≡ p.output = stands_same p.owner.pins x.output q.output p.output (subst (λ (o : Instance). Stands o.pins x.output q.output) owner q.ends_at) p.ends_at in
    q.only.once p.arc (subst (λ (c : Cell). IsThere c.arcs p.arc) (sym cell) p.only.has) (p.only.leaves ∙ sym input) (p.only.enters ∙ sym output)

pub retimed_as : (n : Netlist) (l : Library) (load time : ℕ) (x : TimedArc) (p : IsPlaced n l x) → time < 2 ^ 96 → time ≡ arc_delay p.arc load → IsRetimed n l load x (with_delay x time)
retimed_as n l load time x p short is = record { same = refl; short = short; time = λ q. is ∙ ap (λ (a : Arc). arc_delay a load) (placed_once n l x p q) }

retimed_through : (n : Netlist) (l : Library) (load : ℕ) (x y z : TimedArc) → IsRetimed n l load x y → IsRetimed n l load y z → IsRetimed n l load x z
retimed_through n l load x y z h g = record {
  same = g.same ∙ ap (λ (w : TimedArc). with_delay w z.delay) h.same;
  short = g.short;
  time = λ p. let q = placed_as n l x y h.same p in g.time q.0 ∙ ap (λ (a : Arc). arc_delay a load) q.1;
}

-- ---- a group of arcs, one after the other

pub record RetimedSoFar (n : Netlist) (l : Library) (load : ℕ) (old now : List TimedArc) (k : ℕ) : Type 0 where
  pub many : length now ≡ length old
  pub done : (j : ℕ) (x y : TimedArc) → j < k → Stands old j x → Stands now j y → IsRetimed n l load x y
  pub rest : (j : ℕ) (x : TimedArc) → k ≤ j → Stands old j x → Stands now j x

pub retimed_step : (n : Netlist) (l : Library) (load : ℕ) (old now : List TimedArc) (k time : ℕ) (x : TimedArc) → RetimedSoFar n l load old now k → Stands now k x → (p : IsPlaced n l x)
    → time < 2 ^ 96 → time ≡ arc_delay p.arc load → RetimedSoFar n l load old (slice_set now k (with_delay x time)) (k + 1)
retimed_step n l load old now k time x before s p short is = record { many = length-set now k (with_delay x time) ∙ before.many; done = done; rest = rest } where
  done : (j : ℕ) (a b : TimedArc) → j < k + 1 → Stands old j a → Stands (slice_set now k (with_delay x time)) j b → IsRetimed n l load a b
  done j a b m t u = by (nat_eq j k) refl where
    less_of : (j ≡ k → ⊥) → j < k
    less_of apart = elim (cases_lt j k) [ inl less ↦ less | inr more ↦ absurd (apart (omega (arith, m, more))) ]

    by : (e : Bool) → nat_eq j k ≡ e → IsRetimed n l load a b
    by false e = before.done j a b (less_of (apart_of j k e)) t (stands_back now k j b (with_delay x time) (apart_of j k e) u)
    by true e =
        let q : j ≡ k = eqb-true j k e in
        let first : a ≡ x = stands_same now k a x (before.rest k a (omega arith) (subst (λ i. Stands old i a) q t)) s in
        let second : with_delay x time ≡ b = stands_same (slice_set now k (with_delay x time)) k (with_delay x time) b (stands_set now k x (with_delay x time) s)
        (subst (λ i. Stands (slice_set now k (with_delay x time)) i b) q u) in
        subst (λ (y : TimedArc). IsRetimed n l load a y) second (subst (λ (y : TimedArc). IsRetimed n l load y (with_delay x time)) (sym first) (retimed_as n l load time x p short is))

  rest : (j : ℕ) (a : TimedArc) → k + 1 ≤ j → Stands old j a → Stands (slice_set now k (with_delay x time)) j a
  rest j a m t = stands_other now k j a (with_delay x time) (λ e. let same : j ≡ k = e in omega (arith, m, same)) (before.rest j a (omega (arith, m)) t)

-- what has not changed yet
pub not_yet : (n : Netlist) (l : Library) (load : ℕ) (old now : List TimedArc) (k : ℕ) (x : TimedArc) → RetimedSoFar n l load old now k → Stands now k x → Stands old k x
not_yet n l load old now k x h s =
    let w = slice_get_within now k x s in
    let m = h.many in
    let y = at_place old k (omega (arith, w, m)) in
    subst (λ (z : TimedArc). Stands old k z) (stands_same now k y.0 x (h.rest k y.0 (omega arith) y.1) s) y.1

pub retimed_all : (n : Netlist) (l : Library) (load : ℕ) (old now : List TimedArc) (k : ℕ) → length now ≤ k → RetimedSoFar n l load old now k → AreRetimed n l load old now
retimed_all n l load old now k all h = record {
  many = h.many;
  each = λ j x y s t. let w = slice_get_within now j y t in h.done j x y (omega (arith, w, all)) s t;
}

-- ---- the groups of classes, one after the other

pub record ChangedSoFar (n : Netlist) (l : Library) (loads classes : List ℕ) (old now : List (Vec TimedArc)) (k : ℕ) : Type 0 where
  pub many : length now ≡ length old
  pub either : (class : ℕ) → (group_of now class ≡ group_of old class) ⊎ AreRetimed n l (get_or loads class 0) (group_of old class) (group_of now class)
  pub changed : (j class : ℕ) → j < k → Stands classes j class → AreRetimed n l (get_or loads class 0) (group_of old class) (group_of now class)
  pub others : (class : ℕ) → (IsThere classes class → ⊥) → group_of now class ≡ group_of old class

are_through : (n : Netlist) (l : Library) (load : ℕ) (xs ys zs : List TimedArc) → AreRetimed n l load xs ys → AreRetimed n l load ys zs → AreRetimed n l load xs zs
are_through n l load xs ys zs h g = record {
  many = g.many ∙ h.many;
  each = λ k x z s t.
      let w = slice_get_within xs k x s in
      let m = h.many in
      let y = at_place ys k (omega (arith, w, m)) in
      retimed_through n l load x y.0 z (h.each k x y.0 s y.1) (g.each k y.0 z y.1 t);
}

-- where one group was set
pub group_set : (groups : List (Vec TimedArc)) (at : ℕ) (v : Vec TimedArc) → at < length groups → group_of (slice_set groups at v) at ≡ v.items
group_set groups at v l =
    let m = length-set groups at v in
    get_or-map (λ (g : Vec TimedArc). g.items) (slice_set groups at v) at v [] (omega (arith, l, m))
    ∙ ap (λ (g : Vec TimedArc). g.items) (get_or-set_same groups at v v l)

pub group_else : (groups : List (Vec TimedArc)) (at class : ℕ) (v : Vec TimedArc) → (class ≡ at → ⊥) → group_of (slice_set groups at v) class ≡ group_of groups class
group_else [] at class v apart = refl
group_else (g ∷ groups) zero zero v apart = absurd (apart refl)
group_else (g ∷ groups) zero (suc class) v apart = refl
group_else (g ∷ groups) (suc at) zero v apart = refl
group_else (g ∷ groups) (suc at) (suc class) v apart = group_else groups at class v (λ e. apart (ap suc e))

pub changed_step : (n : Netlist) (l : Library) (loads classes : List ℕ) (old now : List (Vec TimedArc)) (k at : ℕ) (v : Vec TimedArc) → ChangedSoFar n l loads classes old now k → Stands classes k at → at < length now
    → AreRetimed n l (get_or loads at 0) (group_of now at) v.items → ChangedSoFar n l loads classes old (slice_set now at v) (k + 1)
changed_step n l loads classes old now k at v before s low are = record { many = length-set now at v ∙ before.many; either = either; changed = changed; others = others } where
  here : AreRetimed n l (get_or loads at 0) (group_of old at) (group_of (slice_set now at v) at)
  here = subst (λ (xs : List TimedArc). AreRetimed n l (get_or loads at 0) (group_of old at) xs) (sym (group_set now at v low)) (by (before.either at)) where
    by : (group_of now at ≡ group_of old at) ⊎ AreRetimed n l (get_or loads at 0) (group_of old at) (group_of now at) → AreRetimed n l (get_or loads at 0) (group_of old at) v.items
    by (inl e) = subst (λ (xs : List TimedArc). AreRetimed n l (get_or loads at 0) xs v.items) e are
    by (inr h) = are_through n l (get_or loads at 0) (group_of old at) (group_of now at) v.items h are

  here_as : (class : ℕ) → class ≡ at → AreRetimed n l (get_or loads class 0) (group_of old class) (group_of (slice_set now at v) class)
  here_as class e = subst (λ c. AreRetimed n l (get_or loads c 0) (group_of old c) (group_of (slice_set now at v) c)) (sym e) here

  either : (class : ℕ) → (group_of (slice_set now at v) class ≡ group_of old class) ⊎ AreRetimed n l (get_or loads class 0) (group_of old class) (group_of (slice_set now at v) class)
  either class = by (nat_eq class at) refl (before.either class) where
    by : (b : Bool) → nat_eq class at ≡ b → (group_of now class ≡ group_of old class) ⊎ AreRetimed n l (get_or loads class 0) (group_of old class) (group_of now class)
        → (group_of (slice_set now at v) class ≡ group_of old class) ⊎ AreRetimed n l (get_or loads class 0) (group_of old class) (group_of (slice_set now at v) class)
    by true e h = inr (here_as class (eqb-true class at e))
    by false e (inl same) = inl (group_else now at class v (apart_of class at e) ∙ same)
    by false e (inr h) = inr (subst (λ (xs : List TimedArc). AreRetimed n l (get_or loads class 0) (group_of old class) xs) (sym (group_else now at class v (apart_of class at e))) h)

  changed : (j class : ℕ) → j < k + 1 → Stands classes j class → AreRetimed n l (get_or loads class 0) (group_of old class) (group_of (slice_set now at v) class)
  changed j class m t = by (nat_eq class at) refl where
    less_of : (class ≡ at → ⊥) → j < k
    less_of apart = elim (cases_lt j k) [
      | inl less ↦ less
      | inr more ↦
          let same : j ≡ k = omega (arith, m, more) in
          absurd (apart (stands_same classes k class at (subst (λ i. Stands classes i class) same t) s))
    ]

    by : (b : Bool) → nat_eq class at ≡ b → AreRetimed n l (get_or loads class 0) (group_of old class) (group_of (slice_set now at v) class)
    by true e = here_as class (eqb-true class at e)
    by false e =
        subst (λ (xs : List TimedArc). AreRetimed n l (get_or loads class 0) (group_of old class) xs) (sym (group_else now at class v (apart_of class at e)))
        (before.changed j class (less_of (apart_of class at e)) t)

  others : (class : ℕ) → (IsThere classes class → ⊥) → group_of (slice_set now at v) class ≡ group_of old class
  others class lacks = group_else now at class v (λ e. lacks (k, subst (λ c. Stands classes k c) (sym e) s)) ∙ before.others class lacks

-- what is placed stays so
pub still_placed : (n : Netlist) (l : Library) (loads classes : List ℕ) (old now : List (Vec TimedArc)) (k : ℕ) → ChangedSoFar n l loads classes old now k
    → ((class : ℕ) (x : TimedArc) → IsThere (group_of old class) x → IsPlaced n l x) → (class : ℕ) (y : TimedArc) → IsThere (group_of now class) y → IsPlaced n l y
still_placed n l loads classes old now k h placed class y t = by (h.either class) where
  by : (group_of now class ≡ group_of old class) ⊎ AreRetimed n l (get_or loads class 0) (group_of old class) (group_of now class) → IsPlaced n l y
  by (inl e) = placed class y (subst (λ (xs : List TimedArc). IsThere xs y) e t)
  by (inr g) =
      let w = slice_get_within (group_of now class) t.0 y t.1 in
      let m = g.many in
      let x = at_place (group_of old class) t.0 (omega (arith, w, m)) in
      (placed_as n l x.0 y (g.each t.0 x.0 y x.1 t.1).same (placed class x.0 (t.0, x.1))).0

pub changed_all : (n : Netlist) (l : Library) (loads classes : List ℕ) (old now : List (Vec TimedArc)) (k : ℕ) → length classes ≤ k → ChangedSoFar n l loads classes old now k
    → (class : ℕ) → IsThere classes class → AreRetimed n l (get_or loads class 0) (group_of old class) (group_of now class)
changed_all n l loads classes old now k all h class t = let w = slice_get_within classes t.0 class t.1 in h.changed t.0 class (omega (arith, w, all)) t.1
