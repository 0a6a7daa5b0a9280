-- What is known of a netlist's delays goes over to one that differs in the cell of one instance.
use Rattle.std.proofs.Common.{◌≡◌, ◌⊎◌, inl, inr, ℕ, zero, suc, ◌<◌, Bool, true, false, List, [], ◌∷◌, length, nat_eq, Option, Some, None, refl, sym, ap, ◌∙◌, subst, arith}
use Rattle.std.specs.Prelude.{◌↔◌, slice_index}
use Rattle.std.specs.Global.{Vec}
use Rattle.std.proofs.lemmas.Bool.{eqb-true}
use Rattle.std.proofs.lemmas.Option.{slice_get_within}
use Rattle.vlsi_base.specs.declared.name.Name.{Name}
use Rattle.vlsi_base.specs.declared.name.Port.{Port}
use Rattle.cell_model.specs.declared.cell.Arc.{Arc}
use Rattle.cell_model.specs.Cell.{Function, gate, flip_flop, other, opaque, Cell}
use Rattle.cell_model.specs.Library.{Library, cell_of}
use Rattle.net_core.specs.Places.{Stands, IsThere}
use Rattle.net_core.specs.Netlist.{Instance, Netlist, IsNetlist, port, pin_of, HasClass}
use Rattle.net_core.proofs.Standing.{stands_same}
use Rattle.net_core.proofs.Rings.{at_place, class_below}
use Rattle.delay_sta.specs.declared.graph.TimedArc.{TimedArc}
use Rattle.delay_sta.specs.Arcs.{arc_delay}
use Rattle.delay_sta.specs.Loads.{load}
use Rattle.delay_sta.specs.Paths.{Step, IsStep, IsEnd, at_port, at_data}
use Rattle.delay_sta.specs.Timed.{IsAnyStep, a_beginning, going_on, IsPathOrder}
use Rattle.delay_sta.specs.Graph.{step_of, IsOwned, IsShort, group_of, numbers_of, AreArcsOf, AreReached, AreStartsOf, data_pin}
use Rattle.delay_sta.specs.Changes.{ArePinClasses, IsPlaced, IsRetimed, AreRetimed}
use Rattle.delay_sta.proofs.Differing.{Differ, flip, has_over, start_over, apart_of, parts_of, with_delay, moved, owned_kept, AllArcs, placed_of}
use Rattle.delay_sta.proofs.Owned.{Allowed, owned_of, step_is}
use Rattle.delay_sta.proofs.Reloading.{load_off, pin_class}
use Rattle.delay_sta.proofs.Retiming.{placed_as}

-- a number stands in a list or doesn't
pub there_or_not : (xs : List ℕ) (x : ℕ) → IsThere xs x ⊎ (IsThere xs x → ⊥)
there_or_not [] x = inr (λ t. let s : None ≡ Some x = t.1 in absurd cc)
there_or_not (y ∷ xs) x = by (nat_eq y x) refl (there_or_not xs x) where
  further : (y ≡ x → ⊥) → (IsThere xs x → ⊥) → (k : ℕ) → Stands (y ∷ xs) k x → ⊥
  further apart lacks zero s = let e : Some y ≡ Some x = s in apart cc
  further apart lacks (suc k) s = lacks (k, s)

  by : (b : Bool) → nat_eq y x ≡ b → IsThere xs x ⊎ (IsThere xs x → ⊥) → IsThere (y ∷ xs) x ⊎ (IsThere (y ∷ xs) x → ⊥)
  by true e h = inl (0, ap Some (eqb-true y x e))
  by false e (inl t) = inl (suc t.0, t.1)
  by false e (inr lacks) = inr (λ t. further (apart_of y x e) lacks t.0 t.1)

-- ---- steps and their order

pub step_back : (l : Library) (n m : Netlist) (number : ℕ) → Differ l n m number → IsNetlist m → (b : Bool) (s : Step) → IsStep m l (Allowed b) s
    → (t : Step) × IsStep n l (Allowed b) t × (t.from ≡ s.from) × (t.to ≡ s.to)
step_back l n m number d sound b s h =
    let o = owned_of m l sound b s h in
    let g = moved l m n number (flip l n m number d) o.arc o.is in (
      step_of (with_delay o.arc g.time),
      step_is n l (with_delay o.arc g.time) b o.way g.is,
      ap (λ (u : Step). u.from) o.step,
      ap (λ (u : Step). u.to) o.step,
    )

any_back : (l : Library) (n m : Netlist) (number : ℕ) → Differ l n m number → IsNetlist m → (s : Step) → IsAnyStep m l s → (t : Step) × IsAnyStep n l t × (t.to ≡ s.to)
any_back l n m number d sound s (a_beginning h) = let r = step_back l n m number d sound true s h in (r.0, a_beginning r.1, r.3)
any_back l n m number d sound s (going_on h) = let r = step_back l n m number d sound false s h in (r.0, going_on r.1, r.3)

pub order_over : (l : Library) (n m : Netlist) (number : ℕ) → Differ l n m number → IsNetlist m → (order : List ℕ) → IsPathOrder n l order → IsPathOrder m l order
order_over l n m number d sound order o = record {
  inside = λ class t. subst (λ c. class < c) (sym d.count) (o.inside class t);
  once = o.once;
  complete = λ class low. o.complete class (subst (λ c. class < c) d.count low);
  behind = λ s t i j h g e si sj.
      let a = step_back l n m number d sound false s h in
      let b = any_back l n m number d sound t g in
      o.behind a.0 b.0 i j a.1 b.1 (a.2 ∙ e ∙ sym b.2) (subst (λ c. Stands order i c) (sym a.3) si) (subst (λ c. Stands order j c) (sym b.2) sj);
}

-- ---- where paths start and end

pub starts_over : (l : Library) (n m : Netlist) (number : ℕ) → Differ l n m number → (initial : List (Option ℕ)) → AreStartsOf n initial → AreStartsOf m initial
starts_over l n m number d initial h = record {
  many = h.many ∙ sym d.count;
  zero = h.zero;
  each = λ class. ((λ e. start_over l n m number d class ((h.each class).0 e)), (λ g. (h.each class).1 (start_over l m n number (flip l n m number d) class g)));
}

clocked : (f : Function) (pin : Name) → data_pin f ≡ Some pin → (clock : Name) × (f ≡ flip_flop pin clock)
clocked (gate e) pin h = absurd cc
clocked (flip_flop data_name clock_name) pin h = let same : data_name ≡ pin = cc in (clock_name, ap (λ (q : Name). flip_flop q clock_name) same)
clocked (other machine) pin h = absurd cc
clocked opaque pin h = absurd cc

pub end_over : (l : Library) (n m : Netlist) (number : ℕ) → Differ l n m number → (class : ℕ) → IsEnd n l class → IsEnd m l class
end_over l n m number d class (at_port output there gives joined) =
    at_port output (subst (λ (ps : List Port). IsThere ps output) (sym d.ports) there) gives (has_over l n m number d (port output.name) class joined)
end_over l n m number d class (at_data i c data_name clock_name there found is joined) = by (nat_eq there.0 number) refl where
  by : (b : Bool) → nat_eq there.0 number ≡ b → IsEnd m l class
  by false e = at_data i c data_name clock_name (there.0, d.there there.0 i (apart_of there.0 number e) there.1) found is (has_over l n m number d (pin_of i.name data_name) class joined)
  by true e =
      let owner : i ≡ d.old = stands_same n.instances number i d.old (subst (λ k. Stands n.instances k i) (eqb-true there.0 number e) there.1) d.stood in
      let cell : c ≡ d.was = (let f : Some c ≡ Some d.was = sym found ∙ ap (λ (o : Instance). cell_of l o.model) owner ∙ d.found in cc) in
      let clock = clocked d.now.function data_name (sym d.alike.data_pins ∙ ap (λ (x : Cell). data_pin x.function) (sym cell) ∙ ap data_pin is) in
      let name : i.name ≡ d.new.name = ap (λ (o : Instance). o.name) owner ∙ sym d.name in
      at_data d.new d.now data_name clock.0 (number, d.stands) d.listed clock.1
      (has_over l n m number d (pin_of d.new.name data_name) class (subst (λ (o : List ℕ). HasClass n (pin_of o data_name) class) name joined))

pub ends_over : (l : Library) (n m : Netlist) (number : ℕ) → Differ l n m number → (ends : List ℕ) → ((class : ℕ) → IsThere ends class ↔ IsEnd n l class) → (class : ℕ) → IsThere ends class ↔ IsEnd m l class
ends_over l n m number d ends h class = ((λ t. end_over l n m number d class ((h class).0 t)), (λ g. (h class).1 (end_over l m n number (flip l n m number d) class g)))

-- ---- arcs

pub placed_over : (l : Library) (n m : Netlist) (number : ℕ) (d : Differ l n m number) → AllArcs m l → (old : List (Vec TimedArc)) → AreArcsOf n l old
    → (class : ℕ) (x : TimedArc) → IsThere (group_of old class) x → IsPlaced m l x
placed_over l n m number d all old are class x t =
    let a = are.owned class x t in
    let g = moved l n m number d x a.0 in
    (placed_of m l all x g.time g.is).0

module _ (l : Library) (n m : Netlist) (number : ℕ) (d : Differ l n m number) (sound : IsNetlist n) (all : AllArcs m l) (classes : List ℕ) (c : ArePinClasses n number classes)
    (loads : List ℕ) (old new : List (Vec TimedArc)) (are : AreArcsOf n l old) (many : length new ≡ length old)
    (known : (class : ℕ) → class < n.count → slice_index loads class ≡ load m l class)
    (changed : (class : ℕ) → IsThere classes class → AreRetimed m l (slice_index loads class) (group_of old class) (group_of new class))
    (others : (class : ℕ) → (IsThere classes class → ⊥) → group_of new class ≡ group_of old class) where
  -- the arc of an instance leads to one of its classes
  to_own : (x : TimedArc) → IsOwned n l x → x.owner ≡ number → IsThere classes x.to
  to_own x h e =
      let owner : h.owner ≡ c.owner = stands_same n.instances number h.owner c.owner (subst (λ k. Stands n.instances k h.owner) e h.stands) c.stands in
      let p = parts_of n (load n l) h.owner.name h.cell h.arc x h.is in (
        x.output,
        pin_class n sound number classes c x.output h.arc.to x.to
            (subst (λ (o : Instance). Stands o.pins x.output h.arc.to) owner h.output)
            (subst (λ (o : Instance). HasClass n (pin_of o.name h.arc.to) x.to) owner p.to),
      )

  low : (x : TimedArc) (class : ℕ) → IsOwned n l x → x.to ≡ class → class < n.count
  low x class h e = subst (λ k. k < n.count) e (class_below n sound (pin_of h.owner.name h.arc.to) x.to (parts_of n (load n l) h.owner.name h.cell h.arc x h.is).to)

  kept_owned : (x : TimedArc) → IsOwned n l x → (IsThere classes x.to → ⊥) → IsOwned m l x
  kept_owned x h lacks = owned_kept l n m number d x (λ e. lacks (to_own x h e)) (load_off l n m number d classes c x.to lacks) h

  kept_back : (y : TimedArc) → IsOwned m l y → (IsThere classes y.to → ⊥) → IsOwned n l y
  kept_back y h lacks =
      let g = moved l m n number (flip l n m number d) y h in
      owned_kept l m n number (flip l n m number d) y (λ e. lacks (to_own (with_delay y g.time) g.is e)) (sym (load_off l n m number d classes c y.to lacks)) h

  -- an arc that takes its time is one of the new netlist
  now_owned : (class : ℕ) (x y : TimedArc) → IsOwned n l x → x.to ≡ class → IsRetimed m l (slice_index loads class) x y → IsOwned m l y
  now_owned class x y h to r =
      let g = moved l n m number d x h in
      let p = placed_of m l all x g.time g.is in
      let value : slice_index loads class ≡ load m l x.to = known class (low x class h to) ∙ ap (load m l) (sym to) in
      let time : y.delay ≡ g.time = r.time p.0 ∙ ap (arc_delay p.0.arc) value ∙ sym p.1 in
      let same : y ≡ with_delay x g.time = r.same ∙ ap (with_delay x) time in
      subst (IsOwned m l) (sym same) g.is

  owned_now : (class : ℕ) (y : TimedArc) → IsThere (group_of new class) y → IsOwned m l y × (y.to ≡ class) × IsShort y
  owned_now class y t = by (there_or_not classes class) where
    by : IsThere classes class ⊎ (IsThere classes class → ⊥) → IsOwned m l y × (y.to ≡ class) × IsShort y
    by (inl u) =
        let r = changed class u in
        let w = slice_get_within (group_of new class) t.0 y t.1 in
        let k = r.many in
        let x = at_place (group_of old class) t.0 (omega (arith, w, k)) in
        let a = are.owned class x.0 (t.0, x.1) in
        let e = r.each t.0 x.0 y x.1 t.1 in
        (now_owned class x.0 y a.0 a.1 e, ap (λ (z : TimedArc). z.to) e.same ∙ a.1, e.short)
    by (inr lacks) =
        let a = are.owned class y (subst (λ (xs : List TimedArc). IsThere xs y) (others class lacks) t) in
        (kept_owned y a.0 (λ u. lacks (subst (IsThere classes) a.1 u)), a.1, a.2)

  complete_now : (y : TimedArc) → IsOwned m l y → IsThere (group_of new y.to) y
  complete_now y h = by (there_or_not classes y.to) where
    by : IsThere classes y.to ⊎ (IsThere classes y.to → ⊥) → IsThere (group_of new y.to) y
    by (inr lacks) = subst (λ (xs : List TimedArc). IsThere xs y) (sym (others y.to lacks)) (are.complete y (kept_back y h lacks))
    by (inl u) =
        let g = moved l m n number (flip l n m number d) y h in
        let t = are.complete (with_delay y g.time) g.is in
        let r = changed y.to u in
        let w = slice_get_within (group_of old y.to) t.0 (with_delay y g.time) t.1 in
        let k = r.many in
        let z = at_place (group_of new y.to) t.0 (omega (arith, w, k)) in
        let e = r.each t.0 (with_delay y g.time) z.0 t.1 z.1 in
        let p = placed_of m l all y y.delay h in
        let q = placed_as m l y (with_delay y g.time) refl p.0 in
        let value : slice_index loads y.to ≡ load m l y.to = known y.to (low (with_delay y g.time) y.to g.is refl) in
        let time : z.0.delay ≡ y.delay = e.time q.0 ∙ ap (λ (a : Arc). arc_delay a (slice_index loads y.to)) q.1 ∙ ap (arc_delay p.0.arc) value ∙ sym p.1 in
        let same : z.0 ≡ y = e.same ∙ ap (with_delay y) time in
        (t.0, subst (λ (v : TimedArc). Stands (group_of new y.to) t.0 v) same z.1)

  pub arcs_over : AreArcsOf m l new
  arcs_over = record { many = many ∙ are.many ∙ sym d.count; owned = owned_now; complete = complete_now }

  pub reached_over : (reached : List (Vec ℕ)) → AreReached old reached → AreReached new reached
  reached_over reached h = record { many = h.many ∙ sym many; only = only; each = each } where
    only : (from to : ℕ) → IsThere (numbers_of reached from) to → (y : TimedArc) × IsThere (group_of new to) y × (y.begins ≡ false) × (y.from ≡ from)
    only from to t = by (there_or_not classes to) (h.only from to t) where
      by : IsThere classes to ⊎ (IsThere classes to → ⊥) → (x : TimedArc) × IsThere (group_of old to) x × (x.begins ≡ false) × (x.from ≡ from)
          → (y : TimedArc) × IsThere (group_of new to) y × (y.begins ≡ false) × (y.from ≡ from)
      by (inr lacks) x = (x.0, subst (λ (xs : List TimedArc). IsThere xs x.0) (sym (others to lacks)) x.1, x.2, x.3)
      by (inl u) x =
          let r = changed to u in
          let w = slice_get_within (group_of old to) x.1.0 x.0 x.1.1 in
          let k = r.many in
          let y = at_place (group_of new to) x.1.0 (omega (arith, w, k)) in
          let e = (r.each x.1.0 x.0 y.0 x.1.1 y.1).same in
          (y.0, (x.1.0, y.1), ap (λ (z : TimedArc). z.begins) e ∙ x.2, ap (λ (z : TimedArc). z.from) e ∙ x.3)

    each : (class : ℕ) (y : TimedArc) → IsThere (group_of new class) y → y.begins ≡ false → IsThere (numbers_of reached y.from) class
    each class y t way = by (there_or_not classes class) where
      by : IsThere classes class ⊎ (IsThere classes class → ⊥) → IsThere (numbers_of reached y.from) class
      by (inr lacks) = h.each class y (subst (λ (xs : List TimedArc). IsThere xs y) (others class lacks) t) way
      by (inl u) =
          let r = changed class u in
          let w = slice_get_within (group_of new class) t.0 y t.1 in
          let k = r.many in
          let x = at_place (group_of old class) t.0 (omega (arith, w, k)) in
          let e = (r.each t.0 x.0 y x.1 t.1).same in
          subst (λ f. IsThere (numbers_of reached f) class) (sym (ap (λ (z : TimedArc). z.from) e)) (h.each class x.0 (t.0, x.1) (sym (ap (λ (z : TimedArc). z.begins) e) ∙ way))
