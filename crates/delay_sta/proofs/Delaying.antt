-- The delays of a netlist behind an exchange.
use Rattle.std.proofs.Common.{◌≡◌, ◌⊎◌, inl, inr, ℕ, ◌+◌, ◌<◌, ◌≤◌, ◌^◌, Bool, true, false, List, [], ◌∷◌, length, get_or, Option, None, refl, sym, ap, ◌∙◌, subst, arith}
use Rattle.std.specs.Prelude.{◌↔◌, slice_index}
use Rattle.std.specs.Global.{Vec}
use Rattle.cell_model.specs.Library.{Library}
use Rattle.cell_checks.specs.Arcs.{HaveTheirArcs}
use Rattle.net_core.specs.Places.{IsThere}
use Rattle.net_core.specs.Netlist.{Netlist, IsNetlist, InTurn, ended, again, first}
use Rattle.delay_sta.specs.declared.arrivals.Delays.{Delays}
use Rattle.delay_sta.specs.declared.graph.TimedArc.{TimedArc}
use Rattle.delay_sta.specs.Paths.{Arrives, IsEnd, IsGreatest}
use Rattle.delay_sta.specs.Timed.{CanBeTimed, IsPathOrder, AreDelaysOf}
use Rattle.delay_sta.specs.Graph.{AreFound, AreArcsOf, AreReached, AreStartsOf, AreSettled, AreInTime, AreSources, IsGraph, IsLatest, group_of}
use Rattle.delay_sta.specs.Exchanged.{IsExchangeAt, IsSetTo}
use Rattle.delay_sta.specs.Changes.{ArePinClasses, AreLoads, IsPlaced, AreRetimed}
use Rattle.delay_sta.proofs.Differing.{Differ, flip, differ_of, AllArcs, all_arcs, all_arcs_over}
use Rattle.delay_sta.proofs.Resting.{delays_in_time, delays_sources}
use Rattle.delay_sta.proofs.Reloading.{over_classes}
use Rattle.delay_sta.proofs.Routes.{graph_of, arrivals_of}
use Rattle.delay_sta.proofs.Following.{there_or_not, order_over, starts_over, ends_over, placed_over, arcs_over, reached_over}

-- arcs after their times were changed
pub record Changed (m : Netlist) (l : Library) (loads classes : List ℕ) (old new : List (Vec TimedArc)) : Type 0 where
  pub many : length new ≡ length old
  pub changed : (class : ℕ) → IsThere classes class → AreRetimed m l (slice_index loads class) (group_of old class) (group_of new class)
  pub others : (class : ℕ) → (IsThere classes class → ⊥) → group_of new class ≡ group_of old class

-- the same of equal lists

pub graph_as : (groups gs : List (Vec TimedArc)) (order os : List ℕ) (arrivals ts : List (Option ℕ)) → gs ≡ groups → os ≡ order → ts ≡ arrivals → IsGraph groups order (length arrivals) → IsGraph gs os (length ts)
graph_as groups gs order os arrivals ts e f g h =
    subst (λ (x : List (Vec TimedArc)). IsGraph x os (length ts)) (sym e) (subst (λ (x : List ℕ). IsGraph groups x (length ts)) (sym f) (subst (λ (x : List (Option ℕ)). IsGraph groups order (length x)) (sym g) h))

pub reached_as : (groups gs : List (Vec TimedArc)) (reached rs : List (Vec ℕ)) → gs ≡ groups → rs ≡ reached → AreReached groups reached → AreReached gs rs
reached_as groups gs reached rs e f h = subst (λ (x : List (Vec TimedArc)). AreReached x rs) (sym e) (subst (λ (x : List (Vec ℕ)). AreReached groups x) (sym f) h)

pub sources_as : (groups gs : List (Vec TimedArc)) (initial is arrivals ts : List (Option ℕ)) → gs ≡ groups → is ≡ initial → ts ≡ arrivals → AreSources groups initial arrivals → AreSources gs is ts
sources_as groups gs initial is arrivals ts e f g h =
    subst (λ (x : List (Vec TimedArc)). AreSources x is ts) (sym e) (subst (λ (x : List (Option ℕ)). AreSources groups x ts) (sym f) (subst (λ (x : List (Option ℕ)). AreSources groups initial x) (sym g) h))

pub rest_as : (groups gs : List (Vec TimedArc)) (initial is arrivals ts : List (Option ℕ)) (stale bs : List Bool) → gs ≡ groups → is ≡ initial → ts ≡ arrivals → bs ≡ stale → AreInTime groups initial arrivals stale → AreInTime gs is ts bs
rest_as groups gs initial is arrivals ts stale bs e f g b h =
    subst (λ (x : List (Vec TimedArc)). AreInTime x is ts bs) (sym e) (subst (λ (x : List (Option ℕ)). AreInTime groups x ts bs) (sym f)
    (subst (λ (x : List (Option ℕ)). AreInTime groups initial x bs) (sym g) (subst (λ (x : List Bool). AreInTime groups initial arrivals x) (sym b) h)))

pub settled_as : (groups gs : List (Vec TimedArc)) (initial is now : List (Option ℕ)) → gs ≡ groups → is ≡ initial → AreSettled gs is now → AreSettled groups initial now
settled_as groups gs initial is now e f h = subst (λ (x : List (Option ℕ)). AreSettled groups x now) f (subst (λ (x : List (Vec TimedArc)). AreSettled x is now) e h)

turn_few : (met count : ℕ) (ks : List ℕ) → InTurn met ks count → count ≤ met + length ks
turn_few met count [] ended = omega arith
turn_few met count (x ∷ ks) (again l t) = let r = turn_few met count ks t in omega (arith, r)
turn_few met count (x ∷ ks) (first t) = let r = turn_few (met + 1) count ks t in omega (arith, r)

pub changed_as : (m : Netlist) (l : Library) (loads ls classes : List ℕ) (old os new : List (Vec TimedArc)) → ls ≡ loads → os ≡ old → length new ≡ length os
    → ((class : ℕ) → IsThere classes class → AreRetimed m l (slice_index ls class) (group_of os class) (group_of new class)) → ((class : ℕ) → (IsThere classes class → ⊥) → group_of new class ≡ group_of os class)
    → Changed m l loads classes old new
changed_as m l loads ls classes old os new e f many changed others =
    subst (λ (z : List ℕ). Changed m l z classes old new) e (subst (λ (z : List (Vec TimedArc)). Changed m l ls classes z new) f (record { many = many; changed = changed; others = others }))

module _ (l : Library) (n m : Netlist) (number place : ℕ) (x : IsExchangeAt l n number place) (set : IsSetTo l n m number place) (timed : CanBeTimed l n) (have : HaveTheirArcs l)
    (sound : IsNetlist n) (now_sound : IsNetlist m) (d : Delays) (are : AreDelaysOf n l d) (classes : List ℕ) (own : ArePinClasses m number classes) (few : length m.classes < 2 ^ 32) where
  differ : Differ l n m number
  differ = differ_of l n m number place x set timed have

  whole : AllArcs m l
  whole = all_arcs_over l n m number differ (all_arcs l n timed have)

  old_own : ArePinClasses n number classes
  old_own = over_classes l m n number (flip l n m number differ) classes own

  pub count_same : m.count ≡ n.count
  count_same = differ.count

  pub arcs_placed : (class : ℕ) (y : TimedArc) → IsThere (group_of d.arcs.items class) y → IsPlaced m l y
  arcs_placed = placed_over l n m number differ whole d.arcs.items are.arcs

  pub cells_found : AreFound l.cells m.models d.places.items
  cells_found = subst (λ (ms : List (List ℕ)). AreFound l.cells ms d.places.items) (sym differ.models) are.places

  few_classes : n.count < 2 ^ 32
  few_classes = let t = turn_few 0 m.count m.classes now_sound.turns in let e = differ.count in omega (arith, t, e, few)

  pub now_starts : AreStartsOf m d.starts.items
  now_starts = starts_over l n m number differ d.starts.items are.starts

  pub now_ends : (class : ℕ) → IsThere d.ends.items class ↔ IsEnd m l class
  now_ends = ends_over l n m number differ d.ends.items are.ends

  pub now_order : IsPathOrder m l d.order.items
  now_order = order_over l n m number differ now_sound d.order.items are.order

  pub now_arcs : (loads : List ℕ) (new : List (Vec TimedArc)) → AreLoads m l loads → Changed m l loads classes d.arcs.items new → AreArcsOf m l new
  now_arcs loads new known c = arcs_over l n m number differ sound whole classes old_own loads d.arcs.items new are.arcs c.many
      (λ class low. known.each class (subst (λ k. class < k) (sym differ.count) low)) c.changed c.others

  pub now_reached : (loads : List ℕ) (new : List (Vec TimedArc)) → AreLoads m l loads → Changed m l loads classes d.arcs.items new → AreReached new d.reached.items
  now_reached loads new known c = reached_over l n m number differ sound whole classes old_own loads d.arcs.items new are.arcs c.many
      (λ class low. known.each class (subst (λ k. class < k) (sym differ.count) low)) c.changed c.others d.reached.items are.reached

  pub now_graph : (loads : List ℕ) (new : List (Vec TimedArc)) → AreLoads m l loads → Changed m l loads classes d.arcs.items new → IsGraph new d.order.items (length d.arrivals.items)
  now_graph loads new known c =
      let e = differ.count in
      let f = few_classes in
      subst (λ k. IsGraph new d.order.items k) (differ.count ∙ sym are.counted.0) (graph_of m l now_sound new d.order.items (now_arcs loads new known c) now_order (omega (arith, e, f)))

  pub now_sources : (loads : List ℕ) (new : List (Vec TimedArc)) → Changed m l loads classes d.arcs.items new → AreSources new d.starts.items d.arrivals.items
  now_sources loads new c class low empty =
      let a = c.many in
      delays_sources n l sound d few_classes are class (omega (arith, low, a)) (was_empty (group_of d.arcs.items class) refl) where
        was_empty : (xs : List TimedArc) → (group_of d.arcs.items class ≡ xs) → group_of d.arcs.items class ≡ []
        was_empty [] e = e
        was_empty (y ∷ xs) e = absurd (elim (there_or_not classes class) [
          | inl t ↦ let r = (c.changed class t).many in let f = ap length e in let g = ap length empty in omega (arith, r, f, g)
          | inr lacks ↦ let r = ap length (c.others class lacks) in let f = ap length e in let g = ap length empty in omega (arith, r, f, g)
        ])

  pub now_rest : (loads : List ℕ) (new : List (Vec TimedArc)) (stale : List Bool) → AreLoads m l loads → Changed m l loads classes d.arcs.items new
      → ((class : ℕ) → IsThere classes class → get_or stale class false ≡ true) → AreInTime new d.starts.items d.arrivals.items stale
  now_rest loads new stale known c marked class low fresh = by (there_or_not classes class) where
    inside : class < n.count
    inside = let a = c.many in let b = are.arcs.many in omega (arith, low, a, b)

    by : IsThere classes class ⊎ (IsThere classes class → ⊥) → IsLatest (get_or d.starts.items class None) d.arrivals.items (group_of new class) (get_or d.arrivals.items class None)
    by (inl t) = let no : true ≡ false = sym (marked class t) ∙ fresh in absurd cc
    by (inr lacks) = subst (λ (xs : List TimedArc). IsLatest (get_or d.starts.items class None) d.arrivals.items xs (get_or d.arrivals.items class None)) (sym (c.others class lacks)) (delays_in_time n l sound d few_classes are class inside)

  pub now_arrivals : (loads : List ℕ) (new : List (Vec TimedArc)) → AreLoads m l loads → Changed m l loads classes d.arcs.items new → (arrivals : List (Option ℕ)) → AreSettled new d.starts.items arrivals
      → (class : ℕ) → class < m.count → IsGreatest (Arrives m l class) (get_or arrivals class None)
  now_arrivals loads new known c arrivals settled class low = arrivals_of m l now_sound new d.order.items (now_arcs loads new known c) now_order d.starts.items arrivals now_starts settled class low
