-- An order of classes from one of what they read; and no ring of classes where no output pins stand in a ring.
use Rattle.std.proofs.Common.{◌≡◌, ℕ, zero, suc, ◌+◌, ◌<◌, ◌≤◌, List, [], ◌∷◌, ◌++◌, length, get_or, map, Some, refl, sym, ap, subst, ◌∙◌, arith}
use Rattle.std.specs.Prelude.{slice_index, slice_index_or, Contains}
use Rattle.std.specs.List.{All}
use Rattle.std.specs.Global.{Vec}
use Rattle.std.proofs.lemmas.List.{length-map}
use Rattle.std.proofs.lemmas.Option.{slice_get_within, slice_get-get_or, get_or_from_slice_get}
use Rattle.bit_order.specs.Order as order
use Rattle.vlsi_base.specs.declared.name.Terminal.{Terminal}
use Rattle.net_core.specs.declared.pins.ModelPins.{ModelPins}
use Rattle.net_core.specs.declared.links.Link.{Link}
use Rattle.net_core.specs.Places.{Stands, IsThere}
use Rattle.net_core.specs.Netlist.{Netlist, IsNetlist, HasClass}
use Rattle.net_core.specs.Checks.{DependsOn, Passes}
use Rattle.net_core.specs.Links.{AreLinks, AreGrouped, inputs_of, next_in, AreChosen, IsClassOrder}
use Rattle.net_core.proofs.Finishing.{class_once}
use Rattle.net_core.proofs.Rings.{at_place, ring_reads, read_link, link_read, ChosenSoFar, chosen_start, chosen_step, ring_inside, terminal_ring, link_below, each_there}

chosen_upto : (groups : List (Vec Link)) (ring : List ℕ) → order.IsRing (inputs_of groups) ring → (n : ℕ) → n ≤ length ring → (chosen : List Link) × ChosenSoFar groups ring chosen n
chosen_upto groups ring r zero l = ([], chosen_start groups ring [] refl)
chosen_upto groups ring r (suc k) l =
    let here : k < length ring = omega (arith, l) in
    let low = ring_inside groups ring k r here in
    let g = at_place groups (slice_index ring k) low in
    let is : g.0 ≡ get_or groups (slice_index ring k) g.0 = sym (get_or_from_slice_get groups (slice_index ring k) g.0 g.0 g.1) in
    let w = read_link groups (slice_index ring k) (next_in ring k) g.0 low (ring_reads (inputs_of groups) ring r k here) in
    let before = chosen_upto groups ring r k (omega (arith, l)) in
    let e : k + 1 ≡ suc k = omega arith in
    let step = chosen_step groups ring before.0 (before.0 ++ w.0 ∷ []) k before.1 g.0 (next_in ring k) w.0 low is refl (subst (λ (x : Vec Link). IsThere x.items w.0) (sym is) w.1, w.2) refl in
    (before.0 ++ w.0 ∷ [], subst (λ (n : ℕ). ChosenSoFar groups ring (before.0 ++ w.0 ∷ []) n) e step)

pub no_class_ring : (table : List ModelPins) (n : Netlist) (links : List Link) (groups : List (Vec Link)) (ring : List ℕ) → IsNetlist n → AreLinks table n links → AreGrouped links groups
    → order.IsRing (inputs_of groups) ring → Vec Link → Passes table n → ⊥
no_class_ring table n links groups ring is are grouped r v passes =
    let c = chosen_upto groups ring r (length ring) (omega arith) in
    let t = terminal_ring table n links groups ring c.0 is are grouped r (record { many = c.1.many; each = c.1.each }) v in
    passes.rings t.0 t.2

pub class_ordered : (table : List ModelPins) (n : Netlist) (links : List Link) (groups : List (Vec Link)) (nodes : List ℕ) → IsNetlist n → AreLinks table n links → AreGrouped links groups → length groups ≡ n.count
    → order.IsSortedOrder (inputs_of groups) nodes → Vec Link → IsClassOrder table n nodes
class_ordered table n links groups nodes is are grouped many sorted v = record { inside = inside; once = once; complete = complete; behind = behind } where
  count : length (inputs_of groups) ≡ n.count
  count = length-map groups (λ (g : Vec Link). map (λ (l : Link). l.input) g.items) ∙ many

  at : (k x : ℕ) → Stands nodes k x → slice_index nodes k ≡ x
  at k x s = get_or_from_slice_get nodes k x 0 s

  inside : (c : ℕ) → IsThere nodes c → c < n.count
  inside c t = let i = sorted.inside t.0 0 (slice_get_within nodes t.0 c t.1) in let e = at t.0 c t.1 in omega (arith, i, e, count)

  once : (i j x : ℕ) → Stands nodes i x → Stands nodes j x → i ≡ j
  once i j x p q = sorted.once i j (slice_get_within nodes i x p) (slice_get_within nodes j x q) (at i x p ∙ sym (at j x q))

  complete : (c : ℕ) → c < n.count → IsThere nodes c
  complete c l = let t = sorted.complete c (omega (arith, l, count)) in (t.0, slice_get-get_or nodes t.0 0 t.1 ∙ ap Some t.2)

  reads : (a b : Terminal) (c d : ℕ) → DependsOn table n a b → HasClass n a c → HasClass n b d → order.Reads (inputs_of groups) c d
  reads a b c d dep p q =
      let l = are.complete a b dep in
      let ex : l.0.output ≡ c = class_once n is a l.0.output c l.2 p in
      let ey : l.0.input ≡ d = class_once n is b l.0.input d l.3 q in
      let low = (link_below table n links is are l.0 l.1).0 in
      subst (λ j. order.Reads (inputs_of groups) c j) ey (subst (λ j. order.Reads (inputs_of groups) j l.0.input) ex (link_read links groups grouped v l.0 l.1 (omega (arith, low, many))))

  behind : (a b : Terminal) (c d i j : ℕ) → DependsOn table n a b → HasClass n a c → HasClass n b d → Stands nodes i c → Stands nodes j d → j < i
  behind a b c d i j dep p q si sj =
      let r : Contains (order.reads_of (inputs_of groups) (slice_index nodes i)) d = subst (λ x. Contains (order.reads_of (inputs_of groups) x) d) (sym (at i c si)) (reads a b c d dep p q) in
      let t = sorted.behind i (slice_get_within nodes i c si) r.0 d r.1 in
      let e : slice_index nodes t.0 ≡ d = t.2 ∙ r.2 in
      let low = slice_get_within nodes i c si in
      let k : j ≡ t.0 = sorted.once j t.0 (slice_get_within nodes j d sj) (omega (arith, t.1, low)) (at j d sj ∙ sym e) in
      omega (arith, k, t.1)
