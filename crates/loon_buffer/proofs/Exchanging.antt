-- What an exchange of an instance's cell leaves as it was: steps to classes in which the instance has no pin.
use Rattle.std.proofs.Common.{◌≡◌, ◌≢◌, ℕ, zero, suc, ◌+◌, ◌-◌, ◌<◌, ◌≤◌, Bool, true, false, cond, List, [], ◌∷◌, ◌++◌, map, length, take, nat_eq, Some, refl, sym, ap, ◌∙◌, subst, append_assoc, arith}
use Rattle.std.specs.Prelude.{slice_set}
use Rattle.std.specs.List.{flat_map, zip, sum_by}
use Rattle.std.proofs.lemmas.List.{length-map, length-append}
use Rattle.std.proofs.lemmas.List.Concat.{flat_map-append}
use Rattle.std.proofs.lemmas.List.Sums.{sum_by-cons}
use Rattle.std.proofs.lemmas.Bool.{eqb-true, eq-eqb}
use Rattle.vlsi_base.specs.declared.name.Name.{Name}
use Rattle.vlsi_base.specs.declared.name.Port.{Port}
use Rattle.vlsi_base.specs.declared.name.Terminal.{Terminal}
use Rattle.cell_model.specs.Cell.{Function, gate, flip_flop, other, opaque, Cell}
use Rattle.cell_model.specs.Library.{Library, cell_of}
use Rattle.cell_checks.specs.Arcs.{BeginsThere, GoesThrough}
use Rattle.net_core.specs.Places.{Stands, IsThere}
use Rattle.net_core.specs.Netlist.{Instance, Netlist, port, pin_of, pins_of, terminals, HasClass}
use Rattle.net_core.proofs.Standing.{stands_right, stands_same}
use Rattle.net_core.proofs.Frames.{mapped, flat_join}
use Rattle.net_core.proofs.Changing.{terminals_set}
use Rattle.net_theory.specs.Exchanges.{IsSameFunction}
use Rattle.delay_sta.specs.Arcs.{arc_delay}
use Rattle.delay_sta.specs.Loads.{share, load}
use Rattle.delay_sta.specs.Paths.{Step, Leads, starts, begins, goes_on, TakesTo, IsStep, IsStart, IsEnd, at_port, at_data, IsWorst}
use Rattle.delay_sta.proofs.Finding.{instance_capacitances}
use Rattle.loon_buffer.specs.Drives.{IsAt, OthersDoNotHelp}

-- ---- sums of which a part doesn't count

unequal : (c class : ℕ) → c ≢ class → nat_eq c class ≡ false
unequal c class apart = by (nat_eq c class) refl where
  by : (b : Bool) → nat_eq c class ≡ b → nat_eq c class ≡ false
  by true e = absurd (apart (eqb-true c class e))
  by false e = e

middle : (class : ℕ) (xs ys zs cs : List ℕ) → length xs ≡ length ys → ((k c : ℕ) → k < length xs → Stands cs k c → c ≢ class)
    → sum_by (share class) (zip (xs ++ zs) cs) ≡ sum_by (share class) (zip (ys ++ zs) cs)
middle class [] [] zs cs e apart = refl
middle class [] (y ∷ ys) zs cs e apart = absurd (omega (arith, e))
middle class (x ∷ xs) [] zs cs e apart = absurd (omega (arith, e))
middle class (x ∷ xs) (y ∷ ys) zs [] e apart = refl
middle class (x ∷ xs) (y ∷ ys) zs (c ∷ cs) e apart =
    let a = sum_by-cons (share class) (x, c) (zip (xs ++ zs) cs) in
    let b = sum_by-cons (share class) (y, c) (zip (ys ++ zs) cs) in
    let r = middle class xs ys zs cs (omega (arith, e)) (λ k d l s. apart (suc k) d (omega (arith, l)) s) in
    let f = unequal c class (apart 0 c (omega arith) refl) in
    let p : share class (x, c) ≡ 0 = ap (λ t. cond t x 0) f in
    let q : share class (y, c) ≡ 0 = ap (λ t. cond t y 0) f in
    omega (arith, a, b, r, p, q)

behind : (class : ℕ) (front xs ys zs cs : List ℕ) → length xs ≡ length ys → ((k c : ℕ) → length front ≤ k → k < length front + length xs → Stands cs k c → c ≢ class)
    → sum_by (share class) (zip (front ++ (xs ++ zs)) cs) ≡ sum_by (share class) (zip (front ++ (ys ++ zs)) cs)
behind class [] xs ys zs cs e apart = middle class xs ys zs cs e (λ k c l s. apart k c (omega arith) (omega (arith, l)) s)
behind class (a ∷ front) xs ys zs [] e apart = refl
behind class (a ∷ front) xs ys zs (c ∷ cs) e apart =
    let p = sum_by-cons (share class) (a, c) (zip (front ++ (xs ++ zs)) cs) in
    let q = sum_by-cons (share class) (a, c) (zip (front ++ (ys ++ zs)) cs) in
    let r = behind class front xs ys zs cs e (λ k d l m s. apart (suc k) d (omega (arith, l)) (omega (arith, m)) s) in
    omega (arith, p, q, r)

-- ---- a list in which one element is another

record Parted (is : List Instance) (k : ℕ) (i j : Instance) : Type 0 where
  front : List Instance
  back : List Instance
  taken : take k is ≡ front
  whole : is ≡ front ++ i ∷ back
  set : slice_set is k j ≡ front ++ j ∷ back

parted : (is : List Instance) (k : ℕ) (i j : Instance) → Stands is k i → Parted is k i j
parted [] k i j s = absurd cc
parted (x ∷ is) zero i j s =
    let f : Some x ≡ Some i = s in
    let e : x ≡ i = cc in
    record { front = []; back = is; taken = refl; whole = ap (λ (y : Instance). y ∷ is) e; set = refl }
parted (x ∷ is) (suc k) i j s =
    let r = parted is k i j s in
    record {
      front = x ∷ r.front;
      back = r.back;
      taken = ap (λ (ys : List Instance). x ∷ ys) r.taken;
      whole = ap (λ (ys : List Instance). x ∷ ys) r.whole;
      set = ap (λ (ys : List Instance). x ∷ ys) r.set;
    }

pub stands_other : (is : List Instance) (place k : ℕ) (i j : Instance) → k ≢ place → Stands is k i → Stands (slice_set is place j) k i
stands_other [] place k i j apart s = absurd cc
stands_other (x ∷ is) zero zero i j apart s = absurd (apart refl)
stands_other (x ∷ is) zero (suc k) i j apart s = s
stands_other (x ∷ is) (suc place) zero i j apart s = s
stands_other (x ∷ is) (suc place) (suc k) i j apart s = stands_other is place k i j (λ e. apart (ap suc e)) s

pub stands_set : (is : List Instance) (place : ℕ) (i j : Instance) → Stands is place i → Stands (slice_set is place j) place j
stands_set [] place i j s = absurd cc
stands_set (x ∷ is) zero i j s = refl
stands_set (x ∷ is) (suc place) i j s = stands_set is place i j s

some_at : (xs : List Name) (k : ℕ) → k < length xs → (x : Name) × Stands xs k x
some_at [] k l = absurd (omega (arith, l))
some_at (x ∷ xs) zero l = (x, refl)
some_at (x ∷ xs) (suc k) l = some_at xs k (omega (arith, l))

pin_counts : (l : Library) (is : List Instance) → length (flat_map (instance_capacitances l) is) ≡ length (flat_map pins_of is)
pin_counts l [] = refl
pin_counts l (i ∷ is) =
    let a = length-append (instance_capacitances l i) (flat_map (instance_capacitances l) is) in
    let b = length-append (pins_of i) (flat_map pins_of is) in
    let c = capacitance_each i in
    let d = length-map i.pins (pin_of i.name) in
    let r = pin_counts l is in
    omega (arith, a, b, c, d, r) where
      capacitance_each : (j : Instance) → length (instance_capacitances l j) ≡ length j.pins
      capacitance_each j = length-map j.pins _

-- ---- one instance has another model

abbrev pub with_model : Instance → List ℕ → Instance
with_model i model = record i { model = model }

abbrev pub changed : Netlist → ℕ → Instance → List ℕ → Netlist
changed n place was model = record n { instances = slice_set n.instances place (with_model was model) }

module _ (n : Netlist) (l : Library) (place : ℕ) (was : Instance) (model : List ℕ) (stood : Stands n.instances place was) where
  pub kept : terminals (changed n place was model) ≡ terminals n
  kept = terminals_set (record { ports = n.ports; models = n.models; instances = n.instances })
      (record { ports = n.ports; models = n.models; instances = slice_set n.instances place (with_model was model) }) place model
      (record { was = was; stood = stood; now = refl })

  pub has_kept : (t : Terminal) (class : ℕ) → HasClass n t class → HasClass (changed n place was model) t class
  has_kept t class h = (h.0, subst (λ (ts : List Terminal). Stands ts h.0 t) (sym kept) h.1, h.2)

  parts : Parted n.instances place was (with_model was model)
  parts = parted n.instances place was (with_model was model) stood

  zeros : List ℕ
  zeros = map (λ (p : Port). 0) n.ports

  -- the capacitances with an instance in the middle
  spread : Instance → List ℕ
  spread i = (zeros ++ flat_map (instance_capacitances l) parts.front) ++ (instance_capacitances l i ++ flat_map (instance_capacitances l) parts.back)

  spread_of : (is : List Instance) (i : Instance) → is ≡ parts.front ++ i ∷ parts.back → zeros ++ flat_map (instance_capacitances l) is ≡ spread i
  unfolding spread
  spread_of is i e =
      ap (λ (ys : List Instance). zeros ++ flat_map (instance_capacitances l) ys) e
      ∙ ap (λ (ys : List ℕ). zeros ++ ys) (flat_map-append (instance_capacitances l) parts.front (i ∷ parts.back))
      ∙ sym (append_assoc zeros (flat_map (instance_capacitances l) parts.front) (instance_capacitances l i ++ flat_map (instance_capacitances l) parts.back))

  -- a terminal in the middle is a pin of the instance
  pin_there : (class k c : ℕ) → length (zeros ++ flat_map (instance_capacitances l) parts.front) ≤ k
      → k < length (zeros ++ flat_map (instance_capacitances l) parts.front) + length (instance_capacitances l was) → Stands n.classes k c → c ≡ class → IsAt n class place
  unfolding zeros
  pin_there class k c low high s e =
      let a = length-append (map {B = ℕ} (λ (p : Port). 0) n.ports) (flat_map (instance_capacitances l) parts.front) in
      let b = length-map {B = ℕ} n.ports (λ (p : Port). 0) in
      let d = length-map n.ports (λ (p : Port). port p.name) in
      let f = pin_counts l parts.front in
      let g = ap (λ (is : List Instance). length (flat_map pins_of is)) parts.taken in
      let many : length (instance_capacitances l was) ≡ length was.pins = length-map was.pins _ in
      let p = some_at was.pins (k - (length n.ports + length (flat_map pins_of parts.front))) (omega (arith, a, b, f, many, low, high)) in
      let there = flat_join pins_of n.instances place (k - (length n.ports + length (flat_map pins_of parts.front))) was (pin_of was.name p.0) stood
      (mapped (pin_of was.name) was.pins (k - (length n.ports + length (flat_map pins_of parts.front))) p.0 p.1) in
      let at = stands_right (map (λ (q : Port). port q.name) n.ports) (flat_map pins_of n.instances)
      (length (flat_map pins_of (take place n.instances)) + (k - (length n.ports + length (flat_map pins_of parts.front)))) (pin_of was.name p.0) there in
      let index : length (map (λ (q : Port). port q.name) n.ports) + (length (flat_map pins_of (take place n.instances)) + (k - (length n.ports + length (flat_map pins_of parts.front)))) ≡ k =
      omega (arith, a, b, d, f, g, low) in
      record {
        owner = was;
        stands = stood;
        pin = p.0;
        joined = (k, subst (λ m. Stands (terminals n) m (pin_of was.name p.0)) index at, subst (λ m. Stands n.classes k m) e s);
      }

  load_kept : (class : ℕ) → (IsAt n class place → ⊥) → load n l class ≡ load (changed n place was model) l class
  unfolding load zeros spread
  load_kept class never =
      ap (λ (rs : List ℕ). sum_by (share class) (zip rs n.classes)) (spread_of n.instances was parts.whole)
      ∙ behind class (zeros ++ flat_map (instance_capacitances l) parts.front) (instance_capacitances l was) (instance_capacitances l (with_model was model)) (flat_map (instance_capacitances l) parts.back) n.classes
      (length-map was.pins _ ∙ sym (length-map was.pins _)) (λ k c low high s e. never (pin_there class k c low high s e))
      ∙ sym (ap (λ (rs : List ℕ). sum_by (share class) (zip rs n.classes)) (spread_of (slice_set n.instances place (with_model was model)) (with_model was model) parts.set))

  -- a step to a class in which the instance has no pin
  step_kept : (Allows : Function → Name → Type 0) (s : Step) → (IsAt n s.to place → ⊥) → IsStep n l Allows s → IsStep (changed n place was model) l Allows s
  step_kept Allows s never h = record {
    owner = h.owner;
    listed = (h.listed.0, stands_other n.instances place h.listed.0 h.owner (with_model was model) apart h.listed.1);
    cell = h.cell;
    found = h.found;
    arc = h.arc;
    has = h.has;
    is = record {
      allowed = h.is.allowed;
      takes = h.is.takes;
      gives = h.is.gives;
      from = has_kept (pin_of h.owner.name h.arc.from) s.from h.is.from;
      to = has_kept (pin_of h.owner.name h.arc.to) s.to h.is.to;
      delay = h.is.delay ∙ ap (arc_delay h.arc) (load_kept s.to never);
    };
  } where
    apart : h.listed.0 ≢ place
    apart e = never (record { owner = h.owner; stands = subst (λ k. Stands n.instances k h.owner) e h.listed.1; pin = h.arc.to; joined = h.is.to })

  pub start_kept : (class : ℕ) → IsStart n class → IsStart (changed n place was model) class
  start_kept class h = record { input = h.input; listed = h.listed; takes = h.takes; signal = h.signal; joined = has_kept (port h.input.name) class h.joined }

  leads_kept : (class : ℕ) (path : List Step) → ((s : Step) → IsThere path s → IsAt n s.to place → ⊥) → Leads (IsStart n) (IsStep n l BeginsThere) (IsStep n l GoesThrough) class path
      → Leads (IsStart (changed n place was model)) (IsStep (changed n place was model) l BeginsThere) (IsStep (changed n place was model) l GoesThrough) class path
  leads_kept class _ never (starts p) = starts (start_kept class p)
  leads_kept _ _ never (begins {s = s} p) = begins (step_kept BeginsThere s (never s (0, refl)) p)
  leads_kept _ _ never (goes_on {s = s} {path = path} lead p) =
      goes_on (leads_kept s.from path (λ t there. never t (suc there.0, there.1)) lead) (step_kept GoesThrough s (never s (0, refl)) p)

-- ---- ends

clocked : (f : Function) (g : Function) (data_name clock_name : Name) → IsSameFunction f g → f ≡ flip_flop data_name clock_name → (clock : Name) × (g ≡ flip_flop data_name clock)
clocked (gate e) g data_name clock_name same is = absurd cc
clocked (flip_flop d k) (gate e) data_name clock_name same is = absurd same
clocked (flip_flop d k) (flip_flop b j) data_name clock_name same is =
    let e : d ≡ data_name = cc in (j, ap (λ (m : Name). flip_flop m j) (same.0 ∙ e))
clocked (flip_flop d k) (other m) data_name clock_name same is = absurd same
clocked (flip_flop d k) opaque data_name clock_name same is = absurd same
clocked (other m) g data_name clock_name same is = absurd cc
clocked opaque g data_name clock_name same is = absurd cc

module _ (l : Library) (n : Netlist) (place : ℕ) (was : Instance) (stood : Stands n.instances place was) (c d : Cell) (found : cell_of l was.model ≡ Some c) (listed : cell_of l d.name ≡ Some d) (same : IsSameFunction c.function d.function) where
  pub end_kept : (class : ℕ) → IsEnd n l class → IsEnd (changed n place was d.name) l class
  end_kept class (at_port output there gives joined) = at_port output there gives (has_kept n l place was d.name stood (port output.name) class joined)
  end_kept class (at_data i b data_name clock_name there of is joined) = by (nat_eq there.0 place) refl where
    by : (t : Bool) → nat_eq there.0 place ≡ t → IsEnd (changed n place was d.name) l class
    by false e =
        at_data i b data_name clock_name (there.0, stands_other n.instances place there.0 i (with_model was d.name) (λ q. (let no : true ≡ false = sym (eq-eqb there.0 place q) ∙ e in absurd cc)) there.1) of is
        (has_kept n l place was d.name stood (pin_of i.name data_name) class joined)
    by true e =
        let q : there.0 ≡ place = eqb-true there.0 place e in
        let owner : i ≡ was = stands_same n.instances place i was (subst (λ k. Stands n.instances k i) q there.1) stood in
        let own : b ≡ c = (let f : Some b ≡ Some c = sym of ∙ ap (λ (o : Instance). cell_of l o.model) owner ∙ found in cc) in
        let clock = clocked c.function d.function data_name clock_name same (ap (λ (x : Cell). x.function) (sym own) ∙ is) in
        at_data (with_model was d.name) d data_name clock.0 (place, stands_set n.instances place was (with_model was d.name) stood) listed clock.1
        (has_kept n l place was d.name stood (pin_of was.name data_name) class (subst (λ (o : Instance). HasClass n (pin_of o.name data_name) class) owner joined))

-- ---- the law

pub others : OthersDoNotHelp
others l n m x class time longest ends p never worst = by (x.sets.now) where
  owner : x.owner ≡ x.sets.was
  owner = stands_same n.instances x.place x.owner x.sets.was x.stands x.sets.stood

  by : m ≡ changed n x.place x.sets.was x.now.name → time ≤ longest
  by e = w.most time (class, end, takes) where
    w : IsWorst (changed n x.place x.sets.was x.now.name) l longest
    w = subst (λ (k : Netlist). IsWorst k l longest) e worst

    end : IsEnd (changed n x.place x.sets.was x.now.name) l class
    end = end_kept l n x.place x.sets.was x.sets.stood x.was x.now (ap (λ (o : Instance). cell_of l o.model) (sym owner) ∙ x.found) x.listed x.drive.function class ends

    takes : TakesTo (IsStart (changed n x.place x.sets.was x.now.name)) (IsStep (changed n x.place x.sets.was x.now.name) l BeginsThere) (IsStep (changed n x.place x.sets.was x.now.name) l GoesThrough) class time
    takes = record { path = p.path; leads = leads_kept n l x.place x.sets.was x.now.name x.sets.stood class p.path never p.leads; sum = p.sum }
