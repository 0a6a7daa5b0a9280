-- The loads of two netlists that differ in the cell of one instance.
use Rattle.std.proofs.Common.{◌≡◌, inl, inr, ℕ, zero, suc, ◌+◌, ◌*◌, ◌^◌, ◌<◌, ◌≤◌, Bool, true, false, cond, List, [], ◌∷◌, ◌++◌, map, length, get_or, take, drop, nat_eq, Option, Some, refl, sym, ap, ◌∙◌, subst, append_assoc, arith}
use Rattle.std.specs.Prelude.{slice_set}
use Rattle.std.specs.List.{All, flat_map, zip, sum_by}
use Rattle.std.proofs.lemmas.List.{length-map, length-append, length-set, get_or-set_same, get_or-set_other, take_all}
use Rattle.std.proofs.lemmas.List.Concat.{flat_map-append}
use Rattle.std.proofs.lemmas.List.Sums.{sum_by-cons, sum_by-append, sum_by_push, sum_by-take-le}
use Rattle.std.proofs.lemmas.Bool.{cases_lt, eqb-true, eq-eqb}
use Rattle.std.proofs.lemmas.Option.{slice_get_within}
use Rattle.vlsi_base.specs.declared.name.Name.{Name}
use Rattle.vlsi_base.specs.declared.name.Port.{Port}
use Rattle.cell_model.specs.Cell.{Cell}
use Rattle.cell_model.specs.Library.{Library, cell_of}
use Rattle.net_core.specs.Places.{Stands, IsThere}
use Rattle.net_core.specs.Netlist.{Instance, Netlist, IsNetlist, port, pin_of, pins_of, terminals, terminals_of, HasClass}
use Rattle.net_core.proofs.Standing.{Split, left, right, split, stands_right, stands_same}
use Rattle.net_core.proofs.Frames.{mapped, flat_join}
use Rattle.net_core.proofs.Finishing.{netlist_terminals_once}
use Rattle.delay_sta.specs.Loads.{input_capacitance, pins_at, capacitances, share, load}
use Rattle.delay_sta.specs.Changes.{pin_load, ArePinClasses}
use Rattle.delay_sta.proofs.Loading.{zip_more, zip_length, capacitance_count}
use Rattle.delay_sta.proofs.Differing.{Differ}

-- ---- sums over two lists at once

zip_append : (xs ys ks bs : List ℕ) → length xs ≡ length ks → zip (xs ++ ys) (ks ++ bs) ≡ zip xs ks ++ zip ys bs
zip_append [] ys [] bs e = refl
zip_append [] ys (a ∷ ks) bs e = absurd (omega (arith, e))
zip_append (x ∷ xs) ys [] bs e = absurd (omega (arith, e))
zip_append (x ∷ xs) ys (a ∷ ks) bs e = ap (λ (ps : List (ℕ × ℕ)). (x, a) ∷ ps) (zip_append xs ys ks bs (omega (arith, e)))

-- in parts of the same lengths
sum_parts : (class : ℕ) (xs ys zs ks bs cs : List ℕ) → length xs ≡ length ks → length ys ≡ length bs
    → sum_by (share class) (zip (xs ++ (ys ++ zs)) (ks ++ (bs ++ cs))) ≡ sum_by (share class) (zip xs ks) + (sum_by (share class) (zip ys bs) + sum_by (share class) (zip zs cs))
sum_parts class xs ys zs ks bs cs e f =
    ap (sum_by (share class)) (zip_append xs (ys ++ zs) ks (bs ++ cs) e) ∙ sum_by-append (share class) (zip xs ks) (zip (ys ++ zs) (bs ++ cs))
    ∙ ap (λ m. sum_by (share class) (zip xs ks) + m) (ap (sum_by (share class)) (zip_append ys zs bs cs f) ∙ sum_by-append (share class) (zip ys bs) (zip zs cs))

share_other : (class r c : ℕ) → nat_eq c class ≡ false → share class (r, c) ≡ 0
share_other class r c e = ap (λ b. cond b r 0) e

share_same : (class r c : ℕ) → c ≡ class → share class (r, c) ≡ r
share_same class r c e = ap (λ b. cond b r 0) (eq-eqb c class e)

-- nothing is added to a class that isn't there
pub sum_off : (class : ℕ) (rs cs : List ℕ) → (IsThere cs class → ⊥) → sum_by (share class) (zip rs cs) ≡ 0
sum_off class [] cs lacks = refl
sum_off class (r ∷ rs) [] lacks = refl
sum_off class (r ∷ rs) (c ∷ cs) lacks =
    let a = sum_by-cons (share class) (r, c) (zip rs cs) in
    let rest = sum_off class rs cs (λ t. lacks (suc t.0, t.1)) in
    let here = share_other class r c (by (nat_eq c class) refl) in
    omega (arith, a, rest, here) where
      by : (b : Bool) → nat_eq c class ≡ b → nat_eq c class ≡ false
      by true e = absurd (lacks (0, ap Some (eqb-true c class e)))
      by false e = e

-- ---- a load by its parts

pub whole_by : {X : Type 0} (xs : List X) (k : ℕ) (x : X) → Stands xs k x → xs ≡ take k xs ++ x ∷ drop (suc k) xs
whole_by [] k x s = absurd cc
whole_by {X} (y ∷ xs) zero x s = let e : Some y ≡ Some x = s in let same : y ≡ x = cc in ap (λ (z : X). z ∷ xs) same
whole_by {X} (y ∷ xs) (suc k) x s = ap (λ (zs : List X). y ∷ zs) (whole_by xs k x s)

abbrev own : Library → Instance → List ℕ
own l i = map (input_capacitance (pins_at (cell_of l i.model))) i.pins

abbrev fronts : Library → List Port → List Instance → List ℕ
fronts l ports is = map {B = ℕ} (λ (p : Port). 0) ports ++ flat_map (own l) is

caps_by : (l : Library) (ports : List Port) (is : List Instance) (k : ℕ) (i : Instance) → Stands is k i
    → fronts l ports is ≡ fronts l ports (take k is) ++ (own l i ++ flat_map (own l) (drop (suc k) is))
caps_by l ports is k i s =
    ap (λ (js : List Instance). map {B = ℕ} (λ (p : Port). 0) ports ++ flat_map (own l) js) (whole_by is k i s)
    ∙ ap (λ (ys : List ℕ). map {B = ℕ} (λ (p : Port). 0) ports ++ ys) (flat_map-append (own l) (take k is) (i ∷ drop (suc k) is))
    ∙ sym (append_assoc (map {B = ℕ} (λ (p : Port). 0) ports) (flat_map (own l) (take k is)) (own l i ++ flat_map (own l) (drop (suc k) is)))

front_count : (l : Library) (n : Netlist) (is : List Instance) → length (fronts l n.ports is) ≡ length (terminals_of n.ports is)
front_count l n is = capacitance_count (record n { instances = is }) l

-- the sum of the terminals before an instance's pins, and of those behind
abbrev before_sum : Library → ℕ → List Port → List Instance → List ℕ → ℕ
before_sum l class ports is cs = sum_by (share class) (zip (fronts l ports is) cs)

abbrev behind_sum : Library → ℕ → List Instance → List ℕ → ℕ
behind_sum l class is cs = sum_by (share class) (zip (flat_map (own l) is) cs)

load_parts : (n : Netlist) (l : Library) (number : ℕ) (classes : List ℕ) (c : ArePinClasses n number classes) (class : ℕ)
    → load n l class ≡ before_sum l class n.ports (take number n.instances) c.front
    + (pin_load (pins_at (cell_of l c.owner.model)) c.owner.pins classes class + behind_sum l class (drop (suc number) n.instances) c.back)
unfolding load
load_parts n l number classes c class =
    ap (λ (rs : List ℕ). sum_by (share class) (zip rs n.classes)) (caps_by l n.ports n.instances number c.owner c.stands)
    ∙ ap (λ (cs : List ℕ). sum_by (share class) (zip (fronts l n.ports (take number n.instances) ++ (own l c.owner ++ flat_map (own l) (drop (suc number) n.instances))) cs)) c.whole
    ∙ sum_parts class (fronts l n.ports (take number n.instances)) (own l c.owner) (flat_map (own l) (drop (suc number) n.instances)) c.front classes c.back
    (front_count l n (take number n.instances) ∙ sym c.before) (length-map c.owner.pins _ ∙ sym c.many)

-- ---- no capacitance is too great

all_left : (xs ys : List ℕ) → All (λ c. c < 2 ^ 32) (xs ++ ys) → All (λ c. c < 2 ^ 32) xs
all_left [] ys h k d l = absurd (omega (arith, l))
all_left (x ∷ xs) ys h zero d l = h 0 d (omega arith)
all_left (x ∷ xs) ys h (suc k) d l = all_left xs ys (λ j e m. h (suc j) e (omega (arith, m))) k d (omega (arith, l))

all_right : (xs ys : List ℕ) → All (λ c. c < 2 ^ 32) (xs ++ ys) → All (λ c. c < 2 ^ 32) ys
all_right [] ys h = h
all_right (x ∷ xs) ys h = all_right xs ys (λ j e m. h (suc j) e (omega (arith, m)))

all_join : (xs ys : List ℕ) → All (λ c. c < 2 ^ 32) xs → All (λ c. c < 2 ^ 32) ys → All (λ c. c < 2 ^ 32) (xs ++ ys)
all_join [] ys h g k d l = g k d l
all_join (x ∷ xs) ys h g zero d l = h 0 d (omega arith)
all_join (x ∷ xs) ys h g (suc k) d l = all_join xs ys (λ j e m. h (suc j) e (omega (arith, m))) g k d (omega (arith, l))

-- so sums aren't
sum_small : (class : ℕ) (rs cs : List ℕ) → All (λ c. c < 2 ^ 32) rs → sum_by (share class) (zip rs cs) ≤ length cs * 4294967295
sum_small class [] cs h = omega arith
sum_small class (r ∷ rs) [] h = omega arith
sum_small class (r ∷ rs) (c ∷ cs) h =
    let a = sum_by-cons (share class) (r, c) (zip rs cs) in
    let rest = sum_small class rs cs (λ j e m. h (suc j) e (omega (arith, m))) in
    let first : r < 2 ^ 32 = h 0 0 (omega arith) in
    let part = by (nat_eq c class) refl in
    omega (arith, a, rest, first, part) where
      by : (b : Bool) → nat_eq c class ≡ b → share class (r, c) ≤ r
      by true e = let p : share class (r, c) ≡ r = ap (λ t. cond t r 0) e in omega (arith, p)
      by false e = let p = share_other class r c e in omega (arith, p)

-- ---- the loads of both

module _ (l : Library) (n m : Netlist) (number : ℕ) (d : Differ l n m number) (classes : List ℕ) (c : ArePinClasses n number classes) where
  abbrev pub over_classes : ArePinClasses m number classes
  over_classes = record {
    owner = d.new;
    stands = d.stands;
    many = c.many ∙ ap (λ (o : Instance). length o.pins) (stands_same n.instances number c.owner d.old c.stands d.stood) ∙ ap length (sym d.pins);
    front = c.front;
    back = c.back;
    whole = d.classes ∙ c.whole;
    before = c.before ∙ ap (λ (is : List Instance). length (terminals_of n.ports is)) (sym d.before) ∙ ap (λ (ps : List Port). length (terminals_of ps (take number m.instances))) (sym d.ports);
  }

  old_owner : c.owner ≡ d.old
  old_owner = stands_same n.instances number c.owner d.old c.stands d.stood

  pub load_moves : (class : ℕ) → load m l class + pin_load d.was.pins d.old.pins classes class ≡ load n l class + pin_load d.now.pins d.old.pins classes class
  load_moves class =
      let a = load_parts n l number classes c class in
      let b = load_parts m l number classes over_classes class in
      let p : pin_load (pins_at (cell_of l c.owner.model)) c.owner.pins classes class ≡ pin_load d.was.pins d.old.pins classes class =
      ap (λ (o : Instance). pin_load (pins_at (cell_of l o.model)) o.pins classes class) old_owner ∙ ap (λ (f : Option Cell). pin_load (pins_at f) d.old.pins classes class) d.found in
      let q : pin_load (pins_at (cell_of l d.new.model)) d.new.pins classes class ≡ pin_load d.now.pins d.old.pins classes class =
      ap (λ (f : Option Cell). pin_load (pins_at f) d.new.pins classes class) d.listed ∙ ap (λ (ns : List Name). pin_load d.now.pins ns classes class) d.pins in
      let f : before_sum l class m.ports (take number m.instances) c.front ≡ before_sum l class n.ports (take number n.instances) c.front =
      ap (λ (ps : List Port). before_sum l class ps (take number m.instances) c.front) d.ports ∙ ap (λ (is : List Instance). before_sum l class n.ports is c.front) d.before in
      let g : behind_sum l class (drop (suc number) m.instances) c.back ≡ behind_sum l class (drop (suc number) n.instances) c.back =
      ap (λ (is : List Instance). behind_sum l class is c.back) d.behind in
      omega (arith, a, b, p, q, f, g)

  pub load_off : (class : ℕ) → (IsThere classes class → ⊥) → load n l class ≡ load m l class
  load_off class lacks =
      let e = load_moves class in
      let p = sum_off class (map (input_capacitance d.was.pins) d.old.pins) classes lacks in
      let q = sum_off class (map (input_capacitance d.now.pins) d.old.pins) classes lacks in
      omega (arith, e, p, q)

  pub load_had : (class : ℕ) → pin_load d.was.pins d.old.pins classes class ≤ load n l class
  load_had class =
      let a = load_parts n l number classes c class in
      let p : pin_load (pins_at (cell_of l c.owner.model)) c.owner.pins classes class ≡ pin_load d.was.pins d.old.pins classes class =
      ap (λ (o : Instance). pin_load (pins_at (cell_of l o.model)) o.pins classes class) old_owner ∙ ap (λ (f : Option Cell). pin_load (pins_at f) d.old.pins classes class) d.found in
      omega (arith, a, p)

  -- there is room for any other pins
  pub load_room : All (λ k. k < 2 ^ 32) (capacitances n l) → length n.classes < 2 ^ 32 → (class left_over : ℕ) → left_over + pin_load d.was.pins d.old.pins classes class ≡ load n l class
      → left_over + length d.old.pins * 4294967296 < 2 ^ 64
  load_room short few class left_over e =
      let a = load_parts n l number classes c class in
      let p : pin_load (pins_at (cell_of l c.owner.model)) c.owner.pins classes class ≡ pin_load d.was.pins d.old.pins classes class =
      ap (λ (o : Instance). pin_load (pins_at (cell_of l o.model)) o.pins classes class) old_owner ∙ ap (λ (f : Option Cell). pin_load (pins_at f) d.old.pins classes class) d.found in
      let all : All (λ k. k < 2 ^ 32) (fronts l n.ports (take number n.instances) ++ (own l c.owner ++ flat_map (own l) (drop (suc number) n.instances))) =
      subst (λ (rs : List ℕ). All (λ k. k < 2 ^ 32) rs) (caps_by l n.ports n.instances number c.owner c.stands) short in
      let f = sum_small class (fronts l n.ports (take number n.instances)) c.front (all_left (fronts l n.ports (take number n.instances)) (own l c.owner ++ flat_map (own l) (drop (suc number) n.instances)) all) in
      let g = sum_small class (flat_map (own l) (drop (suc number) n.instances)) c.back
      (all_right (own l c.owner) (flat_map (own l) (drop (suc number) n.instances)) (all_right (fronts l n.ports (take number n.instances)) (own l c.owner ++ flat_map (own l) (drop (suc number) n.instances)) all)) in
      let w : length n.classes ≡ length (c.front ++ (classes ++ c.back)) = ap length c.whole in
      let x = length-append c.front (classes ++ c.back) in
      let y = length-append classes c.back in
      let z : length classes ≡ length d.old.pins = c.many ∙ ap (λ (o : Instance). length o.pins) old_owner in
      omega (arith, a, p, f, g, w, x, y, z, e, few)

  pub short_over : All (λ k. k < 2 ^ 32) (capacitances n l) → All (λ k. k < 2 ^ 32) (map (input_capacitance d.now.pins) d.old.pins) → All (λ k. k < 2 ^ 32) (capacitances m l)
  short_over short given =
      subst (λ (rs : List ℕ). All (λ k. k < 2 ^ 32) rs) (sym (caps_by l m.ports m.instances number d.new d.stands))
      (all_join (fronts l m.ports (take number m.instances)) (own l d.new ++ flat_map (own l) (drop (suc number) m.instances)) front
      (all_join (own l d.new) (flat_map (own l) (drop (suc number) m.instances)) middle back)) where
        all : All (λ k. k < 2 ^ 32) (fronts l n.ports (take number n.instances) ++ (own l d.old ++ flat_map (own l) (drop (suc number) n.instances)))
        all = subst (λ (rs : List ℕ). All (λ k. k < 2 ^ 32) rs) (caps_by l n.ports n.instances number d.old d.stood) short

        front : All (λ k. k < 2 ^ 32) (fronts l m.ports (take number m.instances))
        front = subst (λ (ps : List Port). All (λ k. k < 2 ^ 32) (fronts l ps (take number m.instances))) (sym d.ports)
            (subst (λ (is : List Instance). All (λ k. k < 2 ^ 32) (fronts l n.ports is)) (sym d.before)
            (all_left (fronts l n.ports (take number n.instances)) (own l d.old ++ flat_map (own l) (drop (suc number) n.instances)) all))

        back : All (λ k. k < 2 ^ 32) (flat_map (own l) (drop (suc number) m.instances))
        back = subst (λ (is : List Instance). All (λ k. k < 2 ^ 32) (flat_map (own l) is)) (sym d.behind)
            (all_right (own l d.old) (flat_map (own l) (drop (suc number) n.instances))
            (all_right (fronts l n.ports (take number n.instances)) (own l d.old ++ flat_map (own l) (drop (suc number) n.instances)) all))

        middle : All (λ k. k < 2 ^ 32) (own l d.new)
        middle = subst (λ (f : Option Cell). All (λ k. k < 2 ^ 32) (map (input_capacitance (pins_at f)) d.new.pins)) (sym d.listed)
            (subst (λ (ns : List Name). All (λ k. k < 2 ^ 32) (map (input_capacitance d.now.pins) ns)) (sym d.pins) given)

-- ---- the classes of an instance's pins

pub pin_class : (n : Netlist) → IsNetlist n → (number : ℕ) (classes : List ℕ) (c : ArePinClasses n number classes) (j : ℕ) (pin : Name) (class : ℕ)
    → Stands c.owner.pins j pin → HasClass n (pin_of c.owner.name pin) class → Stands classes j class
pin_class n sound number classes c j pin class s h = by (split c.front (classes ++ c.back) (length c.front + j) class at) where
  own_place : Stands (terminals n) (length c.front + j) (pin_of c.owner.name pin)
  own_place =
      let t = flat_join pins_of n.instances number j c.owner (pin_of c.owner.name pin) c.stands (mapped (pin_of c.owner.name) c.owner.pins j pin s) in
      let u = stands_right (map (λ (p : Port). port p.name) n.ports) (flat_map pins_of n.instances) (length (flat_map pins_of (take number n.instances)) + j) (pin_of c.owner.name pin) t in
      let a = length-append (map (λ (p : Port). port p.name) n.ports) (flat_map pins_of (take number n.instances)) in
      let b = c.before in
      let e : length (map (λ (p : Port). port p.name) n.ports) + (length (flat_map pins_of (take number n.instances)) + j) ≡ length c.front + j = omega (arith, a, b) in
      subst (λ k. Stands (terminals n) k (pin_of c.owner.name pin)) e u

  at : Stands (c.front ++ (classes ++ c.back)) (length c.front + j) class
  at =
      let e : h.0 ≡ length c.front + j = netlist_terminals_once n sound h.0 (length c.front + j) (pin_of c.owner.name pin) h.1 own_place in
      subst (λ (cs : List ℕ). Stands cs (length c.front + j) class) c.whole (subst (λ k. Stands n.classes k class) e h.2)

  low : j < length classes
  low = let w = slice_get_within c.owner.pins j pin s in let m = c.many in omega (arith, w, m)

  further : (k : ℕ) → length c.front + j ≡ length c.front + k → Split classes c.back k class → Stands classes j class
  further k e (left t) = let same : k ≡ j = omega (arith, e) in subst (λ i. Stands classes i class) same t
  further k e (right i f t) = let l = low in absurd (omega (arith, e, f, l))

  by : Split c.front (classes ++ c.back) (length c.front + j) class → Stands classes j class
  by (left t) = let w = slice_get_within c.front (length c.front + j) class t in absurd (omega (arith, w))
  by (right k e t) = further k e (split classes c.back k class t)

-- ---- the loops

-- what loads are when those of so many pins were taken away
pub record TakenSoFar (rs cs old now : List ℕ) (k : ℕ) : Type 0 where
  pub many : length now ≡ length old
  pub each : (class : ℕ) → class < length old → get_or now class 0 + sum_by (share class) (take k (zip rs cs)) ≡ get_or old class 0

-- and when they were added
pub record GivenSoFar (rs cs old now : List ℕ) (k : ℕ) : Type 0 where
  pub many : length now ≡ length old
  pub each : (class : ℕ) → class < length old → get_or now class 0 ≡ get_or old class 0 + sum_by (share class) (take k (zip rs cs))
  pub small : (class : ℕ) → class < length old → get_or now class 0 ≤ get_or old class 0 + k * 4294967296
  pub short : (j : ℕ) → j < k → get_or rs j 0 < 2 ^ 32

pushed : (rs cs : List ℕ) (k : ℕ) → length rs ≡ length cs → k < length cs → (class : ℕ)
    → sum_by (share class) (take (k + 1) (zip rs cs)) ≡ sum_by (share class) (take k (zip rs cs)) + share class (get_or rs k 0, get_or cs k 0)
pushed rs cs k same l class = ap (sum_by (share class)) (zip_more rs cs k same l) ∙ sum_by_push (share class) (take k (zip rs cs)) (get_or rs k 0, get_or cs k 0)

-- a class's number after one was written
record Written (at new : ℕ) (old : List ℕ) (class : ℕ) : Type 0 where
  here : class ≡ at → get_or (slice_set old at new) class 0 ≡ new
  else_where : nat_eq at class ≡ false → get_or (slice_set old at new) class 0 ≡ get_or old class 0

written : (at new : ℕ) (old : List ℕ) (class : ℕ) → at < length old → Written at new old class
written at new old class l = record {
  here = λ e. ap (λ j. get_or (slice_set old at new) j 0) e ∙ get_or-set_same old at new 0 l;
  else_where = λ e. get_or-set_other old at class new 0 (λ q. let no : true ≡ false = sym (eq-eqb at class (sym q)) ∙ e in absurd cc);
}

pub taken_step : (rs cs old now : List ℕ) (k was new : ℕ) → TakenSoFar rs cs old now k → length rs ≡ length cs → k < length cs → get_or cs k 0 < length old
    → was ≡ get_or now (get_or cs k 0) 0 → new + get_or rs k 0 ≡ was → TakenSoFar rs cs old (slice_set now (get_or cs k 0) new) (k + 1)
taken_step rs cs old now k was new before same l low is less = record { many = length-set now (get_or cs k 0) new ∙ before.many; each = each } where
  inside : get_or cs k 0 < length now
  inside = let m = before.many in omega (arith, m, low)

  each : (class : ℕ) → class < length old → get_or (slice_set now (get_or cs k 0) new) class 0 + sum_by (share class) (take (k + 1) (zip rs cs)) ≡ get_or old class 0
  each class c = by (nat_eq (get_or cs k 0) class) refl where
    by : (b : Bool) → nat_eq (get_or cs k 0) class ≡ b → get_or (slice_set now (get_or cs k 0) new) class 0 + sum_by (share class) (take (k + 1) (zip rs cs)) ≡ get_or old class 0
    by true e =
        let q : get_or cs k 0 ≡ class = eqb-true (get_or cs k 0) class e in
        let put = (written (get_or cs k 0) new now class inside).here (sym q) in
        let at : get_or now (get_or cs k 0) 0 ≡ get_or now class 0 = ap (λ j. get_or now j 0) q in
        let part = share_same class (get_or rs k 0) (get_or cs k 0) q in
        let b = before.each class c in
        let p = pushed rs cs k same l class in
        omega (arith, put, at, part, b, p, is, less)
    by false e =
        let put = (written (get_or cs k 0) new now class inside).else_where e in
        let part = share_other class (get_or rs k 0) (get_or cs k 0) e in
        let b = before.each class c in
        let p = pushed rs cs k same l class in
        omega (arith, put, part, b, p)

pub given_step : (rs cs old now : List ℕ) (k was new : ℕ) → GivenSoFar rs cs old now k → length rs ≡ length cs → k < length cs → get_or cs k 0 < length old
    → was ≡ get_or now (get_or cs k 0) 0 → new ≡ was + get_or rs k 0 → get_or rs k 0 < 2 ^ 32 → GivenSoFar rs cs old (slice_set now (get_or cs k 0) new) (k + 1)
given_step rs cs old now k was new before same l low is more few = record { many = length-set now (get_or cs k 0) new ∙ before.many; each = each; small = small; short = short } where
  inside : get_or cs k 0 < length now
  inside = let m = before.many in omega (arith, m, low)

  each : (class : ℕ) → class < length old → get_or (slice_set now (get_or cs k 0) new) class 0 ≡ get_or old class 0 + sum_by (share class) (take (k + 1) (zip rs cs))
  each class c = by (nat_eq (get_or cs k 0) class) refl where
    by : (b : Bool) → nat_eq (get_or cs k 0) class ≡ b → get_or (slice_set now (get_or cs k 0) new) class 0 ≡ get_or old class 0 + sum_by (share class) (take (k + 1) (zip rs cs))
    by true e =
        let q : get_or cs k 0 ≡ class = eqb-true (get_or cs k 0) class e in
        let put = (written (get_or cs k 0) new now class inside).here (sym q) in
        let at : get_or now (get_or cs k 0) 0 ≡ get_or now class 0 = ap (λ j. get_or now j 0) q in
        let part = share_same class (get_or rs k 0) (get_or cs k 0) q in
        let b = before.each class c in
        let p = pushed rs cs k same l class in
        omega (arith, put, at, part, b, p, is, more)
    by false e =
        let put = (written (get_or cs k 0) new now class inside).else_where e in
        let part = share_other class (get_or rs k 0) (get_or cs k 0) e in
        let b = before.each class c in
        let p = pushed rs cs k same l class in
        omega (arith, put, part, b, p)

  small : (class : ℕ) → class < length old → get_or (slice_set now (get_or cs k 0) new) class 0 ≤ get_or old class 0 + (k + 1) * 4294967296
  small class c = by (nat_eq (get_or cs k 0) class) refl where
    by : (b : Bool) → nat_eq (get_or cs k 0) class ≡ b → get_or (slice_set now (get_or cs k 0) new) class 0 ≤ get_or old class 0 + (k + 1) * 4294967296
    by true e =
        let q : get_or cs k 0 ≡ class = eqb-true (get_or cs k 0) class e in
        let put = (written (get_or cs k 0) new now class inside).here (sym q) in
        let at : get_or now (get_or cs k 0) 0 ≡ get_or now class 0 = ap (λ j. get_or now j 0) q in
        let b = before.small class c in
        omega (arith, put, at, b, is, more, few)
    by false e =
        let put = (written (get_or cs k 0) new now class inside).else_where e in
        let b = before.small class c in
        omega (arith, put, b)

  short : (j : ℕ) → j < k + 1 → get_or rs j 0 < 2 ^ 32
  short j m = elim (cases_lt j k) [ inl less ↦ before.short j less | inr last ↦ let e : j ≡ k = omega (arith, m, last) in subst (λ i. get_or rs i 0 < 2 ^ 32) (sym e) few ]

-- so many pins make less than all
pub sum_front : (rs cs : List ℕ) (k : ℕ) → length rs ≡ length cs → k < length cs → (class : ℕ) → get_or cs k 0 ≡ class
    → sum_by (share class) (take k (zip rs cs)) + get_or rs k 0 ≤ sum_by (share class) (zip rs cs)
sum_front rs cs k same l class q =
    let p = pushed rs cs k same l class in
    let part = share_same class (get_or rs k 0) (get_or cs k 0) q in
    let w = sum_by-take-le (share class) (zip rs cs) (k + 1) in
    omega (arith, p, part, w)

pub sum_done : (rs cs : List ℕ) (k : ℕ) → length rs ≡ length cs → length cs ≤ k → (class : ℕ) → sum_by (share class) (take k (zip rs cs)) ≡ sum_by (share class) (zip rs cs)
sum_done rs cs k same all class = let n = zip_length rs cs same in ap (sum_by (share class)) (take_all k (zip rs cs) (omega (arith, all, n)))
