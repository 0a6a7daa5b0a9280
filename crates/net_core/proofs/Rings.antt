-- Rings of classes, and the links and output pins in them.
use Rattle.std.proofs.Common.{◌≡◌, ◌⊎◌, inl, inr, ℕ, zero, suc, ◌+◌, ◌-◌, ◌<◌, ◌≤◌, true, false, cond, List, [], ◌∷◌, ◌++◌, length, get_or, map, nat_eq, Some, None, refl, sym, ap, subst, ◌∙◌, arith}
use Rattle.std.specs.Prelude.{slice_index, slice_index_or, nat_lt, Contains}
use Rattle.std.specs.List.{All}
use Rattle.std.specs.Global.{Vec}
use Rattle.std.proofs.lemmas.List.{length-map, length-append, get_or-map}
use Rattle.std.proofs.lemmas.Option.{slice_get_within, slice_get-get_or, get_or_from_slice_get, slice_get_read}
use Rattle.std.proofs.lemmas.Bool.{cases_lt, eqb-true, eq-eqb}
use Rattle.std.proofs.lemmas.Bool.Decides.{nat_tests}
use Rattle.bit_order.specs.Order as order
use Rattle.vlsi_base.specs.declared.name.Terminal.{Terminal}
use Rattle.net_core.specs.declared.pins.ModelPins.{ModelPins}
use Rattle.net_core.specs.declared.frame.Node.{Node}
use Rattle.net_core.specs.declared.links.Link.{Link}
use Rattle.net_core.specs.Places.{Stands, IsThere}
use Rattle.net_core.specs.Netlist.{Instance, Netlist, IsNetlist, pin_of, HasClass}
use Rattle.net_core.specs.Frame.{instance_of}
use Rattle.net_core.specs.Checks.{DependsOn, IsRing}
use Rattle.net_core.specs.Links.{IsLinkOf, AreLinks, AreGrouped, inputs_of, IsLinkTo, next_in, AreChosen}
use Rattle.net_core.proofs.Standing.{Split, left, right, split, only_one}
use Rattle.net_core.proofs.Frames.{mapped, unmapped}
use Rattle.net_core.proofs.Finishing.{class_once}
use Rattle.net_core.proofs.Namings.{turn_below}
use Rattle.net_core.proofs.Pieces.{filter_there, there_filter}

pub at_place : {X : Type 0} (xs : List X) (k : ℕ) → k < length xs → (x : X) × Stands xs k x
at_place [] k l = absurd (omega (arith, l))
at_place (x ∷ xs) zero l = (x, refl)
at_place (x ∷ xs) (suc k) l = at_place xs k (omega (arith, l))

-- what belongs to each element of a list, in its order
pub collect : {X Y : Type 0} (R : X → Y → Type 0) (xs : List X) → ((x : X) → IsThere xs x → (y : Y) × R x y)
    → (ys : List Y) × (length ys ≡ length xs) × ((k : ℕ) (x : X) (y : Y) → Stands xs k x → Stands ys k y → R x y)
collect {X} {Y} R [] all = ([], refl, nothing) where
  nothing : (k : ℕ) (x : X) (y : Y) → Stands [] k x → Stands [] k y → R x y
  nothing k x y s t = absurd cc
collect {X} {Y} R (z ∷ xs) all =
    let a = all z (0, refl) in
    let r = collect R xs (λ x t. all x (suc t.0, t.1)) in
    (a.0 ∷ r.0, ap suc r.1, both a.0 a.1 r.0 r.2) where
      both : (b : Y) → R z b → (ys : List Y) → ((k : ℕ) (x : X) (y : Y) → Stands xs k x → Stands ys k y → R x y) → (k : ℕ) (x : X) (y : Y) → Stands (z ∷ xs) k x → Stands (b ∷ ys) k y → R x y
      both b h ys rest zero x y s t =
          let e : Some z ≡ Some x = s in let f : Some b ≡ Some y = t in
          let same : z ≡ x = cc in let like : b ≡ y = cc in
          subst (λ (u : Y). R x u) like (subst (λ (u : X). R u b) same h)
      both b h ys rest (suc k) x y s t = rest k x y s t

lt_true : (a b : ℕ) → a < b → nat_lt a b ≡ true
lt_true a b l = grind (arith, nat_tests)

lt_false : (a b : ℕ) → b ≤ a → nat_lt a b ≡ false
lt_false a b l = grind (arith, nat_tests)

pub next_inner : (ring : List ℕ) (k : ℕ) → k + 1 < length ring → next_in ring k ≡ slice_index ring (k + 1)
next_inner ring k l = ap (λ b. cond b (slice_index ring (k + 1)) (slice_index ring 0)) (lt_true (k + 1) (length ring) l)

pub next_last : (ring : List ℕ) (k : ℕ) → length ring ≤ k + 1 → next_in ring k ≡ slice_index ring 0
next_last ring k l = ap (λ b. cond b (slice_index ring (k + 1)) (slice_index ring 0)) (lt_false (k + 1) (length ring) l)

pub ring_reads : (reads : List (List ℕ)) (ring : List ℕ) → order.IsRing reads ring → (k : ℕ) → k < length ring → order.Reads reads (slice_index ring k) (next_in ring k)
ring_reads reads ring r k l = by (cases_lt (k + 1) (length ring)) where
  by : (k + 1 < length ring) ⊎ (length ring ≤ k + 1) → order.Reads reads (slice_index ring k) (next_in ring k)
  by (inl m) = subst (λ c. order.Reads reads (slice_index ring k) c) (sym (next_inner ring k m)) (r.round.next k m)
  by (inr m) =
      let e : length ring - 1 ≡ k = omega (arith, l, m) in
      subst (λ c. order.Reads reads (slice_index ring k) c) (sym (next_last ring k m)) (subst (λ j. order.Reads reads (slice_index ring j) (slice_index ring 0)) e r.round.first)

-- a class reads another by one of its links
pub read_link : (groups : List (Vec Link)) (c d : ℕ) (v : Vec Link) → c < length groups → order.Reads (inputs_of groups) c d → (l : Link) × IsThere (get_or groups c v).items l × (l.input ≡ d)
read_link groups c d v low r =
    let items = (get_or groups c v).items in
    let inputs = map (λ (l : Link). l.input) items in
    let e : order.reads_of (inputs_of groups) c ≡ inputs = get_or-map (λ (g : Vec Link). map (λ (l : Link). l.input) g.items) groups c v [] low in
    let t : Contains inputs d = subst (λ (xs : List ℕ). Contains xs d) e r in
    let s : Stands inputs t.0 d = slice_get_read inputs (length inputs) t.0 d refl t.1 (sym t.2) in
    let u = unmapped (λ (l : Link). l.input) items t.0 d s in
    (u.0, (t.0, u.1), u.2)

pub link_read : (links : List Link) (groups : List (Vec Link)) → AreGrouped links groups → (v : Vec Link) (l : Link) → IsThere links l → l.output < length groups → order.Reads (inputs_of groups) l.output l.input
link_read links groups are v l t low =
    let group = (get_or groups l.output v).items in
    let inputs = map (λ (x : Link). x.input) group in
    let e : order.reads_of (inputs_of groups) l.output ≡ inputs = get_or-map (λ (g : Vec Link). map (λ (x : Link). x.input) g.items) groups l.output v [] low in
    let f = there_filter (λ (x : Link). nat_eq x.output l.output) links t.0 l t.1 (eq-eqb l.output l.output refl) in
    let here : IsThere group l = subst (λ (xs : List Link). IsThere xs l) (sym (are.each l.output v low)) f in
    let s : Stands inputs here.0 l.input = mapped (λ (x : Link). x.input) group here.0 l here.1 in
    subst (λ (xs : List ℕ). Contains xs l.input) (sym e) (here.0, slice_get_within inputs here.0 l.input s, get_or_from_slice_get inputs here.0 l.input l.input s)

-- the links of the first places of a ring
pub record ChosenSoFar (groups : List (Vec Link)) (ring : List ℕ) (chosen : List Link) (k : ℕ) : Type 0 where
  pub many : length chosen ≡ k
  pub each : (j : ℕ) (l : Link) → Stands chosen j l → ((d : Vec Link) → IsThere (slice_index_or groups (slice_index ring j) d).items l) × (l.input ≡ next_in ring j)

pub chosen_start : (groups : List (Vec Link)) (ring : List ℕ) (chosen : List Link) → chosen ≡ [] → ChosenSoFar groups ring chosen 0
chosen_start groups ring chosen e = record { many = ap length e; each = λ j l s. absurd (nothing j l (subst (λ (xs : List Link). Stands xs j l) e s)) } where
  nothing : (j : ℕ) (l : Link) → Stands [] j l → ⊥
  nothing j l s = absurd cc

pub chosen_step : (groups : List (Vec Link)) (ring : List ℕ) (chosen now : List Link) (k : ℕ) → ChosenSoFar groups ring chosen k → (g : Vec Link) (next : ℕ) (l : Link)
    → slice_index ring k < length groups → g ≡ get_or groups (slice_index ring k) g → next ≡ next_in ring k → IsLinkTo g.items next (Some l) → now ≡ chosen ++ l ∷ [] → ChosenSoFar groups ring now (k + 1)
chosen_step groups ring chosen now k so_far g next l low is e found pushed = record {
  many = let n = length-append chosen (l ∷ []) in let m = so_far.many in ap length pushed ∙ omega (arith, n, m);
  each = λ j x s. by j x (split chosen (l ∷ []) j x (subst (λ (xs : List Link). Stands xs j x) pushed s));
} where
  group : (d : Vec Link) → get_or groups (slice_index ring k) d ≡ g
  group d = get_or_from_slice_get groups (slice_index ring k) g d (slice_get_read groups (length groups) (slice_index ring k) g refl low is)

  by : (j : ℕ) (x : Link) → Split chosen (l ∷ []) j x → ((d : Vec Link) → IsThere (slice_index_or groups (slice_index ring j) d).items x) × (x.input ≡ next_in ring j)
  by j x (left s) = so_far.each j x s
  by j x (right i n s) =
      let same : l ≡ x = only_one l x (i, s) in
      let w = slice_get_within (l ∷ []) i x s in
      let m = so_far.many in
      let at : k ≡ j = omega (arith, n, w, m) in (
        λ d. subst (λ p. IsThere (get_or groups (slice_index ring p) d).items x) at (subst (λ (v : Vec Link). IsThere v.items x) (sym (group d)) (subst (λ (y : Link). IsThere g.items y) same found.0)),
        ap (λ (y : Link). y.input) (sym same) ∙ found.1 ∙ e ∙ ap (next_in ring) at,
      )

-- some link goes to the next class
pub chosen_there : (groups : List (Vec Link)) (ring : List ℕ) (k : ℕ) (g : Vec Link) (next : ℕ) → order.IsRing (inputs_of groups) ring → k < length ring → slice_index ring k < length groups
    → g ≡ get_or groups (slice_index ring k) g → next ≡ next_in ring k → IsLinkTo g.items next None → ⊥
chosen_there groups ring k g next r l low is e none =
    let w = read_link groups (slice_index ring k) (next_in ring k) g low (ring_reads (inputs_of groups) ring r k l) in
    let there : IsThere g.items w.0 = subst (λ (v : Vec Link). IsThere v.items w.0) (sym is) w.1 in
    subst (λ (x : Link). x.input ≡ next → ⊥) (get_or_from_slice_get g.items there.0 w.0 w.0 there.1) (none there.0 w.0 (slice_get_within g.items there.0 w.0 there.1)) (w.2 ∙ sym e)

pub ring_inside : (groups : List (Vec Link)) (ring : List ℕ) (k : ℕ) → order.IsRing (inputs_of groups) ring → k < length ring → slice_index ring k < length groups
ring_inside groups ring k r l = let n = length-map groups (λ (g : Vec Link). map (λ (x : Link). x.input) g.items) in let i = r.inside k 0 l in omega (arith, n, i)

-- one link leads to the next
dep_of : (table : List ModelPins) (n : Netlist) (k l : Link) (a b : Terminal) → IsLinkOf table n k a → IsLinkOf table n l b → k.input ≡ l.output → DependsOn table n a b
dep_of table n k l a b x y e = record {
  owner = x.owner;
  output = x.output;
  is_pin = record { listed = (k.owner, x.stands); known = x.known; is = x.is };
  gives = x.gives;
  place = x.place;
  input = x.input;
  depends = x.depends;
  there = x.there;
  takes = x.takes;
  class = k.input;
  reads = x.reads;
  other = y.owner;
  driver = y.output;
  is_driver = record { listed = (l.owner, y.stands); known = y.known; is = y.is };
  drives = y.gives;
  joined = subst (λ c. HasClass n b c) (sym e) y.joined;
}

-- output pins that make the links of a ring
pub record Makes (table : List ModelPins) (n : Netlist) (chosen : List Link) (ts : List Terminal) : Type 0 where
  pub many : length ts ≡ length chosen
  pub each : (k : ℕ) (l : Link) (t : Terminal) → Stands chosen k l → Stands ts k t → IsLinkOf table n l t

pub terminal_ring : (table : List ModelPins) (n : Netlist) (links : List Link) (groups : List (Vec Link)) (ring : List ℕ) (chosen : List Link) → IsNetlist n → AreLinks table n links → AreGrouped links groups
    → order.IsRing (inputs_of groups) ring → AreChosen groups ring chosen → Vec Link → (ts : List Terminal) × Makes table n chosen ts × IsRing table n ts
terminal_ring table n links groups ring chosen is are grouped r chosen_are v =
    let c = collect (IsLinkOf table n) chosen (λ l t. are.sound l (linked t.0 l t.1).0) in
    (c.0, record { many = c.1; each = c.2 }, made c.0 c.1 c.2) where
      many : length chosen ≡ length ring
      many = chosen_are.many

      linked : (k : ℕ) (l : Link) → Stands chosen k l → IsThere links l × (l.output ≡ slice_index ring k)
      linked k l s =
          let w = slice_get_within chosen k l s in
          let low = ring_inside groups ring k r (omega (arith, w, many)) in
          let f = filter_there (λ (x : Link). nat_eq x.output (slice_index ring k)) links l (subst (λ (xs : List Link). IsThere xs l) (grouped.each (slice_index ring k) v low) ((chosen_are.each k l s).0 v)) in
          (f.0, eqb-true l.output (slice_index ring k) f.1)

      made : (ts : List Terminal) → length ts ≡ length chosen → ((k : ℕ) (l : Link) (t : Terminal) → Stands chosen k l → Stands ts k t → IsLinkOf table n l t) → IsRing table n ts
      made ts count each = record {
        some = let m = r.round.some in omega (arith, m, many, count);
        once = λ i j t p q.
            let x = at_place chosen i (omega (arith, slice_get_within ts i t p, count)) in
            let y = at_place chosen j (omega (arith, slice_get_within ts j t q, count)) in
            let low_i = slice_get_within ts i t p in
            let low_j = slice_get_within ts j t q in
            let e : x.0.output ≡ y.0.output = class_once n is t x.0.output y.0.output (each i x.0 t x.1 p).joined (each j y.0 t y.1 q).joined in
            r.once i j (omega (arith, low_i, count, many)) (omega (arith, low_j, count, many)) (sym (linked i x.0 x.1).1 ∙ e ∙ (linked j y.0 y.1).1);
        next = λ k a b p q.
            let low = slice_get_within ts (k + 1) b q in
            let x = at_place chosen k (omega (arith, low, count)) in
            let y = at_place chosen (k + 1) (omega (arith, low, count)) in
            dep_of table n x.0 y.0 a b (each k x.0 a x.1 p) (each (k + 1) y.0 b y.1 q) ((chosen_are.each k x.0 x.1).1 ∙ next_inner ring k (omega (arith, low, count, many)) ∙ sym (linked (k + 1) y.0 y.1).1);
        close = λ a b p q.
            let k = length ts - 1 in
            let low = slice_get_within ts k a p in
            let first = slice_get_within ts 0 b q in
            let x = at_place chosen k (omega (arith, low, count)) in
            let y = at_place chosen 0 (omega (arith, first, count)) in
            dep_of table n x.0 y.0 a b (each k x.0 a x.1 p) (each 0 y.0 b y.1 q) ((chosen_are.each k x.0 x.1).1 ∙ next_last ring k (omega (arith, low, count, many)) ∙ sym (linked 0 y.0 y.1).1);
      }

-- a ring of output pins is a way round of classes
pub ring_read : (table : List ModelPins) (n : Netlist) (links : List Link) (groups : List (Vec Link)) → IsNetlist n → AreLinks table n links → AreGrouped links groups → All (λ l. l.output < length groups) links
    → (ring : List Terminal) → IsRing table n ring → Vec Link → (nodes : List ℕ) × order.IsRound (inputs_of groups) nodes
ring_read table n links groups is are grouped inside ring r v =
    let c = collect (HasClass n) ring (λ t s. class_of s.0 t s.1) in
    (c.0, round c.0 c.1 c.2) where
      class_of : (k : ℕ) (t : Terminal) → Stands ring k t → (class : ℕ) × HasClass n t class
      class_of zero t s = let last = at_place ring (length ring - 1) (let m = r.some in omega (arith, m)) in let d = r.close last.0 t last.1 s in (d.class, d.joined)
      class_of (suc k) t s =
          let low = slice_get_within ring (suc k) t s in
          let before = at_place ring k (omega (arith, low)) in
          let e : suc k ≡ k + 1 = omega arith in
          let d = r.next k before.0 t before.1 (subst (λ j. Stands ring j t) e s) in (d.class, d.joined)

      link : (a b : Terminal) (x y : ℕ) → DependsOn table n a b → HasClass n a x → HasClass n b y → order.Reads (inputs_of groups) x y
      link a b x y d p q =
          let l = are.complete a b d in
          let ex : l.0.output ≡ x = class_once n is a l.0.output x l.2 p in
          let ey : l.0.input ≡ y = class_once n is b l.0.input y l.3 q in
          let low : l.0.output < length groups = subst (λ (z : Link). z.output < length groups) (get_or_from_slice_get links l.1.0 l.0 l.0 l.1.1) (inside l.1.0 l.0 (slice_get_within links l.1.0 l.0 l.1.1)) in
          subst (λ j. order.Reads (inputs_of groups) x j) ey (subst (λ j. order.Reads (inputs_of groups) j l.0.input) ex (link_read links groups grouped v l.0 l.1 low))

      round : (cs : List ℕ) → length cs ≡ length ring → ((k : ℕ) (t : Terminal) (c : ℕ) → Stands ring k t → Stands cs k c → HasClass n t c) → order.IsRound (inputs_of groups) cs
      round cs count each = record {
        some = let m = r.some in omega (arith, m, count);
        next = λ k l.
            let a = at_place ring k (omega (arith, l, count)) in
            let b = at_place ring (k + 1) (omega (arith, l, count)) in
            link a.0 b.0 (slice_index cs k) (slice_index cs (k + 1)) (r.next k a.0 b.0 a.1 b.1) (each k a.0 (slice_index cs k) a.1 (slice_get-get_or cs k 0 (omega (arith, l)))) (each (k + 1) b.0 (slice_index cs (k + 1)) b.1 (slice_get-get_or cs (k + 1) 0 l));
        first =
            let m = r.some in
            let a = at_place ring (length ring - 1) (omega (arith, m)) in
            let b = at_place ring 0 m in
            let e : length ring - 1 ≡ length cs - 1 = omega (arith, count) in
            link a.0 b.0 (slice_index cs (length cs - 1)) (slice_index cs 0) (r.close a.0 b.0 a.1 b.1)
            (each (length cs - 1) a.0 (slice_index cs (length cs - 1)) (subst (λ j. Stands ring j a.0) e a.1) (slice_get-get_or cs (length cs - 1) 0 (omega (arith, m, count))))
            (each 0 b.0 (slice_index cs 0) b.1 (slice_get-get_or cs 0 0 (omega (arith, m, count))));
      }

-- what holds of a class of each link holds of it in each group
pub group_link : (links : List Link) (groups : List (Vec Link)) → AreGrouped links groups → (P : Link → Type 0) → ((l : Link) → IsThere links l → P l) → All (λ g. All P g.items) groups
group_link links groups are P all k v low j d less =
    let group = (get_or groups k v).items in
    let s : Stands group j (get_or group j d) = slice_get-get_or group j d less in
    let f = filter_there (λ (x : Link). nat_eq x.output k) links (get_or group j d) (subst (λ (xs : List Link). IsThere xs (get_or group j d)) (are.each k v low) (j, s)) in
    all (get_or group j d) f.0

pub inputs_inside : (groups : List (Vec Link)) (inputs : List (Vec ℕ)) (n : ℕ) → map (λ (i : Vec ℕ). i.items) inputs ≡ inputs_of groups → All (λ g. All (λ l. l.input < n) g.items) groups → n ≡ length inputs → Vec Link
    → All (λ nodes. All (λ node. node < length inputs) nodes.items) inputs
inputs_inside groups inputs n e all many v k d low j x less =
    let a : get_or (map (λ (i : Vec ℕ). i.items) inputs) k [] ≡ (get_or inputs k d).items = get_or-map (λ (i : Vec ℕ). i.items) inputs k d [] low in
    let ni = length-map inputs (λ (i : Vec ℕ). i.items) in
    let ng = length-map groups (λ (g : Vec Link). map (λ (l : Link). l.input) g.items) in
    let ne = ap length e in
    let here : k < length groups = omega (arith, ni, ng, ne, low) in
    let b : get_or (inputs_of groups) k [] ≡ map (λ (l : Link). l.input) (get_or groups k v).items = get_or-map (λ (g : Vec Link). map (λ (l : Link). l.input) g.items) groups k v [] here in
    let same : (get_or inputs k d).items ≡ map (λ (l : Link). l.input) (get_or groups k v).items = sym a ∙ ap (λ (xs : List (List ℕ)). get_or xs k []) e ∙ b in
    let s : Stands (map (λ (l : Link). l.input) (get_or groups k v).items) j (get_or (get_or inputs k d).items j x) = subst (λ (xs : List ℕ). Stands xs j (get_or (get_or inputs k d).items j x)) same (slice_get-get_or (get_or inputs k d).items j x less) in
    let u = unmapped (λ (l : Link). l.input) (get_or groups k v).items j (get_or (get_or inputs k d).items j x) s in
    let w : u.0.input < n = subst (λ (l : Link). l.input < n) (get_or_from_slice_get (get_or groups k v).items j u.0 u.0 u.1) (all k v here j u.0 (slice_get_within (get_or groups k v).items j u.0 u.1)) in
    omega (arith, w, u.2, many)

pub chosen_owners : (groups : List (Vec Link)) (ring : List ℕ) (chosen : List Link) (n : ℕ) → order.IsRing (inputs_of groups) ring → AreChosen groups ring chosen → All (λ g. All (λ l. l.owner < n) g.items) groups → All (λ l. l.owner < n) chosen
chosen_owners groups ring chosen n r are all k d low =
    let l = get_or chosen k d in
    let many = are.many in
    let inside = ring_inside groups ring k r (omega (arith, low, many)) in
    let g = at_place groups (slice_index ring k) inside in
    let t = (are.each k l (slice_get-get_or chosen k d low)).0 g.0 in
    let group = (get_or groups (slice_index ring k) g.0).items in
    subst (λ (x : Link). x.owner < n) (get_or_from_slice_get group t.0 l l t.1) (all (slice_index ring k) g.0 inside t.0 l (slice_get_within group t.0 l t.1))

pub class_below : (n : Netlist) → IsNetlist n → (t : Terminal) (class : ℕ) → HasClass n t class → class < n.count
class_below n is t class h =
    subst (λ c. c < n.count) (get_or_from_slice_get n.classes h.0 class class h.2) (turn_below 0 n.count n.classes is.turns h.0 class (slice_get_within n.classes h.0 class h.2))

-- the classes and the instance of a link are there
pub link_below : (table : List ModelPins) (n : Netlist) (links : List Link) → IsNetlist n → AreLinks table n links → (l : Link) → IsThere links l → (l.output < n.count) × (l.input < n.count) × (l.owner < length n.instances)
link_below table n links is are l t =
    let s = are.sound l t in (
      class_below n is s.0 l.output s.1.joined,
      class_below n is (pin_of s.1.owner.name s.1.input.name) l.input s.1.reads,
      slice_get_within n.instances l.owner s.1.owner s.1.stands,
    )

pub each_there : {X : Type 0} (P : X → Type 0) (xs : List X) → ((x : X) → IsThere xs x → P x) → All P xs
each_there P xs all k d l = all (get_or xs k d) (k, slice_get-get_or xs k d l)

-- an order of classes leaves no ring of output pins
pub no_ring : (table : List ModelPins) (n : Netlist) (links : List Link) (groups : List (Vec Link)) (nodes : List ℕ) → IsNetlist n → AreLinks table n links → AreGrouped links groups → length groups ≡ n.count
    → order.SortedLeavesNoRing → order.IsSortedOrder (inputs_of groups) nodes → Vec Link → (ring : List Terminal) → IsRing table n ring → ⊥
no_ring table n links groups nodes is are grouped many law sorted v ring r =
    let inside : All (λ (l : Link). l.output < length groups) links = each_there (λ (l : Link). l.output < length groups) links (λ l t. let b = (link_below table n links is are l t).0 in omega (arith, b, many)) in
    let w = ring_read table n links groups is are grouped inside ring r v in
    law (inputs_of groups) nodes w.0 sorted w.1

pub inputs_count : (groups : List (Vec Link)) (inputs : List (Vec ℕ)) → map (λ (i : Vec ℕ). i.items) inputs ≡ inputs_of groups → length groups ≡ length inputs
inputs_count groups inputs e =
    let ni = length-map inputs (λ (i : Vec ℕ). i.items) in
    let ng = length-map groups (λ (g : Vec Link). map (λ (l : Link). l.input) g.items) in
    let ne = ap length e in
    omega (arith, ni, ng, ne)

pub nodes_count : (models : List (List ℕ)) (nodes : List Node) (instances : List Instance) → map (instance_of models) nodes ≡ instances → length instances ≡ length nodes
nodes_count models nodes instances e = ap length (sym e) ∙ length-map nodes (instance_of models)
