-- Netlists of the same ports and instances, with classes that are alike, are the same; and what is wrong with one is with the other.
use Rattle.std.proofs.Common.{◌≡◌, ◌↔◌, ◌⊎◌, inl, inr, ℕ, suc, ◌+◌, ◌<◌, true, false, List, [], ◌∷◌, ◌++◌, map, length, get_or, ◌≤◌, refl, sym, ap, subst, ◌∙◌, append_assoc, arith}
use Rattle.std.specs.Ordering.{is_lt, ordering_reverse}
use Rattle.std.specs.declared.cmp.Ordering.{Ordering}
use Rattle.std.specs.declared.cmp.Ordering.TheVariants.{Less, Equal, Greater}
use Rattle.std.proofs.lemmas.Bool.{cases_lt}
use Rattle.std.proofs.lemmas.Option.{slice_get_within, get_or_from_slice_get}
use Rattle.vlsi_base.specs.declared.name.Name.{Name}
use Rattle.vlsi_base.specs.declared.name.Port.{Port}
use Rattle.vlsi_base.specs.declared.name.Terminal.{Terminal}
use Rattle.vlsi_base.specs.declared.fault.FaultKind.{FaultKind}
use Rattle.vlsi_base.specs.Member.{In, here, there}
use Rattle.vlsi_base.specs.Name.{name_cmp}
use Rattle.vlsi_base.specs.Names.{comes_before}
use Rattle.vlsi_base.proofs.NameOrder.{name_total}
use Rattle.machine_core.proofs.Values.{In-map}
use Rattle.net_core.specs.declared.pins.ModelPin.{ModelPin}
use Rattle.net_core.specs.declared.pins.ModelPins.{ModelPins}
use Rattle.net_core.specs.Places.{Stands, IsThere}
use Rattle.net_core.specs.Netlist.{Instance, Netlist, AreInOrder, InTurn, ended, again, first}
use Rattle.net_core.specs.Checks.{IsPinOf, DependsOn, IsRing, Passes, class_test, IsClassFault, IsFault, by_class, by_ring}
use Rattle.net_core.proofs.Standing.{stands_left, stands_right}
use Rattle.vst_io.specs.Laws.{AreAlike}
use Rattle.vst_io.proofs.Places.{in_stands}
use Rattle.vst_io.proofs.Classes.{in_first}

-- ---- ports in order

is_less : (o : Ordering) → is_lt o ≡ true → o ≡ Less
is_less Less e = refl
is_less Equal e = absurd cc
is_less Greater e = absurd cc

both_before : (a b : Name) → comes_before a b ≡ true → comes_before b a ≡ true → ⊥
both_before a b p q =
    let less : name_cmp a b ≡ Less = is_less (name_cmp a b) p in
    let turned : name_cmp b a ≡ Greater = name_total.antisymm b a ∙ ap ordering_reverse less in
    let other : name_cmp b a ≡ Less = is_less (name_cmp b a) q in
    let both : Less ≡ Greater = sym other ∙ turned in
    absurd cc

-- each stands before the later ones
abbrev Rises : List Port → Type 0
Rises [] = Unit {0}
Rises (p ∷ ps) = ((q : Port) → In q ps → comes_before p.name q.name ≡ true) × Rises ps

rises : (ps : List Port) → AreInOrder (map (λ p. p.name) ps) → Rises ps
rises [] order = tt
rises (p ∷ ps) order = (before, rises ps (λ i j d l m. order (suc i) (suc j) d (omega (arith, l)) (omega (arith, m)))) where
  before : (q : Port) → In q ps → comes_before p.name q.name ≡ true
  before q h =
      let s = in_stands (map (λ (r : Port). r.name) ps) q.name (In-map (λ (r : Port). r.name) q ps h) in
      let low : s.0 < length (map (λ (r : Port). r.name) ps) = slice_get_within (map (λ (r : Port). r.name) ps) s.0 q.name s.1 in
      let at : get_or (map (λ (r : Port). r.name) ps) s.0 q.name ≡ q.name = get_or_from_slice_get (map (λ (r : Port). r.name) ps) s.0 q.name q.name s.1 in
      subst (λ (n : Name). comes_before p.name n ≡ true) at (order 0 (suc s.0) q.name (omega arith) (omega (arith, low)))

same_ports : (xs ys : List Port) → Rises xs → Rises ys → ((p : Port) → In p xs → In p ys) → ((p : Port) → In p ys → In p xs) → xs ≡ ys
same_ports [] [] a b f g = refl
same_ports [] (y ∷ ys) a b f g = elim (g y here) [ ]
same_ports (x ∷ xs) [] a b f g = elim (f x here) [ ]
same_ports (x ∷ xs) (y ∷ ys) a b f g =
    ap (λ (p : Port). p ∷ xs) same ∙ ap (λ (ps : List Port). y ∷ ps) (same_ports xs ys a.1 b.1 to from) where
      head : (x ≡ y) ⊎ In x ys → (y ≡ x) ⊎ In y xs → x ≡ y
      head (inl e) q = e
      head (inr h) (inl e) = sym e
      head (inr h) (inr i) = absurd (both_before x.name y.name (a.0 y i) (b.0 x h))

      same : x ≡ y
      same = head (in_first y x ys (f x here)) (in_first x y xs (g y here))

      never : (p : Port) (ps : List Port) → Rises (p ∷ ps) → In p ps → ⊥
      never p ps r h = both_before p.name p.name (r.0 p h) (r.0 p h)

      to : (p : Port) → In p xs → In p ys
      to p h = elim (in_first y p ys (f p (there h))) [
        | inl e ↦ absurd (never x xs a (subst (λ (q : Port). In q xs) (e ∙ sym same) h))
        | inr i ↦ i
      ]

      from : (p : Port) → In p ys → In p xs
      from p h = elim (in_first x p xs (g p (there h))) [
        | inl e ↦ absurd (never y ys b (subst (λ (q : Port). In q ys) (e ∙ same) h))
        | inr i ↦ i
      ]

pub ports_same : (xs ys : List Port) → AreInOrder (map (λ p. p.name) xs) → AreInOrder (map (λ p. p.name) ys) → ((p : Port) → In p xs → In p ys) → ((p : Port) → In p ys → In p xs) → xs ≡ ys
ports_same xs ys a b f g = same_ports xs ys (rises xs a) (rises ys b) f g

-- ---- numbers in turn

-- two of one list are equal exactly where those at their places in the other are
abbrev pub AreEqualTogether : List ℕ → List ℕ → Type 0
AreEqualTogether xs ys = (i j a b c d : ℕ) → Stands xs i a → Stands xs j b → Stands ys i c → Stands ys j d → (a ≡ b) ↔ (c ≡ d)

last_at : (ps : List ℕ) (x : ℕ) (xs : List ℕ) → Stands (ps ++ x ∷ xs) (length ps + 0) x
last_at ps x xs = stands_right ps (x ∷ xs) 0 x refl

-- the next numbers are equal where one of them was met
met_same : (ps cs ds : List ℕ) (x y : ℕ) → IsThere ps x → AreEqualTogether (ps ++ x ∷ cs) (ps ++ y ∷ ds) → x ≡ y
met_same ps cs ds x y met together =
    (together met.0 (length ps + 0) x x x y (stands_left ps (x ∷ cs) met.0 x met.1) (last_at ps x cs) (stands_left ps (y ∷ ds) met.0 x met.1) (last_at ps y ds)).0 refl

turned : (xs ys : List ℕ) → AreEqualTogether xs ys → AreEqualTogether ys xs
turned xs ys t i j a b c d p q r s = let e = t i j c d a b r s p q in (e.1, e.0)

still_there : (ps : List ℕ) (x z : ℕ) → IsThere ps z → IsThere (ps ++ x ∷ []) z
still_there ps x z h = (h.0, stands_left ps (x ∷ []) h.0 z h.1)

now_there : (ps : List ℕ) (met : ℕ) → ((z : ℕ) → z < met → IsThere ps z) → (z : ℕ) → z < met + 1 → IsThere (ps ++ met ∷ []) z
now_there ps met known z h = by (cases_lt z met) where
  by : (z < met) ⊎ (met ≤ z) → IsThere (ps ++ met ∷ []) z
  by (inl l) = still_there ps met z (known z l)
  by (inr m) = let e : met ≡ z = omega (arith, h, m) in subst (λ w. IsThere (ps ++ met ∷ []) w) e (length ps + 0, last_at ps met [])

moved : (ps cs ds : List ℕ) (x y : ℕ) → x ≡ y → AreEqualTogether (ps ++ x ∷ cs) (ps ++ y ∷ ds) → AreEqualTogether ((ps ++ x ∷ []) ++ cs) ((ps ++ x ∷ []) ++ ds)
moved ps cs ds x y e together =
    let left : ps ++ x ∷ cs ≡ (ps ++ x ∷ []) ++ cs = sym (append_assoc ps (x ∷ []) cs) in
    let right : ps ++ y ∷ ds ≡ (ps ++ x ∷ []) ++ ds = ap (λ z. ps ++ z ∷ ds) (sym e) ∙ sym (append_assoc ps (x ∷ []) ds) in
    subst (λ (xs : List ℕ). AreEqualTogether xs ((ps ++ x ∷ []) ++ ds)) left (subst (λ (ys : List ℕ). AreEqualTogether (ps ++ x ∷ cs) ys) right together)

same_turns : (ps cs ds : List ℕ) (met c d : ℕ) → InTurn met cs c → InTurn met ds d → length cs ≡ length ds → ((z : ℕ) → z < met → IsThere ps z) → AreEqualTogether (ps ++ cs) (ps ++ ds) → (cs ≡ ds) × (c ≡ d)
same_turns ps [] [] met c d ended ended e known together = (refl, refl)
same_turns ps [] (y ∷ ds) met c d t u e known together = absurd (omega (arith, e))
same_turns ps (x ∷ cs) [] met c d t u e known together = absurd (omega (arith, e))
same_turns ps (x ∷ cs) (y ∷ ds) met c d (again l t) (again m u) e known together =
    let same : x ≡ y = met_same ps cs ds x y (known x l) together in
    let next : AreEqualTogether ((ps ++ x ∷ []) ++ cs) ((ps ++ x ∷ []) ++ ds) = moved ps cs ds x y same together in
    let r = same_turns (ps ++ x ∷ []) cs ds met c d t u (omega (arith, e)) (λ z h. still_there ps x z (known z h)) next in
    (ap (λ (n : ℕ). n ∷ cs) same ∙ ap (λ (ns : List ℕ). y ∷ ns) r.0, r.1)
same_turns ps (x ∷ cs) (y ∷ ds) met c d (again l t) (first u) e known together =
    let same : x ≡ met = met_same ps cs ds x met (known x l) together in absurd (omega (arith, same, l))
same_turns ps (x ∷ cs) (y ∷ ds) met c d (first t) (again m u) e known together =
    let same : y ≡ met = met_same ps ds cs y met (known y m) (turned (ps ++ met ∷ cs) (ps ++ y ∷ ds) together) in absurd (omega (arith, same, m))
same_turns ps (x ∷ cs) (y ∷ ds) met c d (first t) (first u) e known together =
    let next : AreEqualTogether ((ps ++ met ∷ []) ++ cs) ((ps ++ met ∷ []) ++ ds) = moved ps cs ds met met refl together in
    let r = same_turns (ps ++ met ∷ []) cs ds (met + 1) c d t u (omega (arith, e)) (now_there ps met known) next in
    (ap (λ (ns : List ℕ). met ∷ ns) r.0, r.1)

pub turns_same : (cs ds : List ℕ) (c d : ℕ) → InTurn 0 cs c → InTurn 0 ds d → length cs ≡ length ds → AreEqualTogether cs ds → (cs ≡ ds) × (c ≡ d)
turns_same cs ds c d t u e together = same_turns [] cs ds 0 c d t u e (λ z h. absurd (omega (arith, h))) together

-- ---- faults

-- the same netlist with other models
abbrev pub with_models : Netlist → List (List ℕ) → Netlist
with_models n models = record n { models = models }

same_pin : (table : List ModelPins) (n : Netlist) (models : List (List ℕ)) (i : Instance) (p : ModelPin) (t : Terminal) → IsPinOf table (with_models n models) i p t → IsPinOf table n i p t
same_pin table n models i p t h = record { listed = h.listed; known = h.known; is = h.is }

same_depends : (table : List ModelPins) (n : Netlist) (models : List (List ℕ)) (a b : Terminal) → DependsOn table (with_models n models) a b → DependsOn table n a b
same_depends table n models a b d = record {
  owner = d.owner;
  output = d.output;
  is_pin = same_pin table n models d.owner d.output a d.is_pin;
  gives = d.gives;
  place = d.place;
  input = d.input;
  depends = d.depends;
  there = d.there;
  takes = d.takes;
  class = d.class;
  reads = d.reads;
  other = d.other;
  driver = d.driver;
  is_driver = same_pin table n models d.other d.driver b d.is_driver;
  drives = d.drives;
  joined = d.joined;
}

pub same_ring : (table : List ModelPins) (n : Netlist) (models : List (List ℕ)) (ring : List Terminal) → IsRing table (with_models n models) ring → IsRing table n ring
same_ring table n models ring h = record {
  some = h.some;
  once = h.once;
  next = λ i a b p q. same_depends table n models a b (h.next i a b p q);
  close = λ a b p q. same_depends table n models a b (h.close a b p q);
}

pub passes_or_fails : (table : List ModelPins) (n k : Netlist) (kind : FaultKind) (names : List Name) → AreAlike n k → Passes table n → IsFault table k kind names → ⊥
passes_or_fails table n k kind names e passes (by_ring ring sound is called cycle) = passes.rings ring (same_ring table n k.models ring (subst (λ (m : Netlist). IsRing table m ring) e is))
passes_or_fails table n k kind names e passes (by_class c) =
    let d : IsClassFault table (with_models n k.models) kind names = subst (λ (x : Netlist). IsClassFault table x kind names) e c in
    let none : class_test table n d.fault d.class ≡ false = passes.classes d.fault d.class d.first.inside in
    let yes : class_test table n d.fault d.class ≡ true = d.first.passes in
    let both : true ≡ false = sym yes ∙ none in
    absurd cc
