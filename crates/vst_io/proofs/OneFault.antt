-- A netlist has at most one fault; only of several rings any may be named.
use Rattle.std.proofs.Common.{◌≡◌, ◌⊎◌, inl, inr, ℕ, ◌<◌, ◌≤◌, Bool, true, false, List, refl, sym, ap, subst, ◌∙◌, arith}
use Rattle.std.specs.List.{All}
use Rattle.std.proofs.lemmas.Bool.{cases_lt}
use Rattle.vlsi_base.specs.declared.name.Name.{Name}
use Rattle.vlsi_base.specs.declared.name.Terminal.{Terminal}
use Rattle.vlsi_base.specs.declared.fault.FaultKind.{FaultKind}
use Rattle.vlsi_base.specs.declared.fault.FaultKind.TheVariants as kind
use Rattle.vlsi_base.specs.Member.{In, here, there}
use Rattle.net_core.specs.declared.pins.ModelPins.{ModelPins}
use Rattle.net_core.specs.declared.tally.ClassFault.{ClassFault}
use Rattle.net_core.specs.declared.tally.ClassFault.TheVariants as fault
use Rattle.net_core.specs.Named.{terminal_names}
use Rattle.net_core.specs.Places.{Stands}
use Rattle.net_core.specs.Netlist.{Netlist, terminals}
use Rattle.net_core.specs.Checks.{IsFirstClass, NoClass, IsLeast, HasNamesOfLeast, HasSoundClasses, kind_of, earlier, class_test, IsClassFault, IsFault, by_class, by_ring}
use Rattle.net_core.proofs.Joining.{all_in}
use Rattle.net_core.proofs.Standing.{stands_same}
use Rattle.vst_io.specs.Laws.{AreAlike}
use Rattle.vst_io.proofs.Alike.{with_models, same_ring}

-- ---- the fault of classes

least_same : (n : Netlist) (class : ℕ) (s t : Terminal) → IsLeast n class s → IsLeast n class t → s ≡ t
least_same n class s t a b = by (cases_lt a.place b.place) (cases_lt b.place a.place) where
  by : (a.place < b.place) ⊎ (b.place ≤ a.place) → (b.place < a.place) ⊎ (a.place ≤ b.place) → s ≡ t
  by (inl l) other = absurd (b.first a.place l a.here)
  by (inr m) (inl l) = absurd (a.first b.place l b.here)
  by (inr m) (inr l) =
      let e : a.place ≡ b.place = omega (arith, m, l) in
      stands_same (terminals n) b.place s t (subst (λ (k : ℕ). Stands (terminals n) k s) e a.stands) b.stands

names_same : (n : Netlist) (class : ℕ) (xs ys : List Name) → HasNamesOfLeast n class xs → HasNamesOfLeast n class ys → xs ≡ ys
names_same n class xs ys a b = a.named ∙ ap terminal_names (least_same n class a.terminal b.terminal a.least b.least) ∙ sym b.named

first_same : (n : Netlist) (test : ℕ → Bool) (c d : ℕ) → IsFirstClass n test c → IsFirstClass n test d → c ≡ d
first_same n test c d a b = by (cases_lt c d) (cases_lt d c) where
  by : (c < d) ⊎ (d ≤ c) → (d < c) ⊎ (c ≤ d) → c ≡ d
  by (inl l) other = let both : true ≡ false = sym a.passes ∙ b.first c l in absurd cc
  by (inr m) (inl l) = let both : true ≡ false = sym b.passes ∙ a.first d l in absurd cc
  by (inr m) (inr l) = omega (arith, m, l)

-- of two kinds one stands before the other
abbrev AreOrdered : ClassFault → ClassFault → Type 0
AreOrdered f g = (f ≡ g) ⊎ (In f (earlier g) ⊎ In g (earlier f))

ordered : (f g : ClassFault) → AreOrdered f g
ordered fault.Unconnected fault.Unconnected = inl refl
ordered fault.Unconnected fault.NoDriver = inr (inl here)
ordered fault.Unconnected fault.TwoDrivers = inr (inl here)
ordered fault.Unconnected fault.ClockUse = inr (inl here)
ordered fault.NoDriver fault.Unconnected = inr (inr here)
ordered fault.NoDriver fault.NoDriver = inl refl
ordered fault.NoDriver fault.TwoDrivers = inr (inl (there here))
ordered fault.NoDriver fault.ClockUse = inr (inl (there here))
ordered fault.TwoDrivers fault.Unconnected = inr (inr here)
ordered fault.TwoDrivers fault.NoDriver = inr (inr (there here))
ordered fault.TwoDrivers fault.TwoDrivers = inl refl
ordered fault.TwoDrivers fault.ClockUse = inr (inl (there (there here)))
ordered fault.ClockUse fault.Unconnected = inr (inr here)
ordered fault.ClockUse fault.NoDriver = inr (inr (there here))
ordered fault.ClockUse fault.TwoDrivers = inr (inr (there (there here)))
ordered fault.ClockUse fault.ClockUse = inl refl

-- no class has an earlier kind
none_before : (table : List ModelPins) (n : Netlist) (f g : ClassFault) (class : ℕ) → All (λ h. NoClass n (class_test table n h)) (earlier g) → In f (earlier g) → IsFirstClass n (class_test table n f) class → ⊥
none_before table n f g class none before first =
    let no : NoClass n (class_test table n f) = all_in (λ (h : ClassFault). NoClass n (class_test table n h)) (earlier g) f none before in
    let both : true ≡ false = sym first.passes ∙ no class first.inside in
    absurd cc

class_same : (table : List ModelPins) (n : Netlist) (k l : FaultKind) (xs ys : List Name) → IsClassFault table n k xs → IsClassFault table n l ys → (k ≡ l) × (xs ≡ ys)
class_same table n k l xs ys a b = by (ordered a.fault b.fault) where
  by : AreOrdered a.fault b.fault → (k ≡ l) × (xs ≡ ys)
  by (inl e) =
      let other : IsFirstClass n (class_test table n a.fault) b.class = subst (λ (f : ClassFault). IsFirstClass n (class_test table n f) b.class) (sym e) b.first in
      let class : a.class ≡ b.class = first_same n (class_test table n a.fault) a.class b.class a.first other in
      (a.is ∙ ap kind_of e ∙ sym b.is, names_same n b.class xs ys (subst (λ (c : ℕ). HasNamesOfLeast n c xs) class a.least) b.least)
  by (inr (inl h)) = absurd (none_before table n a.fault b.fault a.class b.none h a.first)
  by (inr (inr h)) = absurd (none_before table n b.fault a.fault b.class a.none h b.first)

-- ---- all faults

-- the same fault, or two rings
abbrev pub SameOrRings : FaultKind → FaultKind → List Name → List Name → Type 0
SameOrRings k l xs ys = ((k ≡ l) × (xs ≡ ys)) ⊎ ((k ≡ kind.Cycle) × (l ≡ kind.Cycle))

unsound_class : (table : List ModelPins) (n : Netlist) (k : FaultKind) (names : List Name) → HasSoundClasses table n → IsClassFault table n k names → ⊥
unsound_class table n k names sound a = let both : true ≡ false = sym a.first.passes ∙ sound a.fault a.class a.first.inside in absurd cc

pub one_fault : (table : List ModelPins) (n : Netlist) (k l : FaultKind) (xs ys : List Name) → IsFault table n k xs → IsFault table n l ys → SameOrRings k l xs ys
one_fault table n k l xs ys (by_class a) (by_class b) = inl (class_same table n k l xs ys a b)
one_fault table n k l xs ys (by_class a) (by_ring ring sound is named cycle) = absurd (unsound_class table n k xs sound a)
one_fault table n k l xs ys (by_ring ring sound is named cycle) (by_class b) = absurd (unsound_class table n l ys sound b)
one_fault table n k l xs ys (by_ring ring sound is named cycle) (by_ring other well also called closed) = inr (cycle, closed)

-- ---- netlists that are alike

same_class_fault : (table : List ModelPins) (n : Netlist) (models : List (List ℕ)) (k : FaultKind) (names : List Name) → IsClassFault table (with_models n models) k names → IsClassFault table n k names
same_class_fault table n models k names c = record {
  fault = c.fault;
  is = c.is;
  none = c.none;
  class = c.class;
  first = record { inside = c.first.inside; passes = c.first.passes; first = c.first.first };
  least = record {
    terminal = c.least.terminal;
    least = record { place = c.least.least.place; stands = c.least.least.stands; here = c.least.least.here; first = c.least.least.first };
    named = c.least.named;
  };
}

same_fault : (table : List ModelPins) (n : Netlist) (models : List (List ℕ)) (k : FaultKind) (names : List Name) → IsFault table (with_models n models) k names → IsFault table n k names
same_fault table n models k names (by_class c) = by_class (same_class_fault table n models k names c)
same_fault table n models k names (by_ring ring sound is named cycle) = by_ring ring sound (same_ring table n models ring is) named cycle

pub fault_alike : (table : List ModelPins) (n m : Netlist) (k : FaultKind) (names : List Name) → AreAlike n m → IsFault table m k names → IsFault table n k names
fault_alike table n m k names e fault = same_fault table n m.models k names (subst (λ (x : Netlist). IsFault table x k names) e fault)
