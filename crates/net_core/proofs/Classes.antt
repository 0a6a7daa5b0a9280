-- The faults of a netlist's classes, from their tallies.
use Rattle.std.proofs.Common.{◌≡◌, ℕ, suc, ◌<◌, ◌≤◌, false, List, [], ◌∷◌, length, get_or, take, map, Some, None, refl, sym, ap, ◌∙◌, arith}
use Rattle.std.specs.List.{All, flat_map, zip}
use Rattle.std.proofs.lemmas.List.{length-map, length-append, get_or-take, length-take-le}
use Rattle.std.proofs.lemmas.List.Elements.{All-weaker}
use Rattle.vlsi_base.specs.declared.name.Name.{Name}
use Rattle.vlsi_base.specs.declared.name.Port.{Port}
use Rattle.vlsi_base.specs.declared.fault.FaultKind.{FaultKind}
use Rattle.net_core.specs.declared.pins.ModelPin.{ModelPin}
use Rattle.net_core.specs.declared.pins.ModelPins.{ModelPins}
use Rattle.net_core.specs.declared.tally.Role.{Role}
use Rattle.net_core.specs.declared.tally.Tally.{Tally}
use Rattle.net_core.specs.declared.tally.ClassFault.{ClassFault}
use Rattle.net_core.specs.Netlist.{Instance, Netlist, port, pin_of, pins_of, terminals}
use Rattle.net_core.specs.Checks.{pins_named, Fits, port_role, pin_role, roles, tally, all_clocks, has_fault, kind_of, earlier, class_test, NoClass, HasSoundClasses, IsClassFault, HasNamesOfLeast, AtMost, AreTallies, IsFirstFault}
use Rattle.net_core.proofs.Counting.{few_of}

pieces_same : (table : List ModelPins) (is : List Instance) → All (λ i. i.pins ≡ map (λ p. p.name) (pins_named table i.model)) is
    → length (flat_map (λ i. map pin_role (pins_named table i.model)) is) ≡ length (flat_map pins_of is)
pieces_same table [] all = refl
pieces_same table (i ∷ is) all =
    let a = length-append (map pin_role (pins_named table i.model)) (flat_map (λ (x : Instance). map pin_role (pins_named table x.model)) is) in
    let b = length-append (pins_of i) (flat_map pins_of is) in
    let m = length-map (pins_named table i.model) pin_role in
    let n = length-map i.pins (pin_of i.name) in
    let p : length i.pins ≡ length (map (λ (q : ModelPin). q.name) (pins_named table i.model)) = ap length (all 0 i (omega arith)) in
    let q = length-map (pins_named table i.model) (λ (q : ModelPin). q.name) in
    let r = pieces_same table is (λ k d l. all (suc k) d (omega (arith, l))) in
    omega (arith, a, b, m, n, p, q, r)

pub roles_length : (table : List ModelPins) (n : Netlist) → Fits n table → length (roles table n) ≡ length (terminals n)
roles_length table n fits =
    let a = length-append (map port_role n.ports) (flat_map (λ (i : Instance). map pin_role (pins_named table i.model)) n.instances) in
    let b = length-append (map (λ (p : Port). port p.name) n.ports) (flat_map pins_of n.instances) in
    let m = length-map n.ports port_role in
    let k = length-map n.ports (λ (p : Port). port p.name) in
    let p = pieces_same table n.instances fits.pins in
    omega (arith, a, b, m, k, p)

pub all_few : (ms : List (Role × ℕ)) (tallies : List Tally) → AreTallies ms tallies → length ms ≤ 4294967295 → All (AtMost 4294967295) tallies
all_few ms tallies are few k d l = few_of ms tallies are few k (get_or tallies k d) l (are.each k d l ∙ sym (are.each k (get_or tallies k d) l))

-- what is known where a fault is looked for
pub record Counted (table : List ModelPins) (n : Netlist) (tallies : List Tally) (clocks : ℕ) : Type 0 where
  pub many : length tallies ≡ n.count
  pub are : AreTallies (zip (roles table n) n.classes) tallies
  pub clocks_are : clocks ≡ all_clocks (roles table n)

test_is : (table : List ModelPins) (n : Netlist) (tallies : List Tally) (clocks : ℕ) → Counted table n tallies clocks → (f : ClassFault) (c : ℕ) (d : Tally) → c < length tallies → class_test table n f c ≡ has_fault f clocks (get_or tallies c d)
test_is table n tallies clocks counted f c d l =
    ap (λ k. has_fault f k (tally table n c)) (sym counted.clocks_are) ∙ ap (has_fault f clocks) (sym (counted.are.each c d l))

no_class : (table : List ModelPins) (n : Netlist) (tallies : List Tally) (clocks : ℕ) → Counted table n tallies clocks → (f : ClassFault) → All (λ t. has_fault f clocks t ≡ false) tallies → NoClass n (class_test table n f)
no_class table n tallies clocks counted f all c l =
    let less : c < length tallies = omega (arith, l, counted.many) in
    test_is table n tallies clocks counted f c (tally table n c) less ∙ all c (tally table n c) less

pub sound_classes : (table : List ModelPins) (n : Netlist) (tallies : List Tally) (clocks : ℕ) → Counted table n tallies clocks → IsFirstFault tallies clocks None → HasSoundClasses table n
sound_classes table n tallies clocks counted none f = no_class table n tallies clocks counted f (none f)

pub class_inside : (tallies : List Tally) (clocks : ℕ) (fault : ClassFault) (class : ℕ) → IsFirstFault tallies clocks (Some (fault, class)) → class < length tallies
class_inside tallies clocks fault class found = found.1.0

pub class_fault : (table : List ModelPins) (n : Netlist) (tallies : List Tally) (clocks : ℕ) → Counted table n tallies clocks → (f : ClassFault) (class : ℕ) → IsFirstFault tallies clocks (Some (f, class))
    → (k : FaultKind) (names : List Name) → k ≡ kind_of f → HasNamesOfLeast n class names → IsClassFault table n k names
class_fault table n tallies clocks counted f class found k names is least = record {
  fault = f;
  is = is;
  none = All-weaker (λ (g : ClassFault). All (λ t. has_fault g clocks t ≡ false) tallies) (λ (g : ClassFault). NoClass n (class_test table n g)) (λ g all. no_class table n tallies clocks counted g all) (earlier f) found.0;
  class = class;
  first = record {
    inside = let l = found.1.0 in omega (arith, l, counted.many);
    passes = test_is table n tallies clocks counted f class (tally table n class) found.1.0 ∙ found.1.1 (tally table n class);
    first = λ c l. before c l;
  };
  least = least;
} where
  before : (c : ℕ) → c < class → class_test table n f c ≡ false
  before c l =
      let w : class < length tallies = found.1.0 in
      let m : length (take class tallies) ≡ class = length-take-le class tallies (omega (arith, w)) in
      let none = found.1.2 c (tally table n c) (omega (arith, l, m)) in
      test_is table n tallies clocks counted f c (tally table n c) (omega (arith, l, w)) ∙ ap (has_fault f clocks) (sym (get_or-take class tallies c (tally table n c) l)) ∙ none
