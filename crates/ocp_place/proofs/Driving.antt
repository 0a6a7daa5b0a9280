-- What drives a class of a netlist that passes its checks.
use Rattle.std.proofs.Common.{◌≡◌, ◌⊎◌, inl, inr, ℕ, zero, suc, ◌+◌, ◌<◌, ◌≤◌, Bool, true, false, cond, not, ◌&&◌, List, [], ◌∷◌, nat_eq, Some, None, sym, ap, ◌∙◌, subst, arith}
use Rattle.std.specs.Prelude.{nat_le}
use Rattle.std.proofs.lemmas.Bool.{cases_lt, eq-eqb}
use Rattle.std.proofs.lemmas.Bool.Decides.{nat_tests}
use Rattle.std.proofs.lemmas.Option.{same_Some, slice_get_within}
use Rattle.vlsi_base.specs.declared.name.Terminal.{Terminal}
use Rattle.net_core.specs.declared.pins.ModelPins.{ModelPins}
use Rattle.net_core.specs.declared.tally.Role.{Role}
use Rattle.net_core.specs.declared.tally.Role.TheVariants as role
use Rattle.net_core.specs.declared.tally.Tally.{Tally}
use Rattle.net_core.specs.declared.tally.ClassFault.TheVariants as fault
use Rattle.net_core.specs.Places.{Stands}
use Rattle.net_core.specs.Netlist.{Netlist, IsNetlist, terminals, HasClass}
use Rattle.net_core.specs.Checks.{Fits, HasSoundClasses, roles, tally, drivers, is_unconnected, is_undriven}
use Rattle.net_core.proofs.Standing.{stands_same}
use Rattle.net_core.proofs.Finishing.{netlist_terminals_once}
use Rattle.net_core.proofs.Namings.{turn_reached}
use Rattle.net_core.proofs.Rings.{class_below, at_place}
use Rattle.net_core.proofs.Classes.{roles_length}
use Rattle.net_right.proofs.Lists.{zip_place}
use Rattle.net_right.proofs.Tallies.{in_class, weighed, drives, output_port, input_pin, clock_pin, drivers_are, output_ports_are, input_pins_are, clock_pins_are, some_weigh, weighs_place}
use Rattle.net_right.proofs.Places.{Does, Placed, members, member_at, member_place}

abbrev class_of : Role × ℕ → ℕ
class_of m = m.1

abbrev role_of : Role × ℕ → Role
role_of m = m.0

-- what stands at two places of a class weighs as much as both
two_places : (w : Role → ℕ) (ms : List (Role × ℕ)) (c j k : ℕ) (r s : Role) → j < k → Stands ms j (in_class r c) → Stands ms k (in_class s c) → w r + w s ≤ weighed w ms c
two_places w [] c j k r s lt p q = let n : None ≡ Some (in_class r c) = p in absurd cc
two_places w (m ∷ ms) c zero zero r s lt p q = absurd (omega (arith, lt))
two_places w (m ∷ ms) c (suc j) zero r s lt p q = absurd (omega (arith, lt))
two_places w (m ∷ ms) c zero (suc k) r s lt p q =
    let same = same_Some m (in_class r c) p in
    let rest = weighs_place w ms c k s q in
    let e : cond (nat_eq m.1 c) (w m.0 + weighed w ms c) (weighed w ms c) ≡ w m.0 + weighed w ms c =
    ap (λ b. cond b (w m.0 + weighed w ms c) (weighed w ms c)) (eq-eqb m.1 c (ap class_of same)) in
    let f : w m.0 ≡ w r = ap (λ (x : Role × ℕ). w (role_of x)) same in
    omega (arith, rest, e, f)
two_places w (m ∷ ms) c (suc j) (suc k) r s lt p q = by (nat_eq m.1 c) (two_places w ms c j k r s (omega (arith, lt)) p q) where
  by : (b : Bool) → w r + w s ≤ weighed w ms c → w r + w s ≤ cond b (w m.0 + weighed w ms c) (weighed w ms c)
  by true h = omega (arith, h)
  by false h = h

three : (a b c : Bool) → a ≡ false → (not a && b && c) ≡ false → (b && c) ≡ false
three false b c e f = f
three true b c e f = absurd cc

-- a class that is read has a driver
enough : (t : Tally) → 1 ≤ t.input_pins + t.clock_pins + t.output_ports → is_unconnected t ≡ false → is_undriven t ≡ false → 1 ≤ drivers t
enough t l e f = by (cases_lt 0 (drivers t)) where
  by : (0 < drivers t) ⊎ (drivers t ≤ 0) → 1 ≤ drivers t
  by (inl s) = omega (arith, s)
  by (inr z) =
      let g : (nat_le 1 (t.input_pins + t.clock_pins + t.output_ports) && nat_eq (drivers t) 0) ≡ false = three (is_unconnected t) (nat_le 1 (t.input_pins + t.clock_pins + t.output_ports)) (nat_eq (drivers t) 0) e f in
      let a : nat_le 1 (t.input_pins + t.clock_pins + t.output_ports) ≡ true = grind (arith, nat_tests) in
      let b : nat_eq (drivers t) 0 ≡ true = eq-eqb (drivers t) 0 (omega (arith, z)) in
      let no : true ≡ false = sym (ap (λ x. x && nat_eq (drivers t) 0) a ∙ b) ∙ g in absurd cc

module _ (table : List ModelPins) (n : Netlist) (sound : IsNetlist n) (fits : Fits n table) (classes : HasSoundClasses table n) where
  -- where a terminal with its role stands among the members of its class
  member : (t : Terminal) (r : Role) (c : ℕ) (p : Placed table n t r) → HasClass n t c → Stands (members table n) p.place (in_class r c)
  member t r c p h =
      let e = netlist_terminals_once n sound h.0 p.place t h.1 p.terminal in
      member_place table n t r p c (subst (λ (k : ℕ). Stands n.classes k c) e h.2)

  -- no class has two drivers
  pub one_driver : (t u : Terminal) (r s : Role) (c : ℕ) → Placed table n t r → Placed table n u s → 1 ≤ drives r → 1 ≤ drives s → HasClass n t c → HasClass n u c → t ≡ u
  one_driver t u r s c p q dr ds ht hu = by (cases_lt p.place q.place) (cases_lt q.place p.place) where
    few : drivers (tally table n c) < 2
    few = at_most (classes fault.TwoDrivers c (class_below n sound t c ht)) where
      at_most : nat_le 2 (drivers (tally table n c)) ≡ false → drivers (tally table n c) < 2
      at_most e = grind (arith, nat_tests)

    weight : drivers (tally table n c) ≡ weighed drives (members table n) c
    weight = drivers_are (members table n) c

    by : (p.place < q.place) ⊎ (q.place ≤ p.place) → (q.place < p.place) ⊎ (p.place ≤ q.place) → t ≡ u
    by (inl lt) x = absurd (let w = two_places drives (members table n) c p.place q.place r s lt (member t r c p ht) (member u s c q hu) in omega (arith, w, few, weight, dr, ds))
    by (inr le) (inl lt) = absurd (let w = two_places drives (members table n) c q.place p.place s r lt (member u s c q hu) (member t r c p ht) in omega (arith, w, few, weight, dr, ds))
    by (inr le) (inr ge) =
        let e : p.place ≡ q.place = omega (arith, le, ge) in
        stands_same (terminals n) q.place t u (subst (λ (k : ℕ). Stands (terminals n) k t) e p.terminal) q.terminal

  -- what one terminal weighs, its class does
  role_weighs : (k c : ℕ) (r : Role) → c < n.count → Stands (members table n) k (in_class r c) → 1 ≤ drivers (tally table n c)
  role_weighs k c role.InputPort low s = let a = weighs_place drives (members table n) c k role.InputPort s in let b = drivers_are (members table n) c in omega (arith, a, b)
  role_weighs k c role.OutputPin low s = let a = weighs_place drives (members table n) c k role.OutputPin s in let b = drivers_are (members table n) c in omega (arith, a, b)
  role_weighs k c role.OutputPort low s =
      let a = weighs_place output_port (members table n) c k role.OutputPort s in let b = output_ports_are (members table n) c in
      enough (tally table n c) (omega (arith, a, b)) (classes fault.Unconnected c low) (classes fault.NoDriver c low)
  role_weighs k c role.InputPin low s =
      let a = weighs_place input_pin (members table n) c k role.InputPin s in let b = input_pins_are (members table n) c in
      enough (tally table n c) (omega (arith, a, b)) (classes fault.Unconnected c low) (classes fault.NoDriver c low)
  role_weighs k c role.ClockPin low s =
      let a = weighs_place clock_pin (members table n) c k role.ClockPin s in let b = clock_pins_are (members table n) c in
      enough (tally table n c) (omega (arith, a, b)) (classes fault.Unconnected c low) (classes fault.NoDriver c low)

  -- a terminal that drives a class
  pub record Driver (c : ℕ) : Type 0 where
    pub terminal : Terminal
    pub role : Role
    pub does : Does table n terminal role
    pub some : 1 ≤ drives role
    pub class : HasClass n terminal c

  -- each class has one
  pub some_driver : (c : ℕ) → c < n.count → Driver c
  some_driver c low =
      let w = turn_reached 0 n.count c n.classes sound.turns (omega arith) low in
      let inside = slice_get_within n.classes w.0 c w.1 in
      let each = sound.each in
      let many = roles_length table n fits in
      let r = at_place (roles table n) w.0 (omega (arith, inside, each, many)) in
      let weight = role_weighs w.0 c r.0 low (zip_place (roles table n) n.classes w.0 r.0 c r.1 w.1) in
      let same = drivers_are (members table n) c in
      let d = some_weigh drives (members table n) c (omega (arith, weight, same)) in
      let m = member_at table n fits d.place d.part c d.stands in
      record { terminal = m.terminal; role = d.part; does = m.doing; some = d.some; class = (d.place, m.stands, m.here) }
