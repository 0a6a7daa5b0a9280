-- Netlists whose classes have no fault, by what drives and what reads each class.
use Rattle.std.proofs.Common.{◌≡◌, ◌⊎◌, ◌↔◌, inl, inr, ℕ, zero, suc, ◌+◌, ◌<◌, ◌≤◌, Bool, true, false, not, cond, ◌&&◌, ◌||◌, List, [], ◌∷◌, zip, nat_eq, Some, None, refl, sym, ◌∙◌, ap, subst, arith}
use Rattle.std.specs.Prelude.{nat_le, nat_lt}
use Rattle.std.proofs.lemmas.Bool.{cases_lt, cases_eq, eqb-true, eq-eqb, ne_eqb, lt-leb, le-ltb, and_left, and_right, or_from}
use Rattle.std.proofs.lemmas.List.Sums.{sum_by-cons}
use Rattle.std.proofs.lemmas.Option.{same_Some, slice_get_within}
use Rattle.vlsi_base.specs.declared.name.Terminal.{Terminal}
use Rattle.net_core.specs.declared.pins.ModelPins.{ModelPins}
use Rattle.net_core.specs.declared.tally.Role.{Role}
use Rattle.net_core.specs.declared.tally.Role.TheVariants as role
use Rattle.net_core.specs.declared.tally.Tally.{Tally}
use Rattle.net_core.specs.declared.tally.ClassFault.TheVariants as fault
use Rattle.net_core.specs.Places.{Stands}
use Rattle.net_core.specs.Netlist.{Netlist, IsNetlist, port, pin_of, terminals, HasClass}
use Rattle.net_core.specs.Checks.{Fits, roles, tally, drivers, is_clock_pin, all_clocks, is_unconnected, class_test, HasSoundClasses}
use Rattle.net_core.proofs.Classes.{roles_length}
use Rattle.net_core.proofs.Finishing.{netlist_terminals_once}
use Rattle.net_core.proofs.Namings.{turn_reached}
use Rattle.net_core.proofs.Rings.{at_place, class_below}
use Rattle.net_core.proofs.Standing.{stands_same}
use Rattle.net_right.proofs.Lists.{zip_place}
use Rattle.net_right.proofs.Tallies.{in_class, weighed, drives, input_port, output_port, input_pin, clock_pin, drives_light, drivers_are, input_ports_are, output_ports_are, input_pins_are, clock_pins_are, Weighs, some_weigh, TwoWeigh, two_weigh, weighs_place, weightless, clocks_weigh}
use Rattle.net_right.proofs.Places.{Does, does_port, does_pin, Placed, port_placed, pin_placed, members, member_at, member_place}
use Rattle.loon_fanout.proofs.PassTallies.{IsGood, good_of}
use Rattle.loon_fanout.proofs.Terminals.{class_is}
use Rattle.scan_theory.specs.Scan.{class_in}

-- ---- roles

abbrev pub IsDriver : Role → Type 0
IsDriver role.InputPort = Unit {0}
IsDriver role.OutputPort = ⊥
IsDriver role.InputPin = ⊥
IsDriver role.ClockPin = ⊥
IsDriver role.OutputPin = Unit {0}

abbrev pub IsReader : Role → Type 0
IsReader role.InputPort = ⊥
IsReader role.OutputPort = Unit {0}
IsReader role.InputPin = Unit {0}
IsReader role.ClockPin = Unit {0}
IsReader role.OutputPin = ⊥

either : (r : Role) → IsDriver r ⊎ IsReader r
either role.InputPort = inl tt
either role.OutputPort = inr tt
either role.InputPin = inr tt
either role.ClockPin = inr tt
either role.OutputPin = inl tt

driver_weight : (r : Role) → IsDriver r → drives r ≡ 1
driver_weight role.InputPort h = refl
driver_weight role.OutputPort h = absurd h
driver_weight role.InputPin h = absurd h
driver_weight role.ClockPin h = absurd h
driver_weight role.OutputPin h = refl

weight_driver : (r : Role) → 1 ≤ drives r → IsDriver r
weight_driver role.InputPort h = tt
weight_driver role.OutputPort h = let e : 1 ≤ 0 = h in absurd (omega (arith, e))
weight_driver role.InputPin h = let e : 1 ≤ 0 = h in absurd (omega (arith, e))
weight_driver role.ClockPin h = let e : 1 ≤ 0 = h in absurd (omega (arith, e))
weight_driver role.OutputPin h = tt

port_weight : (r : Role) → 1 ≤ input_port r → r ≡ role.InputPort
port_weight role.InputPort h = refl
port_weight role.OutputPort h = let e : 1 ≤ 0 = h in absurd (omega (arith, e))
port_weight role.InputPin h = let e : 1 ≤ 0 = h in absurd (omega (arith, e))
port_weight role.ClockPin h = let e : 1 ≤ 0 = h in absurd (omega (arith, e))
port_weight role.OutputPin h = let e : 1 ≤ 0 = h in absurd (omega (arith, e))

clock_weight : (r : Role) → 1 ≤ clock_pin r → r ≡ role.ClockPin
clock_weight role.InputPort h = let e : 1 ≤ 0 = h in absurd (omega (arith, e))
clock_weight role.OutputPort h = let e : 1 ≤ 0 = h in absurd (omega (arith, e))
clock_weight role.InputPin h = let e : 1 ≤ 0 = h in absurd (omega (arith, e))
clock_weight role.ClockPin h = refl
clock_weight role.OutputPin h = let e : 1 ≤ 0 = h in absurd (omega (arith, e))

-- Terminals with these roles, in classes that are told by a function: no class has two drivers, what reads has a driver, and clock pins
-- are all in one class, which has no others but them and input ports.
pub record IsWired (Has : Terminal → Role → Type 0) (told : Terminal → ℕ) : Type 0 where
  pub one : (t u : Terminal) (x y : Role) → Has t x → Has u y → IsDriver x → IsDriver y → told t ≡ told u → t ≡ u
  pub driven : (t : Terminal) (x : Role) → Has t x → IsReader x → (u : Terminal) × (y : Role) × Has u y × IsDriver y × (told u ≡ told t)
  pub clock : (t u : Terminal) → Has t role.ClockPin → Has u role.ClockPin → told t ≡ told u
  pub alone : (t u : Terminal) (y : Role) → Has t role.ClockPin → Has u y → told u ≡ told t → (y ≡ role.ClockPin) ⊎ (y ≡ role.InputPort)

-- ---- weights

weighs_two : (w : Role → ℕ) (ms : List (Role × ℕ)) (c i j : ℕ) (x y : Role) → (i ≡ j → ⊥) → Stands ms i (in_class x c) → Stands ms j (in_class y c) → w x + w y ≤ weighed w ms c
weighs_two w [] c i j x y apart p q = let n : None ≡ Some (in_class x c) = p in absurd cc
weighs_two w (m ∷ ms) c zero zero x y apart p q = absurd (apart refl)
weighs_two w (m ∷ ms) c zero (suc j) x y apart p q =
    let e : m ≡ in_class x c = same_Some m (in_class x c) p in
    let rest = weighs_place w ms c j y q in
    by (nat_eq m.1 c) (eq-eqb m.1 c (ap (λ (v : Role × ℕ). v.1) e)) (ap (λ (v : Role × ℕ). w v.0) e) rest where
      by : (b : Bool) → b ≡ true → w m.0 ≡ w x → w y ≤ weighed w ms c → w x + w y ≤ cond b (w m.0 + weighed w ms c) (weighed w ms c)
      by true e f rest = let g : w x + w y ≤ w m.0 + weighed w ms c = omega (arith, f, rest) in g
      by false e f rest = absurd cc
weighs_two w (m ∷ ms) c (suc i) zero x y apart p q =
    let e : m ≡ in_class y c = same_Some m (in_class y c) q in
    let rest = weighs_place w ms c i x p in
    by (nat_eq m.1 c) (eq-eqb m.1 c (ap (λ (v : Role × ℕ). v.1) e)) (ap (λ (v : Role × ℕ). w v.0) e) rest where
      by : (b : Bool) → b ≡ true → w m.0 ≡ w y → w x ≤ weighed w ms c → w x + w y ≤ cond b (w m.0 + weighed w ms c) (weighed w ms c)
      by true e f rest = let g : w x + w y ≤ w m.0 + weighed w ms c = omega (arith, f, rest) in g
      by false e f rest = absurd cc
weighs_two w (m ∷ ms) c (suc i) (suc j) x y apart p q =
    by (nat_eq m.1 c) (weighs_two w ms c i j x y (λ e. apart (ap suc e)) p q) where
      by : (b : Bool) → w x + w y ≤ weighed w ms c → w x + w y ≤ cond b (w m.0 + weighed w ms c) (weighed w ms c)
      by true h = let g : w x + w y ≤ w m.0 + weighed w ms c = omega (arith, h) in g
      by false h = h

clock_is : (r : Role) → cond (is_clock_pin r) 1 0 ≡ clock_pin r
clock_is role.InputPort = refl
clock_is role.OutputPort = refl
clock_is role.InputPin = refl
clock_is role.ClockPin = refl
clock_is role.OutputPin = refl

one_more : (r : Role) (rs : List Role) → all_clocks (r ∷ rs) ≡ clock_pin r + all_clocks rs
one_more r rs = sum_by-cons (λ (x : Role). cond (is_clock_pin x) 1 0) r rs ∙ ap (λ (k : ℕ). k + all_clocks rs) (clock_is r)

-- no class has more clock pins than there are
at_most : (rs : List Role) (cs : List ℕ) (c : ℕ) → weighed clock_pin (zip rs cs) c ≤ all_clocks rs
at_most [] cs c = omega arith
at_most (r ∷ rs) [] c = let g : 0 ≤ all_clocks (r ∷ rs) = omega arith in g
at_most (r ∷ rs) (j ∷ cs) c = by (nat_eq j c) (at_most rs cs c) (one_more r rs) where
  by : (b : Bool) → weighed clock_pin (zip rs cs) c ≤ all_clocks rs → all_clocks (r ∷ rs) ≡ clock_pin r + all_clocks rs
      → cond b (clock_pin r + weighed clock_pin (zip rs cs) c) (weighed clock_pin (zip rs cs) c) ≤ all_clocks (r ∷ rs)
  by true h e = let g : clock_pin r + weighed clock_pin (zip rs cs) c ≤ all_clocks (r ∷ rs) = omega (arith, h, e) in g
  by false h e = let g : weighed clock_pin (zip rs cs) c ≤ all_clocks (r ∷ rs) = omega (arith, h, e) in g

-- where a class has as many as there are, it has each
all_in : (rs : List Role) (cs : List ℕ) (c : ℕ) → all_clocks rs ≤ weighed clock_pin (zip rs cs) c → (k j : ℕ) → Stands rs k role.ClockPin → Stands cs k j → j ≡ c
all_in [] cs c h k j p q = let n : None ≡ Some role.ClockPin = p in absurd cc
all_in (r ∷ rs) [] c h k j p q = let n : None ≡ Some j = q in absurd cc
all_in (r ∷ rs) (i ∷ cs) c h zero j p q =
    by (nat_eq i c) refl (same_Some i j q) (ap clock_pin (same_Some r role.ClockPin p)) h (at_most rs cs c) (one_more r rs) where
      by : (b : Bool) → nat_eq i c ≡ b → i ≡ j → clock_pin r ≡ 1 → all_clocks (r ∷ rs) ≤ cond b (clock_pin r + weighed clock_pin (zip rs cs) c) (weighed clock_pin (zip rs cs) c)
          → weighed clock_pin (zip rs cs) c ≤ all_clocks rs → all_clocks (r ∷ rs) ≡ clock_pin r + all_clocks rs → j ≡ c
      by true e f one all few is = sym f ∙ eqb-true i c e
      by false e f one all few is = let g : all_clocks (r ∷ rs) ≤ weighed clock_pin (zip rs cs) c = all in absurd (omega (arith, g, one, few, is))
all_in (r ∷ rs) (i ∷ cs) c h (suc k) j p q =
    all_in rs cs c (by (nat_eq i c) h (one_more r rs)) k j p q where
      by : (b : Bool) → all_clocks (r ∷ rs) ≤ cond b (clock_pin r + weighed clock_pin (zip rs cs) c) (weighed clock_pin (zip rs cs) c)
          → all_clocks (r ∷ rs) ≡ clock_pin r + all_clocks rs → all_clocks rs ≤ weighed clock_pin (zip rs cs) c
      by true all is = let g : all_clocks (r ∷ rs) ≤ clock_pin r + weighed clock_pin (zip rs cs) c = all in omega (arith, g, is)
      by false all is = let g : all_clocks (r ∷ rs) ≤ weighed clock_pin (zip rs cs) c = all in omega (arith, g, is)

-- ---- terminals with roles

module _ (table : List ModelPins) (n : Netlist) (is : IsNetlist n) (fits : Fits n table) where
  pub placed : (t : Terminal) (r : Role) → Does table n t r → Placed table n t r
  placed t r (does_port p h e f) = subst (λ (x : Terminal). Placed table n x r) (sym e) (subst (λ (x : Role). Placed table n (port p.name) x) (sym f) (port_placed table n fits p h))
  placed t r (does_pin i q h g e f) =
      subst (λ (x : Terminal). Placed table n x r) (sym e) (subst (λ (x : Role). Placed table n (pin_of i.name q.name) x) (sym f) (pin_placed table n fits i q h g))

  -- the class at a place of terminals
  class_at : (k : ℕ) (t : Terminal) → Stands (terminals n) k t → (c : ℕ) × Stands n.classes k c
  class_at k t s =
      let low = slice_get_within (terminals n) k t s in
      let many = is.each in
      at_place n.classes k (omega (arith, low, many))

  pub class_of : (k : ℕ) (t : Terminal) (c : ℕ) → Stands (terminals n) k t → Stands n.classes k c → class_in n t ≡ c
  class_of k t c p q = class_is (terminals n) n.classes t k c (netlist_terminals_once n is) p q

  -- each terminal that is there is in its class
  pub in_its : (k : ℕ) (t : Terminal) → Stands (terminals n) k t → Stands n.classes k (class_in n t)
  in_its k t s = let c = class_at k t s in subst (λ (x : ℕ). Stands n.classes k x) (sym (class_of k t c.0 s c.1)) c.1

  pub has : (t : Terminal) (r : Role) → Does table n t r → HasClass n t (class_in n t)
  has t r d = let h = placed t r d in (h.place, h.terminal, in_its h.place t h.terminal)

  pub told_below : (t : Terminal) (r : Role) → Does table n t r → class_in n t < n.count
  told_below t r d = class_below n is t (class_in n t) (has t r d)

  -- a terminal has one role
  pub role_once : (t : Terminal) (x y : Role) → Does table n t x → Does table n t y → x ≡ y
  role_once t x y p q =
      let a = placed t x p in
      let b = placed t y q in
      let same = netlist_terminals_once n is a.place b.place t a.terminal b.terminal in
      stands_same (roles table n) b.place x y (subst (λ (k : ℕ). Stands (roles table n) k x) same a.part) b.part

  member : (t : Terminal) (r : Role) (h : Placed table n t r) → Stands (members table n) h.place (in_class r (class_in n t))
  member t r h = member_place table n t r h (class_in n t) (in_its h.place t h.terminal)

  module _ (sound : HasSoundClasses table n) where
    clocks : ℕ
    clocks = all_clocks (roles table n)

    good : (c : ℕ) → c < n.count → IsGood (all_clocks (roles table n)) (tally table n c)
    good c low = good_of (all_clocks (roles table n)) (tally table n c) (λ f. sound f c low)

    good_at : (t : Terminal) (r : Role) → Does table n t r → IsGood (all_clocks (roles table n)) (tally table n (class_in n t))
    good_at t r d = good (class_in n t) (told_below t r d)

    one : (t u : Terminal) (x y : Role) → Does table n t x → Does table n u y → IsDriver x → IsDriver y → class_in n t ≡ class_in n u → t ≡ u
    one t u x y p q dx dy e =
        let a = placed t x p in
        let b = placed u y q in
        elim (cases_eq a.place b.place) [
          | inl same ↦ stands_same (terminals n) b.place t u (subst (λ (k : ℕ). Stands (terminals n) k t) same a.terminal) b.terminal
          | inr apart ↦
              let two = weighs_two drives (members table n) (class_in n t) a.place b.place x y apart (member t x a)
              (subst (λ (k : ℕ). Stands (members table n) b.place (in_class y k)) (sym e) (member u y b)) in
              let once : drivers (tally table n (class_in n t)) ≤ 1 = (good_at t x p).once in
              let are : drivers (tally table n (class_in n t)) ≡ weighed drives (members table n) (class_in n t) = drivers_are (members table n) (class_in n t) in
              let wx = driver_weight x dx in
              let wy = driver_weight y dy in
              absurd (omega (arith, two, once, are, wx, wy))
        ]

    -- a class that is read has a driver
    is_read : (t : Terminal) (x : Role) (d : Does table n t x) → IsReader x → (k : Tally) → k ≡ tally table n (class_in n t) → 1 ≤ k.input_pins + k.clock_pins + k.output_ports
    is_read t role.InputPort d h k e = absurd h
    is_read t role.OutputPin d h k e = absurd h
    is_read t role.InputPin d h k e =
        let a = placed t role.InputPin d in
        let w : 1 ≤ weighed input_pin (members table n) (class_in n t) = weighs_place input_pin (members table n) (class_in n t) a.place role.InputPin (member t role.InputPin a) in
        let f : k.input_pins ≡ weighed input_pin (members table n) (class_in n t) = ap (λ (x : Tally). x.input_pins) e ∙ input_pins_are (members table n) (class_in n t) in
        omega (arith, w, f)
    is_read t role.ClockPin d h k e =
        let a = placed t role.ClockPin d in
        let w : 1 ≤ weighed clock_pin (members table n) (class_in n t) = weighs_place clock_pin (members table n) (class_in n t) a.place role.ClockPin (member t role.ClockPin a) in
        let f : k.clock_pins ≡ weighed clock_pin (members table n) (class_in n t) = ap (λ (x : Tally). x.clock_pins) e ∙ clock_pins_are (members table n) (class_in n t) in
        omega (arith, w, f)
    is_read t role.OutputPort d h k e =
        let a = placed t role.OutputPort d in
        let w : 1 ≤ weighed output_port (members table n) (class_in n t) = weighs_place output_port (members table n) (class_in n t) a.place role.OutputPort (member t role.OutputPort a) in
        let f : k.output_ports ≡ weighed output_port (members table n) (class_in n t) = ap (λ (x : Tally). x.output_ports) e ∙ output_ports_are (members table n) (class_in n t) in
        omega (arith, w, f)

    driven : (t : Terminal) (x : Role) → Does table n t x → IsReader x → (u : Terminal) × (y : Role) × Does table n u y × IsDriver y × (class_in n u ≡ class_in n t)
    driven t x d h =
        let some : 1 ≤ drivers (tally table n (class_in n t)) = (good_at t x d).driven (is_read t x d h (tally table n (class_in n t)) refl) in
        let are : drivers (tally table n (class_in n t)) ≡ weighed drives (members table n) (class_in n t) = drivers_are (members table n) (class_in n t) in
        let w = some_weigh drives (members table n) (class_in n t) (omega (arith, some, are)) in
        let m = member_at table n fits w.place w.part (class_in n t) w.stands in
        (m.terminal, w.part, m.doing, weight_driver w.part w.some, class_of w.place m.terminal (class_in n t) m.stands m.here)

    -- the class of a clock pin
    clocked : (t : Terminal) → Does table n t role.ClockPin → (k : Tally) → k ≡ tally table n (class_in n t)
        → (1 ≤ k.input_ports) × (all_clocks (roles table n) ≤ k.clock_pins) × (k.output_ports ≡ 0) × (k.input_pins ≡ 0)
    clocked t d k e =
        let a = placed t role.ClockPin d in
        let w : 1 ≤ weighed clock_pin (members table n) (class_in n t) = weighs_place clock_pin (members table n) (class_in n t) a.place role.ClockPin (member t role.ClockPin a) in
        let f : k.clock_pins ≡ weighed clock_pin (members table n) (class_in n t) = ap (λ (x : Tally). x.clock_pins) e ∙ clock_pins_are (members table n) (class_in n t) in
        (subst (λ (x : Tally). IsGood (all_clocks (roles table n)) x) (sym e) (good_at t role.ClockPin d)).clock (omega (arith, w, f))

    clock : (t u : Terminal) → Does table n t role.ClockPin → Does table n u role.ClockPin → class_in n t ≡ class_in n u
    clock t u p q =
        let all : all_clocks (roles table n) ≤ (tally table n (class_in n t)).clock_pins = (clocked t p (tally table n (class_in n t)) refl).1 in
        let are : (tally table n (class_in n t)).clock_pins ≡ weighed clock_pin (members table n) (class_in n t) = clock_pins_are (members table n) (class_in n t) in
        let b = placed u role.ClockPin q in
        sym (all_in (roles table n) n.classes (class_in n t) (omega (arith, all, are)) b.place (class_in n u) b.part (in_its b.place u b.terminal))

    -- no output pin is in it
    no_output : (t u : Terminal) → Does table n t role.ClockPin → Does table n u role.OutputPin → class_in n u ≡ class_in n t → ⊥
    no_output t u p q e =
        let some : 1 ≤ (tally table n (class_in n t)).input_ports = (clocked t p (tally table n (class_in n t)) refl).0 in
        let ports : (tally table n (class_in n t)).input_ports ≡ weighed input_port (members table n) (class_in n t) = input_ports_are (members table n) (class_in n t) in
        let w = some_weigh input_port (members table n) (class_in n t) (omega (arith, some, ports)) in
        let is_port = port_weight w.part w.some in
        let b = placed u role.OutputPin q in
        let there : Stands (members table n) b.place (in_class role.OutputPin (class_in n t)) =
        subst (λ (k : ℕ). Stands (members table n) b.place (in_class role.OutputPin k)) e (member u role.OutputPin b) in
        let here : Stands (members table n) w.place (in_class role.InputPort (class_in n t)) =
        subst (λ (x : Role). Stands (members table n) w.place (in_class x (class_in n t))) is_port w.stands in
        let apart : w.place ≡ b.place → ⊥ = λ s.
        let both = stands_same (members table n) b.place (in_class role.InputPort (class_in n t)) (in_class role.OutputPin (class_in n t))
        (subst (λ (k : ℕ). Stands (members table n) k (in_class role.InputPort (class_in n t))) s here) there in
        let never : role.InputPort ≡ role.OutputPin = ap (λ (v : Role × ℕ). v.0) both in absurd cc in
        let two : 2 ≤ weighed drives (members table n) (class_in n t) =
        weighs_two drives (members table n) (class_in n t) w.place b.place role.InputPort role.OutputPin apart here there in
        let once : drivers (tally table n (class_in n t)) ≤ 1 = (good_at t role.ClockPin p).once in
        let are : drivers (tally table n (class_in n t)) ≡ weighed drives (members table n) (class_in n t) = drivers_are (members table n) (class_in n t) in
        omega (arith, two, once, are)

    weighs_in : (w : Role → ℕ) (t u : Terminal) (y : Role) → Does table n u y → class_in n u ≡ class_in n t → w y ≤ weighed w (members table n) (class_in n t)
    weighs_in w t u y d e =
        let b = placed u y d in
        weighs_place w (members table n) (class_in n t) b.place y (subst (λ (k : ℕ). Stands (members table n) b.place (in_class y k)) e (member u y b))

    alone : (t u : Terminal) (y : Role) → Does table n t role.ClockPin → Does table n u y → class_in n u ≡ class_in n t → (y ≡ role.ClockPin) ⊎ (y ≡ role.InputPort)
    alone t u role.ClockPin p q e = inl refl
    alone t u role.InputPort p q e = inr refl
    alone t u role.OutputPin p q e = absurd (no_output t u p q e)
    alone t u role.OutputPort p q e =
        let none : (tally table n (class_in n t)).output_ports ≡ 0 = (clocked t p (tally table n (class_in n t)) refl).2 in
        let are : (tally table n (class_in n t)).output_ports ≡ weighed output_port (members table n) (class_in n t) = output_ports_are (members table n) (class_in n t) in
        let w : 1 ≤ weighed output_port (members table n) (class_in n t) = weighs_in output_port t u role.OutputPort q e in
        absurd (omega (arith, none, are, w))
    alone t u role.InputPin p q e =
        let none : (tally table n (class_in n t)).input_pins ≡ 0 = (clocked t p (tally table n (class_in n t)) refl).3 in
        let are : (tally table n (class_in n t)).input_pins ≡ weighed input_pin (members table n) (class_in n t) = input_pins_are (members table n) (class_in n t) in
        let w : 1 ≤ weighed input_pin (members table n) (class_in n t) = weighs_in input_pin t u role.InputPin q e in
        absurd (omega (arith, none, are, w))

    pub wired_of_sound : IsWired (Does table n) (class_in n)
    wired_of_sound = record { one = one; driven = driven; clock = clock; alone = alone }

-- ---- classes without faults

module _ (table : List ModelPins) (r : Netlist) (is : IsNetlist r) (fits : Fits r table) (told : Terminal → ℕ) (wired : IsWired (Does table r) told)
    (tells : (a b : Terminal) (j k : ℕ) → HasClass r a j → HasClass r b k → (j ≡ k) ↔ (told a ≡ told b)) where
  abbrev members_of : List (Role × ℕ)
  members_of = members table r

  -- a member of a class
  record Filled (k : ℕ) (x : Role) (c : ℕ) : Type 0 where
    terminal : Terminal
    doing : Does table r terminal x
    stands : Stands (terminals r) k terminal
    here : HasClass r terminal c

  filled : (k : ℕ) (x : Role) (c : ℕ) → Stands members_of k (in_class x c) → Filled k x c
  filled k x c s =
      let m = member_at table r fits k x c s in
      record { terminal = m.terminal; doing = m.doing; stands = m.stands; here = (k, m.stands, m.here) }

  -- a terminal with a role that is told to be in the class of another
  weighs_told : (w : Role → ℕ) (t u : Terminal) (y : Role) (c : ℕ) → HasClass r t c → Does table r u y → told u ≡ told t → 1 ≤ w y → Weighs w members_of c
  weighs_told w t u y c h d e some =
      let a = placed table r is fits u y d in
      let class_u = has table r is fits u y d in
      let same : class_in r u ≡ c = (tells u t (class_in r u) c class_u h).1 e in
      record {
        place = a.place;
        part = y;
        stands = subst (λ (k : ℕ). Stands members_of a.place (in_class y k)) same (member_place table r u y a (class_in r u) (in_its table r is fits a.place u a.terminal));
        some = some;
      }

  one_weight : (y : Role) → IsDriver y → 1 ≤ drives y
  one_weight y h = let e = driver_weight y h in omega (arith, e)

  driver_in : (t : Terminal) (x : Role) (c : ℕ) → Does table r t x → HasClass r t c → Weighs drives members_of c
  driver_in t x c d h = elim (either x) [
    | inl drive ↦ weighs_told drives t t x c h d refl (one_weight x drive)
    | inr read ↦ let g = wired.driven t x d read in weighs_told drives t g.0 g.1 c h g.2 g.4 (one_weight g.1 g.3)
  ]

  driver_of : (c : ℕ) → c < r.count → Weighs drives members_of c
  driver_of c low =
      let p = turn_reached 0 r.count c r.classes is.turns (omega arith) low in
      let inside = slice_get_within r.classes p.0 c p.1 in
      let many = is.each in
      let known = roles_length table r fits in
      let x = at_place (roles table r) p.0 (omega (arith, inside, many, known)) in
      let f = filled p.0 x.0 c (zip_place (roles table r) r.classes p.0 x.0 c x.1 p.1) in
      driver_in f.terminal x.0 c f.doing f.here

  driven_once : (c : ℕ) → TwoWeigh drives members_of c → ⊥
  driven_once c two =
      let a = filled two.one.place two.one.part c two.one.stands in
      let b = filled two.other.place two.other.part c two.other.stands in
      let same : a.terminal ≡ b.terminal = wired.one a.terminal b.terminal two.one.part two.other.part a.doing b.doing
      (weight_driver two.one.part two.one.some) (weight_driver two.other.part two.other.some) ((tells a.terminal b.terminal c c a.here b.here).0 refl) in
      two.apart (netlist_terminals_once r is two.one.place two.other.place b.terminal (subst (λ (t : Terminal). Stands (terminals r) two.one.place t) same a.stands) b.stands)

  some_driver : (c : ℕ) → c < r.count → 1 ≤ drivers (tally table r c)
  some_driver c low =
      let d = driver_of c low in
      let at_least = weighs_place drives members_of c d.place d.part d.stands in
      let weight = d.some in
      let are : drivers (tally table r c) ≡ weighed drives members_of c = drivers_are members_of c in
      omega (arith, at_least, weight, are)

  connected : (c : ℕ) → c < r.count → is_unconnected (tally table r c) ≡ false
  connected c low =
      let t = tally table r c in
      let some : 1 ≤ t.input_ports + t.output_pins = some_driver c low in
      and_right (nat_eq (t.input_pins + t.clock_pins) 1) (nat_eq (t.input_ports + t.output_ports + t.output_pins) 0)
      (ne_eqb (t.input_ports + t.output_ports + t.output_pins) 0 (λ e. omega (arith, some, e)))

  has_driver : (c : ℕ) → c < r.count → class_test table r fault.NoDriver c ≡ false
  has_driver c low =
      let t = tally table r c in
      let some : 1 ≤ drivers t = some_driver c low in
      and_right (not (is_unconnected t) && nat_le 1 (t.input_pins + t.clock_pins + t.output_ports)) (nat_eq (drivers t) 0) (ne_eqb (drivers t) 0 (λ e. omega (arith, some, e)))

  one_driven : (c : ℕ) → class_test table r fault.TwoDrivers c ≡ false
  one_driven c = elim (cases_lt (drivers (tally table r c)) 2) [
    | inl few ↦ lt-leb 2 (drivers (tally table r c)) few
    | inr many ↦
        let are : drivers (tally table r c) ≡ weighed drives members_of c = drivers_are members_of c in
        absurd (driven_once c (two_weigh drives drives_light members_of c (omega (arith, many, are))))
  ]

  -- a clock pin of a class that has one
  ticking : (c : ℕ) → 0 < (tally table r c).clock_pins → (t : Terminal) × Does table r t role.ClockPin × HasClass r t c
  ticking c some =
      let are : (tally table r c).clock_pins ≡ weighed clock_pin members_of c = clock_pins_are members_of c in
      let p = some_weigh clock_pin members_of c (omega (arith, some, are)) in
      let f = filled p.place p.part c p.stands in
      (f.terminal, subst (λ (x : Role). Does table r f.terminal x) (clock_weight p.part p.some) f.doing, f.here)

  all_here : (c : ℕ) (t : Terminal) → Does table r t role.ClockPin → HasClass r t c → all_clocks (roles table r) ≡ (tally table r c).clock_pins
  all_here c t d h =
      let many = roles_length table r fits in
      let each = is.each in
      clocks_weigh (roles table r) r.classes c (omega (arith, many, each)) here ∙ sym (clock_pins_are members_of c) where
        here : (k j : ℕ) → Stands (roles table r) k role.ClockPin → Stands r.classes k j → j ≡ c
        here k j p q =
            let f = filled k role.ClockPin j (zip_place (roles table r) r.classes k role.ClockPin j p q) in
            (tells f.terminal t j c f.here h).1 (wired.clock f.terminal t f.doing d)

  port_of_clock : (c : ℕ) (t : Terminal) → Does table r t role.ClockPin → HasClass r t c → Weighs input_port members_of c
  port_of_clock c t d h =
      let g = wired.driven t role.ClockPin d tt in
      elim (wired.alone t g.0 g.1 d g.2 g.4) [
        | inl ticks ↦ let never : IsDriver role.ClockPin = subst IsDriver ticks g.3 in absurd never
        | inr enters ↦ weighs_told input_port t g.0 g.1 c h g.2 g.4 (let e = ap input_port enters in omega (arith, e))
      ]

  nothing_else : (w : Role → ℕ) → w role.ClockPin ≡ 0 → w role.InputPort ≡ 0 → (c : ℕ) (t : Terminal) → Does table r t role.ClockPin → HasClass r t c → weighed w members_of c ≡ 0
  nothing_else w p q c t d h = weightless w members_of c (λ k x s.
      let f = filled k x c s in
      elim (wired.alone t f.terminal x d f.doing ((tells f.terminal t c c f.here h).0 refl)) [
        | inl ticks ↦ ap w ticks ∙ p
        | inr enters ↦ ap w enters ∙ q
      ])

  abbrev misused : Tally → Bool
  misused t = nat_eq t.input_ports 0 || nat_lt t.clock_pins (all_clocks (roles table r)) || nat_le 1 t.output_ports || nat_le 1 t.input_pins

  well_used : (c : ℕ) (u : Terminal) → Does table r u role.ClockPin → HasClass r u c → (t : Tally) → t ≡ tally table r c → misused t ≡ false
  well_used c u d h t e =
      let port_is = port_of_clock c u d h in
      let at_least = weighs_place input_port members_of c port_is.place port_is.part port_is.stands in
      let weight = port_is.some in
      let ports_are : t.input_ports ≡ weighed input_port members_of c = ap (λ (x : Tally). x.input_ports) e ∙ input_ports_are members_of c in
      let all_are : all_clocks (roles table r) ≡ t.clock_pins = all_here c u d h ∙ ap (λ (x : Tally). x.clock_pins) (sym e) in
      let outputs : t.output_ports ≡ 0 = ap (λ (x : Tally). x.output_ports) e ∙ output_ports_are members_of c ∙ nothing_else output_port refl refl c u d h in
      let inputs : t.input_pins ≡ 0 = ap (λ (x : Tally). x.input_pins) e ∙ input_pins_are members_of c ∙ nothing_else input_pin refl refl c u d h in
      or_from (nat_eq t.input_ports 0 || nat_lt t.clock_pins (all_clocks (roles table r)) || nat_le 1 t.output_ports) (nat_le 1 t.input_pins)
      (or_from (nat_eq t.input_ports 0 || nat_lt t.clock_pins (all_clocks (roles table r))) (nat_le 1 t.output_ports)
      (or_from (nat_eq t.input_ports 0) (nat_lt t.clock_pins (all_clocks (roles table r)))
      (ne_eqb t.input_ports 0 (λ z. omega (arith, at_least, weight, ports_are, z)))
      (le-ltb t.clock_pins (all_clocks (roles table r)) (omega (arith, all_are))))
      (lt-leb 1 t.output_ports (omega (arith, outputs))))
      (lt-leb 1 t.input_pins (omega (arith, inputs)))

  used_well : (c : ℕ) → class_test table r fault.ClockUse c ≡ false
  used_well c = elim (cases_lt 0 (tally table r c).clock_pins) [
    | inr none ↦ and_left (nat_le 1 (tally table r c).clock_pins) (misused (tally table r c)) (lt-leb 1 (tally table r c).clock_pins (omega (arith, none)))
    | inl some ↦
        let k = ticking c some in
        and_right (nat_le 1 (tally table r c).clock_pins) (misused (tally table r c)) (well_used c k.0 k.1 k.2 (tally table r c) refl)
  ]

  pub sound_of_wired : HasSoundClasses table r
  sound_of_wired fault.Unconnected c low = connected c low
  sound_of_wired fault.NoDriver c low = has_driver c low
  sound_of_wired fault.TwoDrivers c low = one_driven c
  sound_of_wired fault.ClockUse c low = used_well c
