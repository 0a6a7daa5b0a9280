-- How many terminals of each role a class has, by a function that gives the class of each terminal.
use Rattle.std.proofs.Common.{◌≡◌, ◌≢◌, ◌⊎◌, inl, inr, ℕ, ◌+◌, ◌<◌, ◌≤◌, Bool, true, false, cond, not, ◌&&◌, ◌||◌, List, [], ◌∷◌, ◌++◌, map, nat_eq, refl, sym, ap, ◌∙◌, subst, arith}
use Rattle.std.specs.Prelude.{nat_le, nat_lt}
use Rattle.std.proofs.lemmas.Bool.{cases_lt, eqb-true, eq-eqb}
use Rattle.std.proofs.lemmas.Bool.Decides.{nat_tests}
use Rattle.vlsi_base.specs.declared.name.Terminal.{Terminal}
use Rattle.vlsi_base.specs.Member.{In, here, there, AllDifferent}
use Rattle.cell_model.proofs.Members.{In-map}
use Rattle.net_core.specs.declared.tally.Role.{Role}
use Rattle.net_core.specs.declared.tally.Role.TheVariants as role
use Rattle.net_core.specs.declared.tally.Tally.{Tally}
use Rattle.net_core.specs.declared.tally.ClassFault.{ClassFault}
use Rattle.net_core.specs.declared.tally.ClassFault.TheVariants as fault
use Rattle.loon_fanout.proofs.Picking.{is_false}
use Rattle.net_right.proofs.Tallies.{in_class, input_port, output_port, input_pin, clock_pin}
use Rattle.net_core.specs.Checks.{with_one, no_terminals, tally_of, drivers, is_unconnected, is_undriven, is_driven_twice, is_misused_clock, has_fault}

-- a terminal with its role
pub record Mark : Type 0 where
  pub terminal : Terminal
  pub role : Role

abbrev pub members : (Terminal → ℕ) → List Mark → List (Role × ℕ)
members f ms = map (λ m. in_class m.role (f m.terminal)) ms

abbrev pub tally_in : (Terminal → ℕ) → List Mark → ℕ → Tally
tally_in f ms c = tally_of (members f ms) c

-- a number of a tally that a role adds to
pub record Counts (many : Tally → ℕ) (adds : Role → ℕ) : Type 0 where
  pub more : (r : Role) (t : Tally) → many (with_one r t) ≡ many t + adds r
  pub none : many no_terminals ≡ 0

module _ (many : Tally → ℕ) (adds : Role → ℕ) (h : Counts many adds) where
  head : (f : Terminal → ℕ) (m : Mark) (ms : List Mark) (c : ℕ) → many (tally_in f (m ∷ ms) c) ≡ many (tally_in f ms c) + cond (nat_eq (f m.terminal) c) (adds m.role) 0
  head f m ms c = by (nat_eq (f m.terminal) c) where
    by : (b : Bool) → many (cond b (with_one m.role (tally_in f ms c)) (tally_in f ms c)) ≡ many (tally_in f ms c) + cond b (adds m.role) 0
    by true = h.more m.role (tally_in f ms c)
    by false = omega arith

  head_in : (f : Terminal → ℕ) (m : Mark) (ms : List Mark) (c : ℕ) → f m.terminal ≡ c → many (tally_in f (m ∷ ms) c) ≡ many (tally_in f ms c) + adds m.role
  head_in f m ms c e = head f m ms c ∙ ap (λ b. many (tally_in f ms c) + cond b (adds m.role) 0) (eq-eqb (f m.terminal) c e)

  pub joined : (f : Terminal → ℕ) (xs ys : List Mark) (c : ℕ) → many (tally_in f (xs ++ ys) c) ≡ many (tally_in f xs c) + many (tally_in f ys c)
  joined f [] ys c = let z = h.none in omega (arith, z)
  joined f (m ∷ xs) ys c =
      let a = head f m (xs ++ ys) c in
      let b = head f m xs c in
      let r = joined f xs ys c in
      omega (arith, a, b, r)

  pub nowhere : (f : Terminal → ℕ) (ms : List Mark) (c : ℕ) → ((m : Mark) → In m ms → (adds m.role ≡ 0) ⊎ (f m.terminal ≢ c)) → many (tally_in f ms c) ≡ 0
  nowhere f [] c each = h.none
  nowhere f (m ∷ ms) c each = by (nowhere f ms c (λ x i. each x (there i))) (nat_eq (f m.terminal) c) refl (each m here) where
    by : many (tally_in f ms c) ≡ 0 → (b : Bool) → nat_eq (f m.terminal) c ≡ b → (adds m.role ≡ 0) ⊎ (f m.terminal ≢ c)
        → many (cond b (with_one m.role (tally_in f ms c)) (tally_in f ms c)) ≡ 0
    by rest true e (inl z) = let a = h.more m.role (tally_in f ms c) in omega (arith, a, z, rest)
    by rest true e (inr apart) = absurd (apart (eqb-true (f m.terminal) c e))
    by rest false e x = rest

  pub somewhere : (f : Terminal → ℕ) (ms : List Mark) (c : ℕ) (m : Mark) → In m ms → f m.terminal ≡ c → adds m.role ≤ many (tally_in f ms c)
  somewhere f (x ∷ ms) c m here e = let a = head_in f x ms c e in omega (arith, a)
  somewhere f (x ∷ ms) c m (there i) e = let a = head f x ms c in let r = somewhere f ms c m i e in omega (arith, a, r)
  somewhere f [] c m i e = elim i [ ]

  pub found : (f : Terminal → ℕ) (ms : List Mark) (c : ℕ) → 1 ≤ many (tally_in f ms c) → (m : Mark) × In m ms × (f m.terminal ≡ c) × (1 ≤ adds m.role)
  found f [] c l = absurd (let z = h.none in omega (arith, z, l))
  found f (m ∷ ms) c l = by (λ p. found f ms c p) (nat_eq (f m.terminal) c) refl (cases_lt 0 (adds m.role)) l where
    by : (1 ≤ many (tally_in f ms c) → (x : Mark) × In x ms × (f x.terminal ≡ c) × (1 ≤ adds x.role))
        → (b : Bool) → nat_eq (f m.terminal) c ≡ b → (0 < adds m.role) ⊎ (adds m.role ≤ 0) → 1 ≤ many (cond b (with_one m.role (tally_in f ms c)) (tally_in f ms c))
        → (x : Mark) × In x (m ∷ ms) × (f x.terminal ≡ c) × (1 ≤ adds x.role)
    by rest true e (inl some) p = (m, here, eqb-true (f m.terminal) c e, omega (arith, some))
    by rest true e (inr none) p = let a = h.more m.role (tally_in f ms c) in let r = rest (omega (arith, a, none, p)) in (r.0, there r.1, r.2, r.3)
    by rest false e x p = let r = rest p in (r.0, there r.1, r.2, r.3)

  pub unmoved : (f g : Terminal → ℕ) (ms : List Mark) (c : ℕ) → ((m : Mark) → In m ms → (adds m.role ≡ 0) ⊎ (f m.terminal ≡ g m.terminal)) → many (tally_in f ms c) ≡ many (tally_in g ms c)
  unmoved f g [] c each = refl
  unmoved f g (m ∷ ms) c each =
      let a = head f m ms c in
      let b = head g m ms c in
      let r = unmoved f g ms c (λ x i. each x (there i)) in
      let s : cond (nat_eq (f m.terminal) c) (adds m.role) 0 ≡ cond (nat_eq (g m.terminal) c) (adds m.role) 0 = by (each m here) in
      omega (arith, a, b, r, s) where
        zero_at : (b : Bool) → adds m.role ≡ 0 → cond b (adds m.role) 0 ≡ 0
        zero_at true z = z
        zero_at false z = refl

        by : (adds m.role ≡ 0) ⊎ (f m.terminal ≡ g m.terminal) → cond (nat_eq (f m.terminal) c) (adds m.role) 0 ≡ cond (nat_eq (g m.terminal) c) (adds m.role) 0
        by (inl z) = zero_at (nat_eq (f m.terminal) c) z ∙ sym (zero_at (nat_eq (g m.terminal) c) z)
        by (inr e) = ap (λ x. cond (nat_eq x c) (adds m.role) 0) e

  -- of different terminals only one counts
  pub only : (f : Terminal → ℕ) (ms : List Mark) (c : ℕ) (t : Terminal) → ((r : Role) → adds r ≤ 1) → AllDifferent (map (λ m. m.terminal) ms)
      → ((m : Mark) → In m ms → f m.terminal ≡ c → 1 ≤ adds m.role → m.terminal ≡ t) → many (tally_in f ms c) ≤ 1
  only f [] c t least d each = let z = h.none in omega (arith, z)
  only f (m ∷ ms) c t least d each = by (only f ms c t least d.1 (λ x i. each x (there i))) (nat_eq (f m.terminal) c) refl (cases_lt 0 (adds m.role)) where
    alone : f m.terminal ≡ c → 0 < adds m.role → many (tally_in f ms c) ≡ 0
    alone at some = nowhere f ms c (λ x i. other x i (cases_lt 0 (adds x.role))) where
      is : m.terminal ≡ t
      is = each m here at (omega (arith, some))

      other : (x : Mark) → In x ms → (0 < adds x.role) ⊎ (adds x.role ≤ 0) → (adds x.role ≡ 0) ⊎ (f x.terminal ≢ c)
      other x i (inl more) = inr (λ e.
          let same : x.terminal ≡ m.terminal = each x (there i) e (omega (arith, more)) ∙ sym is in
          d.0 (subst (λ (y : Terminal). In y (map (λ z. z.terminal) ms)) same (In-map (λ (z : Mark). z.terminal) x ms i)))
      other x i (inr none) = inl (omega (arith, none))

    by : many (tally_in f ms c) ≤ 1 → (b : Bool) → nat_eq (f m.terminal) c ≡ b → (0 < adds m.role) ⊎ (adds m.role ≤ 0)
        → many (cond b (with_one m.role (tally_in f ms c)) (tally_in f ms c)) ≤ 1
    by rest true e (inl some) =
        let a = h.more m.role (tally_in f ms c) in
        let z = alone (eqb-true (f m.terminal) c e) some in
        let l = least m.role in
        omega (arith, a, z, l)
    by rest true e (inr none) = let a = h.more m.role (tally_in f ms c) in omega (arith, a, none, rest)
    by rest false e x = rest

-- classes told in another way
pub told_alike : (f g : Terminal → ℕ) (ms : List Mark) (c d : ℕ) → ((m : Mark) → In m ms → nat_eq (f m.terminal) c ≡ nat_eq (g m.terminal) d) → tally_in f ms c ≡ tally_in g ms d
told_alike f g [] c d each = refl
told_alike f g (m ∷ ms) c d each =
    let r = told_alike f g ms c d (λ x i. each x (there i)) in
    ap (λ (b : Bool). cond b (with_one m.role (tally_in f ms c)) (tally_in f ms c)) (each m here)
    ∙ ap (λ (t : Tally). cond (nat_eq (g m.terminal) d) (with_one m.role t) t) r

-- ---- what is counted

abbrev pub output_pin : Role → ℕ
output_pin role.InputPort = 0
output_pin role.OutputPort = 0
output_pin role.InputPin = 0
output_pin role.ClockPin = 0
output_pin role.OutputPin = 1

pub input_ports : Counts (λ t. t.input_ports) input_port
input_ports = record { more = more; none = refl } where
  more : (r : Role) (t : Tally) → (with_one r t).input_ports ≡ t.input_ports + input_port r
  more role.InputPort t = omega arith
  more role.OutputPort t = omega arith
  more role.InputPin t = omega arith
  more role.ClockPin t = omega arith
  more role.OutputPin t = omega arith

pub output_ports : Counts (λ t. t.output_ports) output_port
output_ports = record { more = more; none = refl } where
  more : (r : Role) (t : Tally) → (with_one r t).output_ports ≡ t.output_ports + output_port r
  more role.InputPort t = omega arith
  more role.OutputPort t = omega arith
  more role.InputPin t = omega arith
  more role.ClockPin t = omega arith
  more role.OutputPin t = omega arith

pub input_pins : Counts (λ t. t.input_pins) input_pin
input_pins = record { more = more; none = refl } where
  more : (r : Role) (t : Tally) → (with_one r t).input_pins ≡ t.input_pins + input_pin r
  more role.InputPort t = omega arith
  more role.OutputPort t = omega arith
  more role.InputPin t = omega arith
  more role.ClockPin t = omega arith
  more role.OutputPin t = omega arith

pub clock_pins : Counts (λ t. t.clock_pins) clock_pin
clock_pins = record { more = more; none = refl } where
  more : (r : Role) (t : Tally) → (with_one r t).clock_pins ≡ t.clock_pins + clock_pin r
  more role.InputPort t = omega arith
  more role.OutputPort t = omega arith
  more role.InputPin t = omega arith
  more role.ClockPin t = omega arith
  more role.OutputPin t = omega arith

pub output_pins : Counts (λ t. t.output_pins) output_pin
output_pins = record { more = more; none = refl } where
  more : (r : Role) (t : Tally) → (with_one r t).output_pins ≡ t.output_pins + output_pin r
  more role.InputPort t = omega arith
  more role.OutputPort t = omega arith
  more role.InputPin t = omega arith
  more role.ClockPin t = omega arith
  more role.OutputPin t = omega arith

pub output_pin_least : (r : Role) → output_pin r ≤ 1
output_pin_least role.InputPort = omega arith
output_pin_least role.OutputPort = omega arith
output_pin_least role.InputPin = omega arith
output_pin_least role.ClockPin = omega arith
output_pin_least role.OutputPin = omega arith

pub is_input_pin : (r : Role) → 1 ≤ input_pin r → r ≡ role.InputPin
is_input_pin role.InputPort l = absurd (omega (arith, l))
is_input_pin role.OutputPort l = absurd (omega (arith, l))
is_input_pin role.InputPin l = refl
is_input_pin role.ClockPin l = absurd (omega (arith, l))
is_input_pin role.OutputPin l = absurd (omega (arith, l))

pub is_output_pin : (r : Role) → 1 ≤ output_pin r → r ≡ role.OutputPin
is_output_pin role.InputPort l = absurd (omega (arith, l))
is_output_pin role.OutputPort l = absurd (omega (arith, l))
is_output_pin role.InputPin l = absurd (omega (arith, l))
is_output_pin role.ClockPin l = absurd (omega (arith, l))
is_output_pin role.OutputPin l = refl

-- ---- a class without faults

pub record IsGood (clocks : ℕ) (t : Tally) : Type 0 where
  pub driven : 1 ≤ t.input_pins + t.clock_pins + t.output_ports → 1 ≤ t.input_ports + t.output_pins
  pub once : t.input_ports + t.output_pins ≤ 1
  pub clock : 1 ≤ t.clock_pins → (1 ≤ t.input_ports) × (clocks ≤ t.clock_pins) × (t.output_ports ≡ 0) × (t.input_pins ≡ 0)

-- it has a driver, and no clock pins
pub record IsFine (t : Tally) : Type 0 where
  pub driven : 1 ≤ t.input_ports + t.output_pins
  pub no_clock : t.clock_pins ≡ 0

both : (a b : Bool) → (a && b) ≡ true → (a ≡ true) × (b ≡ true)
both true true e = (refl, refl)
both true false e = absurd (cc e)
both false b e = absurd (cc e)

either : (a b : Bool) → (a || b) ≡ true → (a ≡ true) ⊎ (b ≡ true)
either true b e = inl refl
either false b e = inr e

and_false : (a b : Bool) → (a && b) ≡ false → a ≡ true → b ≡ false
and_false true b e h = e
and_false false b e h = absurd (cc h)

two : (a b : Bool) → a ≡ true → b ≡ true → (a && b) ≡ true
two true true e f = refl
two true false e f = absurd (cc f)
two false b e f = absurd (cc e)

neither : (a b : Bool) → (a || b) ≡ false → (a ≡ false) × (b ≡ false)
neither true true e = absurd (cc e)
neither true false e = absurd (cc e)
neither false b e = (refl, e)

le_holds : (a b : ℕ) → nat_le a b ≡ true → a ≤ b
le_holds a b e = grind (arith, nat_tests)

le_true : (a b : ℕ) → a ≤ b → nat_le a b ≡ true
le_true a b l = grind (arith, nat_tests)

le_fails : (a b : ℕ) → nat_le a b ≡ false → b < a
le_fails a b e = grind (arith, nat_tests)

lt_holds : (a b : ℕ) → nat_lt a b ≡ true → a < b
lt_holds a b e = grind (arith, nat_tests)

lt_fails : (a b : ℕ) → nat_lt a b ≡ false → b ≤ a
lt_fails a b e = grind (arith, nat_tests)

eq_fails : (a b : ℕ) → nat_eq a b ≡ false → a ≢ b
eq_fails a b e s = let yes = eq-eqb a b s in let no : true ≡ false = sym yes ∙ e in absurd (cc no)

module _ (clocks : ℕ) (t : Tally) where
  pub no_fault : IsGood clocks t → (f : ClassFault) → has_fault f clocks t ≡ false
  no_fault g fault.Unconnected = is_false (is_unconnected t) (λ e.
      let p = both (nat_eq (t.input_pins + t.clock_pins) 1) (nat_eq (t.input_ports + t.output_ports + t.output_pins) 0) e in
      let a = eqb-true (t.input_pins + t.clock_pins) 1 p.0 in
      let b = eqb-true (t.input_ports + t.output_ports + t.output_pins) 0 p.1 in
      let d = g.driven (omega (arith, a)) in
      absurd (omega (arith, b, d)))
  no_fault g fault.NoDriver = is_false (is_undriven t) (λ e.
      let p = both (not (is_unconnected t) && nat_le 1 (t.input_pins + t.clock_pins + t.output_ports)) (nat_eq (drivers t) 0) e in
      let q = both (not (is_unconnected t)) (nat_le 1 (t.input_pins + t.clock_pins + t.output_ports)) p.0 in
      let d = g.driven (le_holds 1 (t.input_pins + t.clock_pins + t.output_ports) q.1) in
      let z : t.input_ports + t.output_pins ≡ 0 = eqb-true (drivers t) 0 p.1 in
      absurd (omega (arith, d, z)))
  no_fault g fault.TwoDrivers = is_false (is_driven_twice t) (λ e.
      let two : 2 ≤ t.input_ports + t.output_pins = le_holds 2 (drivers t) e in
      let few = g.once in
      absurd (omega (arith, two, few)))
  no_fault g fault.ClockUse = is_false (is_misused_clock clocks t) (λ e.
      let p = both (nat_le 1 t.clock_pins) (nat_eq t.input_ports 0 || nat_lt t.clock_pins clocks || nat_le 1 t.output_ports || nat_le 1 t.input_pins) e in
      let c = g.clock (le_holds 1 t.clock_pins p.0) in
      let some = c.0 in let all = c.1 in let ports = c.2 in let pins = c.3 in
      elim (either (nat_eq t.input_ports 0 || nat_lt t.clock_pins clocks || nat_le 1 t.output_ports) (nat_le 1 t.input_pins) p.1) [
        | inr y ↦ let z = le_holds 1 t.input_pins y in absurd (omega (arith, z, pins))
        | inl b ↦ elim (either (nat_eq t.input_ports 0 || nat_lt t.clock_pins clocks) (nat_le 1 t.output_ports) b) [
          | inr x ↦ let z = le_holds 1 t.output_ports x in absurd (omega (arith, z, ports))
          | inl d ↦ elim (either (nat_eq t.input_ports 0) (nat_lt t.clock_pins clocks) d) [
            | inl a ↦ let z = eqb-true t.input_ports 0 a in absurd (omega (arith, z, some))
            | inr q ↦ let z = lt_holds t.clock_pins clocks q in absurd (omega (arith, z, all))
          ]
        ]
      ])

  pub good_of : ((f : ClassFault) → has_fault f clocks t ≡ false) → IsGood clocks t
  good_of none = record { driven = driven (cases_lt 0 (drivers t)); once = once; clock = clock } where
    once : t.input_ports + t.output_pins ≤ 1
    once = let l = le_fails 2 (drivers t) (none fault.TwoDrivers) in omega (arith, l)

    driven : (0 < drivers t) ⊎ (drivers t ≤ 0) → 1 ≤ t.input_pins + t.clock_pins + t.output_ports → 1 ≤ t.input_ports + t.output_pins
    driven (inl some) l = omega (arith, some)
    driven (inr zeros) l =
        let connected : not (is_unconnected t) ≡ true = ap not (none fault.Unconnected) in
        let read : nat_le 1 (t.input_pins + t.clock_pins + t.output_ports) ≡ true = le_true 1 (t.input_pins + t.clock_pins + t.output_ports) l in
        let first : (not (is_unconnected t) && nat_le 1 (t.input_pins + t.clock_pins + t.output_ports)) ≡ true = two (not (is_unconnected t)) (nat_le 1 (t.input_pins + t.clock_pins + t.output_ports)) connected read in
        let last = and_false (not (is_unconnected t) && nat_le 1 (t.input_pins + t.clock_pins + t.output_ports)) (nat_eq (drivers t) 0) (none fault.NoDriver) first in
        absurd (eq_fails (drivers t) 0 last (omega (arith, zeros)))

    clock : 1 ≤ t.clock_pins → (1 ≤ t.input_ports) × (clocks ≤ t.clock_pins) × (t.output_ports ≡ 0) × (t.input_pins ≡ 0)
    clock l =
        let all = and_false (nat_le 1 t.clock_pins) (nat_eq t.input_ports 0 || nat_lt t.clock_pins clocks || nat_le 1 t.output_ports || nat_le 1 t.input_pins) (none fault.ClockUse) (le_true 1 t.clock_pins l) in
        let a = neither (nat_eq t.input_ports 0 || nat_lt t.clock_pins clocks || nat_le 1 t.output_ports) (nat_le 1 t.input_pins) all in
        let b = neither (nat_eq t.input_ports 0 || nat_lt t.clock_pins clocks) (nat_le 1 t.output_ports) a.0 in
        let c = neither (nat_eq t.input_ports 0) (nat_lt t.clock_pins clocks) b.0 in
        let w = eq_fails t.input_ports 0 c.0 in
        let x = lt_fails t.clock_pins clocks c.1 in
        let y = le_fails 1 t.output_ports b.1 in
        let z = le_fails 1 t.input_pins a.1 in
        (some (cases_lt 0 t.input_ports) w, x, omega (arith, y), omega (arith, z)) where
          some : (0 < t.input_ports) ⊎ (t.input_ports ≤ 0) → t.input_ports ≢ 0 → 1 ≤ t.input_ports
          some (inl p) apart = omega (arith, p)
          some (inr p) apart = absurd (apart (omega (arith, p)))
