-- What a tally counts, as a weight of each role.
use Rattle.std.proofs.Common.{◌≡◌, inl, inr, ℕ, zero, suc, ◌+◌, ◌<◌, ◌≤◌, Bool, true, false, cond, List, [], ◌∷◌, length, zip, nat_eq, Some, None, refl, sym, ap, ◌∙◌, arith}
use Rattle.std.proofs.lemmas.Bool.{cases_lt, eqb-true, eq-eqb}
use Rattle.std.proofs.lemmas.List.Sums.{sum_by-cons}
use Rattle.std.proofs.lemmas.Option.{same_Some}
use Rattle.net_core.specs.declared.tally.Role.{Role}
use Rattle.net_core.specs.declared.tally.Role.TheVariants as role
use Rattle.net_core.specs.declared.tally.Tally.{Tally}
use Rattle.net_core.specs.Places.{Stands}
use Rattle.net_core.specs.Checks.{with_one, no_terminals, tally_of, is_clock_pin, all_clocks, drivers}

abbrev pub in_class : Role → ℕ → Role × ℕ
in_class r c = (r, c)

-- the weight of a class
abbrev pub weighed : (Role → ℕ) → List (Role × ℕ) → ℕ → ℕ
weighed w [] c = 0
weighed w (m ∷ ms) c = cond (nat_eq m.1 c) (w m.0 + weighed w ms c) (weighed w ms c)

-- a number of a tally, where one terminal more adds its weight
tallied : (g : Tally → ℕ) (w : Role → ℕ) → g no_terminals ≡ 0 → ((r : Role) (t : Tally) → g (with_one r t) ≡ w r + g t) → (ms : List (Role × ℕ)) (c : ℕ) → g (tally_of ms c) ≡ weighed w ms c
tallied g w none one [] c = none
tallied g w none one (m ∷ ms) c = by (nat_eq m.1 c) (tallied g w none one ms c) where
  by : (b : Bool) → g (tally_of ms c) ≡ weighed w ms c → g (cond b (with_one m.0 (tally_of ms c)) (tally_of ms c)) ≡ cond b (w m.0 + weighed w ms c) (weighed w ms c)
  by true e = one m.0 (tally_of ms c) ∙ ap (λ x. w m.0 + x) e
  by false e = e

-- ---- the weights of the tally's numbers

abbrev pub drives : Role → ℕ
drives role.InputPort = 1
drives role.OutputPort = 0
drives role.InputPin = 0
drives role.ClockPin = 0
drives role.OutputPin = 1

abbrev pub input_port : Role → ℕ
input_port role.InputPort = 1
input_port role.OutputPort = 0
input_port role.InputPin = 0
input_port role.ClockPin = 0
input_port role.OutputPin = 0

abbrev pub output_port : Role → ℕ
output_port role.InputPort = 0
output_port role.OutputPort = 1
output_port role.InputPin = 0
output_port role.ClockPin = 0
output_port role.OutputPin = 0

abbrev pub input_pin : Role → ℕ
input_pin role.InputPort = 0
input_pin role.OutputPort = 0
input_pin role.InputPin = 1
input_pin role.ClockPin = 0
input_pin role.OutputPin = 0

abbrev pub clock_pin : Role → ℕ
clock_pin role.InputPort = 0
clock_pin role.OutputPort = 0
clock_pin role.InputPin = 0
clock_pin role.ClockPin = 1
clock_pin role.OutputPin = 0

pub drives_light : (r : Role) → drives r ≤ 1
drives_light role.InputPort = omega arith
drives_light role.OutputPort = omega arith
drives_light role.InputPin = omega arith
drives_light role.ClockPin = omega arith
drives_light role.OutputPin = omega arith

one_driver : (r : Role) (t : Tally) → drivers (with_one r t) ≡ drives r + drivers t
one_driver role.InputPort t = let e : t.input_ports + 1 + t.output_pins ≡ 1 + (t.input_ports + t.output_pins) = omega arith in e
one_driver role.OutputPort t = let e : t.input_ports + t.output_pins ≡ 0 + (t.input_ports + t.output_pins) = omega arith in e
one_driver role.InputPin t = let e : t.input_ports + t.output_pins ≡ 0 + (t.input_ports + t.output_pins) = omega arith in e
one_driver role.ClockPin t = let e : t.input_ports + t.output_pins ≡ 0 + (t.input_ports + t.output_pins) = omega arith in e
one_driver role.OutputPin t = let e : t.input_ports + (t.output_pins + 1) ≡ 1 + (t.input_ports + t.output_pins) = omega arith in e

-- a number as it was, and with one more
same : (n : ℕ) → n ≡ 0 + n
same n = omega arith

more : (n : ℕ) → n + 1 ≡ 1 + n
more n = omega arith

one_input_port : (r : Role) (t : Tally) → (with_one r t).input_ports ≡ input_port r + t.input_ports
one_input_port role.InputPort t = more t.input_ports
one_input_port role.OutputPort t = same t.input_ports
one_input_port role.InputPin t = same t.input_ports
one_input_port role.ClockPin t = same t.input_ports
one_input_port role.OutputPin t = same t.input_ports

one_output_port : (r : Role) (t : Tally) → (with_one r t).output_ports ≡ output_port r + t.output_ports
one_output_port role.InputPort t = same t.output_ports
one_output_port role.OutputPort t = more t.output_ports
one_output_port role.InputPin t = same t.output_ports
one_output_port role.ClockPin t = same t.output_ports
one_output_port role.OutputPin t = same t.output_ports

one_input_pin : (r : Role) (t : Tally) → (with_one r t).input_pins ≡ input_pin r + t.input_pins
one_input_pin role.InputPort t = same t.input_pins
one_input_pin role.OutputPort t = same t.input_pins
one_input_pin role.InputPin t = more t.input_pins
one_input_pin role.ClockPin t = same t.input_pins
one_input_pin role.OutputPin t = same t.input_pins

one_clock_pin : (r : Role) (t : Tally) → (with_one r t).clock_pins ≡ clock_pin r + t.clock_pins
one_clock_pin role.InputPort t = same t.clock_pins
one_clock_pin role.OutputPort t = same t.clock_pins
one_clock_pin role.InputPin t = same t.clock_pins
one_clock_pin role.ClockPin t = more t.clock_pins
one_clock_pin role.OutputPin t = same t.clock_pins

pub drivers_are : (ms : List (Role × ℕ)) (c : ℕ) → drivers (tally_of ms c) ≡ weighed drives ms c
drivers_are ms c = tallied (λ t. drivers t) drives refl one_driver ms c

pub input_ports_are : (ms : List (Role × ℕ)) (c : ℕ) → (tally_of ms c).input_ports ≡ weighed input_port ms c
input_ports_are ms c = tallied (λ t. t.input_ports) input_port refl one_input_port ms c

pub output_ports_are : (ms : List (Role × ℕ)) (c : ℕ) → (tally_of ms c).output_ports ≡ weighed output_port ms c
output_ports_are ms c = tallied (λ t. t.output_ports) output_port refl one_output_port ms c

pub input_pins_are : (ms : List (Role × ℕ)) (c : ℕ) → (tally_of ms c).input_pins ≡ weighed input_pin ms c
input_pins_are ms c = tallied (λ t. t.input_pins) input_pin refl one_input_pin ms c

pub clock_pins_are : (ms : List (Role × ℕ)) (c : ℕ) → (tally_of ms c).clock_pins ≡ weighed clock_pin ms c
clock_pins_are ms c = tallied (λ t. t.clock_pins) clock_pin refl one_clock_pin ms c

-- ---- weights and places

-- a place whose role weighs something
pub record Weighs (w : Role → ℕ) (ms : List (Role × ℕ)) (c : ℕ) : Type 0 where
  pub place : ℕ
  pub part : Role
  pub stands : Stands ms place (in_class part c)
  pub some : 1 ≤ w part

abbrev later : (w : Role → ℕ) (m : Role × ℕ) (ms : List (Role × ℕ)) (c : ℕ) → Weighs w ms c → Weighs w (m ∷ ms) c
later w m ms c h = record { place = suc h.place; part = h.part; stands = h.stands; some = h.some }

abbrev at_head : (w : Role → ℕ) (m : Role × ℕ) (ms : List (Role × ℕ)) (c : ℕ) → nat_eq m.1 c ≡ true → 0 < w m.0 → Weighs w (m ∷ ms) c
at_head w m ms c e some = record {
  place = 0;
  part = m.0;
  stands = ap (λ (k : ℕ). Some (in_class m.0 k)) (eqb-true m.1 c e);
  some = omega (arith, some);
}

pub some_weigh : (w : Role → ℕ) (ms : List (Role × ℕ)) (c : ℕ) → 1 ≤ weighed w ms c → Weighs w ms c
some_weigh w [] c h = let g : 1 ≤ 0 = h in absurd (omega (arith, g))
some_weigh w (m ∷ ms) c h = by (nat_eq m.1 c) refl (some_weigh w ms c) h where
  by : (b : Bool) → nat_eq m.1 c ≡ b → (1 ≤ weighed w ms c → Weighs w ms c) → 1 ≤ cond b (w m.0 + weighed w ms c) (weighed w ms c) → Weighs w (m ∷ ms) c
  by false e rest g = later w m ms c (rest g)
  by true e rest g =
      let both : 1 ≤ w m.0 + weighed w ms c = g in
      elim (cases_lt 0 (w m.0)) [
        | inl some ↦ at_head w m ms c e some
        | inr none ↦ later w m ms c (rest (omega (arith, both, none)))
      ]

-- two places whose roles weigh something
pub record TwoWeigh (w : Role → ℕ) (ms : List (Role × ℕ)) (c : ℕ) : Type 0 where
  pub one : Weighs w ms c
  pub other : Weighs w ms c
  pub apart : one.place ≡ other.place → ⊥

both_later : (w : Role → ℕ) (m : Role × ℕ) (ms : List (Role × ℕ)) (c : ℕ) → TwoWeigh w ms c → TwoWeigh w (m ∷ ms) c
both_later w m ms c t = record {
  one = later w m ms c t.one;
  other = later w m ms c t.other;
  apart = λ s. let e : suc t.one.place ≡ suc t.other.place = s in t.apart (omega (arith, e));
}

head_and_later : (w : Role → ℕ) (m : Role × ℕ) (ms : List (Role × ℕ)) (c : ℕ) → nat_eq m.1 c ≡ true → 0 < w m.0 → Weighs w ms c → TwoWeigh w (m ∷ ms) c
head_and_later w m ms c e some h = record {
  one = at_head w m ms c e some;
  other = later w m ms c h;
  apart = λ s. let f : 0 ≡ suc h.place = s in omega (arith, f);
}

pub two_weigh : (w : Role → ℕ) → ((r : Role) → w r ≤ 1) → (ms : List (Role × ℕ)) (c : ℕ) → 2 ≤ weighed w ms c → TwoWeigh w ms c
two_weigh w light [] c h = let g : 2 ≤ 0 = h in absurd (omega (arith, g))
two_weigh w light (m ∷ ms) c h = by (nat_eq m.1 c) refl (two_weigh w light ms c) h where
  by : (b : Bool) → nat_eq m.1 c ≡ b → (2 ≤ weighed w ms c → TwoWeigh w ms c) → 2 ≤ cond b (w m.0 + weighed w ms c) (weighed w ms c) → TwoWeigh w (m ∷ ms) c
  by false e rest g = both_later w m ms c (rest g)
  by true e rest g =
      let both : 2 ≤ w m.0 + weighed w ms c = g in
      let low : w m.0 ≤ 1 = light m.0 in
      elim (cases_lt 0 (w m.0)) [
        | inl some ↦ head_and_later w m ms c e some (some_weigh w ms c (omega (arith, both, low)))
        | inr none ↦ both_later w m ms c (rest (omega (arith, both, none)))
      ]

-- a class weighs as much as each of its terminals
pub weighs_place : (w : Role → ℕ) (ms : List (Role × ℕ)) (c k : ℕ) (r : Role) → Stands ms k (in_class r c) → w r ≤ weighed w ms c
weighs_place w [] c k r s = let n : None ≡ Some (in_class r c) = s in absurd cc
weighs_place w (m ∷ ms) c zero r s =
    let e : m ≡ in_class r c = same_Some m (in_class r c) s in
    by (nat_eq m.1 c) (eq-eqb m.1 c (ap (λ (p : Role × ℕ). p.1) e)) (ap (λ (p : Role × ℕ). w p.0) e) where
      by : (b : Bool) → b ≡ true → w m.0 ≡ w r → w r ≤ cond b (w m.0 + weighed w ms c) (weighed w ms c)
      by true e f = let g : w r ≤ w m.0 + weighed w ms c = omega (arith, f) in g
      by false e f = absurd cc
weighs_place w (m ∷ ms) c (suc k) r s = by (nat_eq m.1 c) (weighs_place w ms c k r s) where
  by : (b : Bool) → w r ≤ weighed w ms c → w r ≤ cond b (w m.0 + weighed w ms c) (weighed w ms c)
  by true h = let g : w r ≤ w m.0 + weighed w ms c = omega (arith, h) in g
  by false h = h

-- a class whose terminals weigh nothing weighs nothing
pub weightless : (w : Role → ℕ) (ms : List (Role × ℕ)) (c : ℕ) → ((k : ℕ) (r : Role) → Stands ms k (in_class r c) → w r ≡ 0) → weighed w ms c ≡ 0
weightless w ms c none = elim (cases_lt 0 (weighed w ms c)) [
  | inl some ↦
      let p = some_weigh w ms c (omega (arith, some)) in
      let z = none p.place p.part p.stands in
      let s = p.some in
      absurd (omega (arith, z, s))
  | inr low ↦ omega (arith, low)
]

clock_step : (r : Role) (b : Bool) (n : ℕ) → (r ≡ role.ClockPin → b ≡ true) → cond (is_clock_pin r) 1 0 + n ≡ cond b (clock_pin r + n) n
clock_step role.InputPort true n h = refl
clock_step role.InputPort false n h = sym (same n)
clock_step role.OutputPort true n h = refl
clock_step role.OutputPort false n h = sym (same n)
clock_step role.InputPin true n h = refl
clock_step role.InputPin false n h = sym (same n)
clock_step role.ClockPin true n h = refl
clock_step role.ClockPin false n h = let no : false ≡ true = h refl in absurd cc
clock_step role.OutputPin true n h = refl
clock_step role.OutputPin false n h = sym (same n)

-- the class that has each clock pin has as many as there are
pub clocks_weigh : (rs : List Role) (cs : List ℕ) (c : ℕ) → length rs ≡ length cs → ((k j : ℕ) → Stands rs k role.ClockPin → Stands cs k j → j ≡ c)
    → all_clocks rs ≡ weighed clock_pin (zip rs cs) c
clocks_weigh [] [] c e each = refl
clocks_weigh [] (j ∷ cs) c e each = absurd (omega (arith, e))
clocks_weigh (r ∷ rs) [] c e each = absurd (omega (arith, e))
clocks_weigh (r ∷ rs) (j ∷ cs) c e each =
    let rest : all_clocks rs ≡ weighed clock_pin (zip rs cs) c = clocks_weigh rs cs c (omega (arith, e)) (λ k i p q. each (suc k) i p q) in
    sum_by-cons (λ (x : Role). cond (is_clock_pin x) 1 0) r rs
    ∙ ap (λ n. cond (is_clock_pin r) 1 0 + n) rest
    ∙ clock_step r (nat_eq j c) (weighed clock_pin (zip rs cs) c) (λ is. eq-eqb j c (each 0 j (ap Some is) refl))
