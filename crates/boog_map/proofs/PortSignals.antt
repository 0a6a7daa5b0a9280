-- The signals of ports.
use Rattle.std.proofs.Common.{◌≡◌, ◌≢◌, ◌⊎◌, inl, inr, ℕ, zero, suc, ◌+◌, Bool, true, false, not, List, [], ◌∷◌, ◌++◌, filter, map, refl, sym, ◌∙◌, ap, subst, arith, Option, if◌then◌else◌, get_or}
use Rattle.vlsi_base.specs.declared.name.Name.{Name}
use Rattle.vlsi_base.specs.declared.name.Port.{Port}
use Rattle.vlsi_base.specs.declared.name.Terminal.{Terminal}
use Rattle.vlsi_base.specs.Names.{vdd, vss}
use Rattle.vlsi_base.specs.Member.{In, here, there}
use Rattle.machine_core.specs.Machine.{is_input, is_clock, names_of}
use Rattle.machine_core.specs.Named.{is_same_name}
use Rattle.machine_core.proofs.Names.{same_name-false}
use Rattle.net_core.specs.Netlist.{port}
use Rattle.net_theory.specs.Sources.{IsNumber}
use Rattle.cell_pins.specs.Pins.{supply, with_supply}
use Rattle.cell_pins.proofs.Ports.{Sorted}
use Rattle.boog_map.specs.declared.place.Signal.{Signal}
use Rattle.boog_map.specs.declared.place.Signal.TheVariants as signal
use Rattle.boog_map.specs.declared.ports.TiedPort.{TiedPort}
use Rattle.boog_map.specs.declared.ports.PortUse.{PortUse}
use Rattle.boog_map.specs.declared.ports.PortUse.TheVariants as port_use_of
use Rattle.boog_map.specs.Draft.{port_use, use_signal, inputs_after, outputs_after, tied_ports, port_signals}
use Rattle.boog_map.proofs.Supplied.{supplied, no_vdd, no_vss, sorted_vdd}

abbrev pub tied : Name → Signal → TiedPort
tied name s = record { name = name; signal = s }

-- the terminals are the ports
pub ports_told : (clock : Option Name) (outs : List ℕ) (i o : ℕ) (ps : List Port)
    → map (λ (t : Terminal × Signal). t.0) (port_signals (tied_ports clock outs i o ps)) ≡ map (λ (p : Port). port p.name) ps
ports_told clock outs i o [] = refl
ports_told clock outs i o (p ∷ ps) =
    ap (λ (ts : List Terminal). port p.name ∷ ts) (ports_told clock outs (inputs_after i (port_use clock p)) (outputs_after o (port_use clock p)) ps)

-- ---- a supply among the ports takes no number

abbrev IsSupplyUse : PortUse → Type 0
IsSupplyUse u = (u ≡ port_use_of.High) ⊎ (u ≡ port_use_of.Low)

abbrev front : Option Name → List ℕ → ℕ → ℕ → Port → PortUse → List Port → List TiedPort
front clock outs i o p u ps = tied p.name (use_signal outs i o u) ∷ tied_ports clock outs (inputs_after i u) (outputs_after o u) ps

insert_keeps : (clock : Option Name) (outs : List ℕ) (i o : ℕ) (xs ys : List Port) (v : Port) (e : TiedPort) → IsSupplyUse (port_use clock v)
    → In e (tied_ports clock outs i o (xs ++ ys)) → In e (tied_ports clock outs i o (xs ++ v ∷ ys))
insert_keeps clock outs i o [] ys v e is h = elim is [
  | inl a ↦ subst (λ (u : PortUse). In e (front clock outs i o v u ys)) (sym a) (there h)
  | inr a ↦ subst (λ (u : PortUse). In e (front clock outs i o v u ys)) (sym a) (there h)
]
insert_keeps clock outs i o (x ∷ xs) ys v e is here = here
insert_keeps clock outs i o (x ∷ xs) ys v e is (there h) =
    there (insert_keeps clock outs (inputs_after i (port_use clock x)) (outputs_after o (port_use clock x)) xs ys v e is h)

-- a supply's signal
abbrev pub IsSupplySignal : Signal → Type 0
IsSupplySignal s = (s ≡ signal.High) ⊎ (s ≡ signal.Low)

first_or : (t u : TiedPort) (ts : List TiedPort) → In t (u ∷ ts) → (t ≡ u) ⊎ In t ts
first_or t u ts here = inl refl
first_or t u ts (there h) = inr h

front_back : (clock : Option Name) (outs : List ℕ) (i o : ℕ) (ys : List Port) (v : Port) (e : TiedPort) (u : PortUse) → IsSupplyUse u
    → In e (front clock outs i o v u ys) → IsSupplySignal e.signal ⊎ In e (tied_ports clock outs i o ys)
front_back clock outs i o ys v e port_use_of.High is h = elim (first_or e (tied v.name signal.High) (tied_ports clock outs i o ys) h) [
  | inl a ↦ inl (inl (ap (λ (t : TiedPort). t.signal) a))
  | inr a ↦ inr a
]
front_back clock outs i o ys v e port_use_of.Low is h = elim (first_or e (tied v.name signal.Low) (tied_ports clock outs i o ys) h) [
  | inl a ↦ inl (inr (ap (λ (t : TiedPort). t.signal) a))
  | inr a ↦ inr a
]
front_back clock outs i o ys v e port_use_of.Output is h = elim is [ inl a ↦ absurd (cc a) | inr a ↦ absurd (cc a) ]
front_back clock outs i o ys v e port_use_of.Clock is h = elim is [ inl a ↦ absurd (cc a) | inr a ↦ absurd (cc a) ]
front_back clock outs i o ys v e port_use_of.Input is h = elim is [ inl a ↦ absurd (cc a) | inr a ↦ absurd (cc a) ]

insert_back : (clock : Option Name) (outs : List ℕ) (i o : ℕ) (xs ys : List Port) (v : Port) (e : TiedPort) → IsSupplyUse (port_use clock v)
    → In e (tied_ports clock outs i o (xs ++ v ∷ ys)) → IsSupplySignal e.signal ⊎ In e (tied_ports clock outs i o (xs ++ ys))
insert_back clock outs i o [] ys v e is h = front_back clock outs i o ys v e (port_use clock v) is h
insert_back clock outs i o (x ∷ xs) ys v e is here = inr here
insert_back clock outs i o (x ∷ xs) ys v e is (there h) =
    elim (insert_back clock outs (inputs_after i (port_use clock x)) (outputs_after o (port_use clock x)) xs ys v e is h) [ inl a ↦ inl a | inr a ↦ inr (there a) ]

module _ (clock : Option Name) (outs : List ℕ) (ps : List Port) (sorted : Sorted ps) (apart : (p : Port) → In p ps → (p.name ≢ vdd) × (p.name ≢ vss)) where
  abbrev all : List Port
  all = with_supply vss (with_supply vdd ps)

  pub both_keep : (i o : ℕ) (e : TiedPort) → In e (tied_ports clock outs i o ps) → In e (tied_ports clock outs i o all)
  both_keep i o e h =
      supplied vss (with_supply vdd ps) (sorted_vdd ps sorted apart) (no_vss ps sorted apart)
      (λ qs rs. In e (tied_ports clock outs i o qs) → In e (tied_ports clock outs i o rs)) (λ xs ys. insert_keeps clock outs i o xs ys (supply vss) e (inr refl))
      (supplied vdd ps sorted (no_vdd ps sorted apart)
      (λ qs rs. In e (tied_ports clock outs i o qs) → In e (tied_ports clock outs i o rs)) (λ xs ys. insert_keeps clock outs i o xs ys (supply vdd) e (inl refl))
      h)

  pub both_back : (i o : ℕ) (e : TiedPort) → In e (tied_ports clock outs i o all) → IsSupplySignal e.signal ⊎ In e (tied_ports clock outs i o ps)
  both_back i o e h =
      elim (supplied vss (with_supply vdd ps) (sorted_vdd ps sorted apart) (no_vss ps sorted apart)
      (λ qs rs. In e (tied_ports clock outs i o rs) → IsSupplySignal e.signal ⊎ In e (tied_ports clock outs i o qs))
      (λ xs ys. insert_back clock outs i o xs ys (supply vss) e (inr refl)) h) [
        | inl a ↦ inl a
        | inr a ↦
            supplied vdd ps sorted (no_vdd ps sorted apart) (λ qs rs. In e (tied_ports clock outs i o rs) → IsSupplySignal e.signal ⊎ In e (tied_ports clock outs i o qs))
            (λ xs ys. insert_back clock outs i o xs ys (supply vdd) e (inl refl)) a
      ]

-- the outputs among ports and a supply
filter_insert : (t : Port → Bool) (v : Port) (xs ys : List Port) → t v ≡ false → filter t (xs ++ v ∷ ys) ≡ filter t (xs ++ ys)
filter_insert t v [] ys is = ap (λ (b : Bool). if b then v ∷ filter t ys else filter t ys) is
filter_insert t v (x ∷ xs) ys is = ap (λ (qs : List Port). if t x then x ∷ qs else qs) (filter_insert t v xs ys is)

pub outputs_kept : (ps : List Port) → Sorted ps → ((p : Port) → In p ps → (p.name ≢ vdd) × (p.name ≢ vss))
    → filter (λ p. not (is_input p.dir)) (with_supply vss (with_supply vdd ps)) ≡ filter (λ p. not (is_input p.dir)) ps
outputs_kept ps sorted apart =
    supplied vss (with_supply vdd ps) (sorted_vdd ps sorted apart) (no_vss ps sorted apart)
    (λ qs rs. filter (λ p. not (is_input p.dir)) rs ≡ filter (λ p. not (is_input p.dir)) qs)
    (λ xs ys. filter_insert (λ p. not (is_input p.dir)) (supply vss) xs ys refl)
    ∙ supplied vdd ps sorted (no_vdd ps sorted apart) (λ qs rs. filter (λ p. not (is_input p.dir)) rs ≡ filter (λ p. not (is_input p.dir)) qs)
    (λ xs ys. filter_insert (λ p. not (is_input p.dir)) (supply vdd) xs ys refl)

-- ---- supplies

pub supply_told : (clock : Option Name) (outs : List ℕ) (i o : ℕ) (ps : List Port) (p : Port) (s : Signal) → In p ps
    → ((i o : ℕ) → use_signal outs i o (port_use clock p) ≡ s) → In (tied p.name s) (tied_ports clock outs i o ps)
supply_told clock outs i o (q ∷ ps) p s here is =
    subst (λ (u : Signal). In (tied q.name s) (tied q.name u ∷ tied_ports clock outs (inputs_after i (port_use clock q)) (outputs_after o (port_use clock q)) ps)) (sym (is i o)) here
supply_told clock outs i o (q ∷ ps) p s (there h) is = there (supply_told clock outs (inputs_after i (port_use clock q)) (outputs_after o (port_use clock q)) ps p s h is)
supply_told clock outs i o [] p s h is = elim h [ ]

-- ---- inputs, the clock and outputs of ports without supplies

abbrev pub NoSupplies : List Port → Type 0
NoSupplies ps = (p : Port) → In p ps → (p.name ≢ vdd) × (p.name ≢ vss)

plain_use : Bool → Bool → PortUse
plain_use true true = port_use_of.Clock
plain_use true false = port_use_of.Input
plain_use false c = port_use_of.Output

use_is : (clock : Option Name) (p : Port) → (p.name ≢ vdd) × (p.name ≢ vss) → (d c : Bool) → is_input p.dir ≡ d → is_clock clock p.name ≡ c → port_use clock p ≡ plain_use d c
unfolding plain_use
use_is clock p apart d c e f =
    ap
    (λ (b : Bool).
    if b then port_use_of.High else if is_same_name p.name vss then port_use_of.Low
    else if is_input p.dir then (if is_clock clock p.name then port_use_of.Clock else port_use_of.Input) else port_use_of.Output)
    (same_name-false p.name vdd apart.0)
    ∙ ap (λ (b : Bool). if b then port_use_of.Low else if is_input p.dir then (if is_clock clock p.name then port_use_of.Clock else port_use_of.Input) else port_use_of.Output)
    (same_name-false p.name vss apart.1)
    ∙ ap (λ (b : Bool). if b then (if is_clock clock p.name then port_use_of.Clock else port_use_of.Input) else port_use_of.Output) e
    ∙ by d c f where
      by : (d c : Bool) → is_clock clock p.name ≡ c → (if d then (if is_clock clock p.name then port_use_of.Clock else port_use_of.Input) else port_use_of.Output) ≡ plain_use d c
      by true true f = ap (λ (b : Bool). if b then port_use_of.Clock else port_use_of.Input) f
      by true false f = ap (λ (b : Bool). if b then port_use_of.Clock else port_use_of.Input) f
      by false c f = refl

abbrev input_names : List Port → List Name
input_names ps = names_of (filter (λ p. is_input p.dir) ps)

abbrev pub plain_inputs : Option Name → List Port → List Name
plain_inputs clock ps = filter (λ name. not (is_clock clock name)) (input_names ps)

abbrev pub plain_outputs : List Port → List Name
plain_outputs ps = names_of (filter (λ p. not (is_input p.dir)) ps)

-- the lists of inputs and outputs, from the tests of the first port
abbrev inputs_front : Bool → Bool → Name → List Name → List Name
inputs_front true true name rest = rest
inputs_front true false name rest = name ∷ rest
inputs_front false c name rest = rest

abbrev outputs_front : Bool → Name → List Name → List Name
outputs_front true name rest = rest
outputs_front false name rest = name ∷ rest

inputs_are : (clock : Option Name) (p : Port) (ps : List Port) (d c : Bool) → is_input p.dir ≡ d → is_clock clock p.name ≡ c
    → plain_inputs clock (p ∷ ps) ≡ inputs_front d c p.name (plain_inputs clock ps)
inputs_are clock p ps d c e f =
    ap (λ (b : Bool). filter (λ name. not (is_clock clock name)) (names_of (if b then p ∷ filter (λ q. is_input q.dir) ps else filter (λ q. is_input q.dir) ps))) e ∙ by d c f where
      by : (d c : Bool) → is_clock clock p.name ≡ c
          → filter (λ name. not (is_clock clock name)) (names_of (if d then p ∷ filter (λ q. is_input q.dir) ps else filter (λ q. is_input q.dir) ps))
          ≡ inputs_front d c p.name (plain_inputs clock ps)
      by true true f = ap (λ (b : Bool). if not b then p.name ∷ plain_inputs clock ps else plain_inputs clock ps) f
      by true false f = ap (λ (b : Bool). if not b then p.name ∷ plain_inputs clock ps else plain_inputs clock ps) f
      by false c f = refl

outputs_are : (p : Port) (ps : List Port) (d : Bool) → is_input p.dir ≡ d → plain_outputs (p ∷ ps) ≡ outputs_front d p.name (plain_outputs ps)
outputs_are p ps d e =
    ap (λ (b : Bool). names_of (if not b then p ∷ filter (λ q. not (is_input q.dir)) ps else filter (λ q. not (is_input q.dir)) ps)) e ∙ by d where
      by : (d : Bool) → names_of (if not d then p ∷ filter (λ q. not (is_input q.dir)) ps else filter (λ q. not (is_input q.dir)) ps) ≡ outputs_front d p.name (plain_outputs ps)
      by true = refl
      by false = refl

tied_are : (clock : Option Name) (outs : List ℕ) (i o : ℕ) (p : Port) (ps : List Port) (u : PortUse) → port_use clock p ≡ u
    → tied_ports clock outs i o (p ∷ ps) ≡ front clock outs i o p u ps
tied_are clock outs i o p ps u is = ap (λ (v : PortUse). front clock outs i o p v ps) is

number_move : (a b : ℕ) → a ≡ b → signal.Node a ≡ signal.Node b
number_move a b e = ap signal.Node e

-- input j, behind i inputs, has number i + j
pub input_told : (clock : Option Name) (outs : List ℕ) (i o : ℕ) (ps : List Port) → NoSupplies ps → (j : ℕ) (name : Name) → IsNumber (plain_inputs clock ps) j name
    → In (tied name (signal.Node (i + j))) (tied_ports clock outs i o ps)
unfolding plain_use
input_told clock outs i o [] apart j name h = absurd h
input_told clock outs i o (p ∷ ps) apart j name h =
    by (λ i o j h. input_told clock outs i o ps (λ q k. apart q (there k)) j name h) (is_input p.dir) (is_clock clock p.name) refl refl where
      by : ((i o j : ℕ) → IsNumber (plain_inputs clock ps) j name → In (tied name (signal.Node (i + j))) (tied_ports clock outs i o ps)) → (d c : Bool) → is_input p.dir ≡ d → is_clock clock p.name ≡ c → In (tied name (signal.Node (i + j))) (tied_ports clock outs i o (p ∷ ps))
      by rest d c e f =
          subst (λ (ts : List TiedPort). In (tied name (signal.Node (i + j))) ts) (sym (tied_are clock outs i o p ps (plain_use d c) (use_is clock p (apart p here) d c e f)))
          (go d c j (subst (λ (xs : List Name). IsNumber xs j name) (inputs_are clock p ps d c e f) h)) where
            go : (d c : Bool) (j : ℕ) → IsNumber (inputs_front d c p.name (plain_inputs clock ps)) j name → In (tied name (signal.Node (i + j))) (front clock outs i o p (plain_use d c) ps)
            go true true j h = there (rest i o j h)
            go true false zero h =
                let e : i + 0 ≡ i = omega arith in
                subst (λ (x : Name). In (tied x (signal.Node (i + 0))) (front clock outs i o p port_use_of.Input ps)) (sym h)
                (subst (λ (s : Signal). In (tied p.name s) (front clock outs i o p port_use_of.Input ps)) (sym (number_move (i + 0) i e)) here)
            go true false (suc j) h =
                let e : i + 1 + j ≡ i + suc j = omega arith in
                there (subst (λ (s : Signal). In (tied name s) (tied_ports clock outs (i + 1) o ps)) (number_move (i + 1 + j) (i + suc j) e)
                (rest (i + 1) o j h))
            go false c j h = there (rest i (o + 1) j h)

-- output k, behind o outputs, has the number that stands at o + k
pub output_told : (clock : Option Name) (outs : List ℕ) (i o : ℕ) (ps : List Port) → NoSupplies ps → (k : ℕ) (name : Name) → IsNumber (plain_outputs ps) k name
    → In (tied name (signal.Node (get_or outs (o + k) 0))) (tied_ports clock outs i o ps)
unfolding plain_use
output_told clock outs i o [] apart k name h = absurd h
output_told clock outs i o (p ∷ ps) apart k name h =
    by (λ i o k h. output_told clock outs i o ps (λ q j. apart q (there j)) k name h) (is_input p.dir) (is_clock clock p.name) refl refl where
      by : ((i o k : ℕ) → IsNumber (plain_outputs ps) k name → In (tied name (signal.Node (get_or outs (o + k) 0))) (tied_ports clock outs i o ps)) → (d c : Bool) → is_input p.dir ≡ d → is_clock clock p.name ≡ c → In (tied name (signal.Node (get_or outs (o + k) 0))) (tied_ports clock outs i o (p ∷ ps))
      by rest d c e f =
          subst (λ (ts : List TiedPort). In (tied name (signal.Node (get_or outs (o + k) 0))) ts) (sym (tied_are clock outs i o p ps (plain_use d c) (use_is clock p (apart p here) d c e f)))
          (go d c k (subst (λ (xs : List Name). IsNumber xs k name) (outputs_are p ps d e) h)) where
            go : (d c : Bool) (k : ℕ) → IsNumber (outputs_front d p.name (plain_outputs ps)) k name
                → In (tied name (signal.Node (get_or outs (o + k) 0))) (front clock outs i o p (plain_use d c) ps)
            go true true k h = there (rest i o k h)
            go true false k h = there (rest (i + 1) o k h)
            go false c zero h =
                let e : o + 0 ≡ o = omega arith in
                subst (λ (x : Name). In (tied x (signal.Node (get_or outs (o + 0) 0))) (front clock outs i o p port_use_of.Output ps)) (sym h)
                (subst (λ (n : ℕ). In (tied p.name (signal.Node (get_or outs n 0))) (front clock outs i o p port_use_of.Output ps)) (sym e) here)
            go false c (suc k) h =
                let e : o + 1 + k ≡ o + suc k = omega arith in
                there (subst (λ (n : ℕ). In (tied name (signal.Node (get_or outs n 0))) (tied_ports clock outs i (o + 1) ps)) e
                (rest i (o + 1) k h))

first_name : (name x : Name) (ys : List Name) → In name (x ∷ ys) → (name ≡ x) ⊎ In name ys
first_name name x ys here = inl refl
first_name name x ys (there i) = inr i

-- the clock
abbrev ClockIn : Name → List TiedPort → Type 0
ClockIn name ts = In (tied name signal.Clock) ts

pub clock_told : (clock : Option Name) (outs : List ℕ) (i o : ℕ) (ps : List Port) → NoSupplies ps → (name : Name) → is_clock clock name ≡ true → In name (input_names ps)
    → In (tied name signal.Clock) (tied_ports clock outs i o ps)
unfolding plain_use
clock_told clock outs i o [] apart name is h = elim h [ ]
clock_told clock outs i o (p ∷ ps) apart name is h = by (λ i o h. clock_told clock outs i o ps (λ q j. apart q (there j)) name is h) (is_input p.dir) refl h where
  by : ((i o : ℕ) → In name (input_names ps) → In (tied name signal.Clock) (tied_ports clock outs i o ps)) → (d : Bool) → is_input p.dir ≡ d → In name (names_of (if d then p ∷ filter (λ q. is_input q.dir) ps else filter (λ q. is_input q.dir) ps))
      → ClockIn name (tied_ports clock outs i o (p ∷ ps))
  by rest false e h =
      subst (ClockIn name) (sym (tied_are clock outs i o p ps port_use_of.Output (use_is clock p (apart p here) false (is_clock clock p.name) e refl)))
      (there (rest i (o + 1) h))
  by rest true e h = go (is_clock clock p.name) refl (first_name name p.name (input_names ps) h) where
    go : (c : Bool) → is_clock clock p.name ≡ c → (name ≡ p.name) ⊎ In name (input_names ps) → ClockIn name (tied_ports clock outs i o (p ∷ ps))
    go true f (inl same) =
        subst (ClockIn name) (sym (tied_are clock outs i o p ps port_use_of.Clock (use_is clock p (apart p here) true true e f)))
        (subst (λ (x : Name). In (tied x signal.Clock) (front clock outs i o p port_use_of.Clock ps)) (sym same) here)
    go true f (inr later) =
        subst (ClockIn name) (sym (tied_are clock outs i o p ps port_use_of.Clock (use_is clock p (apart p here) true true e f)))
        (there (rest i o later))
    go false f (inl same) = absurd (let no : true ≡ false = sym is ∙ ap (is_clock clock) same ∙ f in cc)
    go false f (inr later) =
        subst (ClockIn name) (sym (tied_are clock outs i o p ps port_use_of.Input (use_is clock p (apart p here) true false e f)))
        (there (rest (i + 1) o later))

-- what a port's signal is, by the names of inputs and outputs
pub data IsPortSignal (clock : Option Name) (outs : List ℕ) (i o : ℕ) (xs ys : List Name) (s : Signal) : Type 0 where
  of_clock : (name : Name) → is_clock clock name ≡ true → s ≡ signal.Clock → IsPortSignal clock outs i o xs ys s
  of_input : (j : ℕ) (name : Name) → IsNumber xs j name → s ≡ signal.Node (i + j) → IsPortSignal clock outs i o xs ys s
  of_output : (k : ℕ) (name : Name) → IsNumber ys k name → s ≡ signal.Node (get_or outs (o + k) 0) → IsPortSignal clock outs i o xs ys s

after_input : (clock : Option Name) (outs : List ℕ) (i o : ℕ) (x : Name) (xs ys : List Name) (s : Signal) → IsPortSignal clock outs (i + 1) o xs ys s
    → IsPortSignal clock outs i o (x ∷ xs) ys s
after_input clock outs i o x xs ys s (of_clock name is e) = of_clock name is e
after_input clock outs i o x xs ys s (of_input j name h e) = let n : i + 1 + j ≡ i + suc j = omega arith in of_input (suc j) name h (e ∙ number_move (i + 1 + j) (i + suc j) n)
after_input clock outs i o x xs ys s (of_output k name h e) = of_output k name h e

after_output : (clock : Option Name) (outs : List ℕ) (i o : ℕ) (xs : List Name) (y : Name) (ys : List Name) (s : Signal) → IsPortSignal clock outs i (o + 1) xs ys s
    → IsPortSignal clock outs i o xs (y ∷ ys) s
after_output clock outs i o xs y ys s (of_clock name is e) = of_clock name is e
after_output clock outs i o xs y ys s (of_input j name h e) = of_input j name h e
after_output clock outs i o xs y ys s (of_output k name h e) =
    let n : o + 1 + k ≡ o + suc k = omega arith in of_output (suc k) name h (e ∙ ap (λ (x : ℕ). signal.Node (get_or outs x 0)) n)

pub signal_told : (clock : Option Name) (outs : List ℕ) (i o : ℕ) (ps : List Port) → NoSupplies ps → (e : TiedPort) → In e (tied_ports clock outs i o ps)
    → IsPortSignal clock outs i o (plain_inputs clock ps) (plain_outputs ps) e.signal
unfolding plain_use
signal_told clock outs i o [] apart e h = elim h [ ]
signal_told clock outs i o (p ∷ ps) apart e h = by (λ i o h. signal_told clock outs i o ps (λ q j. apart q (there j)) e h) (is_input p.dir) (is_clock clock p.name) refl refl where
  by : ((i o : ℕ) → In e (tied_ports clock outs i o ps) → IsPortSignal clock outs i o (plain_inputs clock ps) (plain_outputs ps) e.signal) → (d c : Bool) → is_input p.dir ≡ d → is_clock clock p.name ≡ c → IsPortSignal clock outs i o (plain_inputs clock (p ∷ ps)) (plain_outputs (p ∷ ps)) e.signal
  by rest d c f g =
      subst (λ (xs : List Name). IsPortSignal clock outs i o xs (plain_outputs (p ∷ ps)) e.signal) (sym (inputs_are clock p ps d c f g))
      (subst (λ (ys : List Name). IsPortSignal clock outs i o (inputs_front d c p.name (plain_inputs clock ps)) ys e.signal) (sym (outputs_are p ps d f))
      (go d c g (subst (λ (ts : List TiedPort). In e ts) (tied_are clock outs i o p ps (plain_use d c) (use_is clock p (apart p here) d c f g)) h))) where
        go : (d c : Bool) → is_clock clock p.name ≡ c → In e (front clock outs i o p (plain_use d c) ps)
            → IsPortSignal clock outs i o (inputs_front d c p.name (plain_inputs clock ps)) (outputs_front d p.name (plain_outputs ps)) e.signal
        go true true g h = elim (first_or e (tied p.name signal.Clock) (tied_ports clock outs i o ps) h) [
          | inl a ↦ of_clock p.name g (ap (λ (t : TiedPort). t.signal) a)
          | inr a ↦ rest i o a
        ]
        go true false g h = elim (first_or e (tied p.name (signal.Node i)) (tied_ports clock outs (i + 1) o ps) h) [
          | inl a ↦ let n : i ≡ i + 0 = omega arith in of_input 0 p.name refl (ap (λ (t : TiedPort). t.signal) a ∙ number_move i (i + 0) n)
          | inr a ↦ after_input clock outs i o p.name (plain_inputs clock ps) (plain_outputs ps) e.signal (rest (i + 1) o a)
        ]
        go false c g h = elim (first_or e (tied p.name (signal.Node (get_or outs o 0))) (tied_ports clock outs i (o + 1) ps) h) [
          | inl a ↦
              let n : o ≡ o + 0 = omega arith in
              of_output 0 p.name refl (ap (λ (t : TiedPort). t.signal) a ∙ ap (λ (x : ℕ). signal.Node (get_or outs x 0)) n)
          | inr a ↦ after_output clock outs i o (plain_inputs clock ps) p.name (plain_outputs ps) e.signal (rest i (o + 1) a)
        ]
