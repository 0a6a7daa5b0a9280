-- The signals of an instance's pins.
use Rattle.std.proofs.Common.{◌≡◌, ◌≢◌, ℕ, zero, suc, Bool, true, false, not, List, [], ◌∷◌, filter, map, refl, sym, ◌∙◌, ap, subst, if◌then◌else◌, get_or}
use Rattle.vlsi_base.specs.declared.name.Name.{Name}
use Rattle.vlsi_base.specs.declared.name.Port.{Port}
use Rattle.vlsi_base.specs.declared.name.Terminal.{Terminal}
use Rattle.vlsi_base.specs.Names.{vdd, vss}
use Rattle.vlsi_base.specs.Member.{In, AllDifferent}
use Rattle.bool_expr.specs.Expression.{Expression}
use Rattle.machine_core.specs.Machine.{is_input}
use Rattle.machine_core.specs.Named.{is_same_name}
use Rattle.machine_core.proofs.Names.{same_name-itself, same_name-false}
use Rattle.cell_model.specs.Cell.{Function, gate, flip_flop, Cell, pin_ports, cell_inputs, cell_outputs}
use Rattle.cell_model.specs.Usable.{IsFormed}
use Rattle.net_core.specs.Netlist.{pin_of}
use Rattle.net_theory.specs.Sources.{IsNumber}
use Rattle.net_theory.proofs.Basics.{In-map, In-map_back, number_in}
use Rattle.cell_pins.specs.Pins.{supply, all_ports}
use Rattle.cell_pins.proofs.Ports.{Sorted, sorted_of, in_filter, sorted_filter, sorted_different}
use Rattle.boog_map.specs.declared.part.Tie.{Tie}
use Rattle.boog_map.specs.declared.part.Tie.TheVariants as tie
use Rattle.boog_map.specs.declared.part.TiedPin.{TiedPin}
use Rattle.boog_map.specs.declared.place.Signal.{Signal}
use Rattle.boog_map.specs.declared.place.Signal.TheVariants as signal
use Rattle.boog_map.specs.declared.place.Spot.{Spot}
use Rattle.boog_map.specs.Tied.{pins_read, read_pins, name_place, tie_of, tied_pin}
use Rattle.boog_map.specs.Draft.{tied_signal}
use Rattle.boog_map.proofs.Lists.{got, number_stands}
use Rattle.boog_map.proofs.Supplied.{own, has_vdd, has_vss}

-- ---- places of names

pub place_is : (xs : List Name) → AllDifferent xs → (k : ℕ) (x : Name) → IsNumber xs k x → name_place x xs ≡ k
place_is [] differ k x h = absurd h
place_is (y ∷ xs) differ zero x h = by (same_name-itself x) where
  by : is_same_name x x ≡ true → name_place x (y ∷ xs) ≡ 0
  by e =
      let same : is_same_name y x ≡ true = subst (λ (z : Name). is_same_name z x ≡ true) h e in
      ap (λ (b : Bool). if b then 0 else suc (name_place x xs)) same
place_is (y ∷ xs) differ (suc k) x h =
    let apart : y ≢ x = λ e. differ.0 (subst (λ (z : Name). In z xs) (sym e) (number_in xs k x h)) in
    ap (λ (b : Bool). if b then 0 else suc (name_place x xs)) (same_name-false y x apart) ∙ ap suc (place_is xs differ.1 k x h)

-- ---- ties

tie_is : (reads : List Name) (q : Port) → (q.name ≢ vdd) × (q.name ≢ vss) → (d : Bool) → is_input q.dir ≡ d
    → tie_of reads q ≡ (if d then tie.Read (name_place q.name reads) else tie.Shown)
tie_is reads q apart d e =
    ap
    (λ (b : Bool).
    if b then tie.High else if is_same_name q.name vss then tie.Low
    else if is_input q.dir then tie.Read (name_place q.name reads) else tie.Shown)
    (same_name-false q.name vdd apart.0)
    ∙ ap (λ (b : Bool). if b then tie.Low else if is_input q.dir then tie.Read (name_place q.name reads) else tie.Shown) (same_name-false q.name vss apart.1)
    ∙ ap (λ (b : Bool). if b then tie.Read (name_place q.name reads) else tie.Shown) e

abbrev pub pin_signals : Spot → List TiedPin → List (Terminal × Signal)
pin_signals s ts = map (λ p. (pin_of s.name p.name, tied_signal s p.tie)) ts

abbrev pin_signal : Spot → TiedPin → Terminal × Signal
pin_signal s p = (pin_of s.name p.name, tied_signal s p.tie)

-- each signal is tied to something
pub signal_tied : (s : Spot) (ts : List TiedPin) (t : Terminal × Signal) → In t (pin_signals s ts) → (k : Tie) × (t.1 ≡ tied_signal s k)
signal_tied s ts t h = let r = In-map_back (pin_signal s) t ts h in (r.0.tie, sym (ap (λ (x : Terminal × Signal). x.1) r.2))

-- the inputs of a cell have different names
pub inputs_differ : (c : Cell) → IsFormed c → AllDifferent (cell_inputs c)
inputs_differ c ok =
    sorted_different (filter (λ p. is_input p.dir) (pin_ports c)) (sorted_filter (λ p. is_input p.dir) (pin_ports c) (sorted_of (pin_ports c) ok.order))

module _ (c : Cell) (formed : IsFormed c) (ts : List TiedPin) (is : ts ≡ map (tied_pin (read_pins c)) (all_ports c)) (s : Spot) where
  sorted : Sorted (pin_ports c)
  sorted = sorted_of (pin_ports c) formed.order

  apart : (q : Port) → In q (pin_ports c) → (q.name ≢ vdd) × (q.name ≢ vss)
  apart q h = formed.signals q.name (In-map (λ (p : Port). p.name) q (pin_ports c) h)

  pin_told : (q : Port) (k : Tie) → In q (all_ports c) → tie_of (read_pins c) q ≡ k → In (pin_of s.name q.name, tied_signal s k) (pin_signals s ts)
  pin_told q k h e =
      subst (λ (j : Tie). In (pin_of s.name q.name, tied_signal s j) (pin_signals s ts)) e
      (subst (λ (us : List TiedPin). In (pin_of s.name q.name, tied_signal s (tie_of (read_pins c) q)) (pin_signals s us)) (sym is)
      (In-map (pin_signal s) (tied_pin (read_pins c) q) (map (tied_pin (read_pins c)) (all_ports c)) (In-map (tied_pin (read_pins c)) q (all_ports c) h)))

  pub vdd_told : In (pin_of s.name vdd, signal.High) (pin_signals s ts)
  vdd_told = pin_told (supply vdd) tie.High (has_vdd (pin_ports c) sorted apart) refl

  pub vss_told : In (pin_of s.name vss, signal.Low) (pin_signals s ts)
  vss_told = pin_told (supply vss) tie.Low (has_vss (pin_ports c) sorted apart) refl

  pub output_told : (name : Name) → In name (cell_outputs c) → In (pin_of s.name name, signal.Node s.shown) (pin_signals s ts)
  output_told name h =
      let r = In-map_back (λ (p : Port). p.name) name (filter (λ p. not (is_input p.dir)) (pin_ports c)) h in
      let f = in_filter (λ p. not (is_input p.dir)) (pin_ports c) r.0 r.1 in
      let no_input : is_input r.0.dir ≡ false = by (is_input r.0.dir) f.1 in
      subst (λ (x : Name). In (pin_of s.name x, signal.Node s.shown) (pin_signals s ts)) r.2
      (pin_told r.0 tie.Shown (own (pin_ports c) sorted apart r.0 f.0) (tie_is (read_pins c) r.0 (apart r.0 f.0) false no_input)) where
        by : (b : Bool) → not b ≡ true → b ≡ false
        by true e = absurd (cc e)
        by false e = refl

  -- an input reads at its place
  input_told : (name : Name) → In name (cell_inputs c) → In (pin_of s.name name, tied_signal s (tie.Read (name_place name (read_pins c)))) (pin_signals s ts)
  input_told name h =
      let r = In-map_back (λ (p : Port). p.name) name (filter (λ p. is_input p.dir) (pin_ports c)) h in
      let f = in_filter (λ p. is_input p.dir) (pin_ports c) r.0 r.1 in
      subst (λ (x : Name). In (pin_of s.name x, tied_signal s (tie.Read (name_place x (read_pins c)))) (pin_signals s ts)) r.2
      (pin_told r.0 (tie.Read (name_place r.0.name (read_pins c))) (own (pin_ports c) sorted apart r.0 f.0) (tie_is (read_pins c) r.0 (apart r.0 f.0) true f.1))

  placed_told : (name : Name) (k : ℕ) → In name (cell_inputs c) → name_place name (read_pins c) ≡ k → In (pin_of s.name name, get_or s.reads k signal.Low) (pin_signals s ts)
  placed_told name k h e =
      let P : ℕ → Type 0 = λ n. In (pin_of s.name name, get_or s.reads n signal.Low) (pin_signals s ts) in
      subst P e (input_told name h)

  -- input k of a gate has what stands at place k
  pub gate_input_told : (e : Expression) → c.function ≡ gate e → (k : ℕ) (name : Name) (u : Signal) → IsNumber (cell_inputs c) k name → IsNumber s.reads k u
      → In (pin_of s.name name, u) (pin_signals s ts)
  gate_input_told e is_gate k name u h stands =
      let place : name_place name (read_pins c) ≡ k =
      ap (λ (f : Function). name_place name (pins_read f (cell_inputs c))) is_gate ∙ place_is (cell_inputs c) (inputs_differ c formed) k name h in
      subst (λ (v : Signal). In (pin_of s.name name, v) (pin_signals s ts)) (got s.reads k u signal.Low (number_stands s.reads k u stands))
      (placed_told name k (number_in (cell_inputs c) k name h) place)

  -- the data pin of a flip-flop has what stands first, and the clock pin what stands behind it
  pub data_told : (data_pin clock_pin : Name) → c.function ≡ flip_flop data_pin clock_pin → In data_pin (cell_inputs c)
      → In (pin_of s.name data_pin, get_or s.reads 0 signal.Low) (pin_signals s ts)
  data_told data_pin clock_pin is_flip h =
      placed_told data_pin 0 h
      (ap (λ (f : Function). name_place data_pin (pins_read f (cell_inputs c))) is_flip
      ∙ ap (λ (b : Bool). if b then 0 else suc (name_place data_pin (clock_pin ∷ []))) (same_name-itself data_pin))

  pub clock_told : (data_pin clock_pin : Name) → c.function ≡ flip_flop data_pin clock_pin → In clock_pin (cell_inputs c) → data_pin ≢ clock_pin
      → In (pin_of s.name clock_pin, get_or s.reads 1 signal.Low) (pin_signals s ts)
  clock_told data_pin clock_pin is_flip h differ =
      placed_told clock_pin 1 h
      (ap (λ (f : Function). name_place clock_pin (pins_read f (cell_inputs c))) is_flip
      ∙ ap (λ (b : Bool). if b then 0 else suc (name_place clock_pin (clock_pin ∷ []))) (same_name-false data_pin clock_pin differ)
      ∙ ap (λ (b : Bool). suc (if b then 0 else 1)) (same_name-itself clock_pin))
