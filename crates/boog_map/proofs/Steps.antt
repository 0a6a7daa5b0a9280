-- One more instance, terminal or port behind those so far.
use Rattle.std.proofs.Common.{◌≡◌, ℕ, suc, ◌+◌, ◌<◌, ◌≤◌, Bool, true, false, not, List, [], ◌∷◌, ◌++◌, length, filter, drop, get_or, refl, sym, ◌∙◌, ap, arith, add-one, append_assoc, Option, None, Some, if◌then◌else◌}
use Rattle.vlsi_base.specs.declared.name.Name.{Name}
use Rattle.vlsi_base.specs.declared.name.Port.{Port}
use Rattle.vlsi_base.specs.Names.{vss}
use Rattle.machine_core.specs.Machine.{is_input}
use Rattle.net_core.specs.Netlist.{port}
use Rattle.cell_match.specs.declared.gate.Gate.{Gate}
use Rattle.boog_map.specs.declared.choice.Parts.{Parts}
use Rattle.boog_map.specs.declared.ports.PortUse.{PortUse}
use Rattle.boog_map.specs.declared.ports.PortUse.TheVariants as port_use_of
use Rattle.boog_map.specs.Draft.{register_spot, register_spots, gate_spot, gate_spots, gate_drivers, output_terminal, port_use, use_signal, inputs_after, outputs_after, HasOutput, tied_ports}
use Rattle.boog_map.proofs.Lists.{drop_next}

-- one more of a list that is put behind what was there
pub push_step : {A : Type 0} (xs rest later whole : List A) (x : A) → rest ≡ x ∷ later → xs ++ rest ≡ whole → (xs ++ x ∷ []) ++ later ≡ whole
push_step {A} xs rest later whole x is so_far = append_assoc xs (x ∷ []) later ∙ ap (λ (ys : List A). xs ++ ys) (sym is) ∙ so_far

pub register_step : (front k : ℕ) (loads : List ℕ) (load : ℕ) → k < length loads → load ≡ get_or loads k load
    → register_spots front k (drop k loads) ≡ register_spot front k load ∷ register_spots front (k + 1) (drop (k + 1) loads)
register_step front k loads load low is =
    ap (register_spots front k) (drop_next loads k load low is)
    ∙ ap (λ (j : ℕ). register_spot front k load ∷ register_spots front j (drop (k + 1) loads)) (sym (add-one k))

module _ (ps : Parts) (number k : ℕ) (gs : List (Option Gate)) (i : ℕ) (o : Option Gate) (low : i < length gs) (is : o ≡ get_or gs i o) where
  abbrev rest : List (Option Gate)
  rest = drop (i + 1) gs

  pub spots_some : (x : Gate) → o ≡ Some x → gate_spots number k (drop i gs) ≡ gate_spot k number x ∷ gate_spots (number + 1) (k + 1) rest
  spots_some x some =
      ap (gate_spots number k) (drop_next gs i o low is) ∙ ap (λ (y : Option Gate). gate_spots number k (y ∷ rest)) some
      ∙ ap (λ (n : ℕ). gate_spot k number x ∷ gate_spots n (suc k) rest) (sym (add-one number))
      ∙ ap (λ (n : ℕ). gate_spot k number x ∷ gate_spots (number + 1) n rest) (sym (add-one k))

  pub spots_none : o ≡ None → gate_spots number k (drop i gs) ≡ gate_spots (number + 1) k rest
  spots_none none =
      ap (gate_spots number k) (drop_next gs i o low is) ∙ ap (λ (y : Option Gate). gate_spots number k (y ∷ rest)) none
      ∙ ap (λ (n : ℕ). gate_spots n k rest) (sym (add-one number))

  pub drivers_some : (x : Gate) → o ≡ Some x
      → gate_drivers ps number k (drop i gs) ≡ output_terminal ps (gate_spot k number x) ∷ gate_drivers ps (number + 1) (k + 1) rest
  drivers_some x some =
      ap (gate_drivers ps number k) (drop_next gs i o low is) ∙ ap (λ (y : Option Gate). gate_drivers ps number k (y ∷ rest)) some
      ∙ ap (λ (n : ℕ). output_terminal ps (gate_spot k number x) ∷ gate_drivers ps n (suc k) rest) (sym (add-one number))
      ∙ ap (λ (n : ℕ). output_terminal ps (gate_spot k number x) ∷ gate_drivers ps (number + 1) n rest) (sym (add-one k))

  pub drivers_none : o ≡ None → gate_drivers ps number k (drop i gs) ≡ port vss ∷ gate_drivers ps (number + 1) k rest
  drivers_none none =
      ap (gate_drivers ps number k) (drop_next gs i o low is) ∙ ap (λ (y : Option Gate). gate_drivers ps number k (y ∷ rest)) none
      ∙ ap (λ (n : ℕ). port vss ∷ gate_drivers ps n k rest) (sym (add-one number))

-- ---- ports

pub port_step : (clock : Option Name) (outs : List ℕ) (i o : ℕ) (ps : List Port) (j : ℕ) (p : Port) → j < length ps → p ≡ get_or ps j p
    → tied_ports clock outs i o (drop j ps)
    ≡ record { name = p.name; signal = use_signal outs i o (port_use clock p) }
    ∷ tied_ports clock outs (inputs_after i (port_use clock p)) (outputs_after o (port_use clock p)) (drop (j + 1) ps)
port_step clock outs i o ps j p low is = ap (tied_ports clock outs i o) (drop_next ps j p low is)

pub inputs_most : (i j : ℕ) (u : PortUse) → i ≤ j → inputs_after i u ≤ j + 1
inputs_most i j port_use_of.High h = omega (arith, h)
inputs_most i j port_use_of.Low h = omega (arith, h)
inputs_most i j port_use_of.Output h = omega (arith, h)
inputs_most i j port_use_of.Clock h = omega (arith, h)
inputs_most i j port_use_of.Input h = omega (arith, h)

abbrev out_count : List Port → ℕ
out_count ps = length (filter (λ p. not (is_input p.dir)) ps)

-- a port that is an output by its use is one by its direction
abbrev pub IsOut : Port → PortUse → Type 0
IsOut p u = u ≡ port_use_of.Output → is_input p.dir ≡ false

outs_front : (ps : List Port) (j : ℕ) (p : Port) → j < length ps → p ≡ get_or ps j p → (b : Bool) → is_input p.dir ≡ b
    → out_count (drop j ps) ≡ (if b then out_count (drop (j + 1) ps) else suc (out_count (drop (j + 1) ps)))
outs_front ps j p low is b e =
    ap out_count (drop_next ps j p low is)
    ∙ ap (λ (c : Bool). length (if not c then p ∷ filter (λ q. not (is_input q.dir)) (drop (j + 1) ps) else filter (λ q. not (is_input q.dir)) (drop (j + 1) ps))) e ∙ by b where
      by : (b : Bool) → length (if not b then p ∷ filter (λ q. not (is_input q.dir)) (drop (j + 1) ps) else filter (λ q. not (is_input q.dir)) (drop (j + 1) ps))
          ≡ (if b then out_count (drop (j + 1) ps) else suc (out_count (drop (j + 1) ps)))
      by true = refl
      by false = omega arith

fewer : (b : Bool) (n : ℕ) → n ≤ (if b then n else suc n)
fewer true n = omega arith
fewer false n = omega arith

-- there are numbers for the outputs that are left
pub outputs_most : (outs : List ℕ) (o : ℕ) (ps : List Port) (j : ℕ) (p : Port) (u : PortUse) → j < length ps → p ≡ get_or ps j p → IsOut p u
    → o + length (filter (λ p. not (is_input p.dir)) (drop j ps)) ≤ length outs
    → outputs_after o u + length (filter (λ p. not (is_input p.dir)) (drop (j + 1) ps)) ≤ length outs
outputs_most outs o ps j p port_use_of.Output low is out h = let e = outs_front ps j p low is false (out refl) in omega (arith, h, e)
outputs_most outs o ps j p port_use_of.High low is out h = let e = outs_front ps j p low is (is_input p.dir) refl in let f = fewer (is_input p.dir) (out_count (drop (j + 1) ps)) in omega (arith, h, e, f)
outputs_most outs o ps j p port_use_of.Low low is out h = let e = outs_front ps j p low is (is_input p.dir) refl in let f = fewer (is_input p.dir) (out_count (drop (j + 1) ps)) in omega (arith, h, e, f)
outputs_most outs o ps j p port_use_of.Clock low is out h = let e = outs_front ps j p low is (is_input p.dir) refl in let f = fewer (is_input p.dir) (out_count (drop (j + 1) ps)) in omega (arith, h, e, f)
outputs_most outs o ps j p port_use_of.Input low is out h = let e = outs_front ps j p low is (is_input p.dir) refl in let f = fewer (is_input p.dir) (out_count (drop (j + 1) ps)) in omega (arith, h, e, f)

pub has_output : (outs : List ℕ) (o : ℕ) (ps : List Port) (j : ℕ) (p : Port) (u : PortUse) → j < length ps → p ≡ get_or ps j p → IsOut p u
    → o + length (filter (λ p. not (is_input p.dir)) (drop j ps)) ≤ length outs → HasOutput outs o u
has_output outs o ps j p port_use_of.Output low is out h = let e = outs_front ps j p low is false (out refl) in omega (arith, h, e)
has_output outs o ps j p port_use_of.High low is out h = tt
has_output outs o ps j p port_use_of.Low low is out h = tt
has_output outs o ps j p port_use_of.Clock low is out h = tt
has_output outs o ps j p port_use_of.Input low is out h = tt
