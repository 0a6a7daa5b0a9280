-- The functions of machines that are the same.
use Rattle.std.proofs.Common.{◌≡◌, ◌≤◌, ℕ, Bool, false, List, [], ◌∷◌, ◌++◌, map, length, Option, Some, refl, sym, ap, ◌∙◌, subst}
use Rattle.std.specs.Prelude.{filter, not}
use Rattle.vlsi_base.specs.declared.name.Name.{Name}
use Rattle.vlsi_base.specs.declared.name.Port.{Port}
use Rattle.bool_expr.specs.Expression.{Expression, val, IsOver}
use Rattle.bool_expr.specs.View.{view}
use Rattle.machine_core.specs.Machine.{Machine, Register, is_input, is_clock, names_of, input_ports, inputs, outputs}
use Rattle.machine_core.specs.Named.{value_at, values_at}
use Rattle.machine_core.specs.Cycles.{outs}
use Rattle.machine_core.specs.Built.{built}
use Rattle.machine_core.specs.Checked.{IsChecked}
use Rattle.machine_core.proofs.Built.{built_settles}
use Rattle.cell_model.specs.declared.function.Function.{Function as Parts}
use Rattle.cell_model.specs.declared.function.Function.TheVariants as parts
use Rattle.vlsi_base.specs.declared.kind.Kind.{Kind}
use Rattle.vlsi_base.specs.declared.kind.Kind.TheVariants as kind
use Rattle.cell_model.specs.Function.{Function, gate, flip_flop, other, opaque}
use Rattle.cell_model.specs.View.{function_view}
use Rattle.cell_model.specs.Usable.{IsPlainForm}
use Rattle.cell_model.specs.Covering.{IsGateOf, IsFunctionOf as HasKindOf}
use Rattle.cell_function.specs.Function.{AreScalar, most_inputs, IsGate, IsFlipFlop, IsFunction}
use Rattle.cell_function.proofs.Values.{all_inputs}
use Rattle.flow_run.specs.Same.{IsSameMachine, AreSameFunctions}

-- ---- machines

pub other_way : (m k : Machine) → IsSameMachine m k → IsSameMachine k m
other_way m k s = record { ports = sym s.ports; clock = sym s.clock; registers = sym s.registers; there = s.back; back = s.there }

abbrev inputs_by : Option Name → List Port → List Name
inputs_by clock ports = filter (λ n. not (is_clock clock n)) (names_of (filter (λ p. is_input p.dir) ports))

abbrev outputs_by : List Port → List Name
outputs_by ports = names_of (filter (λ p. not (is_input p.dir)) ports)

inputs_same : (m k : Machine) → IsSameMachine m k → inputs m ≡ inputs k
inputs_same m k s = ap (λ (o : Option Name). inputs_by o m.ports) s.clock ∙ ap (λ (ps : List Port). inputs_by k.clock ps) s.ports

outputs_same : (m k : Machine) → IsSameMachine m k → outputs m ≡ outputs k
outputs_same m k s = ap outputs_by s.ports

-- the one output of each has the same value
shown : (m k : Machine) (w x : List Bool) (o p : Name) → outputs m ≡ o ∷ [] → outputs k ≡ p ∷ [] → outs m w ≡ outs k x → value_at m.vars w o ≡ value_at k.vars x p
shown m k w x o p mo ko h =
    let both : value_at m.vars w o ∷ [] ≡ value_at k.vars x p ∷ [] = sym (ap (values_at m.vars w) mo) ∙ h ∙ ap (values_at k.vars x) ko in cc

no_names : (rs : List Register) → map (λ (r : Register). r.name) rs ≡ [] → rs ≡ []
no_names [] h = refl
no_names (r ∷ rs) h = absurd cc

one_name : (rs : List Register) (n : Name) → map (λ (r : Register). r.name) rs ≡ n ∷ [] → (r : Register) × (rs ≡ r ∷ [])
one_name [] n h = absurd cc
one_name (r ∷ []) n h = (r, refl)
one_name (r ∷ q ∷ rs) n h = absurd cc

abbrev loaded : List Bool → List Register → List (Bool × Bool)
loaded w rs = map (λ r. (val r.next w, val r.enable w)) rs

abbrev first_next : List (Bool × Bool) → Bool
first_next [] = false
first_next (p ∷ _) = p.0

abbrev first_enable : List (Bool × Bool) → Bool
first_enable [] = false
first_enable (p ∷ _) = p.1

-- ---- a gate is one of the other machine, and so is a flip-flop

gate_moves : (m k : Machine) → IsSameMachine m k → (e : Expression) → IsGate m e → IsGate k e
gate_moves m k s e g = record {
  scalars = subst (λ (ps : List Port). AreScalar ps) s.ports g.scalars;
  output = g.output;
  one = sym (outputs_same m k s) ∙ g.one;
  few = subst (λ (l : List Name). length l ≤ most_inputs) (inputs_same m k s) g.few;
  unclocked = sym s.clock ∙ g.unclocked;
  stateless = no_names k.registers (sym s.registers ∙ ap (λ (rs : List Register). map (λ (r : Register). r.name) rs) g.stateless);
  over = subst (λ (l : List Name). IsOver e (length l)) (inputs_same m k s) g.over;
  value = λ i w h.
      let r = s.back [] i w h in
      shown k m w r.0 g.output g.output (sym (outputs_same m k s) ∙ g.one) g.one r.2 ∙ g.value i r.0 r.1;
}

flip_flop_moves : (m k : Machine) → IsSameMachine m k → (d c : Name) → IsFlipFlop m d c → IsFlipFlop k d c
flip_flop_moves m k s d c f =
    let q = one_name k.registers f.register.name (sym s.registers ∙ ap (λ (rs : List Register). map (λ (r : Register). r.name) rs) f.stored) in
    record {
      scalars = subst (λ (ps : List Port). AreScalar ps) s.ports f.scalars;
      output = f.output;
      one = sym (outputs_same m k s) ∙ f.one;
      data_input = sym (inputs_same m k s) ∙ f.data_input;
      clock_input = sym s.clock ∙ f.clock_input;
      register = q.0;
      stored = q.1;
      plain = λ b i w h.
          let r = s.back (b ∷ []) (i ∷ []) w h in
          let p = f.plain b i r.0 r.1 in
          let same : loaded w (q.0 ∷ []) ≡ loaded r.0 (f.register ∷ []) = sym (ap (loaded w) q.1) ∙ r.3 ∙ ap (loaded r.0) f.stored in (
            ap first_next same ∙ p.0,
            ap first_enable same ∙ p.1,
            shown k m w r.0 f.output f.output (sym (outputs_same m k s) ∙ f.one) f.one r.2 ∙ p.2,
          );
    }

-- ---- what two machines are as cells

-- gates of machines that are the same have the same values
gates_same : (m k : Machine) → IsSameMachine m k → IsChecked m → (e f : Expression) → IsGate m e → IsGate k f → (i : List Bool) → length i ≡ length (inputs m) → val e i ≡ val f i
gates_same m k s checked e f g h i size =
    let held : length {A = Bool} [] ≡ length m.registers = ap (λ (rs : List Register). length rs) (sym g.stateless) in
    let w = built (i ++ []) m.equations in
    let settles = built_settles m [] i checked.ordered held size in
    let r = s.there [] i w settles in
    sym (g.value i w settles) ∙ shown m k w r.0 g.output h.output g.one h.one r.2 ∙ h.value i r.0 r.1

-- a machine with a register is no gate
gate_or_flip_flop : (m k : Machine) → IsSameMachine m k → (e : Expression) (d c : Name) → IsGate m e → IsFlipFlop k d c → ⊥
gate_or_flip_flop m k s e d c g f =
    let none : [] ≡ f.register ∷ [] = sym ((gate_moves m k s e g).stateless) ∙ f.stored in absurd cc

one_name_both : (a b : Name) (l : List Name) → l ≡ a ∷ [] → l ≡ b ∷ [] → a ≡ b
one_name_both a b l h g = let both : a ∷ [] ≡ b ∷ [] = sym h ∙ g in cc

one_clock_both : (a b : Name) (o : Option Name) → o ≡ Some a → o ≡ Some b → a ≡ b
one_clock_both a b o h g = let both : Some a ≡ Some b = sym h ∙ g in cc

pub functions_same : (m k : Machine) → IsSameMachine m k → IsChecked m → (f g : Parts) → IsFunction m f → IsFunction k g
    → AreSameFunctions (length (input_ports m)) (function_view f) (function_view g)
functions_same m k s checked (parts.Gate e) (parts.Gate f) g h =
    λ i size. gates_same m k s checked (view e) (view f) g h i (size ∙ sym (ap (λ (l : List Name). length l) (all_inputs m g.unclocked)))
functions_same m k s checked (parts.Gate e) (parts.FlipFlop d c) g h = gate_or_flip_flop m k s (view e) d c g h
functions_same m k s checked (parts.Gate e) (parts.Other x) g h = h.1 (view e) (gate_moves m k s (view e) g)
functions_same m k s checked (parts.Gate e) parts.Opaque g h = h
functions_same m k s checked (parts.FlipFlop d c) (parts.Gate e) g h = gate_or_flip_flop k m (other_way m k s) (view e) d c h g
functions_same m k s checked (parts.FlipFlop d c) (parts.FlipFlop a b) g h =
    (one_name_both d a (inputs k) (sym (inputs_same m k s) ∙ g.data_input) h.data_input, one_clock_both c b k.clock (sym s.clock ∙ g.clock_input) h.clock_input)
functions_same m k s checked (parts.FlipFlop d c) (parts.Other x) g h = h.2 d c (flip_flop_moves m k s d c g)
functions_same m k s checked (parts.FlipFlop d c) parts.Opaque g h = h
functions_same m k s checked (parts.Other y) (parts.Gate e) g h = g.1 (view e) (gate_moves k m (other_way m k s) (view e) h)
functions_same m k s checked (parts.Other y) (parts.FlipFlop d c) g h = g.2 d c (flip_flop_moves k m (other_way m k s) d c h)
functions_same m k s checked (parts.Other y) (parts.Other x) g h =
    subst (λ (a : Machine). IsSameMachine a x) (sym g.0) (subst (λ (a : Machine). IsSameMachine m a) (sym h.0) s)
functions_same m k s checked (parts.Other y) parts.Opaque g h = h
functions_same m k s checked parts.Opaque (parts.Gate e) g h = g
functions_same m k s checked parts.Opaque (parts.FlipFlop d c) g h = g
functions_same m k s checked parts.Opaque (parts.Other x) g h = g
functions_same m k s checked parts.Opaque parts.Opaque g h = tt

-- ---- what follows of functions that are the same

pub function_other_way : (n : ℕ) (f g : Function) → AreSameFunctions n f g → AreSameFunctions n g f
function_other_way n (gate e) (gate f) s = λ i size. sym (s i size)
function_other_way n (gate e) (flip_flop c d) s = s
function_other_way n (gate e) (other k) s = s
function_other_way n (gate e) opaque s = s
function_other_way n (flip_flop a b) (gate f) s = s
function_other_way n (flip_flop a b) (flip_flop c d) s = (sym s.0, sym s.1)
function_other_way n (flip_flop a b) (other k) s = s
function_other_way n (flip_flop a b) opaque s = s
function_other_way n (other m) (gate f) s = s
function_other_way n (other m) (flip_flop c d) s = s
function_other_way n (other m) (other k) s = other_way m k s
function_other_way n (other m) opaque s = s
function_other_way n opaque (gate f) s = s
function_other_way n opaque (flip_flop c d) s = s
function_other_way n opaque (other k) s = s
function_other_way n opaque opaque s = s

pub form_moves : (n : ℕ) (f g : Function) → AreSameFunctions n f g → IsPlainForm f → IsPlainForm g
form_moves n (gate e) (gate f) s h = h
form_moves n (gate e) (flip_flop c d) s h = absurd s
form_moves n (gate e) (other k) s h = s
form_moves n (gate e) opaque s h = s
form_moves n (flip_flop a b) (gate f) s h = absurd s
form_moves n (flip_flop a b) (flip_flop c d) s h = h
form_moves n (flip_flop a b) (other k) s h = s
form_moves n (flip_flop a b) opaque s h = s
form_moves n (other m) g s h = absurd h
form_moves n opaque g s h = absurd h

gate_kind_moves : (n : ℕ) (e f : Expression) → ((i : List Bool) → length i ≡ n → val e i ≡ val f i) → (k : Kind) → IsGateOf e n k → IsGateOf f n k
gate_kind_moves n e f s kind.Inv h = (h.0, λ a. sym (s (a ∷ []) (sym h.0)) ∙ h.1 a)
gate_kind_moves n e f s kind.Nand2 h = (h.0, λ a b. sym (s (a ∷ b ∷ []) (sym h.0)) ∙ h.1 a b)
gate_kind_moves n e f s kind.Zero h = (h.0, sym (s [] (sym h.0)) ∙ h.1)
gate_kind_moves n e f s kind.One h = (h.0, sym (s [] (sym h.0)) ∙ h.1)
gate_kind_moves n e f s kind.Dff h = h

pub kind_moves : (n : ℕ) (f g : Function) → AreSameFunctions n f g → (k : Kind) → HasKindOf f n k → HasKindOf g n k
kind_moves n (gate e) (gate f) s k h = gate_kind_moves n e f s k h
kind_moves n (gate e) (flip_flop c d) s k h = absurd s
kind_moves n (gate e) (other m) s k h = s
kind_moves n (gate e) opaque s k h = s
kind_moves n (flip_flop a b) (gate f) s k h = absurd s
kind_moves n (flip_flop a b) (flip_flop c d) s k h = h
kind_moves n (flip_flop a b) (other m) s k h = s
kind_moves n (flip_flop a b) opaque s k h = s
kind_moves n (other m) g s k h = absurd h
kind_moves n opaque g s k h = absurd h
