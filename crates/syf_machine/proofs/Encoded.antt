-- The machine of a checked state machine is encoded, checked, and does what the state machine does.
use Rattle.std.proofs.Common.{◌≡◌, ℕ, zero, suc, ◌+◌, ◌<◌, ◌≤◌, ◌^◌, Bool, true, false, not, List, [], ◌∷◌, ◌++◌, map, filter, length, codes, Option, Some, unwrap_or, ◌⊎◌, inl, inr, length-append, refl, subst, sym, ap, ◌∙◌, arith}
use Rattle.std.specs.List.{All}
use Rattle.std.proofs.lemmas.List.{length-map}
use Rattle.vlsi_base.specs.declared.name.Name.{Name}
use Rattle.vlsi_base.specs.Member.{In, AllDifferent}
use Rattle.vlsi_base.specs.Names.{scalar}
use Rattle.bool_expr.specs.Expression.{IsOver, constant}
use Rattle.machine_core.specs.Named.{is_same_name}
use Rattle.machine_core.specs.Machine.{Machine, Register, is_input, names_of, input_ports}
use Rattle.machine_core.specs.Order.{equation_names}
use Rattle.machine_core.specs.Checked.{IsChecked, IsNoSupply, IsClockOf, AreInOrder}
use Rattle.machine_core.proofs.Names.{same_name-itself}
use Rattle.text_names.specs.Free.{IsFirstFree, free_texts, free_numbers, is_free}
use Rattle.text_names.specs.Laws.{AreFree, TextsAreFree}
use Rattle.fsm_machine.specs.Fsm.{Fsm, fsm_inputs, fsm_outputs, walked_next, walked_output, FsmRun}
use Rattle.fsm_machine.specs.Assigned.{AssignedIsKnown}
use Rattle.fsm_machine.specs.Codes.{Codes, AreCodes}
use Rattle.fsm_machine.specs.Signals.{signals}
use Rattle.fsm_machine.specs.MachineOf.{machine_of, code_names, up, next_bit, body_base, placed_body, inner_expressions, output_expression, port_places}
use Rattle.fsm_machine.specs.Meaning.{IsEncoded, StepsWithState, ResetsFromAll, MachineIsOrdered, RunsFromState, RunsAfterReset}
use Rattle.fsm_machine.proofs.ByName.{names_named}
use Rattle.fsm_machine.proofs.Ordered.{next_bit_over}
use Rattle.fsm_machine.proofs.Running.{next_below}
use Rattle.fsm_machine.proofs.Step.{register_names_are, length_code_names, length_inner}
use Rattle.fsm_code.proofs.Numbers.{signals_moved}
use Rattle.fsm_core.specs.Checked.{IsCheckedFsm}
use Rattle.syf_machine.specs.Named.{port_texts, inner_count, inner_names, IsMachineOf}
use Rattle.syf_machine.specs.Meaning.{DoesAs}
use Rattle.syf_machine.proofs.Lists.{in_either, in_second, joined_differ, in_filter, filter_differs, in_map, map_differs, contains_in, in_contains, all_in, all_by, all_known, some_value}
use Rattle.syf_machine.proofs.Naming.{in_order_differ, bits_in_order, bits_differ, bit_text, port_in, ports_differ, apart_dirs, either_dir, text_in, free_not_in, first, first_of_st, first_of_inner, no_supply}

-- ---- where names stand

in_ports : (f : Fsm) (x : Name) → In x (fsm_inputs f) → In x (names_of f.ports)
in_ports f x i = port_in is_input x f.ports (in_filter (λ name. not (is_same_name f.clock name)) x (names_of (filter (λ p. is_input p.dir) f.ports)) i).0

out_ports : (f : Fsm) (x : Name) → In x (fsm_outputs f) → In x (names_of f.ports)
out_ports f x i = port_in (λ d. not (is_input d)) x f.ports i

-- no register and no signal inside has a port's name
bit_no_port : (f : Fsm) (c : Codes) (st : List ℕ) → IsFirstFree (codes "st") (port_texts f) st → (x : Name) → In x (code_names st c.width) → In x (names_of f.ports) → ⊥
bit_no_port f c st h x i j =
    let P : List ℕ → Type 0 = λ t. In t (port_texts f) in
    free_not_in (port_texts f) st h.free (subst P (bit_text st c.width x i) (text_in x f.ports j))

abbrev pub inner_texts : Fsm → List (List ℕ)
inner_texts f = free_texts (codes "n") (port_texts f) (inner_count f)

pub are_free : (f : Fsm) → TextsAreFree → inner_count f + length f.ports < 2 ^ 32 → AreFree (port_texts f) (inner_count f) (inner_texts f)
are_free f free few =
    let e : length (port_texts f) ≡ length f.ports = length-map f.ports (λ p. p.name.text) in
    free (codes "n") (port_texts f) (inner_count f) (omega arith)

inner_no_port : (f : Fsm) → AreFree (port_texts f) (inner_count f) (inner_texts f) → (x : Name) → In x (inner_names f) → In x (names_of f.ports) → ⊥
inner_no_port f free x i j =
    let found = in_map scalar x (inner_texts f) i in
    let P : List ℕ → Type 0 = λ t. In t (port_texts f) in
    let text : x.text ≡ found.0 = ap (λ (n : Name). n.text) found.2 in
    free_not_in (port_texts f) found.0 (all_in (λ t. is_free (port_texts f) t ≡ true) (inner_texts f) free.free found.0 found.1) (subst P text (text_in x f.ports j))

inner_first : (f : Fsm) (x : Name) → In x (inner_names f) → first x.text ≡ 110
inner_first f x i =
    let found = in_map scalar x (inner_texts f) i in
    ap (λ (n : Name). first n.text) found.2 ∙ first_of_inner (free_numbers (codes "n") (port_texts f) (inner_count f)) found.0 found.1

-- Inputs and outputs are ports of different names, which stand in order; `st` and the texts of inner signals are no port's, and begin
-- with different letters; the bits of `st` have different numbers.
names_differ : (f : Fsm) (c : Codes) (st : List ℕ) → AreFree (port_texts f) (inner_count f) (inner_texts f) → IsCheckedFsm f → IsFirstFree (codes "st") (port_texts f) st
    → AllDifferent (machine_of f c st (inner_names f)).vars
names_differ f c st free checked st_free =
    let ports = in_order_differ (names_of f.ports) checked.ports in
    let ins = fsm_inputs f in
    let bits = code_names st c.width in
    let inner = inner_names f in
    let outs = fsm_outputs f in
    joined_differ (ins ++ bits) (inner ++ outs)
    (joined_differ ins bits
    (filter_differs (λ name. not (is_same_name f.clock name)) (names_of (filter (λ p. is_input p.dir) f.ports)) (ports_differ is_input f.ports ports))
    (bits_differ st 0 c.width)
    (λ x i j. bit_no_port f c st st_free x j (in_ports f x i)))
    (joined_differ inner outs
    (map_differs scalar (inner_texts f) (λ a b e. ap (λ (n : Name). n.text) e) free.different)
    (ports_differ (λ d. not (is_input d)) f.ports ports)
    (λ x i j. inner_no_port f free x i (out_ports f x j)))
    (λ x i j. apart x (in_either x ins bits i) (in_either x inner outs j)) where
      apart : (x : Name) → In x (fsm_inputs f) ⊎ In x (code_names st c.width) → In x (inner_names f) ⊎ In x (fsm_outputs f) → ⊥
      apart x (inl i) (inl j) = inner_no_port f free x j (in_ports f x i)
      apart x (inl i) (inr j) =
          apart_dirs x f.ports (in_order_differ (names_of f.ports) checked.ports)
          (in_filter (λ name. not (is_same_name f.clock name)) x (names_of (filter (λ p. is_input p.dir) f.ports)) i).0 j
      apart x (inr i) (inl j) =
          let a : first x.text ≡ 115 = ap first (bit_text st c.width x i) ∙ first_of_st (port_texts f) st st_free in
          let b = inner_first f x j in
          omega arith
      apart x (inr i) (inr j) = bit_no_port f c st st_free x i (out_ports f x j)

pub inner_each : (f : Fsm) → AreFree (port_texts f) (inner_count f) (inner_texts f) → length (inner_names f) ≡ length f.states + signals f.body
inner_each f free = length-map (inner_texts f) scalar ∙ free.each

pub is_encoded : (f : Fsm) (c : Codes) (st : List ℕ) → TextsAreFree → IsCheckedFsm f → AreCodes (length f.states) c → IsFirstFree (codes "st") (port_texts f) st
    → inner_count f + length f.ports < 2 ^ 32 → IsEncoded f c st (inner_names f)
is_encoded f c st free checked are st_free few = record {
  sound = checked.sound;
  codes = are;
  names = names_differ f c st (are_free f free few) checked st_free;
  count = inner_each f (are_free f free few);
}

-- ---- checked

pub vars_each : (f : Fsm) (c : Codes) (st : List ℕ) (inner : List Name) → length (machine_of f c st inner).vars ≡ length (fsm_inputs f) + c.width + (length inner + length (fsm_outputs f))
vars_each f c st inner =
    let a = length-append (fsm_inputs f ++ code_names st c.width) (inner ++ fsm_outputs f) in
    let b = length-append (fsm_inputs f) (code_names st c.width) in
    let d = length-append inner (fsm_outputs f) in
    let e = length_code_names st c.width in
    omega arith

all_mapped : (P : Register → Type 0) (g : ℕ → Register) (ks : List ℕ) → ((k : ℕ) → P (g k)) → All P (map g ks)
all_mapped P g [] h i d l = absurd (omega arith)
all_mapped P g (k ∷ ks) h zero d l = h k
all_mapped P g (k ∷ ks) h (suc i) d l = all_mapped P g ks h i d (omega arith)

-- the names of the equations: those of the signals inside, and of the outputs
pub driven_are : (f : Fsm) (c : Codes) (st : List ℕ) → AreFree (port_texts f) (inner_count f) (inner_texts f)
    → equation_names (machine_of f c st (inner_names f)) ≡ inner_names f ++ fsm_outputs f
driven_are f c st free =
    names_named (inner_names f ++ fsm_outputs f) (inner_expressions f c ++ map (output_expression f c) (fsm_outputs f))
    (let a = length-append (inner_names f) (fsm_outputs f) in
    let b = length-append (inner_expressions f c) (map (output_expression f c) (fsm_outputs f)) in
    let d = length-map (fsm_outputs f) (output_expression f c) in
    let e = length_inner f c in
    let g = inner_each f free in omega arith)

-- what `Machine` asks of its parts
pub is_checked : (f : Fsm) (c : Codes) (st : List ℕ) → TextsAreFree → MachineIsOrdered → IsCheckedFsm f → AreCodes (length f.states) c
    → IsFirstFree (codes "st") (port_texts f) st → inner_count f + length f.ports < 2 ^ 32 → IsChecked (machine_of f c st (inner_names f))
is_checked f c st free ordered checked are st_free few = record {
  ports = checked.ports;
  registers = subst AreInOrder (sym (register_names_are f c st (inner_names f))) (bits_in_order st c.width);
  supplies = all_by IsNoSupply (names_of f.ports ++ (machine_of f c st (inner_names f)).vars) supply;
  driven = λ name i. subst (In name) (sym (driven_are f c st known_free)) (in_second name (inner_names f) (fsm_outputs f) i);
  clock = λ name is. subst (IsClockOf (machine_of f c st (inner_names f))) (some_name f.clock name is) (record {
    port = clock_port;
    apart = λ i. (elim (in_either f.clock (fsm_inputs f ++ code_names st c.width) (inner_names f ++ fsm_outputs f) i)
        [ inl a ↦ no_held (in_either f.clock (fsm_inputs f) (code_names st c.width) a) | inr b ↦ no_equation (in_either f.clock (inner_names f) (fsm_outputs f) b) ]);
  });
  clocked = λ never. absurd (cc never);
  ordered = ordered f c st (inner_names f) (is_encoded f c st free checked are st_free few);
  loads = all_mapped (λ r. IsOver r.next (length (machine_of f c st (inner_names f)).vars) × IsOver r.enable (length (machine_of f c st (inner_names f)).vars))
      (λ k. record { name = record { text = st; bit = Some k }; next = next_bit f c k; enable = constant true }) (up 0 c.width) (λ k. (next_bit_over f c k (length (machine_of f c st (inner_names f)).vars) long, tt));
} where
  some_name : (a b : Name) → Some a ≡ Some b → a ≡ b
  some_name a b e = ap (λ (o : Option Name). unwrap_or o a) e

  known_free : AreFree (port_texts f) (inner_count f) (inner_texts f)
  known_free = are_free f free few

  port_supply : (x : Name) → In x (names_of f.ports) → IsNoSupply x
  port_supply x i = all_in IsNoSupply (names_of f.ports) checked.supplies x i

  held : (x : Name) → In x (fsm_inputs f) ⊎ In x (code_names st c.width) → IsNoSupply x
  held x (inl i) = port_supply x (in_ports f x i)
  held x (inr i) = no_supply x 115 (ap first (bit_text st c.width x i) ∙ first_of_st (port_texts f) st st_free) (omega arith)

  driven_one : (x : Name) → In x (inner_names f) ⊎ In x (fsm_outputs f) → IsNoSupply x
  driven_one x (inl i) = no_supply x 110 (inner_first f x i) (omega arith)
  driven_one x (inr i) = port_supply x (out_ports f x i)

  var_supply : (x : Name) → In x (fsm_inputs f ++ code_names st c.width) ⊎ In x (inner_names f ++ fsm_outputs f) → IsNoSupply x
  var_supply x (inl i) = held x (in_either x (fsm_inputs f) (code_names st c.width) i)
  var_supply x (inr i) = driven_one x (in_either x (inner_names f) (fsm_outputs f) i)

  supply : (x : Name) → In x (names_of f.ports ++ (machine_of f c st (inner_names f)).vars) → IsNoSupply x
  supply x i =
      elim (in_either x (names_of f.ports) (machine_of f c st (inner_names f)).vars i)
      [ inl a ↦ port_supply x a | inr b ↦ var_supply x (in_either x (fsm_inputs f ++ code_names st c.width) (inner_names f ++ fsm_outputs f) b) ]

  clock_port : In f.clock (input_ports (machine_of f c st (inner_names f)))
  clock_port = elim (either_dir f.clock f.ports (contains_in (names_of f.ports) f.clock checked.clock))
      [ inl a ↦ a | inr b ↦ absurd (checked.unobserved (in_contains f.clock (fsm_outputs f) b)) ]

  no_held : In f.clock (fsm_inputs f) ⊎ In f.clock (code_names st c.width) → ⊥
  no_held (inl i) =
      let other = (in_filter (λ name. not (is_same_name f.clock name)) f.clock (names_of (filter (λ p. is_input p.dir) f.ports)) i).1 in
      let never : false ≡ true = sym (ap not (same_name-itself f.clock)) ∙ other in absurd cc
  no_held (inr i) = bit_no_port f c st st_free f.clock i (contains_in (names_of f.ports) f.clock checked.clock)

  no_equation : In f.clock (inner_names f) ⊎ In f.clock (fsm_outputs f) → ⊥
  no_equation (inl i) = inner_no_port f (are_free f free few) f.clock i (contains_in (names_of f.ports) f.clock checked.clock)
  no_equation (inr i) = checked.unobserved (in_contains f.clock (fsm_outputs f) i)

  long : body_base f c + signals (placed_body f) ≤ length (machine_of f c st (inner_names f)).vars
  long =
      let a = vars_each f c st (inner_names f) in
      let b = inner_each f (are_free f free few) in
      let d : signals (placed_body f) ≡ signals f.body = signals_moved (port_places f) f.body in
      omega arith

-- ---- runs

runs_on : (f : Fsm) (c : Codes) (st : List ℕ) (inner : List Name) → AssignedIsKnown → IsCheckedFsm f → IsEncoded f c st inner
    → (v : List (List Bool)) (s : ℕ) → s < length f.states → (y : List (List Bool)) × FsmRun f s v y
runs_on f c st inner known checked e [] s below = ([], refl)
runs_on f c st inner known checked e (i ∷ v) s below =
    let is = known f i s checked.assigned below in
    let outs = all_known (walked_output f i (Some s)) (fsm_outputs f) (λ name j. is.1 name (in_contains name (fsm_outputs f) j)) in
    let next = some_value (walked_next f i (Some s)) is.0 in
    let rest = runs_on f c st inner known checked e v next.0 (next_below f c st inner e i (Some s) next.0 next.1) in
    (outs.0 ∷ rest.0, (outs.0, outs.1, (next.0, next.1, (rest.0, refl, rest.1))))

pub does_as : (f : Fsm) (c : Codes) (m : Machine) → TextsAreFree → AssignedIsKnown → StepsWithState → ResetsFromAll → RunsFromState → RunsAfterReset
    → IsCheckedFsm f → AreCodes (length f.states) c → IsMachineOf f c m → DoesAs f c m
does_as f c m free known steps resets runs after checked are made =
    let inner = inner_names f in
    let e = is_encoded f c made.st free checked are made.first made.few in
    subst (DoesAs f c) (sym made.is) (record {
      outputs = λ s i w y below each settles known. (steps f c made.st inner e s i w below each settles).0 y known;
      states = λ s t i w below each settles leads. (steps f c made.st inner e s i w below each settles).1 t leads;
      resets = λ contents i w r wide each settles to. resets f c made.st inner e contents i w r each wide settles to;
      runs = λ s v y below vectors run. runs f c made.st inner e s v y below vectors run;
      each = λ s v below. runs_on f c made.st inner known checked e v s below;
      reset_runs = λ contents i r v y wide vectors to run. after f c made.st inner e contents i r v y wide vectors to run;
    })
