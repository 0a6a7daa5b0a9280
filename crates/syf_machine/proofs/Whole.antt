-- What is made of a state machine: it is its machine, it is checked, and its names have numbers of 32 bits.
use Rattle.std.proofs.Common.{◌≡◌, ℕ, ◌+◌, ◌-◌, ◌<◌, ◌≤◌, ◌^◌, Bool, not, List, map, filter, length, codes, refl, sym, ap, subst, ◌∙◌, arith}
use Rattle.std.proofs.lemmas.List.{length-map}
use Rattle.std.proofs.lemmas.List.Filters.{length-filter_both}
use Rattle.vlsi_base.specs.declared.name.Name.{Name}
use Rattle.vlsi_base.specs.declared.name.Port.{Port}
use Rattle.machine_core.specs.Named.{is_same_name}
use Rattle.machine_core.specs.Machine.{Machine, Equation, Register, is_input, names_of}
use Rattle.machine_core.specs.Checked.{IsChecked}
use Rattle.text_names.specs.Free.{IsFirstFree}
use Rattle.text_names.specs.Laws.{TextsAreFree}
use Rattle.fsm_machine.specs.Statements.{Statements}
use Rattle.fsm_machine.specs.Fsm.{Fsm, fsm_inputs, fsm_outputs}
use Rattle.fsm_machine.specs.Codes.{Codes, AreCodes}
use Rattle.fsm_machine.specs.Signals.{signals}
use Rattle.fsm_machine.specs.MachineOf.{machine_of, up}
use Rattle.fsm_machine.specs.Meaning.{MachineIsOrdered}
use Rattle.fsm_code.specs.Over.{IsBodyOver, numbered_body}
use Rattle.fsm_core.specs.Checked.{IsCheckedFsm}
use Rattle.syf_machine.specs.Named.{texts_of, port_texts, inner_count, inner_names, numbers_from, port_numbers, is_read, HasFewSignals, IsMachineOf}
use Rattle.syf_machine.specs.Pieces.{equations_from, register_of, machine_with}
use Rattle.syf_machine.proofs.Numbers.{body_over}
use Rattle.syf_machine.proofs.Encoded.{are_free, inner_each, vars_each, driven_are, is_checked}
use Rattle.syf_machine.proofs.Made.{machine_is}

-- ---- how many names there are

filter_fits : {A : Type 0} (p : A → Bool) (xs : List A) → length (filter p xs) ≤ length xs
filter_fits p xs = let h = length-filter_both p (λ x. not (p x)) (λ x. refl) xs in omega arith

reads_fit : (clock : Name) (ports : List Port) → length (names_of (filter (is_read clock) ports)) ≤ length ports
reads_fit clock ports =
    let a = length-map (filter (is_read clock) ports) (λ (p : Port). p.name) in
    let b = filter_fits (is_read clock) ports in
    omega arith

ports_fit : (f : Fsm) → length (fsm_inputs f) + length (fsm_outputs f) ≤ length f.ports
ports_fit f =
    let both = length-filter_both (λ (p : Port). is_input p.dir) (λ (p : Port). not (is_input p.dir)) (λ p. refl) f.ports in
    let ins = length-map (filter (λ (p : Port). is_input p.dir) f.ports) (λ (p : Port). p.name) in
    let outs = length-map (filter (λ (p : Port). not (is_input p.dir)) f.ports) (λ (p : Port). p.name) in
    let read = filter_fits (λ name. not (is_same_name f.clock name)) (names_of (filter (λ p. is_input p.dir) f.ports)) in
    omega arith

-- ---- the machine

-- the inputs, equations and registers that were made of a state machine and codes of its states
pub record IsMade (f : Fsm) (c : Codes) (st : List ℕ) (ins : List Name) (equations : List Equation) (registers : List Register) : Type 0 where
  pub checked : IsCheckedFsm f
  pub are : AreCodes (length f.states) c
  pub room : HasFewSignals f c
  pub first : IsFirstFree (codes "st") (port_texts f) st
  pub ins_are : ins ≡ names_of (filter (is_read f.clock) f.ports)
  pub equations_are : equations ≡ equations_from c (length ins) f.ports (numbered_body (port_numbers f) f.body)
  pub registers_are : registers ≡ map (register_of c (length ins + c.width + length c.codes) (numbered_body (port_numbers f) f.body) st) (up 0 c.width)

-- from what the functions say of what they read and made
pub gathered : (f : Fsm) (c : Codes) (st : List ℕ) (ins : List Name) (equations : List Equation) (registers : List Register)
    (ports : List Port) (clock other : Name) (numbers : List ℕ) (body : Statements) (base wide states : ℕ)
    → IsCheckedFsm f → AreCodes (length f.states) c → HasFewSignals f c
    → ports ≡ f.ports → clock ≡ f.clock → other ≡ f.clock → body ≡ f.body → base ≡ length ins → wide ≡ c.width → states ≡ length c.codes
    → IsFirstFree (codes "st") (texts_of ports) st → ins ≡ names_of (filter (is_read clock) ports) → numbers ≡ numbers_from 0 other ports
    → equations ≡ equations_from c base ports (numbered_body numbers body)
    → registers ≡ map (register_of c (base + wide + states) (numbered_body numbers body) st) (up 0 c.width)
    → IsMade f c st ins equations registers
gathered f c st ins equations registers ports clock other numbers body base wide states checked are room e1 e2 e3 e4 e5 e6 e7 free i m e r =
    let n : numbers ≡ port_numbers f = m ∙ ap (λ (k : Name). numbers_from 0 k ports) e3 ∙ ap (numbers_from 0 f.clock) e1 in
    let b : numbered_body numbers body ≡ numbered_body (port_numbers f) f.body = ap (λ (ns : List ℕ). numbered_body ns body) n ∙ ap (numbered_body (port_numbers f)) e4 in
    record {
      checked = checked;
      are = are;
      room = room;
      first = subst (λ (ps : List Port). IsFirstFree (codes "st") (texts_of ps) st) e1 free;
      ins_are = i ∙ ap (λ (k : Name). names_of (filter (is_read k) ports)) e2 ∙ ap (λ (ps : List Port). names_of (filter (is_read f.clock) ps)) e1;
      equations_are = e ∙ ap (λ k. equations_from c k ports (numbered_body numbers body)) e5
          ∙ ap (λ (ps : List Port). equations_from c (length ins) ps (numbered_body numbers body)) e1 ∙ ap (equations_from c (length ins) f.ports) b;
      registers_are = r ∙ ap (λ k. map (register_of c (k + wide + states) (numbered_body numbers body) st) (up 0 c.width)) e5
          ∙ ap (λ k. map (register_of c (length ins + k + states) (numbered_body numbers body) st) (up 0 c.width)) e6
          ∙ ap (λ k. map (register_of c (length ins + c.width + k) (numbered_body numbers body) st) (up 0 c.width)) e7
          ∙ ap (λ (x : Statements). map (register_of c (length ins + c.width + length c.codes) x st) (up 0 c.width)) b;
    }

-- the numbers of what is named are those of 32 bits
pub room_for : (f : Fsm) (c : Codes) (ports : List Port) (clock : Name) (ins : List Name) → HasFewSignals f c → ports ≡ f.ports
    → ins ≡ names_of (filter (is_read clock) ports) → length ins + length ports + c.width + length c.codes + signals f.body < 2 ^ 32
room_for f c ports clock ins room e1 i =
    let fit = reads_fit clock ports in
    let count = ap (λ (ns : List Name). length ns) i in
    let same = ap (λ (ps : List Port). length ps) e1 in
    omega (arith, room, fit, count, same)

-- the statements read ports that have numbers
pub over_numbers : (f : Fsm) (ports : List Port) (clock : Name) (numbers : List ℕ) (body : Statements) → IsCheckedFsm f → ports ≡ f.ports → clock ≡ f.clock → body ≡ f.body
    → numbers ≡ numbers_from 0 clock ports → IsBodyOver (length numbers) body
over_numbers f ports clock numbers body checked e1 e2 e3 m =
    let n : numbers ≡ port_numbers f = m ∙ ap (λ (k : Name). numbers_from 0 k ports) e2 ∙ ap (numbers_from 0 f.clock) e1 in
    subst (λ (b : Statements). IsBodyOver (length numbers) b) (sym e3)
    (subst (λ (ns : List ℕ). IsBodyOver (length ns) f.body) (sym n) (body_over f f.body checked.reads))

pub few : (f : Fsm) (c : Codes) → AreCodes (length f.states) c → HasFewSignals f c
    → inner_count f + length f.ports < 2 ^ 32
few f c are room = let e = are.each in omega arith

pub is_machine : (f : Fsm) (c : Codes) (st : List ℕ) (ins : List Name) (equations : List Equation) (registers : List Register) → TextsAreFree
    → IsMade f c st ins equations registers → machine_with f ins equations registers ≡ machine_of f c st (inner_names f)
is_machine f c st ins equations registers free made =
    let known = are_free f free (few f c made.are made.room) in
    machine_is f c st ins equations registers made.checked made.are (inner_each f known) (driven_are f c st known) made.ins_are made.equations_are made.registers_are

pub made_checked : (f : Fsm) (c : Codes) (st : List ℕ) (ins : List Name) (equations : List Equation) (registers : List Register) → TextsAreFree → MachineIsOrdered
    → IsMade f c st ins equations registers → IsChecked (machine_with f ins equations registers)
made_checked f c st ins equations registers free ordered made =
    subst IsChecked (sym (is_machine f c st ins equations registers free made))
    (is_checked f c st free ordered made.checked made.are made.first (few f c made.are made.room))

pub made_of : (f : Fsm) (c : Codes) (st : List ℕ) (ins : List Name) (equations : List Equation) (registers : List Register) → TextsAreFree
    → IsMade f c st ins equations registers → IsMachineOf f c (machine_with f ins equations registers)
made_of f c st ins equations registers free made = record {
  few = few f c made.are made.room;
  st = st;
  first = made.first;
  is = is_machine f c st ins equations registers free made;
}

-- with the ports, the variables of the machine
pub vars_few : (f : Fsm) (c : Codes) (st : List ℕ) → TextsAreFree → AreCodes (length f.states) c → HasFewSignals f c
    → length (machine_of f c st (inner_names f)).vars + length f.ports < 2 ^ 32 - 2 ^ 16
vars_few f c st free are room =
    let each = inner_each f (are_free f free (few f c are room)) in
    let vars = vars_each f c st (inner_names f) in
    let ports = ports_fit f in
    let states = are.each in
    omega (arith, each, vars, ports, states, room)

pub made_few : (f : Fsm) (c : Codes) (st : List ℕ) (ins : List Name) (equations : List Equation) (registers : List Register) → TextsAreFree
    → IsMade f c st ins equations registers
    → length (machine_with f ins equations registers).vars + length (machine_with f ins equations registers).ports < 2 ^ 32 - 2 ^ 16
made_few f c st ins equations registers free made =
    let P : Machine → Type 0 = λ m. length m.vars + length m.ports < 2 ^ 32 - 2 ^ 16 in
    subst P (sym (is_machine f c st ins equations registers free made)) (vars_few f c st free made.are made.room)
