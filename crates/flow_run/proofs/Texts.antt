-- Bytes are the text of at most one cell.
use Rattle.std.proofs.Common.{◌≡◌, ℕ, List, Option, None, Some, refl, sym, ap, ◌∙◌}
use Rattle.std.specs.Prelude.{filter, not}
use Rattle.vlsi_base.specs.declared.name.Name.{Name}
use Rattle.vlsi_base.specs.declared.name.Port.{Port}
use Rattle.machine_core.specs.Machine.{Machine, is_input, is_clock, names_of, inputs}
use Rattle.vbe_io.specs.Text.{IsVbe}
use Rattle.vbe_io.proofs.CellLaws.{cell_is_machine}
use Rattle.vbe_laws.specs.OneMachine.{HaveSameParts, HaveSameMachines, CellsSayTheSame, MachinesHaveTheSameEquations, MachinesSettleTheSame}
use Rattle.flow_run.specs.Same.{IsSameMachine, AreSameMachines, TextsAreSame}
use Rattle.flow_run.proofs.Steps.{SettleAlike, LoadAlike, steps_as}

abbrev inputs_by : Option Name → List Port → List Name
inputs_by clock ports = filter (λ n. not (is_clock clock n)) (names_of (filter (λ p. is_input p.dir) ports))

same_inputs : (m k : Machine) → HaveSameParts m k → inputs m ≡ inputs k
same_inputs m k s = ap (λ (o : Option Name). inputs_by o m.ports) s.clock ∙ ap (λ (ps : List Port). inputs_by k.clock ps) s.ports

settle_alike : MachinesSettleTheSame → (bytes : List ℕ) (m k : Machine) → IsVbe bytes m → IsVbe bytes k → SettleAlike m k
settle_alike settling bytes m k im ik s i w x h g = let a = settling bytes m k im ik s i w x h g in (a.names, a.outputs)

load_alike : MachinesHaveTheSameEquations → (bytes : List ℕ) (m k : Machine) → IsVbe bytes m → IsVbe bytes k → LoadAlike m k
load_alike equations bytes m k im ik r i = let h = (equations bytes m k im ik).registers r i in (h.own, h.stands, h.name, h.next, h.enable)

machines_same : MachinesSettleTheSame → MachinesHaveTheSameEquations → (bytes : List ℕ) (m k : Machine) → IsVbe bytes m → IsVbe bytes k → HaveSameParts m k → IsSameMachine m k
machines_same settling equations bytes m k im ik s =
    let om = im.machine.checked.ordered in
    let ok = ik.machine.checked.ordered in
    let ins = same_inputs m k s in
    record {
      ports = s.ports;
      clock = s.clock;
      registers = s.registers;
      there = steps_as m k om ok ins s.registers (settle_alike settling bytes m k im ik) (load_alike equations bytes m k im ik);
      back = steps_as k m ok om (sym ins) (sym s.registers) (settle_alike settling bytes k m ik im) (load_alike equations bytes k m ik im);
    }

pub same_texts : CellsSayTheSame → MachinesSettleTheSame → MachinesHaveTheSameEquations → TextsAreSame
same_texts cells settling equations bytes a b ia ib =
    let s = cells bytes a b ia ib in
    record { ports = s.ports; generics = s.generics; machine = by a.machine refl b.machine refl s.machine }
  where
    by : (o : Option Machine) → a.machine ≡ o → (p : Option Machine) → b.machine ≡ p → HaveSameMachines o p → AreSameMachines o p
    by None e None f h = tt
    by None e (Some k) f h = h
    by (Some m) e None f h = h
    by (Some m) e (Some k) f h = machines_same settling equations bytes m k (cell_is_machine bytes a m ia e) (cell_is_machine bytes b k ib f) h.1
