-- A machine that is alike one that is read can be written as a data-flow text.
use Rattle.std.proofs.Common.{◌≡◌, ℕ, List, [], ◌∷◌, refl, sym, ◌∙◌, ap, subst, arith}
use Rattle.std.specs.Ordering.{is_lt}
use Rattle.std.proofs.lemmas.List.Elements.{All-nil}
use Rattle.vlsi_base.specs.declared.name.Name.{Name}
use Rattle.vlsi_base.specs.declared.name.Port.{Port}
use Rattle.vlsi_base.specs.Member.{In}
use Rattle.text_names.specs.Words.{IsIdentifier, ArePortsNamed}
use Rattle.machine_core.specs.Machine.{Machine, Register, names_of, register_names}
use Rattle.machine_core.specs.Checked.{AreInOrder}
use Rattle.machine_core.proofs.Values.{In-map}
use Rattle.vlsi_model.proofs.Members.{In-map_back}
use Rattle.vbe_io.specs.Text.{IsVbe}
use Rattle.vbe_writable.specs.Laws.{MachineIsNamed, RegistersAreNamed, InOrderCanBeWritten, register_ports}
use Rattle.vbe_print.specs.Writable.{AreDeclared, CanBeVbe}
use Rattle.machine_core.specs.Alike.{IsAlike}

-- ports in the order of names that can be declared, perhaps none
pub declared : InOrderCanBeWritten → (ports : List Port) → ArePortsNamed ports → AreInOrder (names_of ports) → AreDeclared ports
declared law [] h order = record { words = All-nil (λ (p : Port). IsIdentifier p.name.text); runs = λ k p q e f same. absurd cc }
declared law (p ∷ ports) h order =
    let c = law (p ∷ ports) h (λ i j d low high. ap is_lt (order i j d low high)) (omega arith) in
    record { words = c.words; runs = c.runs }

names_back : (names : List Name) → names_of (register_ports names) ≡ names
names_back [] = refl
names_back (n ∷ names) = ap (λ (rest : List Name). n ∷ rest) (names_back names)

-- a register of one of two machines that are alike has its name in the other
record HasNamesake (m : Machine) (r : Register) : Type 0 where
  own : Register
  stands : In own m.registers
  named : own.name ≡ r.name

namesake : (m o : Machine) (r : Register) → register_names o ≡ register_names m → In r o.registers → HasNamesake m r
namesake m o r same i =
    let among = subst (λ (names : List Name). In r.name names) same (In-map (λ (x : Register). x.name) r o.registers i) in
    let back = In-map_back (λ (x : Register). x.name) r.name m.registers among in
    record { own = back.0; stands = back.1; named = back.2 }

pub can_be_vbe : MachineIsNamed → RegistersAreNamed → InOrderCanBeWritten → (source : List ℕ) (m o : Machine) → IsVbe source m → IsAlike m o → CanBeVbe o
can_be_vbe named stored law source m o is a =
    let words = named source m is in
    let kept = stored source m is in
    let checked = is.machine.checked in
    record {
      name = subst IsIdentifier (sym a.name) words.0;
      ports = subst AreDeclared (sym a.ports) (declared law m.ports words.1 checked.ports);
      registers = subst (λ (names : List Name). AreDeclared (register_ports names)) (sym a.registers)
          (declared law (register_ports (register_names m)) kept.named (subst AreInOrder (sym (names_back (register_names m))) checked.registers));
      apart = λ p r i j e.
          let other = namesake m o r a.registers j in
          kept.apart p other.own (subst (λ (ports : List Port). In p ports) a.ports i) other.stands (e ∙ sym (ap (λ (n : Name). n.text) other.named));
      clock = λ name e. kept.clock name (sym a.clock ∙ e);
    }
