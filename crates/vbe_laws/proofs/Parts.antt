-- Machines of one reading have the same ports, clock and registers.
use Rattle.std.proofs.Common.{◌≡◌, List, [], ◌∷◌, map, refl, sym, ap, ◌∙◌, subst}
use Rattle.std.proofs.lemmas.List.Sorted.{IsPermutation-sym}
use Rattle.vlsi_base.specs.declared.name.Name.{Name}
use Rattle.vlsi_base.specs.declared.name.Port.{Port}
use Rattle.machine_core.specs.Machine.{Machine, Register, register_names}
use Rattle.machine_core.specs.Checked.{AreInOrder}
use Rattle.source_checks.specs.declared.statement.DesignFile.{DesignFile}
use Rattle.source_checks.specs.Symbols.{symbols}
use Rattle.source_checks.specs.Elaboration.{Storage, storage, port_bits, IsMachineOf}
use Rattle.vbe_laws.specs.OneMachine.{HaveSameParts}
use Rattle.vbe_laws.proofs.Ordered.{Moved, moved_map}
use Rattle.vlsi_model.proofs.OneOrder.{one_order}
use Rattle.vbe_laws.proofs.Readings.{register_over}

pub same_ports : (design : DesignFile) (m k : Machine) → IsMachineOf design m → IsMachineOf design k → m.ports ≡ k.ports
same_ports design m k is of = one_order (λ (p : Port). p.name) (port_bits (symbols design)) m.ports k.ports is.ports of.ports is.checked.ports of.checked.ports

-- the bits that are stored, in the order of names: both machines' registers are these, each over its own numbers
pub record StoreTheSame (m k : Machine) : Type 0 where
  pub bits : List Storage
  pub first : m.registers ≡ map (register_over m.vars) bits
  pub second : k.registers ≡ map (register_over k.vars) bits

names_over : (vars : List Name) (rs : List Storage) → map (λ (r : Register). r.name) (map (register_over vars) rs) ≡ map (λ (r : Storage). r.name) rs
names_over vars [] = refl
names_over vars (r ∷ rs) = ap (λ (ns : List Name). r.name ∷ ns) (names_over vars rs)

stored_names : (m : Machine) (rs : List Storage) → m.registers ≡ map (register_over m.vars) rs → register_names m ≡ map (λ (r : Storage). r.name) rs
stored_names m rs is = ap (map (λ (r : Register). r.name)) is ∙ names_over m.vars rs

stored_order : (m : Machine) (rs : List Storage) → m.registers ≡ map (register_over m.vars) rs → AreInOrder (register_names m) → AreInOrder (map (λ (r : Storage). r.name) rs)
stored_order m rs is order = subst AreInOrder (stored_names m rs is) order

pub same_storage : (design : DesignFile) (m k : Machine) → IsMachineOf design m → IsMachineOf design k → StoreTheSame m k
same_storage design m k is of =
    let p : Moved (register_over m.vars) (storage design) m.registers = moved_map (register_over m.vars) (storage design) m.registers is.registers in
    let q : Moved (register_over k.vars) (storage design) k.registers = moved_map (register_over k.vars) (storage design) k.registers of.registers in
    let same : q.items ≡ p.items =
    one_order (λ (r : Storage). r.name) (storage design) q.items p.items
    (IsPermutation-sym (storage design) q.items q.order) (IsPermutation-sym (storage design) p.items p.order)
    (stored_order k q.items q.is of.checked.registers) (stored_order m p.items p.is is.checked.registers) in
    record { bits = p.items; first = p.is; second = q.is ∙ ap (map (register_over k.vars)) same }

pub same_registers : (m k : Machine) → StoreTheSame m k → register_names m ≡ register_names k
same_registers m k s = stored_names m s.bits s.first ∙ sym (stored_names k s.bits s.second)

pub same_parts : (design : DesignFile) (m k : Machine) → IsMachineOf design m → IsMachineOf design k → HaveSameParts m k
same_parts design m k is of = record {
  name = is.name ∙ sym of.name;
  ports = same_ports design m k is of;
  clock = is.clock ∙ sym of.clock;
  registers = same_registers m k (same_storage design m k is of);
}
