-- Machines whose names a data-flow text can declare.
use Rattle.std.specs.Prelude.{◌≡◌, ◌+◌, ℕ, List, None, Some, slice_get}
use Rattle.std.specs.List.{All}
use Rattle.vlsi_base.specs.declared.name.Name.{Name}
use Rattle.vlsi_base.specs.declared.name.Port.{Port}
use Rattle.vlsi_base.specs.Member.{In}
use Rattle.machine_core.specs.Machine.{Machine, Register, register_names}
use Rattle.text_names.specs.Words.{IsIdentifier, GoesOn}
use Rattle.vbe_print.specs.Written.{as_ports}

-- ports in the order of names, perhaps none, that go on from one bit of a text to the next
pub record AreDeclared (ports : List Port) : Type 0 where
  pub words : All (λ p. IsIdentifier p.name.text) ports
  pub runs : (k : ℕ) (p q : Port) → slice_get ports k ≡ Some p → slice_get ports (k + 1) ≡ Some q → p.name.text ≡ q.name.text → GoesOn p q

-- The names of the machine, of its ports and of its registers are identifiers; the bits of a text are all numbers from the least to
-- the greatest, those of a port with one direction, and no text is both a scalar and a vector; no register has the text of a port;
-- and the clock is a scalar. Inner signals may have any names.
pub record CanBeVbe (m : Machine) : Type 0 where
  pub name : IsIdentifier m.name
  pub ports : AreDeclared m.ports
  pub registers : AreDeclared (as_ports (register_names m))
  pub apart : (p : Port) (r : Register) → In p m.ports → In r m.registers → p.name.text ≡ r.name.text → ⊥
  pub clock : (name : Name) → m.clock ≡ Some name → name.bit ≡ None
