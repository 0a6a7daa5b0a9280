-- Bits by their numbers among all that a text declares, and the parts of a machine that are made of them.
use Rattle.std.specs.Prelude.{◌≡◌, ℕ, false, List, [], ◌∷◌, length, slice_index, Option, None, if◌then◌else◌, ◌&&◌, not}
use Rattle.std.specs.List.{slice_index_or}
use Rattle.vlsi_base.specs.declared.name.Name.{Name}
use Rattle.vlsi_base.specs.declared.name.Port.{Port}
use Rattle.bool_expr.specs.Expression.{constant}
use Rattle.bool_expr.specs.Renumbering.{renumbered}
use Rattle.machine_core.specs.Machine.{Equation, Register, is_input, is_clock}
use Rattle.machine_core.specs.Order.{In}
use Rattle.source_checks.specs.Formula.{place}
use Rattle.source_bits.specs.Driven.{Numbered, NumberedStorage}
use Rattle.vlsi_model.specs.declared.registers.NamedBit.{NamedBit}

-- the name with a number; past the last one an empty one
abbrev pub name_at : List Name → ℕ → Name
name_at all k = slice_index_or all k (record { text = []; bit = None })

-- the bit at a place of some; past the last one bit 0 with the value 0
abbrev pub driven_at : List Numbered → ℕ → Numbered
driven_at bits k = slice_index_or bits k (record { bit = 0; expr = constant false })

abbrev pub stored_at : List NumberedStorage → ℕ → NumberedStorage
stored_at bits k = slice_index_or bits k (record { bit = 0; next = constant false; enable = constant false })

-- the table has the number of each of the machine's names at its number among all
pub record HasVars (all vars : List Name) (table : List ℕ) : Type 0 where
  pub each : length table ≡ length all
  pub there : (n : Name) → In n vars → slice_index table (place all n) ≡ place vars n

abbrev pub equation_from : List Name → List ℕ → Numbered → Equation
equation_from all table d = record { name = name_at all d.bit; expr = renumbered table d.expr }

abbrev pub register_from : List Name → List ℕ → NumberedStorage → Register
register_from all table s = record { name = name_at all s.bit; next = renumbered table s.next; enable = renumbered table s.enable }

-- a bit by its name, with its place
abbrev pub named_at : List Name → List ℕ → ℕ → NamedBit
named_at all bits k = record { name = name_at all (slice_index bits k); place = k }

-- the names of the inputs but the clock
abbrev pub input_names : Option Name → List Port → List Name
input_names clock [] = []
input_names clock (p ∷ rest) = if is_input p.dir && not (is_clock clock p.name) then p.name ∷ input_names clock rest else input_names clock rest
