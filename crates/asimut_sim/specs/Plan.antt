-- Where a machine's names stand among the bits that patterns list.
use Rattle.std.specs.Prelude.{◌≡◌, ℕ, Bool, ◌&&◌, not, List, map, filter, Option, None, Some}
use Rattle.vlsi_base.specs.declared.name.Name.{Name}
use Rattle.vlsi_base.specs.declared.name.Port.{Port}
use Rattle.machine_core.specs.Machine.{Machine, inputs, names_of, is_input, is_clock}
use Rattle.pat_meaning.specs.declared.patterns.Column.{Column}
use Rattle.pat_meaning.specs.Columns.{listed}
use Rattle.asimut_sim.specs.Places.{place_of}

abbrev pub clock_place : List Name → Option Name → Option ℕ
clock_place names None = None
clock_place names (Some name) = place_of names name

-- the port is an input other than the clock
abbrev pub is_vector_bit : Option Name → Port → Bool
is_vector_bit clock p = is_input p.dir && not (is_clock clock p.name)

-- the inputs other than the clock
abbrev pub inputs_among : Option Name → List Port → List Name
inputs_among clock ports = filter (λ name. not (is_clock clock name)) (names_of (filter (λ p. is_input p.dir) ports))

-- the places of the inputs and of the clock among the listed bits, and of the listed bits among the machine's names
pub record IsPlan (m : Machine) (columns : List Column) (bits : List Name) (from_bits : List (Option ℕ)) (from_clock : Option ℕ) (into_names : List (Option ℕ)) : Type 0 where
  pub names : bits ≡ listed columns
  pub inputs : from_bits ≡ map (place_of (listed columns)) (inputs m)
  pub clock : from_clock ≡ clock_place (listed columns) m.clock
  pub seen : into_names ≡ map (place_of m.vars) (listed columns)
