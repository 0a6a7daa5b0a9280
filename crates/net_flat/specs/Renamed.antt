-- A machine with other names for its registers.
use Rattle.std.specs.Prelude.{◌≡◌, ℕ, ◌+◌, ◌<◌, Bool, false, List, [], ◌∷◌, ◌++◌, map, length, None, Some, slice_index_or, if◌then◌else◌}
use Rattle.std.specs.List.{All, list_any}
use Rattle.std.specs.List.Sorted.{IsPermutation}
use Rattle.vlsi_base.specs.declared.name.Name.{Name}
use Rattle.vlsi_base.specs.declared.name.Port.{Port}
use Rattle.vlsi_base.specs.Member.{In, AllDifferent}
use Rattle.vlsi_base.specs.Range.{rising}
use Rattle.bool_expr.specs.Expression.{constant, bit}
use Rattle.machine_core.specs.Named.{is_same_name, value_at}
use Rattle.machine_core.specs.Machine.{Machine, Equation, Register, inputs, names_of, register_names}
use Rattle.machine_core.specs.Cycles.{Settles, next}
use Rattle.machine_core.specs.Checked.{IsChecked, AreInOrder, IsNoSupply}
use Rattle.machine_core.specs.Order.{equation_names}
use Rattle.source_bits.specs.Driven.{Numbered, NumberedStorage}
use Rattle.vlsi_model.specs.Numbered.{name_at}
use Rattle.bit_machine.specs.System.{System}
use Rattle.net_flat.specs.declared.renaming.Seat.{Seat}

-- ---- the bits of a machine with other names

-- a register's new name, and its place among the registers
abbrev pub seat_at : List Name → ℕ → Seat
seat_at names k = record { name = name_at names k; place = k }

abbrev pub register_at : List Register → ℕ → Register
register_at rs k = slice_index_or rs k (record { name = record { text = []; bit = None }; next = constant false; enable = constant false })

-- what the bit of a register loads, where the first of them has this number
abbrev pub stored_of : ℕ → List Register → Seat → NumberedStorage
stored_of first rs s = record { bit = first + s.place; next = (register_at rs s.place).next; enable = (register_at rs s.place).enable }

-- the bits of equations, from number k on
abbrev pub driven_from : ℕ → List Equation → List Numbered
driven_from k [] = []
driven_from k (e ∷ es) = record { bit = k; expr = e.expr } ∷ driven_from (k + 1) es

-- the name of an equation: a port's stays, and any other is a text and a number
abbrev pub inner_name : (Name → Bool) → List ℕ → ℕ → Name → Name
inner_name is_shown text k name = if is_shown name then name else record { text = text; bit = Some k }

abbrev pub inner_names : (Name → Bool) → List ℕ → ℕ → List Name → List Name
inner_names is_shown text k [] = []
inner_names is_shown text k (n ∷ names) = inner_name is_shown text k n ∷ inner_names is_shown text (k + 1) names

abbrev pub is_port : Machine → Name → Bool
is_port m name = list_any (λ p. is_same_name p name) (names_of m.ports)

-- its inputs, its registers by the new names, and its equations
abbrev pub new_names : Machine → List Name → List ℕ → List Name
new_names m names text = inputs m ++ (names ++ inner_names (is_port m) text 0 (equation_names m))

abbrev pub renamed_system : Machine → List Name → List ℕ → List Seat → System
renamed_system m names text seats = record {
  names = new_names m names text;
  inputs = rising 0 (length (inputs m));
  stored = map (stored_of (length (inputs m)) m.registers) seats;
  driven = driven_from (length (inputs m) + length m.registers) m.equations;
}

-- the text is longer than each of these names
abbrev pub IsLongerThan : List Name → List ℕ → Type 0
IsLongerThan names text = All (λ n. length n.text < length text) names

-- these are the names of all bits, where these are the machine's inputs
pub record AreAllNames (m : Machine) (first names all : List Name) : Type 0 where
  pub text : List ℕ
  pub shown : IsLongerThan (names_of m.ports) text
  pub held : IsLongerThan names text
  pub supplies : 3 < length text
  pub is : all ≡ first ++ (names ++ inner_names (is_port m) text 0 (equation_names m))

-- the bits of the machine, its registers in the order of their new names
pub record AreRenamed (m : Machine) (names : List Name) (s : System) : Type 0 where
  pub text : List ℕ
  pub shown : IsLongerThan (names_of m.ports) text
  pub held : IsLongerThan names text
  pub supplies : 3 < length text
  pub seats : List Seat
  pub moved : IsPermutation (map (seat_at names) (rising 0 (length names))) seats
  pub ordered : AreInOrder (map (λ s. s.name) seats)
  pub is : s ≡ renamed_system m names text seats

-- ---- what such a machine is

-- From the contents s of the one machine, and from these contents in the places of the other's registers, both settle alike: they show
-- the same at the ports, and load the same.
pub record ComesTo (m o : Machine) (places : List ℕ) (shown : List Bool → List Bool) (s i x y : List Bool) : Type 0 where
  pub settles : Settles o (map (bit s) places) i y
  pub back : shown y ≡ x
  pub ports : (name : Name) → In name (names_of m.ports) → value_at o.vars y name ≡ value_at m.vars x name
  pub loads : next o y ≡ map (bit (next m x)) places

-- The other machine is the one with these names for its registers, put in the order of names.
pub record IsRenamed (m : Machine) (names : List Name) (o : Machine) : Type 0 where
  pub text : o.name ≡ m.name
  pub ports : o.ports ≡ m.ports
  pub clock : o.clock ≡ m.clock
  pub checked : IsChecked o
  -- the place, among the given, of each register
  pub places : List ℕ
  pub moved : IsPermutation (rising 0 (length names)) places
  pub named : register_names o ≡ map (name_at names) places
  -- the one machine's valuation, from the other's
  pub shown : List Bool → List Bool
  pub forth : (s i x : List Bool) → Settles m s i x → (y : List Bool) × ComesTo m o places shown s i x y

-- Names that the registers of a machine can be given: they differ, and none has the text of a port or of a supply.
pub record AreFree (m : Machine) (names : List Name) : Type 0 where
  pub each : length names ≡ length m.registers
  pub different : AllDifferent names
  pub apart : (p : Port) (name : Name) → In p m.ports → In name names → p.name.text ≡ name.text → ⊥
  pub signals : (name : Name) → In name names → IsNoSupply name
