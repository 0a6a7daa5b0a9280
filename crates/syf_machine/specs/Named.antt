-- The machine of a state machine by codes of its states, and the names that are given to what is inside.
use Rattle.std.specs.Prelude.{◌≡◌, ℕ, ◌+◌, ◌-◌, ◌*◌, ◌<◌, ◌^◌, Bool, not, ◌&&◌, List, [], ◌∷◌, map, length, codes, if◌then◌else◌}
use Rattle.vlsi_base.specs.declared.name.Name.{Name}
use Rattle.vlsi_base.specs.declared.name.Port.{Port}
use Rattle.vlsi_base.specs.Names.{scalar}
use Rattle.machine_core.specs.Named.{is_same_name}
use Rattle.machine_core.specs.Machine.{Machine, is_input}
use Rattle.text_names.specs.Free.{free_texts, IsFirstFree}
use Rattle.fsm_machine.specs.Fsm.{Fsm}
use Rattle.fsm_machine.specs.Codes.{Codes}
use Rattle.fsm_machine.specs.Signals.{signals}
use Rattle.fsm_machine.specs.MachineOf.{machine_of}

abbrev pub texts_of : List Port → List (List ℕ)
texts_of ports = map (λ p. p.name.text) ports

abbrev pub port_texts : Fsm → List (List ℕ)
port_texts f = texts_of f.ports

-- how many inner signals there are: one for each state, and those of the statements
abbrev pub inner_count : Fsm → ℕ
inner_count f = length f.states + signals f.body

-- so many of n0, n1, and so on, without those whose text a port has
abbrev pub names_for : List Port → ℕ → List Name
names_for ports many = map scalar (free_texts (codes "n") (texts_of ports) many)

abbrev pub inner_names : Fsm → List Name
inner_names f = names_for f.ports (inner_count f)

-- Numbers of 32 bits count the variables and the ports of a machine by these codes, and leave 65,536 for names of later stages. Each
-- port counts twice, since most are variables too; the other variables are the bits of a code, one for each state, and the signals of
-- the statements.
abbrev pub HasFewSignals : Fsm → Codes → Type 0
HasFewSignals f c = 2 * length f.ports + c.width + length c.codes + signals f.body < 2 ^ 32 - 2 ^ 16

-- The registers are the bits of the first of st, st0, st1, and so on that no port has. Numbers of 32 bits count the signals inside and
-- the ports.
pub record IsMachineOf (f : Fsm) (c : Codes) (m : Machine) : Type 0 where
  pub few : inner_count f + length f.ports < 2 ^ 32
  pub st : List ℕ
  pub first : IsFirstFree (codes "st") (port_texts f) st
  pub is : m ≡ machine_of f c st (inner_names f)

-- ---- numbers of ports

abbrev pub is_read : Name → Port → Bool
is_read clock p = is_input p.dir && not (is_same_name clock p.name)

-- ports, where the inputs that can be read have numbers from k on; what isn't read has 0
abbrev pub numbers_from : ℕ → Name → List Port → List ℕ
numbers_from k clock [] = []
numbers_from k clock (p ∷ ps) = if is_read clock p then k ∷ numbers_from (k + 1) clock ps else 0 ∷ numbers_from k clock ps

abbrev pub port_numbers : Fsm → List ℕ
port_numbers f = numbers_from 0 f.clock f.ports
