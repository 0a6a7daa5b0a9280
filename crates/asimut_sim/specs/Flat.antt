-- A machine laid out over one array of bits: a 0 and a 1, the inputs, the contents of the registers, and the operators' results.
use Rattle.std.specs.Prelude.{◌≡◌, ℕ, ◌+◌, ◌<◌, Bool, List, [], ◌∷◌, length, if◌then◌else◌}
use Rattle.std.specs.List.{All, AllZip}
use Rattle.vlsi_base.specs.Range.{rising}
use Rattle.bool_expr.specs.Expression.{bit, val}
use Rattle.machine_core.specs.Machine.{Machine, Register}
use Rattle.machine_core.specs.Order.{held_names}
use Rattle.machine_core.specs.Built.{built}
use Rattle.machine_core.specs.Checked.{IsChecked}
use Rattle.asimut_sim.specs.declared.layout.Load.{Load}
use Rattle.asimut_sim.specs.declared.program.Program.{Program}
use Rattle.asimut_sim.specs.declared.flat.FlatMachine.{FlatMachine}
use Rattle.asimut_sim.specs.Operator.{HasConstants}
use Rattle.asimut_sim.specs.Program.{extent, IsProgram, Obeys, GoesOn, bits_of, AreBelow}

abbrev pub IsLoadBelow : ℕ → Load → Type 0
IsLoadBelow n l = (l.next < n) × (l.enable < n)

-- the places have what the registers load by the valuation w
abbrev pub AreLoadsOf : List Bool → List Bool → List Load → List Register → Type 0
AreLoadsOf a w loads registers = AllZip (λ l r. (bit a l.next ≡ val r.next w) × (bit a l.enable ≡ val r.enable w)) loads registers

pub record ComputesLoads (old new : Program) (vars : List ℕ) (loads : List Load) (registers : List Register) : Type 0 where
  pub goes_on : GoesOn old new
  pub within : All (IsLoadBelow (extent new)) loads
  pub values : (a : List Bool) → Obeys new a → AreLoadsOf a (bits_of a vars) loads registers

-- each register has its next bit where its enable is 1, and what it held elsewhere
abbrev pub held_after : List Bool → List Load → List Bool → List Bool
held_after a [] held = []
held_after a (l ∷ loads) [] = []
held_after a (l ∷ loads) (b ∷ held) = (if bit a l.enable then bit a l.next else b) ∷ held_after a loads held

-- the places of the inputs and registers
abbrev pub held_places : Machine → List ℕ
held_places m = rising 2 (length (held_names m))

-- Over each array that obeys it, the flat machine gives the names what the machine's equations give them, and has what the
-- machine's registers load.
pub record IsFlat (f : FlatMachine) : Type 0 where
  pub checked : IsChecked f.machine.now
  pub start : f.settling.start ≡ 2 + length (held_names f.machine.now)
  pub settling : IsProgram f.settling
  pub loading : IsProgram f.loading
  pub behind : f.loading.start ≡ extent f.settling
  pub within : AreBelow (extent f.settling) f.vars.items
  pub values : (a : List Bool) → Obeys f.settling a → bits_of a f.vars.items ≡ built (bits_of a (held_places f.machine.now)) f.machine.now.equations
  pub loads_within : All (IsLoadBelow (extent f.loading)) f.loads.items
  pub loads : (a : List Bool) → Obeys f.loading a → AreLoadsOf a (bits_of a f.vars.items) f.loads.items f.machine.now.registers

-- the array has all places, and the constants
pub record IsArray (f : FlatMachine) (a : List Bool) : Type 0 where
  pub size : length a ≡ extent f.loading
  pub constants : HasConstants a

-- what goes from one pattern to the next
pub record IsState (f : FlatMachine) (contents bits : List Bool) : Type 0 where
  pub held : length contents ≡ length f.machine.now.registers
  pub array : IsArray f bits
