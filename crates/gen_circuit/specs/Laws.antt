-- What is known of every circuit that is made from a number.
use Rattle.std.specs.Prelude.{◌≡◌, ℕ, ◌+◌, ◌*◌, ◌≤◌, length}
use Rattle.machine_core.specs.Machine.{Machine}
use Rattle.machine_core.specs.Size.{machine_size}
use Rattle.machine_core.specs.Checked.{IsChecked}
use Rattle.gen_circuit.specs.Generated.{generated}
use Rattle.gen_circuit.specs.declared.making.TheConstants.{LEAST_SIZE, MOST_SIZE}

-- what every circuit of a size in the range has
abbrev pub OfEveryCircuit : (ℕ → Machine → Type 0) → Type 0
OfEveryCircuit P = (seed size : ℕ) → LEAST_SIZE ≤ size → size ≤ MOST_SIZE → P size (generated seed size)

-- each circuit is checked: no two of its names are one, and each gate reads inputs, registers and earlier gates alone
abbrev pub CircuitsAreChecked : Type 0
CircuitsAreChecked = OfEveryCircuit (λ size m. IsChecked m)

-- Each has the clock, four inputs and four outputs for its ports, a name for each input, register, gate and output, and weighs at most
-- four for each gate, and 28 for its outputs and registers.
pub record IsSmallFor (size : ℕ) (m : Machine) : Type 0 where
  pub ports : length m.ports ≡ 9
  pub vars : length m.vars ≡ size + 12
  pub weight : machine_size m ≤ 4 * size + 28

abbrev pub CircuitsAreSmall : Type 0
CircuitsAreSmall = OfEveryCircuit IsSmallFor
