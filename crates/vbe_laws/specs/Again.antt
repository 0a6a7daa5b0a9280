-- What is written of a machine is read again.
use Rattle.std.specs.Prelude.{◌≡◌, ℕ, List, codes}
use Rattle.vlsi_base.specs.declared.fault.ReadError.{ReadError}
use Rattle.vlsi_base.specs.declared.fault.ReadError.TheVariants as errors
use Rattle.machine_core.specs.Machine.{Machine}
use Rattle.machine_core.specs.Checked.{IsChecked}
use Rattle.machine_core.specs.Alike.{IsAlike}
use Rattle.vbe_print.specs.Writable.{CanBeVbe}
use Rattle.vbe_print.specs.Said.{text_by, IsWithinLimitsBy}
use Rattle.vbe_io.specs.Text.{IsVbe, IsVbeRefusal}

-- What the text of a machine by this stem is read as is alike: it has the same name, ports, clock and registers, and from the same
-- contents and under the same inputs it shows the same outputs and loads the same. And the text is refused only where memory has run out.
pub record ReadAgainBy (stem : List ℕ) : Type 0 where
  pub is : (m k : Machine) → IsChecked m → CanBeVbe m → IsWithinLimitsBy stem m → IsVbe (text_by stem m) k → IsAlike m k
  pub accepted : (m : Machine) (e : ReadError) → IsChecked m → CanBeVbe m → IsWithinLimitsBy stem m → IsVbeRefusal (text_by stem m) e
      → e ≡ errors.Memory

abbrev pub ReadAgain : Type 0
ReadAgain = ReadAgainBy (codes "n")
