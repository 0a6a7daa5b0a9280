-- What is written of a circuit, and what that is read as.
use Rattle.std.specs.Prelude.{◌≡◌, ◌≤◌, ℕ, List, codes}
use Rattle.vlsi_base.specs.declared.fault.ReadError.{ReadError}
use Rattle.vlsi_base.specs.declared.fault.ReadError.TheVariants as errors
use Rattle.machine_core.specs.Machine.{Machine}
use Rattle.machine_core.specs.Size.{machine_size}
use Rattle.machine_core.specs.Alike.{IsAlike}
use Rattle.vbe_io.specs.Text.{IsVbe, IsVbeRefusal}
use Rattle.vbe_print.specs.Writable.{CanBeVbe}
use Rattle.vbe_print.specs.Said.{text_by, IsWithinLimitsBy}
use Rattle.gen_circuit.specs.Laws.{OfEveryCircuit}

-- the text of a circuit, in which its gates are called g0, g1, and so on
abbrev pub text : Machine → List ℕ
text m = text_by (codes "g") m

-- A text can declare the names of each circuit, and that text is within the limits of texts, of which one is that of its bytes.
abbrev pub CircuitsCanBeWritten : Type 0
CircuitsCanBeWritten = OfEveryCircuit (λ size m. CanBeVbe m × IsWithinLimitsBy (codes "g") m)

-- The text of a circuit is a text of exactly this circuit; each machine of that text, which leaves the order of equations open, is alike
-- and weighs at most 16,384; and the text is refused only where memory has run out.
pub record IsReadAgain (m : Machine) : Type 0 where
  pub itself : IsVbe (text m) m
  pub alike : (k : Machine) → IsVbe (text m) k → IsAlike m k
  pub light : (k : Machine) → IsVbe (text m) k → machine_size k ≤ 16384
  pub accepted : (e : ReadError) → IsVbeRefusal (text m) e → e ≡ errors.Memory

abbrev pub CircuitsAreReadAgain : Type 0
CircuitsAreReadAgain = OfEveryCircuit (λ size m. IsReadAgain m)
