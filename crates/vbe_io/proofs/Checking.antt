-- What the checks refuse is refused of the text.
use Rattle.std.proofs.Common.{ℕ, List, IfErr, Result, Ok, Err}
use Rattle.vlsi_base.specs.declared.fault.ReadError.{ReadError}
use Rattle.vlsi_base.specs.declared.fault.ReadError.TheVariants as errors
use Rattle.source_checks.specs.declared.statement.DesignFile.{DesignFile}
use Rattle.source_checks.specs.Checks.{IsRefused}
use Rattle.vbe_io.specs.Text.{IsWritten, faulty, IsVbeRefusal}

refused : (bytes : List ℕ) (design : DesignFile) → IsWritten bytes design → (e : ReadError) → IsRefused design e → IsVbeRefusal bytes e
refused bytes design written errors.Memory is = tt
refused bytes design written (errors.Input f) is = faulty design written is
refused bytes design written (errors.Limit l) is = faulty design written is

pub checked : {X : Type 0} (bytes : List ℕ) (design : DesignFile) → IsWritten bytes design → (r : Result X ReadError) → IfErr r (λ e. IsRefused design e) → IfErr r (λ e. IsVbeRefusal bytes e)
checked bytes design written (Ok m) is = tt
checked bytes design written (Err e) is = refused bytes design written e is
