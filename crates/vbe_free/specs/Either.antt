-- Texts that may leave outputs free: one that doesn't is read as data-flow texts are.
use Rattle.std.specs.Prelude.{◌≡◌, ◌⊎◌, ℕ, true, false, List}
use Rattle.vlsi_base.specs.declared.fault.ReadError.{ReadError}
use Rattle.vlsi_base.specs.declared.fault.ReadError.TheVariants as errors
use Rattle.vbe_io.specs.Text.{IsVbe, Refused}
use Rattle.vbe_free.specs.declared.source.VbeSource.{VbeSource}
use Rattle.vbe_free.specs.declared.source.VbeSource.TheVariants.{Fixed, Free}
use Rattle.vbe_free.specs.Text.{leaves_free, IsFreeVbe, RefusedFree}

-- what the bytes are
abbrev pub IsVbeSource : List ℕ → VbeSource → Type 0
IsVbeSource bytes (Fixed m) = (leaves_free bytes ≡ false) × IsVbe bytes m
IsVbeSource bytes (Free m) = (leaves_free bytes ≡ true) × IsFreeVbe bytes m

-- why the bytes are neither
abbrev pub RefusedEither : List ℕ → ReadError → Type 0
RefusedEither bytes e = ((leaves_free bytes ≡ false) × Refused bytes e) ⊎ ((leaves_free bytes ≡ true) × RefusedFree bytes e)

-- the refusal, or memory has run out
abbrev pub IsVbeSourceRefusal : List ℕ → ReadError → Type 0
IsVbeSourceRefusal bytes errors.Memory = Unit {0}
IsVbeSourceRefusal bytes (errors.Input f) = RefusedEither bytes (errors.Input f)
IsVbeSourceRefusal bytes (errors.Limit l) = RefusedEither bytes (errors.Limit l)
