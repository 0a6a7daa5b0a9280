-- What follows from the definitions of a CATAL and of its refusals.
use Rattle.std.specs.Prelude.{◌≡◌, ℕ, List, []}
use Rattle.catal.specs.declared.error.CatalError.{CatalError}
use Rattle.catal.specs.Catal.{IsCatal, Refused}
use Rattle.catal.specs.Cells.{cells_in}

-- the cells of a CATAL are those of its bytes, so that a text has at most one list of cells
abbrev pub OneList : Type 0
OneList = (bytes : List ℕ) (names : List (List ℕ)) → IsCatal bytes names → cells_in bytes ≡ names

-- a text that is refused names no cells
abbrev pub NoneRefused : Type 0
NoneRefused = (bytes : List ℕ) (e : CatalError) → Refused bytes e → cells_in bytes ≡ []

-- a text that is a CATAL has no refusal
abbrev pub NeverBoth : Type 0
NeverBoth = (bytes : List ℕ) (names : List (List ℕ)) (e : CatalError) → IsCatal bytes names → Refused bytes e → ⊥

-- a text has at most one refusal
abbrev pub OneRefusal : Type 0
OneRefusal = (bytes : List ℕ) (d e : CatalError) → Refused bytes d → Refused bytes e → d ≡ e
