-- Why bytes are no ap file: the first line that has a fault.
use Rattle.std.specs.Prelude.{◌≡◌, ◌<◌, ◌≤◌, ℕ, ◌+◌, Bool, true, false, List, [], ◌∷◌, ◌++◌, length, Option, None, Some, if◌then◌else◌}
use Rattle.vlsi_base.specs.declared.limits.TheConstants.{MOST_NETLIST_BYTES}
use Rattle.vlsi_base.specs.declared.fault.FaultKind.{FaultKind}
use Rattle.vlsi_base.specs.declared.fault.FaultKind.TheVariants as kind
use Rattle.vlsi_base.specs.declared.fault.LimitKind.TheVariants as limit
use Rattle.vlsi_base.specs.declared.fault.ReadError.{ReadError}
use Rattle.vlsi_base.specs.declared.fault.ReadError.TheVariants as errors
use Rattle.ap_io.specs.declared.scale.Scale.{Scale}
use Rattle.ap_io.specs.declared.fault.LineFault.{LineFault}
use Rattle.ap_io.specs.declared.fault.LineFault.TheVariants.{BadLine, BadLayer, BadTransform, LongName, FarCoordinate}
use Rattle.ap_io.specs.Fields.{at}
use Rattle.ap_io.specs.Words.{scale_of}
use Rattle.ap_io.specs.LineFaults.{version_fault, name_line_fault, box_line_fault, item_fault, is_taken, names_on, is_end, is_blank_line, fields_behind}
use Rattle.ap_io.specs.ApText.{lines_in}

abbrev pub fault_on : ℕ → FaultKind → ReadError
fault_on line kind = errors.Input (record { line = line; kind = kind; names = [] })

abbrev pub is_empty : List (List ℕ) → Bool
is_empty [] = true
is_empty (line ∷ lines) = false

-- where the last line passes a limit, that the file has no end comes before
abbrev pub limit_on : ℕ → List (List ℕ) → ReadError → ReadError
limit_on line rest e = if is_empty rest then fault_on line kind.NoEnd else e

-- the fault of a line of this number, behind which these lines stand
abbrev pub refusal_on : ℕ → List (List ℕ) → LineFault → ReadError
refusal_on line rest BadLine = fault_on line kind.BadLine
refusal_on line rest BadLayer = fault_on line kind.BadLayer
refusal_on line rest BadTransform = fault_on line kind.BadTransform
refusal_on line rest (LongName n) = limit_on line rest (errors.Limit (record { which = limit.Ident; reached = n }))
refusal_on line rest (FarCoordinate n) = limit_on line rest (errors.Limit (record { which = limit.Coordinate; reached = n }))

-- the fault of the line, or that of what follows where it has none
abbrev pub or_behind : ℕ → List (List ℕ) → Option LineFault → Option ReadError → Option ReadError
or_behind line rest None behind = behind
or_behind line rest (Some fault) behind = Some (refusal_on line rest fault)

-- ---- the first fault of lines, the first of which has the number before + 1

-- behind EOF
unfoldable pub end_refusal : ℕ → List (List ℕ) → Option ReadError
end_refusal before [] = None
end_refusal before (line ∷ rest) = if is_blank_line line then end_refusal (before + 1) rest else Some (fault_on (before + 1) kind.AfterEnd)

-- behind the first three lines, where instances have these names so far
unfoldable pub items_refusal : Scale → ℕ → List (List ℕ) → List (List ℕ) → Option ReadError
items_refusal scale before names [] = Some (fault_on before kind.NoEnd)
items_refusal scale before names (line ∷ rest) =
    if is_end line then end_refusal (before + 1) rest
    else or_behind (before + 1) rest (item_fault scale (is_taken names line) line) (items_refusal scale (before + 1) (names ++ names_on line) rest)

-- from the third line on
abbrev pub box_refusal : Option Scale → List (List ℕ) → Option ReadError
box_refusal None lines = None
box_refusal (Some scale) [] = Some (fault_on 2 kind.NoEnd)
box_refusal (Some scale) (line ∷ rest) = or_behind 3 rest (box_line_fault scale line) (items_refusal scale 3 [] rest)

-- from the second line on
abbrev pub head_refusal : List (List ℕ) → Option ReadError
head_refusal [] = Some (fault_on 1 kind.NoEnd)
head_refusal (line ∷ rest) = or_behind 2 rest (name_line_fault line) (box_refusal (scale_of (at (fields_behind line) 3)) rest)

-- from the first line on; a file of no lines lacks its end alone
unfoldable pub first_refusal : List (List ℕ) → Option ReadError
first_refusal [] = Some (fault_on 1 kind.NoEnd)
first_refusal (line ∷ rest) = or_behind 1 rest (version_fault line) (head_refusal rest)

-- the error is this refusal, or memory has run out
abbrev pub IsRefusal : ReadError → Option ReadError → Type 0
IsRefusal errors.Memory o = Unit {0}
IsRefusal (errors.Input f) o = o ≡ Some (errors.Input f)
IsRefusal (errors.Limit l) o = o ≡ Some (errors.Limit l)

-- Why bytes are no ap file: there are too many, or a line has a fault. Out of memory is no reason.
pub data Refused (bytes : List ℕ) (e : ReadError) : Type 0 where
  long : MOST_NETLIST_BYTES < length bytes → e ≡ errors.Limit (record { which = limit.File; reached = MOST_NETLIST_BYTES + 1 }) → Refused bytes e
  faulty : length bytes ≤ MOST_NETLIST_BYTES → first_refusal (lines_in bytes) ≡ Some e → Refused bytes e

-- the refusal, or memory has run out
abbrev pub IsApRefusal : List ℕ → ReadError → Type 0
IsApRefusal bytes errors.Memory = Unit {0}
IsApRefusal bytes (errors.Input f) = Refused bytes (errors.Input f)
IsApRefusal bytes (errors.Limit l) = Refused bytes (errors.Limit l)
