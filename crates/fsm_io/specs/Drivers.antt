-- Outputs that nothing assigns.
use Rattle.std.specs.Prelude.{Bool, true, false, not, List, [], ◌∷◌, filter, Option, None, Some, if◌then◌else◌}
use Rattle.vlsi_base.specs.declared.name.Name.{Name}
use Rattle.source_checks.specs.declared.symbol_table.Role.{Role}
use Rattle.source_checks.specs.declared.symbol_table.Role.TheVariants as role
use Rattle.source_checks.specs.declared.symbol_table.Symbol.{Symbol}
use Rattle.source_checks.specs.declared.drivers.NameFault.{NameFault}
use Rattle.source_checks.specs.Drivers.{is_among, target_names, least, fault_at}
use Rattle.source_checks.specs.Symbols.{symbol_names}
use Rattle.fsm_text.specs.Written.{MachineTree}
use Rattle.fsm_io.specs.Known.{symbols}
use Rattle.fsm_io.specs.Looks.{Mention, asserting, assigning, testing, selecting, listing, found}

abbrev pub is_output : Role → Bool
is_output role.Output = true
is_output role.Input = false
is_output role.Both = false
is_output role.Inner = false
is_output role.Register = false

-- the bits that assignments name, from the left
abbrev pub names_at : List Symbol → Mention → List Name
names_at known (asserting e) = []
names_at known (assigning t first e) = target_names known t
names_at known (testing line e) = []
names_at known (selecting seen line called) = []
names_at known (listing states) = []

-- an output's least bit that isn't assigned, where this says which bits are
abbrev pub unassigned_at : (Name → Bool) → Symbol → Option NameFault
unassigned_at assigned s =
    if is_output s.role then fault_at s.line (least (filter (λ (n : Name). not (assigned n)) (symbol_names s))) None else None

-- the first of two, if there is one
abbrev pub or_else : {A : Type 0} → Option A → Option A → Option A
or_else None later = later
or_else (Some x) later = Some x

-- the first that a look at each finds
abbrev pub first_of : {A B : Type 0} → (A → Option B) → List A → Option B
first_of look [] = None
first_of look (x ∷ rest) = or_else (look x) (first_of look rest)

-- the first output with a bit that nothing assigns, with the least such bit
abbrev pub first_unassigned : MachineTree → Option NameFault
first_unassigned m = first_of (unassigned_at (is_among (found (names_at (symbols m)) m))) (symbols m)
