-- The parts of a source's machine, each in its order.
use Rattle.std.specs.Prelude.{ℕ, false, List, [], ◌∷◌, ◌++◌, map, length, filter, not, Option, None}
use Rattle.std.specs.List.{slice_index_or}
use Rattle.std.specs.List.Sorted.{IsPermutation}
use Rattle.vlsi_base.specs.declared.name.Name.{Name}
use Rattle.vlsi_base.specs.declared.name.Port.{Port}
use Rattle.machine_core.specs.Machine.{is_input, is_clock, names_of}
use Rattle.machine_core.specs.Checked.{AreInOrder}
use Rattle.machine_core.specs.Order.{In}
use Rattle.source_checks.specs.declared.statement.DesignFile.{DesignFile}
use Rattle.vlsi_base.specs.Range.{rising}
use Rattle.source_checks.specs.Symbols.{symbols}
use Rattle.source_checks.specs.Formula.{fixed, formula_names}
use Rattle.source_checks.specs.Elaboration.{Definition, Storage, definitions, storage, port_bits, clock_name}

abbrev pub names_defined : List Definition → List Name
names_defined ds = map (λ d. d.name) ds

abbrev pub names_stored : List Storage → List Name
names_stored rs = map (λ r. r.name) rs

-- each definition reads, of what is driven, only what is known before it
abbrev pub EachReadsEarlier : List Name → List Name → List Definition → Type 0
EachReadsEarlier driven earlier [] = Unit {0}
EachReadsEarlier driven earlier (d ∷ rest) =
    ((n : Name) → In n (formula_names d.formula) → In n driven → In n earlier) × EachReadsEarlier driven (earlier ++ d.name ∷ []) rest

abbrev pub no_definition : Definition
no_definition = record { name = record { text = []; bit = None }; formula = fixed false }

abbrev pub definition_at : List Definition → ℕ → Definition
definition_at defs k = slice_index_or defs k no_definition

abbrev pub no_storage : Storage
no_storage = record { name = record { text = []; bit = None }; next = fixed false; enable = fixed false }

abbrev pub storage_at : List Storage → ℕ → Storage
storage_at rs k = slice_index_or rs k no_storage

-- the places of definitions in an order in which each reads only what is known before it
pub record IsNodeOrder (design : DesignFile) (nodes : List ℕ) : Type 0 where
  pub moved : IsPermutation (rising 0 (length (definitions design))) nodes
  pub earlier : EachReadsEarlier (names_defined (definitions design)) [] (map (definition_at (definitions design)) nodes)

-- the ports, the places of registers and those of definitions, each in their order
pub record Laid (design : DesignFile) (ps : List Port) (places : List ℕ) (at : List ℕ) : Type 0 where
  pub ports : IsPermutation (port_bits (symbols design)) ps
  pub ports_order : AreInOrder (names_of ps)
  pub order : IsPermutation (rising 0 (length (storage design))) places
  pub registers_order : AreInOrder (names_stored (map (storage_at (storage design)) places))
  pub nodes : IsPermutation (rising 0 (length (definitions design))) at
  pub earlier : EachReadsEarlier (names_defined (definitions design)) [] (map (definition_at (definitions design)) at)

-- the names of the inputs but the clock
abbrev pub inputs_of : Option Name → List Port → List Name
inputs_of clock ports = filter (λ name. not (is_clock clock name)) (names_of (filter (λ p. is_input p.dir) ports))

-- the names of the machine: of inputs, registers and equations
abbrev pub vars_of : DesignFile → List Port → List Storage → List Definition → List Name
vars_of design ports regs defs = (inputs_of (clock_name design) ports ++ names_stored regs) ++ names_defined defs

abbrev pub laid_vars : DesignFile → List Port → List ℕ → List ℕ → List Name
laid_vars design ports order nodes = vars_of design ports (map (storage_at (storage design)) order) (map (definition_at (definitions design)) nodes)
