-- Netlists that are being made of a text.
use Rattle.std.specs.Prelude.{◌≡◌, ℕ, List, [], ◌∷◌, map, Option, None, Some}
use Rattle.std.specs.List.{slice_index_or}
use Rattle.vlsi_base.specs.declared.name.Name.{Name}
use Rattle.vlsi_base.specs.declared.name.Terminal.{Terminal}
use Rattle.vlsi_base.specs.declared.fault.FaultKind.TheVariants as kind
use Rattle.vlsi_base.specs.declared.fault.ReadError.{ReadError}
use Rattle.vlsi_base.specs.declared.fault.ReadError.TheVariants as errors
use Rattle.vlsi_base.specs.Names.{scalar}
use Rattle.vlsi_base.specs.NamePlaces.{last_place}
use Rattle.source_checks.specs.Checks.{fault}
use Rattle.net_core.specs.Netlist.{Instance}
use Rattle.net_core.specs.Joins.{Draft}
use Rattle.net_core.specs.declared.error.BuildError.{BuildError}
use Rattle.net_core.specs.declared.error.BuildError.TheVariants as building
use Rattle.vst_text.specs.declared.file.InstanceStatement.{InstanceStatement}
use Rattle.vst_io.specs.Faults.{first_label_again, if_again}

-- the terminal at a place
abbrev pub end_at : List (Terminal × Name) → Name → Terminal → Option ℕ → Terminal
end_at links n other None = other
end_at links n other (Some k) = (slice_index_or links k (other, n)).0

-- the last terminal that stands for a bit of a net; another where none does
abbrev pub last_end : List (Terminal × Name) → Name → Terminal → Terminal
last_end links n other = end_at links n other (last_place (map (λ l. l.1) links) n)

-- each terminal with the last one that stands for the same bit
abbrev pub joins_of : List (Terminal × Name) → List (Terminal × Terminal)
joins_of links = map (λ l. (last_end links l.1 l.0, l.0)) links

abbrev pub with_instances : Draft → List Instance → Draft
with_instances d instances = record d { instances = instances }

-- an error, where memory may have run out
abbrev pub OrMemory : ReadError → ReadError → Type 0
OrMemory k errors.Memory = Unit {0}
OrMemory k (errors.Input f) = errors.Input f ≡ k
OrMemory k (errors.Limit l) = errors.Limit l ≡ k

-- why an instance isn't added: its label stands before
abbrev pub IsAgain : InstanceStatement → BuildError → ReadError → Type 0
IsAgain i building.Memory e = e ≡ errors.Memory
IsAgain i building.Twice e = OrMemory (fault kind.Twice i.line (scalar i.label ∷ [])) e
IsAgain i building.Unknown e = OrMemory (fault kind.Twice i.line (scalar i.label ∷ [])) e

-- the first label that stands before, or memory has run out
abbrev pub IsLabelFault : List InstanceStatement → ReadError → Type 0
IsLabelFault instances errors.Memory = Unit {0}
IsLabelFault instances (errors.Input f) = if_again (first_label_again [] instances) None ≡ Some (errors.Input f)
IsLabelFault instances (errors.Limit l) = if_again (first_label_again [] instances) None ≡ Some (errors.Limit l)
