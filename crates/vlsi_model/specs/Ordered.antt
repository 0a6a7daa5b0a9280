-- An order of a source's definitions, or a ring of them.
use Rattle.std.specs.Prelude.{◌≡◌, ℕ, ◌+◌, ◌-◌, ◌<◌, List, map, length, slice_index}
use Rattle.std.specs.List.{All}
use Rattle.vlsi_base.specs.declared.name.Name.{Name}
use Rattle.bit_order.specs.declared.outcome.Order.{Order}
use Rattle.bit_order.specs.declared.outcome.Order.TheVariants.{Sorted, Ring}
use Rattle.bit_order.specs.Order.{NoneTwice}
use Rattle.machine_core.specs.Order.{In}
use Rattle.source_checks.specs.declared.statement.Assignment.{Assignment}
use Rattle.source_checks.specs.declared.statement.Statement.{Statement}
use Rattle.source_checks.specs.declared.statement.Statement.TheVariants as statement
use Rattle.source_checks.specs.declared.statement.DesignFile.{DesignFile}
use Rattle.source_checks.specs.declared.symbol_table.Symbol.{Symbol}
use Rattle.source_checks.specs.Symbols.{all_names}
use Rattle.source_checks.specs.Formula.{place}
use Rattle.source_checks.specs.Drivers.{target_names}
use Rattle.source_checks.specs.Elaboration.{definitions}
use Rattle.source_checks.specs.Checks.{HasNoRing}
use Rattle.source_checks.specs.Cycles.{Reads}
use Rattle.vlsi_model.specs.Laid.{IsNodeOrder, definition_at}

abbrev pub name_of_node : DesignFile → ℕ → Name
name_of_node design k = (definition_at (definitions design) k).name

-- places of different definitions, of which each reads the next and the last reads the first
pub record IsNodeRing (design : DesignFile) (nodes : List ℕ) : Type 0 where
  pub some : 0 < length nodes
  pub inside : All (λ k. k < length (definitions design)) nodes
  pub once : NoneTwice nodes
  pub next : (p : ℕ) → p + 1 < length nodes
      → Reads (definitions design) (name_of_node design (slice_index nodes p)) (name_of_node design (slice_index nodes (p + 1)))
  pub first : Reads (definitions design) (name_of_node design (slice_index nodes (length nodes - 1))) (name_of_node design (slice_index nodes 0))

abbrev pub IsOrderOfSource : DesignFile → Order → Type 0
IsOrderOfSource design (Sorted nodes) = IsNodeOrder design nodes.items × HasNoRing design
IsOrderOfSource design (Ring nodes) = IsNodeRing design nodes.items

-- an assignment outside of blocks, whose target stands on a line and has the bit with a number
pub record IsDrivenIn (known : List Symbol) (st : Statement) (number line : ℕ) : Type 0 where
  pub assignment : Assignment
  pub is : st ≡ statement.Assign assignment
  pub among : In number (map (place (all_names known)) (target_names known assignment.target))
  pub on : assignment.target.line ≡ line
