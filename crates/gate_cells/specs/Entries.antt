-- Gates with their places.
use Rattle.std.specs.Prelude.{◌≡◌, ℕ, ◌≤◌, List, map, Some, slice_get}
use Rattle.vlsi_base.specs.Member.{In}
use Rattle.bool_expr.specs.Expression.{Expression}
use Rattle.cell_model.specs.Cell.{gate, Cell}
use Rattle.cell_model.specs.Library.{IsUsable}
use Rattle.cell_checks.specs.declared.verdict.TheConstants.{MOST_COLUMNS}
use Rattle.cell_checks.specs.Checks.{HasColumns}
use Rattle.cell_match.specs.Places.{times}
use Rattle.gate_cells.specs.declared.entry.Entry.{Entry}
use Rattle.gate_cells.specs.Listed.{IsGateCell}

-- the cell has so many columns, and no more than a library's cells may have
pub record HasWidth (c : Cell) : Type 0 where
  pub columns : ℕ
  pub box : HasColumns c columns
  pub few : columns ≤ MOST_COLUMNS

-- the entries are those of all gates of a list, each once
pub record AreEntries (cells : List Cell) (entries : List Entry) : Type 0 where
  pub each : (x : Entry) → In x entries → (c : Cell) × (slice_get cells x.place ≡ Some c) × IsGateCell c x.word x.area
  pub every : (place : ℕ) (c : Cell) (e : Expression) → slice_get cells place ≡ Some c → IsUsable c → c.function ≡ gate e
      → (x : Entry) × In x entries × (x.place ≡ place)
  pub once : (place : ℕ) → times place (map (λ x. x.place) entries) ≤ 1
