-- Tables with whose numbers the calls compute.
use Rattle.std.specs.Prelude.{◌≤◌, ℤ, pos, negsuc, ◌≤ℤ◌, All}
use Rattle.real_table.specs.declared.table.TheConstants.{MOST_UNIT}
use Rattle.real_table.specs.declared.table.Head.{Head}
use Rattle.real_table.specs.declared.table.Growth.{Growth}
use Rattle.real_table.specs.declared.table.Entry.{Entry}
use Rattle.real_table.specs.declared.table.Entry.TheVariants as entry
use Rattle.real_table.specs.declared.table.ProcessTable.{ProcessTable}

-- a length of at most 1,000,000 in absolute value
pub record IsLength (n : ℤ) : Type 0 where
  pub low : negsuc 999999 ≤ℤ n
  pub high : n ≤ℤ pos 1000000

pub record IsGrowth (g : Growth) : Type 0 where
  pub along : IsLength g.along
  pub across : IsLength g.across
  pub x : IsLength g.x
  pub y : IsLength g.y

pub record IsHeadWithin (h : Head) : Type 0 where
  pub unit_least : 1 ≤ h.unit
  pub unit : h.unit ≤ MOST_UNIT
  pub scale_least : 1 ≤ h.scale
  pub scale : h.scale ≤ MOST_UNIT
  pub grid_least : 1 ≤ h.grid
  pub grid : h.grid ≤ MOST_UNIT

abbrev pub IsEntryWithin : Entry → Type 0
IsEntryWithin (entry.Rule r) = IsGrowth r.growth
IsEntryWithin (entry.Metal m real) = Unit {0}
IsEntryWithin (entry.Space real gap) = Unit {0}
IsEntryWithin (entry.Label layer real) = Unit {0}
IsEntryWithin entry.Nothing = Unit {0}

pub record IsProcessTable (t : ProcessTable) : Type 0 where
  pub head : IsHeadWithin t.head
  pub entries : All IsEntryWithin t.entries
