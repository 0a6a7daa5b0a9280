-- What is outside of the program, before a call and behind it.
use Rattle.std.specs.Prelude.{◌≡◌, ◌⊎◌, ℕ, List, Option}
use Rattle.vlsi_shelf.specs.Files.{Files}
use Rattle.vlsi_shelf.specs.Counts.{Rose, Counts, NoneFalls}
use Rattle.vlsi_shelf.specs.Seen.{ShelfSeen, SinkSeen}
use Rattle.vlsi_shelf.specs.Sink.{Puts, PutsPart}

-- the shelf's files and counts, and what the sink was told and how often it failed
pub record Outside : Type 0 where
  pub files : Option Files
  pub counts : Counts
  pub told : Option (List ℕ)
  pub faults : ℕ

-- a shelf and a sink
abbrev pub outside : ShelfSeen → SinkSeen → Outside
outside shelf sink = record { files = shelf.files; counts = shelf.counts; told = sink.told; faults = sink.faults }

-- no file changed
abbrev pub IsUntouched : Outside → Outside → Type 0
IsUntouched before now = now.files ≡ before.files

-- only reads were made: nothing changed but the counts
pub record OnlyReads (before now : ShelfSeen) : Type 0 where
  pub files : now.files ≡ before.files
  pub counts : NoneFalls before.counts now.counts

-- no call on the shelf failed
pub record NothingFailed (before now : Outside) : Type 0 where
  pub reads : Rose before.counts.read_faults now.counts.read_faults → ⊥
  pub writes : Rose before.counts.write_faults now.counts.write_faults → ⊥

-- the line was put whole; or some first part of it, and the sink failed; or none of it, since making and putting it takes memory
abbrev pub IsLine : SinkSeen → SinkSeen → List ℕ → Type 0
IsLine before now line = Puts before.told now.told line ⊎ ((PutsPart before.told now.told line × Rose before.faults now.faults) ⊎ (now.told ≡ before.told))
