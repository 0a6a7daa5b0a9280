-- What can be said of the outside, before a call and behind it.
use Rattle.std.specs.Prelude.{ℕ, List, Option}
use Rattle.vlsi_shelf.specs.Files.{Files}
use Rattle.vlsi_shelf.specs.Counts.{Counts}

-- of a shelf: its files, where it tells them, and its counts
pub record ShelfSeen : Type 0 where
  pub files : Option Files
  pub counts : Counts

-- of a sink: the bytes that were put so far, where it tells them, and how often it has failed
pub record SinkSeen : Type 0 where
  pub told : Option (List ℕ)
  pub faults : ℕ
