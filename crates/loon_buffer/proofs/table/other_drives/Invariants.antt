use Rattle.loon_buffer.specs.Drives.{AreOtherDrives}
use Rattle.loon_buffer.proofs.table.other_drives.Given as goal

abbrev pub invariant-loop-k : goal.invariant-loop-k
invariant-loop-k l = AreOtherDrives l.cells l.place l.k l.drives.items
