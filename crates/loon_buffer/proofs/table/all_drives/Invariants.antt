use Rattle.loon_buffer.proofs.Listing.{AreDrivesOf}
use Rattle.loon_buffer.proofs.table.all_drives.Given as goal

abbrev pub invariant-loop-place : goal.invariant-loop-place
invariant-loop-place l = AreDrivesOf l.cells l.drives.items l.place
