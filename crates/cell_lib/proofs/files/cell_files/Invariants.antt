use Rattle.std.proofs.Common.{◌≡◌, take}
use Rattle.cell_lib.specs.Files.{cell_files as files_of}
use Rattle.cell_lib.proofs.files.cell_files.Given as goal

abbrev pub invariant-loop-name : goal.invariant-loop-name
invariant-loop-name l = l.wanted.items ≡ files_of l.dir (take l.name-index l.names)
