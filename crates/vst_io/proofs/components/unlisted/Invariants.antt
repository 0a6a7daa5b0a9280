use Rattle.std.proofs.Common.{◌≡◌, drop}
use Rattle.vst_io.specs.Nets.{components}
use Rattle.vst_io.specs.Faults.{first_unlisted}
use Rattle.vst_io.proofs.components.unlisted.Given as goal

abbrev pub invariant-loop-declaration : goal.invariant-loop-declaration
invariant-loop-declaration l = first_unlisted l.known.table (components (drop l.declaration-index l.declarations)) ≡ first_unlisted l.known.table (components l.declarations)
