use Rattle.std.proofs.Common.{◌≤◌}
use Rattle.fsm_text.specs.declared.file.Body.{size-Body}
use Rattle.fsm_text.specs.declared.file.Parts.{size-Parts}
use Rattle.fsm_text.specs.declared.file.Branches.{size-Branches}
use Rattle.fsm_text.proofs.+release.Given as goal

abbrev pub invariant-file::Body::drop-loop-self : goal.invariant-file::Body::drop-loop-self
invariant-file::Body::drop-loop-self l = size-Body l.self ≤ size-Body l.initial.self

abbrev pub invariant-file::Parts::drop-loop-self : goal.invariant-file::Parts::drop-loop-self
invariant-file::Parts::drop-loop-self l = size-Parts l.self ≤ size-Parts l.initial.self

abbrev pub invariant-file::Branches::drop-loop-self : goal.invariant-file::Branches::drop-loop-self
invariant-file::Branches::drop-loop-self l = size-Branches l.self ≤ size-Branches l.initial.self
