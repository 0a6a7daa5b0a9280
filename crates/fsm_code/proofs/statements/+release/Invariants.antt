use Rattle.std.proofs.Common.{◌≤◌}
use Rattle.fsm_code.specs.declared.statements.Statements.{size-Statements}
use Rattle.fsm_code.specs.declared.statements.Parts.{size-Parts}
use Rattle.fsm_code.specs.declared.statements.Branches.{size-Branches}
use Rattle.fsm_code.proofs.statements.+release.Given as goal

abbrev pub invariant-Branches::drop-loop-self : goal.invariant-Branches::drop-loop-self
invariant-Branches::drop-loop-self l = size-Branches l.self ≤ size-Branches l.initial.self

abbrev pub invariant-Parts::drop-loop-self : goal.invariant-Parts::drop-loop-self
invariant-Parts::drop-loop-self l = size-Parts l.self ≤ size-Parts l.initial.self

abbrev pub invariant-Statements::drop-loop-self : goal.invariant-Statements::drop-loop-self
invariant-Statements::drop-loop-self l = size-Statements l.self ≤ size-Statements l.initial.self
