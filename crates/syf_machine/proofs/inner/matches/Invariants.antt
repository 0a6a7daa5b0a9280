use Rattle.std.proofs.Common.{◌≡◌, ◌+◌, drop}
use Rattle.bool_expr.specs.View.{view}
use Rattle.fsm_machine.specs.MachineOf.{matches_after, matches}
use Rattle.syf_machine.proofs.inner.matches.Given as goal

-- what was joined so far, and what is left
abbrev pub invariant-loop-bit : goal.invariant-loop-bit
invariant-loop-bit l = record {
  place : l.variable ≡ l.first + l.bit-index;
  same : matches_after (view l.made) (l.variable + 1) (drop l.bit-index l.rest) ≡ matches l.first l.code;
}
