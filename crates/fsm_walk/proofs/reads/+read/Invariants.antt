use Rattle.std.proofs.Common.{◌≡◌, ◌≤◌, ◌++◌}
use Rattle.fsm_code.specs.View.{body_view}
use Rattle.fsm_code.specs.declared.statements.Statements.{size-Statements}
use Rattle.fsm_walk.specs.Reads.{reads}
use Rattle.fsm_walk.proofs.reads.+read.Given as goal

abbrev pub decreases-read : goal.decreases-read
decreases-read l = goal.size-read l

abbrev pub decreases-read_parts : goal.decreases-read_parts
decreases-read_parts l = goal.size-read_parts l

abbrev pub decreases-read_branches : goal.decreases-read_branches
decreases-read_branches l = goal.size-read_branches l

-- what was read, and what the statements that are left read
abbrev pub invariant-read-loop-rest : goal.invariant-read-loop-rest
invariant-read-loop-rest l = record {
  smaller : size-Statements l.rest ≤ size-Statements l.fn.body;
  met : l.found.items ++ reads (body_view l.rest) ≡ l.initial.found.items ++ reads (body_view l.fn.body);
}
