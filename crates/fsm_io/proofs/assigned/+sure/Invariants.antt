use Rattle.std.proofs.Common.{◌≡◌, ◌≤◌}
use Rattle.fsm_machine.specs.Assigned.{sure, sure_parts, sure_branches}
use Rattle.fsm_code.specs.View.{body_view, parts_view, branches_view}
use Rattle.fsm_code.specs.declared.statements.Statements.{size-Statements}
use Rattle.fsm_code.specs.declared.statements.Parts.{size-Parts}
use Rattle.fsm_code.specs.declared.statements.Branches.{size-Branches}
use Rattle.fsm_io.specs.Pieces.{sets_of}
use Rattle.fsm_io.proofs.assigned.+sure.Given as goal

abbrev pub decreases-is_sure : goal.decreases-is_sure
decreases-is_sure l = goal.size-is_sure l

abbrev pub decreases-is_sure_in_parts : goal.decreases-is_sure_in_parts
decreases-is_sure_in_parts l = goal.size-is_sure_in_parts l

abbrev pub decreases-is_sure_in_branches : goal.decreases-is_sure_in_branches
decreases-is_sure_in_branches l = goal.size-is_sure_in_branches l

abbrev pub invariant-is_sure-loop-rest : goal.invariant-is_sure-loop-rest
invariant-is_sure-loop-rest l = record {
  smaller : size-Statements l.rest ≤ size-Statements l.fn.body;
  rest : sure (sets_of l.sought) l.state (body_view l.rest) ≡ sure (sets_of l.sought) l.state (body_view l.fn.body);
}

abbrev pub invariant-is_sure_in_parts-loop-rest : goal.invariant-is_sure_in_parts-loop-rest
invariant-is_sure_in_parts-loop-rest l = record {
  smaller : size-Parts l.rest ≤ size-Parts l.fn.parts;
  rest : sure_parts (sets_of l.sought) l.state (parts_view l.rest) ≡ sure_parts (sets_of l.sought) l.state (parts_view l.fn.parts);
}

abbrev pub invariant-is_sure_in_branches-loop-rest : goal.invariant-is_sure_in_branches-loop-rest
invariant-is_sure_in_branches-loop-rest l = record {
  smaller : size-Branches l.rest ≤ size-Branches l.fn.branches;
  rest : sure_branches (sets_of l.sought) l.state (branches_view l.rest) ≡ sure_branches (sets_of l.sought) l.state (branches_view l.fn.branches);
}
