use Rattle.std.proofs.Common.{◌≡◌, ◌≤◌, ◌++◌, length, map, Bor}
use Rattle.fsm_code.specs.Over.{IsBodyOver}
use Rattle.fsm_code.specs.View.{assignment_view, body_view}
use Rattle.fsm_code.specs.declared.statements.Assignment.{Assignment}
use Rattle.fsm_code.specs.declared.statements.Statements.{size-Statements}
use Rattle.fsm_walk.specs.Trail.{trail}
use Rattle.fsm_walk.proofs.trail.+walk.Given as goal

abbrev pub decreases-walk : goal.decreases-walk
decreases-walk l = goal.size-walk l

abbrev pub decreases-walk_parts : goal.decreases-walk_parts
decreases-walk_parts l = goal.size-walk_parts l

abbrev pub decreases-walk_branches : goal.decreases-walk_branches
decreases-walk_branches l = goal.size-walk_branches l

-- what was met, and what is left to walk
abbrev pub invariant-walk-loop-rest : goal.invariant-walk-loop-rest
invariant-walk-loop-rest l = record {
  smaller : size-Statements l.rest ≤ size-Statements l.fn.body;
  over : IsBodyOver (length l.bits) (body_view l.rest);
  met : map (λ (a : Bor Assignment). assignment_view a.now) l.found.items ++ trail l.bits l.state (body_view l.rest)
      ≡ map (λ (a : Bor Assignment). assignment_view a.now) l.initial.found.items ++ trail l.bits l.state (body_view l.fn.body);
}
