use Rattle.std.proofs.Common.{◌≡◌, ◌+◌, ◌*◌, ◌≤◌, map}
use Rattle.fsm_text.specs.declared.file.Statement.{size-Statement}
use Rattle.fsm_text.specs.declared.file.Body.{size-Body}
use Rattle.fsm_text.specs.declared.file.Parts.{size-Parts}
use Rattle.fsm_text.specs.declared.file.Branches.{size-Branches}
use Rattle.fsm_text.specs.Written.{statement_view, body_view, parts_view, branches_view, followed, branched}
use Rattle.fsm_text.specs.Pieces.{parts_before}
use Rattle.fsm_free.specs.Filled.{filled_body, filled_parts, filled_branches}
use Rattle.fsm_free.specs.Pieces.{part_view, branch_view}
use Rattle.fsm_free.proofs.filling.Filler.+fill.Given as goal

-- all go by the depth, what takes a body apart below what puts it together
abbrev pub decreases-statement : goal.decreases-statement
decreases-statement l = 3 * size-Statement l.statement.now

abbrev pub decreases-statements : goal.decreases-statements
decreases-statements l = 3 * size-Body l.body.now

abbrev pub decreases-body : goal.decreases-body
decreases-body l = 3 * size-Body l.body.now + 1

abbrev pub decreases-part : goal.decreases-part
decreases-part l = 3 * size-Body l.body.now + 2

abbrev pub decreases-parts_apart : goal.decreases-parts_apart
decreases-parts_apart l = 3 * size-Parts l.parts.now

abbrev pub decreases-parts : goal.decreases-parts
decreases-parts l = 3 * size-Parts l.parts.now + 1

abbrev pub decreases-branches_apart : goal.decreases-branches_apart
decreases-branches_apart l = 3 * size-Branches l.branches.now

abbrev pub decreases-branches : goal.decreases-branches
decreases-branches l = 3 * size-Branches l.branches.now + 1

abbrev pub invariant-statements-loop-rest : goal.invariant-statements-loop-rest
invariant-statements-loop-rest l = record {
  smaller : size-Body l.rest ≤ size-Body l.fn.body;
  so_far : followed (map statement_view l.made.items) (filled_body l.self.bit (body_view l.rest)) ≡ filled_body l.self.bit (body_view l.fn.body);
}

abbrev pub invariant-parts_apart-loop-rest : goal.invariant-parts_apart-loop-rest
invariant-parts_apart-loop-rest l = record {
  smaller : size-Parts l.rest ≤ size-Parts l.fn.parts;
  so_far : parts_before (map part_view l.made.items) (filled_parts l.self.bit (parts_view l.rest)) ≡ filled_parts l.self.bit (parts_view l.fn.parts);
}

abbrev pub invariant-branches_apart-loop-rest : goal.invariant-branches_apart-loop-rest
invariant-branches_apart-loop-rest l = record {
  smaller : size-Branches l.rest ≤ size-Branches l.fn.branches;
  so_far : branched (map branch_view l.made.items) (filled_branches l.self.bit (branches_view l.rest)) ≡ filled_branches l.self.bit (branches_view l.fn.branches);
}
