use Rattle.std.proofs.Common.{◌≡◌, ◌≤◌, ◌++◌, map}
use Rattle.std.specs.Prelude.{◌||◌}
use Rattle.fsm_text.specs.Written.{body_view, parts_view, branches_view}
use Rattle.fsm_text.specs.declared.file.Body.{size-Body}
use Rattle.fsm_text.specs.declared.file.Parts.{size-Parts}
use Rattle.fsm_text.specs.declared.file.Branches.{size-Branches}
use Rattle.fsm_io.specs.Looks.{body_has_case, parts_have_case, in_body, in_parts, in_branches}
use Rattle.fsm_io.specs.Pieces.{mention_of}
use Rattle.fsm_io.proofs.mentions.+mentions.Given as goal

abbrev pub decreases-push_body : goal.decreases-push_body
decreases-push_body l = goal.size-push_body l

abbrev pub decreases-push_statement : goal.decreases-push_statement
decreases-push_statement l = goal.size-push_statement l

abbrev pub decreases-push_parts : goal.decreases-push_parts
decreases-push_parts l = goal.size-push_parts l

abbrev pub decreases-push_branches : goal.decreases-push_branches
decreases-push_branches l = goal.size-push_branches l

-- what was put there, and what is left
abbrev pub invariant-push_body-loop-rest : goal.invariant-push_body-loop-rest
invariant-push_body-loop-rest l = record {
  smaller : size-Body l.rest ≤ size-Body l.fn.body;
  pushed : map mention_of l.list.items ++ in_body l.found (body_view l.rest) ≡ map mention_of l.initial.list.items ++ in_body l.fn.seen (body_view l.fn.body);
  case : (l.found || body_has_case (body_view l.rest)) ≡ (l.fn.seen || body_has_case (body_view l.fn.body));
}

abbrev pub invariant-push_parts-loop-rest : goal.invariant-push_parts-loop-rest
invariant-push_parts-loop-rest l = record {
  smaller : size-Parts l.rest ≤ size-Parts l.fn.parts;
  pushed : map mention_of l.list.items ++ in_parts l.found (parts_view l.rest) ≡ map mention_of l.initial.list.items ++ in_parts l.fn.seen (parts_view l.fn.parts);
  case : (l.found || parts_have_case (parts_view l.rest)) ≡ (l.fn.seen || parts_have_case (parts_view l.fn.parts));
}

abbrev pub invariant-push_branches-loop-rest : goal.invariant-push_branches-loop-rest
invariant-push_branches-loop-rest l = record {
  smaller : size-Branches l.rest ≤ size-Branches l.fn.branches;
  pushed : map mention_of l.list.items ++ in_branches (branches_view l.rest) ≡ map mention_of l.initial.list.items ++ in_branches (branches_view l.fn.branches);
}
