use Rattle.std.proofs.Common.{◌≡◌, ℕ, ◌<◌, ◌≤◌, ◌||◌, length}
use Rattle.fsm_machine.specs.Walk.{assigns, part_assigns}
use Rattle.fsm_machine.specs.Encoding.{given_state}
use Rattle.fsm_code.specs.View.{body_view, parts_view}
use Rattle.fsm_code.specs.declared.statements.Statements.{size-Statements}
use Rattle.fsm_code.specs.declared.statements.Parts.{size-Parts}
use Rattle.syf_encode.specs.Pieces.{is_marked}
use Rattle.syf_encode.proofs.edges.+mark.Given as goal

-- what is marked, and what is left to be marked
abbrev pub invariant-mark_assigned-loop-rest : goal.invariant-mark_assigned-loop-rest
invariant-mark_assigned-loop-rest l = record {
  smaller : size-Statements l.rest ≤ size-Statements l.fn.body;
  each : length l.marks ≡ length l.initial.marks;
  marks : (t : ℕ) → t < length l.initial.marks
      → (is_marked l.marks t || assigns (given_state t) (body_view l.rest)) ≡ (is_marked l.initial.marks t || assigns (given_state t) (body_view l.fn.body));
}

abbrev pub invariant-mark_in_parts-loop-rest : goal.invariant-mark_in_parts-loop-rest
invariant-mark_in_parts-loop-rest l = record {
  smaller : size-Parts l.rest ≤ size-Parts l.fn.parts;
  each : length l.marks ≡ length l.initial.marks;
  marks : (t : ℕ) → t < length l.initial.marks
      → (is_marked l.marks t || part_assigns (given_state t) (parts_view l.rest)) ≡ (is_marked l.initial.marks t || part_assigns (given_state t) (parts_view l.fn.parts));
}
