use Rattle.std.proofs.Common.{◌≡◌, ℕ, ◌<◌, ◌≤◌, ◌||◌, length}
use Rattle.fsm_machine.specs.Encoding.{leads, parts_lead}
use Rattle.fsm_code.specs.View.{body_view, parts_view}
use Rattle.fsm_code.specs.declared.statements.Statements.{size-Statements}
use Rattle.fsm_code.specs.declared.statements.Parts.{size-Parts}
use Rattle.syf_encode.specs.Pieces.{is_marked}
use Rattle.syf_encode.proofs.edges.+lead.Given as goal

-- what is marked, and what is left to be marked
abbrev pub invariant-mark_led-loop-rest : goal.invariant-mark_led-loop-rest
invariant-mark_led-loop-rest l = record {
  smaller : size-Statements l.rest ≤ size-Statements l.fn.body;
  each : length l.marks ≡ length l.initial.marks;
  marks : (t : ℕ) → t < length l.initial.marks
      → (is_marked l.marks t || leads l.state t (body_view l.rest)) ≡ (is_marked l.initial.marks t || leads l.state t (body_view l.fn.body));
}

abbrev pub invariant-mark_led_in_parts-loop-rest : goal.invariant-mark_led_in_parts-loop-rest
invariant-mark_led_in_parts-loop-rest l = record {
  smaller : size-Parts l.rest ≤ size-Parts l.fn.parts;
  each : length l.marks ≡ length l.initial.marks;
  marks : (t : ℕ) → t < length l.initial.marks
      → (is_marked l.marks t || parts_lead l.state t (parts_view l.rest)) ≡ (is_marked l.initial.marks t || parts_lead l.state t (parts_view l.fn.parts));
}
