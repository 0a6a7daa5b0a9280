use Rattle.std.proofs.Common.{◌≡◌, ◌+◌, ◌≤◌, ◌++◌, length, map}
use Rattle.bool_expr.specs.View.{view}
use Rattle.fsm_machine.specs.Signals.{signals, part_signals, emitted, emitted_parts}
use Rattle.fsm_machine.specs.Sound.{IsSound, ArePartsSound}
use Rattle.fsm_code.specs.Over.{IsBodyOver, ArePartsOver, numbered_body, numbered_parts}
use Rattle.fsm_code.specs.View.{body_view, parts_view}
use Rattle.fsm_code.specs.declared.statements.Statements.{size-Statements}
use Rattle.fsm_code.specs.declared.statements.Parts.{size-Parts}
use Rattle.fsm_code.proofs.emission.StateSignals.+emit.Given as goal

abbrev pub decreases-emit : goal.decreases-emit
decreases-emit l = goal.size-emit l

abbrev pub decreases-emit_parts : goal.decreases-emit_parts
decreases-emit_parts l = goal.size-emit_parts l

abbrev pub decreases-emit_branches : goal.decreases-emit_branches
decreases-emit_branches l = goal.size-emit_branches l

-- what was put and what is left
abbrev pub invariant-emit-loop-rest : goal.invariant-emit-loop-rest
invariant-emit-loop-rest l = record {
  smaller : size-Statements l.rest ≤ size-Statements l.fn.body;
  path : l.here.path ≡ l.fn.place.path;
  room : l.here.next + signals (body_view l.rest) ≡ l.fn.place.next + signals (body_view l.fn.body);
  over : IsBodyOver (length l.self.numbers.now) (body_view l.rest);
  sound : IsSound l.self.states.items (body_view l.rest);
  added : map view l.out.items
      ++ emitted (λ s. l.self.first + s) l.self.states.items l.fn.place.path l.here.next (numbered_body l.self.numbers.now (body_view l.rest))
      ≡ map view l.initial.out.items
      ++ emitted (λ s. l.self.first + s) l.self.states.items l.fn.place.path l.fn.place.next (numbered_body l.self.numbers.now (body_view l.fn.body));
}

-- the same down the conditions of an `if`; the path is that on which the next condition is asked
abbrev pub invariant-emit_parts-loop-rest : goal.invariant-emit_parts-loop-rest
invariant-emit_parts-loop-rest l = record {
  smaller : size-Parts l.rest ≤ size-Parts l.fn.parts;
  room : l.here.next + part_signals (parts_view l.rest) ≡ l.fn.place.next + part_signals (parts_view l.fn.parts);
  over : ArePartsOver (length l.self.numbers.now) (parts_view l.rest);
  sound : ArePartsSound l.self.states.items (parts_view l.rest);
  added : map view l.out.items
      ++ emitted_parts (λ s. l.self.first + s) l.self.states.items l.here.path l.here.next (numbered_parts l.self.numbers.now (parts_view l.rest))
      ≡ map view l.initial.out.items
      ++ emitted_parts (λ s. l.self.first + s) l.self.states.items l.fn.place.path l.fn.place.next
      (numbered_parts l.self.numbers.now (parts_view l.fn.parts));
}
