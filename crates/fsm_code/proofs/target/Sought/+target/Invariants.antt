use Rattle.std.proofs.Common.{◌≡◌, ℕ, ◌+◌, ◌<◌, ◌≤◌, length, get_or}
use Rattle.bool_expr.specs.declared.expr.Expr.{Expr}
use Rattle.bool_expr.specs.View.{view}
use Rattle.fsm_machine.specs.Signals.{signals, part_signals, final, final_parts}
use Rattle.fsm_code.specs.Over.{IsBodyOver, ArePartsOver, numbered_body, numbered_parts}
use Rattle.fsm_code.specs.Sought.{given_at}
use Rattle.fsm_code.specs.View.{body_view, parts_view}
use Rattle.fsm_code.specs.declared.statements.Statements.{size-Statements}
use Rattle.fsm_code.specs.declared.statements.Parts.{size-Parts}
use Rattle.fsm_code.proofs.target.Sought.+target.Given as goal

abbrev pub decreases-run : goal.decreases-run
decreases-run l = goal.size-run l

abbrev pub decreases-run_parts : goal.decreases-run_parts
decreases-run_parts l = goal.size-run_parts l

abbrev pub decreases-run_branches : goal.decreases-run_branches
decreases-run_branches l = goal.size-run_branches l

-- what is reached, and what is left
abbrev pub invariant-run-loop-rest : goal.invariant-run-loop-rest
invariant-run-loop-rest l = record {
  smaller : size-Statements l.rest ≤ size-Statements l.fn.body;
  room : l.next + signals (body_view l.rest) ≡ l.fn.place.next + signals (body_view l.fn.body);
  over : IsBodyOver (length l.self.numbers.now) (body_view l.rest);
  count : length l.values ≡ length l.initial.values;
  values : (k : ℕ) (d : Expr) → k < length l.initial.values
      → final (given_at l.self.targets k) l.path l.next (numbered_body l.self.numbers.now (body_view l.rest)) (view (get_or l.values k d))
      ≡ final (given_at l.self.targets k) l.path l.fn.place.next (numbered_body l.self.numbers.now (body_view l.fn.body)) (view (get_or l.initial.values k d));
}

-- the same down the conditions of an `if`
abbrev pub invariant-run_parts-loop-rest : goal.invariant-run_parts-loop-rest
invariant-run_parts-loop-rest l = record {
  smaller : size-Parts l.rest ≤ size-Parts l.fn.parts;
  room : l.here.next + part_signals (parts_view l.rest) ≡ l.fn.place.next + part_signals (parts_view l.fn.parts);
  over : ArePartsOver (length l.self.numbers.now) (parts_view l.rest);
  count : length l.values ≡ length l.initial.values;
  values : (k : ℕ) (d : Expr) → k < length l.initial.values
      → final_parts (given_at l.self.targets k) l.here.path l.here.next (numbered_parts l.self.numbers.now (parts_view l.rest)) (view (get_or l.values k d))
      ≡ final_parts (given_at l.self.targets k) l.fn.place.path l.fn.place.next (numbered_parts l.self.numbers.now (parts_view l.fn.parts)) (view (get_or l.initial.values k d));
}
