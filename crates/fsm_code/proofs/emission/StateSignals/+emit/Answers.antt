use Rattle.std.proofs.Common.{◌≡◌, ◌+◌, length, map, rules, arith, ap, subst, ◌∙◌}
use Rattle.bool_expr.specs.Expression.{variable}
use Rattle.bool_expr.specs.View.{view}
use Rattle.fsm_machine.specs.Statements.{choose, select, either, further, listed}
use Rattle.fsm_machine.specs.Signals.{emitted, emitted_parts, emitted_branches}
use Rattle.fsm_code.specs.Fits.{Adds}
use Rattle.fsm_code.specs.Over.{numbered_parts, numbered_branches}
use Rattle.fsm_code.specs.View.{body_view, parts_view, branches_view}
use Rattle.fsm_machine.specs.Statements.{Statements, Parts}
use Rattle.fsm_machine.specs.Signals.{signals, part_signals, without}
use Rattle.fsm_machine.specs.Sound.{IsSound, ArePartsSound}
use Rattle.fsm_code.specs.Over.{IsBodyOver, ArePartsOver, numbered_body}
use Rattle.fsm_code.specs.declared.statements.Statements.{the_lemmas}
use Rattle.fsm_code.proofs.Steps.{on_ok, emitted_choose, emitted_select, emitted_further, emitted_either, emitted_listed}
use Rattle.fsm_code.proofs.emission.StateSignals.+emit.Goals as goal

pub emit-loop-rest-preserved-in-Choose : goal.emit-loop-rest-preserved-in-Choose
emit-loop-rest-preserved-in-Choose t c =
    let is : body_view c.loop-rest.rest.now ≡ choose (parts_view c.deref.result.now) (body_view c.deref-rest-in-Choose.result.now) =
    rw (c.deref.ensures, c.deref-rest-in-Choose.ensures) (ap body_view c.in-Choose.is) in
    record {
      smaller = first_of (search (rules, the_lemmas), grind (arith, the_lemmas));
      path = c.loop-rest.invariant.path;
      room = let k = ap signals is in let m = c.in_ok-here-in-Choose.ensures.next in let z = c.loop-rest.invariant.room in omega arith;
      over = (let P : Statements → Type 0 = λ b. IsBodyOver (length c.args.self.now.numbers.now) b in subst P is c.loop-rest.invariant.over).1;
      sound = (let P : Statements → Type 0 = λ b. IsSound c.args.self.now.states.items b in subst P is c.loop-rest.invariant.sound).1;
      added = emitted_choose (λ s. c.args.self.now.first + s) c.args.self.now.states.items c.args.place.path c.loop-rest.here.path c.loop-rest.here.next c.in_ok-here-in-Choose.field-0
          (map variable c.args.self.now.numbers.now) (body_view c.loop-rest.rest.now) (parts_view c.deref.result.now) (body_view c.deref-rest-in-Choose.result.now)
          (map view c.loop-rest.out.items) (map view c.emit_parts.new.out.items) _ is c.loop-rest.invariant.path
          c.in_ok-here-in-Choose.ensures.next c.in_ok-here-in-Choose.ensures.added c.loop-rest.invariant.added;
    }

pub emit-loop-rest-preserved : goal.emit-loop-rest-preserved
emit-loop-rest-preserved t c =
    let is : body_view c.loop-rest.rest.now ≡ select (branches_view c.deref-in-Select-2.result.now) (body_view c.deref-rest-in-Select.result.now) =
    rw (c.deref-in-Select-2.ensures, c.deref-rest-in-Select.ensures) (ap body_view c.in-Select.is) in
    record {
      smaller = first_of (search (rules, the_lemmas), grind (arith, the_lemmas));
      path = c.loop-rest.invariant.path;
      room = let k = ap signals is in let m = c.in_ok-here-in-Select.ensures.next in let z = c.loop-rest.invariant.room in omega arith;
      over = (let P : Statements → Type 0 = λ b. IsBodyOver (length c.args.self.now.numbers.now) b in subst P is c.loop-rest.invariant.over).1;
      sound = (let P : Statements → Type 0 = λ b. IsSound c.args.self.now.states.items b in subst P is c.loop-rest.invariant.sound).1;
      added = emitted_select (λ s. c.args.self.now.first + s) c.args.self.now.states.items c.args.place.path c.loop-rest.here.path c.loop-rest.here.next c.in_ok-here-in-Select.field-0
          (map variable c.args.self.now.numbers.now) (body_view c.loop-rest.rest.now) (branches_view c.deref-in-Select-2.result.now) (body_view c.deref-rest-in-Select.result.now)
          (map view c.loop-rest.out.items) (map view c.emit_branches.new.out.items) _ is c.loop-rest.invariant.path
          c.in_ok-here-in-Select.ensures.next (rw c.deref-in-Select.ensures.value at c.in_ok-here-in-Select.ensures.added) c.loop-rest.invariant.added;
    }

pub emit_branches-returns-in_ok-rest-in-Listed-clause-added :
    goal.emit_branches-returns-in_ok-rest-in-Listed-clause-added
emit_branches-returns-in_ok-rest-in-Listed-clause-added t c =
    let is : branches_view c.args.branches.now ≡ listed c.in-Listed.here.items (body_view c.deref-in-Listed-2.result.now) (branches_view c.deref-in-Listed-5.result.now) =
    rw (c.deref-in-Listed-2.ensures, c.deref-in-Listed-5.ensures) (ap branches_view c.in-Listed.is) in
    on_ok c.emit_branches.result
    (Adds c.emit-in-Listed.new.out.items c.emit_branches.new.out.items
    (emitted_branches (λ s. c.args.self.now.first + s) c.args.self.now.states.items c.args.place.path c.in_ok-next-in-Listed.next c.deref-in-Listed-4.result.now
    (numbered_branches c.args.self.now.numbers.now (branches_view c.deref-in-Listed-5.result.now))))
    (Adds c.args.out.now.items c.emit_branches.new.out.items
    (emitted_branches (λ s. c.args.self.now.first + s) c.args.self.now.states.items c.args.place.path c.args.place.next c.args.left.now
    (numbered_branches c.args.self.now.numbers.now (branches_view c.args.branches.now))))
    (λ added. emitted_listed (λ s. c.args.self.now.first + s) c.args.self.now.states.items c.args.left.now c.args.place.path c.new-in-Listed.result.path c.args.place.next
    c.in_ok-next-in-Listed.next c.new-in-Listed.result.next (map variable c.args.self.now.numbers.now) (branches_view c.args.branches.now) c.in-Listed.here.items
    c.deref-in-Listed-4.result.now (body_view c.deref-in-Listed-2.result.now) (branches_view c.deref-in-Listed-5.result.now) (map view c.args.out.now.items)
    (map view c.emit_branch-in-Listed.new.out.items) (map view c.emit-in-Listed.new.out.items) (map view c.emit_branches.new.out.items) is
    c.new-in-Listed.ensures.path c.new-in-Listed.ensures.next c.in_ok-next-in-Listed.ensures.next
    (c.deref-in-Listed-4.ensures.value ∙ c.in_ok-rest-in-Listed.ensures.items ∙ ap (λ here. without here c.args.left.now) c.deref-in-Listed-3.ensures.value)
    (rw c.deref-in-Listed.ensures.value at c.in_ok-emit_branch-in-Listed.ensures) c.in_ok-next-in-Listed.ensures.added added)
    c.emit_branches.ensures.added

pub emit_parts-returns-in-Either-clause-added : goal.emit_parts-returns-in-Either-clause-added
emit_parts-returns-in-Either-clause-added t c =
    let is : parts_view c.loop-rest.rest.now ≡ either (view c.in-Either.condition) (body_view c.deref-in-Either.result.now) (body_view c.deref-in-Either-2.result.now) =
    rw (c.deref-in-Either.ensures, c.deref-in-Either-2.ensures) (ap parts_view c.in-Either.is) in
    on_ok c.emit-in-Either-2.result
    (Adds c.emit_opposite.new.out.items c.emit-in-Either-2.new.out.items
    (emitted (λ s. c.args.self.now.first + s) c.args.self.now.states.items c.new-in-Either-2.result.path c.new-in-Either-2.result.next
    (numbered_body c.args.self.now.numbers.now (body_view c.deref-in-Either-2.result.now))))
    (Adds c.args.out.now.items c.emit-in-Either-2.new.out.items
    (emitted_parts (λ s. c.args.self.now.first + s) c.args.self.now.states.items c.args.place.path c.args.place.next
    (numbered_parts c.args.self.now.numbers.now (parts_view c.args.parts.now))))
    (λ added. emitted_either (λ s. c.args.self.now.first + s) c.args.self.now.states.items c.loop-rest.here.path c.new-in-Either-2.result.path c.new-in-Either.result.path
    c.loop-rest.here.next c.new-in-Either-2.result.next c.in_ok-opposite-in-Either.opposite c.new-in-Either.result.next (map variable c.args.self.now.numbers.now)
    (parts_view c.loop-rest.rest.now) (view c.in-Either.condition) (body_view c.deref-in-Either.result.now) (body_view c.deref-in-Either-2.result.now)
    (map view c.loop-rest.out.items) (map view c.emit_condition-in-Either.new.out.items) (map view c.emit-in-Either.new.out.items) (map view c.emit_opposite.new.out.items)
    (map view c.emit-in-Either-2.new.out.items) _ is
    c.new-in-Either.ensures.path c.new-in-Either.ensures.next c.in_ok-opposite-in-Either.ensures.next c.new-in-Either-2.ensures.path c.new-in-Either-2.ensures.next
    c.in_ok-emit_condition-in-Either.ensures c.in_ok-opposite-in-Either.ensures.added c.in_ok-emit_opposite-in-Either.ensures c.loop-rest.invariant.added added)
    c.emit-in-Either-2.ensures.added

pub emit_parts-loop-rest-preserved : goal.emit_parts-loop-rest-preserved
emit_parts-loop-rest-preserved t c =
    let is : parts_view c.loop-rest.rest.now ≡ further (view c.in-Further.condition) (body_view c.deref-in-Further.result.now) (parts_view c.deref-rest.result.now) =
    rw (c.deref-in-Further.ensures, c.deref-rest.ensures) (ap parts_view c.in-Further.is) in
    record {
      smaller = first_of (search (rules, the_lemmas), grind (arith, the_lemmas));
      room = let k = ap part_signals is in let m = c.in_ok-opposite-in-Further.ensures.next in let x = c.new-in-Further.ensures.next in let y = c.new-here.ensures.next in let z = c.loop-rest.invariant.room in omega arith;
      over = (let P : Parts → Type 0 = λ ps. ArePartsOver (length c.args.self.now.numbers.now) ps in subst P is c.loop-rest.invariant.over).1.1;
      sound = (let P : Parts → Type 0 = λ ps. ArePartsSound c.args.self.now.states.items ps in subst P is c.loop-rest.invariant.sound).1;
      added = emitted_further (λ s. c.args.self.now.first + s) c.args.self.now.states.items c.loop-rest.here.path c.new-here.result.path c.new-in-Further.result.path
          c.loop-rest.here.next c.new-here.result.next c.in_ok-opposite-in-Further.opposite c.new-in-Further.result.next (map variable c.args.self.now.numbers.now)
          (parts_view c.loop-rest.rest.now) (view c.in-Further.condition) (body_view c.deref-in-Further.result.now) (parts_view c.deref-rest.result.now)
          (map view c.loop-rest.out.items) (map view c.emit_condition-in-Further.new.out.items) (map view c.emit-in-Further.new.out.items) (map view c.emit_opposite-in-Further.new.out.items) _ is
          c.new-in-Further.ensures.path c.new-in-Further.ensures.next c.in_ok-opposite-in-Further.ensures.next c.new-here.ensures.path c.new-here.ensures.next
          c.in_ok-emit_condition-in-Further.ensures c.in_ok-opposite-in-Further.ensures.added c.in_ok-emit_opposite-in-Further.ensures c.loop-rest.invariant.added;
    }
