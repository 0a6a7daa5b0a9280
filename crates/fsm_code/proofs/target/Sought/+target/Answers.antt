use Rattle.std.proofs.Common.{◌≡◌, ◌∙◌, length, get_or, map, rules, arith, ap, subst}
use Rattle.bool_expr.specs.Expression.{variable}
use Rattle.bool_expr.specs.View.{view}
use Rattle.fsm_machine.specs.Statements.{choose, select, further}
use Rattle.fsm_code.specs.Sought.{given_at}
use Rattle.fsm_code.specs.View.{body_view, parts_view, branches_view}
use Rattle.fsm_machine.specs.Statements.{Statements, Parts}
use Rattle.fsm_machine.specs.Signals.{signals, part_signals}
use Rattle.fsm_code.specs.Over.{IsBodyOver, ArePartsOver}
use Rattle.fsm_code.specs.declared.statements.Statements.{the_lemmas}
use Rattle.fsm_code.proofs.Steps.{final_choose, final_select, final_further}
use Rattle.fsm_code.proofs.target.Sought.+target.Goals as goal

pub run_parts-loop-rest-preserved : goal.run_parts-loop-rest-preserved
run_parts-loop-rest-preserved t c =
    let is : parts_view c.loop-rest.rest.now ≡ further (view c.in-Further.field-0) (body_view c.deref-in-Further.result.now) (parts_view c.deref-rest.result.now) =
    rw (c.deref-in-Further.ensures, c.deref-rest.ensures) (ap parts_view c.in-Further.is) in
    record {
      smaller = first_of (search (rules, the_lemmas), grind (arith, the_lemmas));
      room = let k = ap part_signals is in let m = c.in_ok-next-in-Further.ensures.next in let x = c.new-in-Further.ensures.next in let y = c.new-here.ensures.next in let z = c.loop-rest.invariant.room in omega arith;
      over = (let P : Parts → Type 0 = λ ps. ArePartsOver (length c.args.self.now.numbers.now) ps in subst P is c.loop-rest.invariant.over).1.1;
      count = c.in_ok-next-in-Further.ensures.values.0 ∙ c.loop-rest.invariant.count;
      values = λ k d low. final_further (given_at c.args.self.now.targets k) c.loop-rest.here.path c.new-here.result.path c.loop-rest.here.next c.new-here.result.next c.in_ok-next-in-Further.next
          c.new-in-Further.result.path c.new-in-Further.result.next (map variable c.args.self.now.numbers.now) (parts_view c.loop-rest.rest.now) (view c.in-Further.field-0)
          (body_view c.deref-in-Further.result.now) (parts_view c.deref-rest.result.now) (view (get_or c.loop-rest.values k d)) (view (get_or c.run-in-Further.new.values k d)) _ is
          c.new-in-Further.ensures.path c.new-in-Further.ensures.next c.in_ok-next-in-Further.ensures.next (c.in_ok-next-in-Further.ensures.values.1 k d (omega (arith, low, c.loop-rest.invariant.count)))
          c.new-here.ensures.path c.new-here.ensures.next (c.loop-rest.invariant.values k d low);
    }

pub run-loop-rest-preserved-in-Choose : goal.run-loop-rest-preserved-in-Choose
run-loop-rest-preserved-in-Choose t c =
    let is : body_view c.loop-rest.rest.now ≡ choose (parts_view c.deref.result.now) (body_view c.deref-rest-in-Choose.result.now) =
    rw (c.deref.ensures, c.deref-rest-in-Choose.ensures) (ap body_view c.in-Choose.is) in
    record {
      smaller = first_of (search (rules, the_lemmas), grind (arith, the_lemmas));
      room = let k = ap signals is in let m = c.in_ok-next-in-Choose.ensures.next in let z = c.loop-rest.invariant.room in omega arith;
      over = (let P : Statements → Type 0 = λ b. IsBodyOver (length c.args.self.now.numbers.now) b in subst P is c.loop-rest.invariant.over).1;
      count = c.in_ok-next-in-Choose.ensures.values.0 ∙ c.loop-rest.invariant.count;
      values = λ k d low. final_choose (given_at c.args.self.now.targets k) c.args.place.path c.loop-rest.next c.in_ok-next-in-Choose.next (map variable c.args.self.now.numbers.now)
          (body_view c.loop-rest.rest.now) (parts_view c.deref.result.now) (body_view c.deref-rest-in-Choose.result.now) (view (get_or c.loop-rest.values k d)) (view (get_or c.run_parts.new.values k d)) _ is
          c.in_ok-next-in-Choose.ensures.next (c.in_ok-next-in-Choose.ensures.values.1 k d (omega (arith, low, c.loop-rest.invariant.count))) (c.loop-rest.invariant.values k d low);
    }

pub run-loop-rest-preserved : goal.run-loop-rest-preserved
run-loop-rest-preserved t c =
    let is : body_view c.loop-rest.rest.now ≡ select (branches_view c.deref-in-Select.result.now) (body_view c.deref-rest-in-Select.result.now) =
    rw (c.deref-in-Select.ensures, c.deref-rest-in-Select.ensures) (ap body_view c.in-Select.is) in
    record {
      smaller = first_of (search (rules, the_lemmas), grind (arith, the_lemmas));
      room = let k = ap signals is in let m = c.in_ok-next-in-Select.ensures.next in let z = c.loop-rest.invariant.room in omega arith;
      over = (let P : Statements → Type 0 = λ b. IsBodyOver (length c.args.self.now.numbers.now) b in subst P is c.loop-rest.invariant.over).1;
      count = c.in_ok-next-in-Select.ensures.values.0 ∙ c.loop-rest.invariant.count;
      values = λ k d low. final_select (given_at c.args.self.now.targets k) c.args.place.path c.loop-rest.next c.in_ok-next-in-Select.next (map variable c.args.self.now.numbers.now)
          (body_view c.loop-rest.rest.now) (branches_view c.deref-in-Select.result.now) (body_view c.deref-rest-in-Select.result.now) (view (get_or c.loop-rest.values k d)) (view (get_or c.run_branches.new.values k d)) _ is
          c.in_ok-next-in-Select.ensures.next (c.in_ok-next-in-Select.ensures.values.1 k d (omega (arith, low, c.loop-rest.invariant.count))) (c.loop-rest.invariant.values k d low);
    }
