use Rattle.std.proofs.Common.{◌≡◌, rules, arith, refl, sym, ap, ◌∙◌}
use Rattle.bool_expr.specs.Expression.{Expression}
use Rattle.bool_expr.specs.View.{view}
use Rattle.fsm_machine.specs.Statements.{Assignment, Statements, assign, choose, select, Parts, further, Branches}
use Rattle.fsm_code.specs.View.{assignment_view, body_view, parts_view, branches_view}
use Rattle.fsm_code.specs.declared.statements.Statements.{the_lemmas}
use Rattle.fsm_merge.specs.Merged.{merged, merged_parts}
use Rattle.fsm_merge.proofs.Stringing.{with_pieces_more, with_arms_more}
use Rattle.fsm_merge.proofs.merger.Merger.+merge.Goals as goal

pub pieces-loop-rest-preserved-in-Assign : goal.pieces-loop-rest-preserved-in-Assign
pieces-loop-rest-preserved-in-Assign t c =
    let s = c.args.self.now.numbering.state_of.now in
    let k = c.args.self.now.numbering.kept.now in
    let is : body_view c.loop-rest.rest.now ≡ assign (assignment_view c.in-Assign.assignment) (body_view c.deref-rest.result.now) =
    rw (c.deref-rest.ensures) (ap body_view c.in-Assign.is) in
    record {
      smaller = first_of (search (rules, the_lemmas), grind (arith, the_lemmas));
      so_far = with_pieces_more _ _ _ _ _ _ c.in_ok-push-in-Assign.ensures.items
          (ap (merged s k) is ∙ ap (λ (a : Assignment). assign a (merged s k (body_view c.deref-rest.result.now))) (sym c.in_ok-assignment-in-Assign.ensures))
          c.loop-rest.invariant.so_far;
    }

pub pieces-loop-rest-preserved-in-Choose : goal.pieces-loop-rest-preserved-in-Choose
pieces-loop-rest-preserved-in-Choose t c =
    let s = c.args.self.now.numbering.state_of.now in
    let k = c.args.self.now.numbering.kept.now in
    let is : body_view c.loop-rest.rest.now ≡ choose (parts_view c.deref.result.now) (body_view c.deref-rest-in-Choose.result.now) =
    rw (c.deref.ensures, c.deref-rest-in-Choose.ensures) (ap body_view c.in-Choose.is) in
    record {
      smaller = first_of (search (rules, the_lemmas), grind (arith, the_lemmas));
      so_far = with_pieces_more _ _ _ _ _ _ c.in_ok-push-in-Choose.ensures.items
          (ap (merged s k) is
          ∙ ap (λ (ps : Parts). choose ps (merged s k (body_view c.deref-rest-in-Choose.result.now)))
          (sym (ap parts_view c.in_ok-made-in-Choose.ensures.ok ∙ c.in_ok-parts-in-Choose.ensures)))
          c.loop-rest.invariant.so_far;
    }

pub pieces-loop-rest-preserved : goal.pieces-loop-rest-preserved
pieces-loop-rest-preserved t c =
    let s = c.args.self.now.numbering.state_of.now in
    let k = c.args.self.now.numbering.kept.now in
    let is : body_view c.loop-rest.rest.now ≡ select (branches_view c.deref-in-Select.result.now) (body_view c.deref-rest-in-Select.result.now) =
    rw (c.deref-in-Select.ensures, c.deref-rest-in-Select.ensures) (ap body_view c.in-Select.is) in
    record {
      smaller = first_of (search (rules, the_lemmas), grind (arith, the_lemmas));
      so_far = with_pieces_more _ _ _ _ _ _ c.in_ok-push-in-Select.ensures.items
          (ap (merged s k) is
          ∙ ap (λ (bs : Branches). select bs (merged s k (body_view c.deref-rest-in-Select.result.now)))
          (sym (ap branches_view c.in_ok-made-in-Select.ensures.ok ∙ c.in_ok-branches-in-Select.ensures)))
          c.loop-rest.invariant.so_far;
    }

pub arms-loop-rest-preserved : goal.arms-loop-rest-preserved
arms-loop-rest-preserved t c =
    let s = c.args.self.now.numbering.state_of.now in
    let k = c.args.self.now.numbering.kept.now in
    let is : parts_view c.loop-rest.rest.now ≡ further (view c.in-Further.condition) (body_view c.deref-in-Further.result.now) (parts_view c.deref-rest.result.now) =
    rw (c.deref-in-Further.ensures, c.deref-rest.ensures) (ap parts_view c.in-Further.is) in
    record {
      smaller = first_of (search (rules, the_lemmas), grind (arith, the_lemmas));
      so_far = with_arms_more _ _ _ _ _ _ c.in_ok-push-in-Further.ensures.items
          (ap (merged_parts s k) is
          ∙ ap (λ (e : Expression). further e (merged s k (body_view c.deref-in-Further.result.now)) (merged_parts s k (parts_view c.deref-rest.result.now)))
          (sym c.in_ok-condition-in-Further.ensures)
          ∙ ap (λ (b : Statements). further (view c.in_ok-condition-in-Further.condition) b (merged_parts s k (parts_view c.deref-rest.result.now)))
          (sym (ap body_view c.in_ok-part-in-Further.ensures.ok ∙ c.in_ok-body-in-Further.ensures)))
          c.loop-rest.invariant.so_far;
    }
