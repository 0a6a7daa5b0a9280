use Rattle.std.proofs.Common.{◌≡◌, ◌++◌, ◌∙◌, [], ◌∷◌, arith, rules, sym, ap, subst}
use Rattle.std.proofs.lemmas.Result.{on_ok_weaker}
use Rattle.bool_expr.specs.View.{view}
use Rattle.vhdl_token.specs.declared.keyword.Keyword.TheVariants as word
use Rattle.spell_theory.specs.Layout.{gap, turn, text_of}
use Rattle.vhdl_print.specs.Outline.{a_word}
use Rattle.vbe_print.specs.Expressions.{expression_layout}
use Rattle.vbe_print.proofs.Texts.{put_two, next_part}
use Rattle.fsm_machine.specs.Statements.{Statements, assign, choose, select, Parts, either, further, Branches, others, listed}
use Rattle.fsm_code.specs.declared.statements.Statements.{the_lemmas}
use Rattle.fsm_code.specs.View.{assignment_view, body_view, parts_view, branches_view}
use Rattle.fsm_print.specs.Layout.{ending, assignment_layout, states_layout, then_layout, arrow_layout, case_head, if_layout, case_layout, part_layout, branch_layout, body_layout, parts_layout, branches_layout}
use Rattle.fsm_print.specs.Pieces.{IsKnownBody, AreKnownParts, AreKnownBranches}
use Rattle.fsm_print.proofs.statements.Writer.+body.Goals as goal

pub conditional-returns : goal.conditional-returns
conditional-returns t c =
    let ps = parts_layout c.args.self.now.words.now (parts_view c.args.parts.now) in
    let z = c.append-2.new.self in
    on_ok_weaker c.append-2.result
    (λ e. put_two (a_word word.If ∷ gap ∷ []) (ps ++ ending word.If) c.args.out.now c.append.new.self z c.in_ok-append.ensures.ok
    (put_two ps (ending word.If) c.append.new.self c.parts.new.out z c.in_ok-parts.ensures e))
    c.append-2.ensures.ok

pub selection-returns : goal.selection-returns
selection-returns t c =
    let w = c.args.self.now.words.now in
    let bs = branches_layout w (branches_view c.args.branches.now) in
    let z = c.append.new.self in
    on_ok_weaker c.append.result
    (λ e. put_two (case_head w) (bs ++ ending word.Case) c.args.out.now c.begin_case.new.out z c.in_ok-begin_case.ensures
    (put_two bs (ending word.Case) c.begin_case.new.out c.branches.new.out z c.in_ok-branches.ensures e))
    c.append.ensures.ok

pub part-returns : goal.part-returns
part-returns t c =
    let w = c.args.self.now.words.now in
    let x = expression_layout w.vars (view c.args.condition.now) in
    let b = body_layout w (body_view c.args.body.now) in
    let z = c.body.new.out in
    on_ok_weaker c.body.result
    (λ e. put_two x (then_layout ++ b) c.args.out.now c.expression.new.out z c.in_ok-expression.ensures
    (put_two then_layout b c.expression.new.out c.append.new.self z c.in_ok-append.ensures.ok e))
    c.body.ensures

pub listed_branch-returns : goal.listed_branch-returns
listed_branch-returns t c =
    let w = c.args.self.now.words.now in
    let states = states_layout w c.args.states.now in
    let b = body_layout w (body_view c.args.body.now) in
    let z = c.body.new.out in
    on_ok_weaker c.body.result
    (λ e. put_two (a_word word.When ∷ gap ∷ []) (states ++ (arrow_layout ++ b)) c.args.out.now c.append.new.self z c.in_ok-append.ensures.ok
    (put_two states (arrow_layout ++ b) c.append.new.self c.listed.new.out z c.in_ok-listed.ensures
    (put_two arrow_layout b c.listed.new.out c.append-2.new.self z c.in_ok-append-2.ensures.ok e)))
    c.body.ensures

pub body-loop-rest-preserved-in-Assign : goal.body-loop-rest-preserved-in-Assign
body-loop-rest-preserved-in-Assign t c =
    let w = c.args.self.now.words.now in
    let a = assignment_view c.in-Assign.assignment in
    let rest = body_view c.deref-rest.result.now in
    let is : body_view c.loop-rest.rest.now ≡ assign a rest = rw c.deref-rest.ensures (ap body_view c.in-Assign.is) in
    record {
      smaller = first_of (search (rules, the_lemmas), grind (arith, the_lemmas));
      known = (subst (λ (b : Statements). IsKnownBody w b) is c.loop-rest.invariant.known).1;
      same =
          next_part (assignment_layout w a) (body_layout w rest) c.loop-rest.out c.assignment.new.out (c.args.out.now ++ text_of (body_layout w (body_view c.args.body.now))) c.in_ok-assignment-in-Assign.ensures
          (ap (λ (b : Statements). c.loop-rest.out ++ text_of (body_layout w b)) (sym is) ∙ c.loop-rest.invariant.same);
    }

pub body-loop-rest-preserved-in-Choose : goal.body-loop-rest-preserved-in-Choose
body-loop-rest-preserved-in-Choose t c =
    let w = c.args.self.now.words.now in
    let ps = parts_view c.deref.result.now in
    let rest = body_view c.deref-rest-in-Choose.result.now in
    let is : body_view c.loop-rest.rest.now ≡ choose ps rest = rw (c.deref.ensures, c.deref-rest-in-Choose.ensures) (ap body_view c.in-Choose.is) in
    record {
      smaller = first_of (search (rules, the_lemmas), grind (arith, the_lemmas));
      known = (subst (λ (b : Statements). IsKnownBody w b) is c.loop-rest.invariant.known).1;
      same =
          next_part (if_layout w ps) (body_layout w rest) c.loop-rest.out c.conditional.new.out (c.args.out.now ++ text_of (body_layout w (body_view c.args.body.now))) c.in_ok-conditional-in-Choose.ensures
          (ap (λ (b : Statements). c.loop-rest.out ++ text_of (body_layout w b)) (sym is) ∙ c.loop-rest.invariant.same);
    }

pub body-loop-rest-preserved : goal.body-loop-rest-preserved
body-loop-rest-preserved t c =
    let w = c.args.self.now.words.now in
    let bs = branches_view c.deref-in-Select.result.now in
    let rest = body_view c.deref-rest-in-Select.result.now in
    let is : body_view c.loop-rest.rest.now ≡ select bs rest = rw (c.deref-in-Select.ensures, c.deref-rest-in-Select.ensures) (ap body_view c.in-Select.is) in
    record {
      smaller = first_of (search (rules, the_lemmas), grind (arith, the_lemmas));
      known = (subst (λ (b : Statements). IsKnownBody w b) is c.loop-rest.invariant.known).1;
      same =
          next_part (case_layout w bs) (body_layout w rest) c.loop-rest.out c.selection.new.out (c.args.out.now ++ text_of (body_layout w (body_view c.args.body.now))) c.in_ok-selection-in-Select.ensures
          (ap (λ (b : Statements). c.loop-rest.out ++ text_of (body_layout w b)) (sym is) ∙ c.loop-rest.invariant.same);
    }

pub parts-returns-in-Either : goal.parts-returns-in-Either
parts-returns-in-Either t c =
    let w = c.args.self.now.words.now in
    let x = view c.in-Either.condition in
    let a = body_view c.deref-in-Either.result.now in
    let b = body_view c.deref-in-Either-2.result.now in
    let is : parts_view c.loop-rest.rest.now ≡ either x a b = rw (c.deref-in-Either.ensures, c.deref-in-Either-2.ensures) (ap parts_view c.in-Either.is) in
    let whole = c.args.out.now ++ text_of (parts_layout w (parts_view c.args.parts.now)) in
    let so_far : c.loop-rest.out ++ text_of (parts_layout w (either x a b)) ≡ whole = ap (λ (ps : Parts). c.loop-rest.out ++ text_of (parts_layout w ps)) (sym is) ∙ c.loop-rest.invariant.same in
    on_ok_weaker c.body.result
    (λ e. put_two (part_layout w x a) (a_word word.Else ∷ turn ∷ body_layout w b) c.loop-rest.out c.part-in-Either.new.out c.body.new.out c.in_ok-part-in-Either.ensures
    (put_two (a_word word.Else ∷ turn ∷ []) (body_layout w b) c.part-in-Either.new.out c.append.new.self c.body.new.out c.in_ok-append-in-Either.ensures.ok e) ∙ so_far)
    c.body.ensures

pub parts-loop-rest-preserved : goal.parts-loop-rest-preserved
parts-loop-rest-preserved t c =
    let w = c.args.self.now.words.now in
    let x = view c.in-Further.condition in
    let a = body_view c.deref-in-Further.result.now in
    let more = parts_view c.deref-rest.result.now in
    let is : parts_view c.loop-rest.rest.now ≡ further x a more = rw (c.deref-in-Further.ensures, c.deref-rest.ensures) (ap parts_view c.in-Further.is) in
    let whole = c.args.out.now ++ text_of (parts_layout w (parts_view c.args.parts.now)) in
    let so_far : c.loop-rest.out ++ text_of (parts_layout w (further x a more)) ≡ whole = ap (λ (ps : Parts). c.loop-rest.out ++ text_of (parts_layout w ps)) (sym is) ∙ c.loop-rest.invariant.same in
    record {
      smaller = first_of (search (rules, the_lemmas), grind (arith, the_lemmas));
      known = (subst (λ (ps : Parts). AreKnownParts w ps) is c.loop-rest.invariant.known).1;
      same =
          next_part (a_word word.Elsif ∷ gap ∷ []) (parts_layout w more) c.part-in-Further.new.out c.append-in-Further.new.self whole c.in_ok-append-in-Further.ensures.ok
          (next_part (part_layout w x a) (a_word word.Elsif ∷ gap ∷ parts_layout w more) c.loop-rest.out c.part-in-Further.new.out whole c.in_ok-part-in-Further.ensures so_far);
    }

pub branches-returns-in-Others : goal.branches-returns-in-Others
branches-returns-in-Others t c =
    let w = c.args.self.now.words.now in
    let a = body_view c.deref.result.now in
    let is : branches_view c.loop-rest.rest.now ≡ others a = rw c.deref.ensures (ap branches_view c.in-Others.is) in
    let whole = c.args.out.now ++ text_of (branches_layout w (branches_view c.args.branches.now)) in
    let so_far : c.loop-rest.out ++ text_of (branches_layout w (others a)) ≡ whole = ap (λ (bs : Branches). c.loop-rest.out ++ text_of (branches_layout w bs)) (sym is) ∙ c.loop-rest.invariant.same in
    on_ok_weaker c.body.result
    (λ e. put_two (a_word word.When ∷ gap ∷ a_word word.Others ∷ arrow_layout) (body_layout w a) c.loop-rest.out c.append.new.self c.body.new.out c.in_ok-append-in-Others.ensures.ok e ∙ so_far)
    c.body.ensures

pub branches-loop-rest-preserved : goal.branches-loop-rest-preserved
branches-loop-rest-preserved t c =
    let w = c.args.self.now.words.now in
    let states = c.in-Listed.states.items in
    let a = body_view c.deref-in-Listed-2.result.now in
    let more = branches_view c.deref-rest.result.now in
    let is : branches_view c.loop-rest.rest.now ≡ listed states a more = rw (c.deref-in-Listed-2.ensures, c.deref-rest.ensures) (ap branches_view c.in-Listed.is) in
    let whole = c.args.out.now ++ text_of (branches_layout w (branches_view c.args.branches.now)) in
    let so_far : c.loop-rest.out ++ text_of (branches_layout w (listed states a more)) ≡ whole = ap (λ (bs : Branches). c.loop-rest.out ++ text_of (branches_layout w bs)) (sym is) ∙ c.loop-rest.invariant.same in
    record {
      smaller = first_of (search (rules, the_lemmas), grind (arith, the_lemmas));
      known = (subst (λ (bs : Branches). AreKnownBranches w bs) is c.loop-rest.invariant.known).1;
      same = next_part (branch_layout w states a) (branches_layout w more) c.loop-rest.out c.listed_branch.new.out whole (rw c.deref-in-Listed.ensures.value at c.in_ok-listed_branch-in-Listed.ensures) so_far;
    }
