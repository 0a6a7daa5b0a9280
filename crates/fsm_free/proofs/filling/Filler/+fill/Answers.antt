use Rattle.std.proofs.Common.{◌≡◌, ℕ, List, rules, arith, refl, sym, ap, ◌∙◌}
use Rattle.vlsi_base.specs.declared.entity.NewName.{NewName}
use Rattle.vlsi_base.specs.Tree.{view}
use Rattle.fsm_text.specs.declared.file.Body.{the_lemmas as body_lemmas}
use Rattle.fsm_text.specs.Written.{StatementTree, BodyTree, next, further, listed, PartTree, statement_view, body_view, parts_view, branches_view}
use Rattle.fsm_text.specs.Pieces.{further_of}
use Rattle.fsm_free.specs.Filled.{filled_body, filled_parts, filled_branches}
use Rattle.fsm_free.specs.Pieces.{part_view}
use Rattle.fsm_free.proofs.Stringing.{followed_more, parts_more, branches_more}
use Rattle.fsm_free.proofs.filling.Filler.+fill.Goals as goal

pub statements-loop-rest-preserved : goal.statements-loop-rest-preserved
statements-loop-rest-preserved t c =
    let b = c.args.self.now.bit in
    let is : body_view c.loop-rest.rest.now ≡ next (statement_view c.deref.result.now) (body_view c.deref-rest.result.now) =
    rw (c.deref.ensures, c.deref-rest.ensures) (ap body_view c.in-Next.is) in
    record {
      smaller = first_of (search (rules, body_lemmas), grind (arith, body_lemmas));
      so_far = followed_more _ _ _ _ _ _ c.in_ok-push-in-Next.ensures.items
          (ap (filled_body b) is ∙ ap (λ (s : StatementTree). next s (filled_body b (body_view c.deref-rest.result.now))) (sym c.in_ok-statement-in-Next.ensures))
          c.loop-rest.invariant.so_far;
    }

pub parts_apart-loop-rest-preserved : goal.parts_apart-loop-rest-preserved
parts_apart-loop-rest-preserved t c =
    let b = c.args.self.now.bit in
    let is : parts_view c.loop-rest.rest.now ≡ further c.in-Further.line (view c.in-Further.condition) (body_view c.deref-in-Further.result.now) (parts_view c.deref-rest.result.now) =
    rw (c.deref-in-Further.ensures, c.deref-rest.ensures) (ap parts_view c.in-Further.is) in
    record {
      smaller = first_of (search (rules, body_lemmas), grind (arith, body_lemmas));
      so_far = parts_more _ _ _ _ _ _ c.in_ok-push-in-Further.ensures.items
          (ap (filled_parts b) is ∙ ap (λ (p : PartTree). further_of p (filled_parts b (parts_view c.deref-rest.result.now))) (sym c.in_ok-part-in-Further.ensures))
          c.loop-rest.invariant.so_far;
    }

pub branches_apart-loop-rest-preserved : goal.branches_apart-loop-rest-preserved
branches_apart-loop-rest-preserved t c =
    let b = c.args.self.now.bit in
    let is : branches_view c.loop-rest.rest.now ≡ listed c.in-Listed.states (body_view c.deref-in-Listed.result.now) (branches_view c.deref-rest.result.now) =
    rw (c.deref-in-Listed.ensures, c.deref-rest.ensures) (ap branches_view c.in-Listed.is) in
    let states : c.in_ok-states-in-Listed.states ≡ c.in-Listed.states = search rules in
    record {
      smaller = first_of (search (rules, body_lemmas), grind (arith, body_lemmas));
      so_far = branches_more _ _ _ _ _ _ c.in_ok-push-in-Listed.ensures.items
          (ap (filled_branches b) is
          ∙ ap (λ (ns : List NewName). listed ns (filled_body b (body_view c.deref-in-Listed.result.now)) (filled_branches b (branches_view c.deref-rest.result.now))) (sym states)
          ∙ ap (λ (a : BodyTree). listed c.in_ok-states-in-Listed.states a (filled_branches b (branches_view c.deref-rest.result.now))) (sym c.in_ok-body-in-Listed.ensures))
          c.loop-rest.invariant.so_far;
    }
