use Rattle.std.proofs.Common.{rules, ◌≡◌, ◌++◌, ◌∙◌, [], ◌∷◌, true, false, map, Ok}
use Rattle.std.proofs.lemmas.Result.{err_from_is_err_and}
use Rattle.std.proofs.lemmas.List.{map_push}
use Rattle.grammar_theory.specs.declared.form.Form.TheVariants as form
use Rattle.grammar_theory.specs.Tokens.{code, is_at, among}
use Rattle.grammar_theory.specs.Outcome.{Fails, list_at}
use Rattle.grammar_theory.proofs.Bundle.{among_one}
use Rattle.grammar_theory.proofs.Listing.{list_begins, list_goes_on, list_fails, list_ends}
use Rattle.vbe_text.specs.Source.{assignment_view}
use Rattle.vbe_text.specs.VbeReading.{guarded_assignment_at, guarded_list_at}
use Rattle.vbe_text.proofs.VbeLanguage.{guarded_assignment_consumes}
use Rattle.vbe_text.proofs.statement.guarded_list.Goals as goal

pub loop-cursor-init : goal.loop-cursor-init
unfolding guarded_list_at
loop-cursor-init c =
    let e : map assignment_view c.new-assignments.result.items ≡ [] = search rules in
    rw e (list_begins (code form.Identifier ∷ []) (guarded_assignment_at c.args.room) c.args.cursor.now)

pub returns-in_err-next : goal.returns-in_err-next
unfolding guarded_list_at
returns-in_err-next c =
    let p = err_from_is_err_and c.from_residual.result c.from_residual.ensures.1 in
    let here = c.loop-cursor.cursor in
    let at : is_at form.Identifier c.loop-cursor.cursor.rest ≡ true = search rules in
    let any : among (code form.Identifier ∷ []) c.loop-cursor.cursor.rest ≡ true = among_one form.Identifier c.loop-cursor.cursor.rest ∙ at in
    let read : Fails c.in_err-next.field-0.0 (guarded_assignment_at c.args.room here) = search rules in
    rw (p.1, p.2) (list_fails (code form.Identifier ∷ []) (guarded_assignment_at c.args.room) (map assignment_view c.loop-cursor.assignments.items) here
    (list_at (code form.Identifier ∷ []) (guarded_assignment_at c.args.room) c.args.cursor.now) c.loop-cursor.invariant any c.in_err-next.field-0.0 read)

pub loop-cursor-preserved : goal.loop-cursor-preserved
unfolding guarded_list_at
loop-cursor-preserved c =
    let at : is_at form.Identifier c.loop-cursor.cursor.rest ≡ true = search rules in
    let here = c.loop-cursor.cursor in
    let there = c.guarded_assignment.new.cursor in
    let read : guarded_assignment_at c.args.room here ≡ Ok (assignment_view c.in_ok-next.next, there) = search rules in
    let any : among (code form.Identifier ∷ []) c.loop-cursor.cursor.rest ≡ true = among_one form.Identifier c.loop-cursor.cursor.rest ∙ at in
    let e : map assignment_view c.push.new.self.items ≡ map assignment_view c.loop-cursor.assignments.items ++ assignment_view c.in_ok-next.next ∷ [] = rw c.in_ok-push.ensures.items (map_push assignment_view c.loop-cursor.assignments.items c.in_ok-next.next) in
    rw e (list_goes_on (code form.Identifier ∷ []) (guarded_assignment_at c.args.room) (map assignment_view c.loop-cursor.assignments.items) here
    (list_at (code form.Identifier ∷ []) (guarded_assignment_at c.args.room) c.args.cursor.now) c.loop-cursor.invariant any (assignment_view c.in_ok-next.next) there read (guarded_assignment_consumes c.args.room here there (assignment_view c.in_ok-next.next) read))

pub loop-cursor-smaller : goal.loop-cursor-smaller
loop-cursor-smaller c =
    let at : is_at form.Identifier c.loop-cursor.cursor.rest ≡ true = search rules in
    let here = c.loop-cursor.cursor in
    let there = c.guarded_assignment.new.cursor in
    let read : guarded_assignment_at c.args.room here ≡ Ok (assignment_view c.in_ok-next.next, there) = search rules in
    guarded_assignment_consumes c.args.room here there (assignment_view c.in_ok-next.next) read

pub returns : goal.returns
unfolding guarded_list_at
returns c =
    let at : is_at form.Identifier c.loop-cursor.cursor.rest ≡ false = search rules in
    list_ends (code form.Identifier ∷ []) (guarded_assignment_at c.args.room) (map assignment_view c.loop-cursor.assignments.items) c.loop-cursor.cursor
    (list_at (code form.Identifier ∷ []) (guarded_assignment_at c.args.room) c.args.cursor.now) c.loop-cursor.invariant (among_one form.Identifier c.loop-cursor.cursor.rest ∙ at)
