use Rattle.std.proofs.Common.{◌≡◌, ◌++◌, ◌∙◌, List, [], ◌∷◌, map, ap, sym}
use Rattle.std.proofs.lemmas.List.{map_push}
use Rattle.fsm_text.specs.Written.{statement_view, body_view, next, followed, body_of}
use Rattle.fsm_text.proofs.Linking.{followed-push}
use Rattle.fsm_free.proofs.pieces.linked_body.Goals as goal

-- the last piece moves from the list to the front of what is linked
pub loop-last-preserved : goal.loop-last-preserved
loop-last-preserved c =
    let popped : c.loop-last.left.items ≡ c.pop.new.self.items ++ c.in-Some.last ∷ [] = c.in-Some.ensures.items in
    let pieces : map statement_view c.loop-last.left.items ≡ map statement_view c.pop.new.self.items ++ statement_view c.in-Some.last ∷ [] = ap (map statement_view) popped ∙ map_push statement_view c.pop.new.self.items c.in-Some.last in
    let so_far : followed (map statement_view c.pop.new.self.items) (next (statement_view c.in-Some.last) (body_view c.loop-last.body)) ≡ body_of (map statement_view c.args.statements.items) =
    sym (followed-push (map statement_view c.pop.new.self.items) (statement_view c.in-Some.last) (body_view c.loop-last.body))
    ∙ ap (λ ps. followed ps (body_view c.loop-last.body)) (sym pieces) ∙ c.loop-last.invariant in
    rw c.in_ok-body.ensures so_far
