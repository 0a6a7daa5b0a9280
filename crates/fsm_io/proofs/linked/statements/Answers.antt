use Rattle.std.proofs.Common.{rules, arith, ◌≡◌, ◌<◌, ◌++◌, ◌∙◌, List, [], ◌∷◌, map, ap, sym, subst, Bor}
use Rattle.std.proofs.lemmas.List.{map_push}
use Rattle.fsm_text.specs.declared.file.Statement.{Statement, size-Statement}
use Rattle.fsm_text.specs.declared.file.Body.{size-Body, the_lemmas}
use Rattle.fsm_text.specs.Written.{StatementTree, statement_view, body_view, next, followed}
use Rattle.fsm_io.specs.Linked.{AreSmaller}
use Rattle.fsm_io.proofs.Linking.{followed-push, smaller_push}
use Rattle.fsm_io.proofs.linked.statements.Goals as goal

-- one statement more is put behind those that were met
pub loop-rest-preserved : goal.loop-rest-preserved
loop-rest-preserved c =
    let here : Bor Statement → Statement = λ s. s.now in
    let tree : Bor Statement → StatementTree = λ s. statement_view s.now in
    let xs = c.loop-rest.list.items in
    let x = c.deref.result in
    let more = c.deref-rest.result.now in
    let is : body_view c.loop-rest.rest.now ≡ next (statement_view x.now) (body_view more) = rw (c.deref.ensures, c.deref-rest.ensures) (ap body_view c.in-Next.is) in
    let pushed : c.push.new.self.items ≡ xs ++ x ∷ [] = c.in_ok-push-in-Next.ensures.items in
    let small : size-Statement x.now < size-Body c.args.body.now = first_of (search (rules, the_lemmas), grind (arith, the_lemmas)) in
    record {
      less = first_of (search (rules, the_lemmas), grind (arith, the_lemmas));
      whole =
          ap (λ (l : List (Bor Statement)). followed (map tree l) (body_view more)) pushed
          ∙ ap (λ (l : List StatementTree). followed l (body_view more)) (map_push tree xs x)
          ∙ followed-push (map tree xs) (tree x) (body_view more)
          ∙ ap (followed (map tree xs)) (sym is)
          ∙ c.loop-rest.invariant.whole;
      smaller = subst (λ (l : List Statement). AreSmaller c.args.body.now l) (sym (ap (map here) pushed ∙ map_push here xs x)) (smaller_push c.args.body.now (map here xs) (here x) c.loop-rest.invariant.smaller small);
    }
