use Rattle.std.proofs.Common.{◌≡◌, ◌++◌, ◌∙◌, [], ◌∷◌, ap, sym}
use Rattle.fsm_code.specs.View.{parts_view}
use Rattle.fsm_io.specs.Linked.{parts_before}
use Rattle.fsm_io.proofs.Linking.{parts-push}
use Rattle.fsm_io.proofs.linked.with_parts.Goals as goal

-- the last piece moves from the list to the front of what is linked
pub loop-part-preserved : goal.loop-part-preserved
loop-part-preserved c =
    let popped : c.loop-part.left.items ≡ c.pop.new.self.items ++ c.in-Some.part ∷ [] = c.in-Some.ensures.items in
    rw c.in_ok-linked.ensures (sym (parts-push c.pop.new.self.items c.in-Some.part (parts_view c.loop-part.linked))
    ∙ ap (λ ps. parts_before ps (parts_view c.loop-part.linked)) (sym popped) ∙ c.loop-part.invariant)
