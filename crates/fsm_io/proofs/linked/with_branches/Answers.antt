use Rattle.std.proofs.Common.{◌≡◌, ◌++◌, ◌∙◌, [], ◌∷◌, ap, sym}
use Rattle.fsm_code.specs.View.{branches_view}
use Rattle.fsm_io.specs.Linked.{branches_before}
use Rattle.fsm_io.proofs.Linking.{branches-push}
use Rattle.fsm_io.proofs.linked.with_branches.Goals as goal

-- the last piece moves from the list to the front of what is linked
pub loop-branch-preserved : goal.loop-branch-preserved
loop-branch-preserved c =
    let popped : c.loop-branch.left.items ≡ c.pop.new.self.items ++ c.in-Some.branch ∷ [] = c.in-Some.ensures.items in
    rw c.in_ok-linked.ensures (sym (branches-push c.pop.new.self.items c.in-Some.branch (branches_view c.loop-branch.linked))
    ∙ ap (λ ps. branches_before ps (branches_view c.loop-branch.linked)) (sym popped) ∙ c.loop-branch.invariant)
