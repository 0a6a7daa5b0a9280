use Rattle.std.proofs.Common.{◌≡◌, ◌++◌, ◌∙◌, List, [], ◌∷◌, map, ap, sym}
use Rattle.std.proofs.lemmas.List.{map_push}
use Rattle.fsm_text.specs.Written.{body_view, branches_view, branched, listed}
use Rattle.fsm_free.specs.Pieces.{branch_view}
use Rattle.fsm_text.proofs.Linking.{branched-push}
use Rattle.fsm_free.proofs.pieces.linked_branches.Goals as goal

-- the last piece moves from the list to the front of what is linked
pub loop-branch-preserved : goal.loop-branch-preserved
loop-branch-preserved c =
    let popped : c.loop-branch.left.items ≡ c.pop.new.self.items ++ c.in-Some.branch ∷ [] = c.in-Some.ensures.items in
    let pieces : map branch_view c.loop-branch.left.items ≡ map branch_view c.pop.new.self.items ++ branch_view c.in-Some.branch ∷ [] = ap (map branch_view) popped ∙ map_push branch_view c.pop.new.self.items c.in-Some.branch in
    let so_far : branched (map branch_view c.pop.new.self.items) (listed c.in-Some.branch.states (body_view c.in-Some.branch.body) (branches_view c.loop-branch.linked)) ≡ branched (map branch_view c.args.branches.items) (branches_view c.args.last) =
    sym (branched-push (map branch_view c.pop.new.self.items) (branch_view c.in-Some.branch) (branches_view c.loop-branch.linked))
    ∙ ap (λ ps. branched ps (branches_view c.loop-branch.linked)) (sym pieces) ∙ c.loop-branch.invariant in
    rw c.in_ok-linked.ensures so_far
