use Rattle.std.proofs.Common.{◌≡◌, ◌-◌, List, Some, length, ap, sym, ◌∙◌, subst}
use Rattle.std.specs.Prelude.{slice_get}
use Rattle.std.specs.Option.{option_copied}
use Rattle.nero_maze.specs.Routing.{tree_of}
use Rattle.maze_rips.specs.declared.rip.PointRip.{PointRip}
use Rattle.maze_rips.specs.Run.{last_stuck}
use Rattle.maze_rips.specs.Progress.{problem_of}
use Rattle.maze_rips.proofs.Known.{last_some}
use Rattle.maze_rips.proofs.Finishing.{last_known, last_turn, served_by}
use Rattle.maze_rips.proofs.work.finish_last.Goals as goal

pub finish-requires-clause-net : goal.finish-requires-clause-net
finish-requires-clause-net c =
    let w = c.args.work.now in
    let r = c.in-Some.rip.now in
    let at = sym c.last.ensures.value ∙ ap option_copied c.in-Some.is in
    let read = subst (λ (xs : List PointRip). slice_get xs (length xs - 1) ≡ Some r) c.deref.ensures.value at in
    let e = last_some w.rips.items r read in
    last_known c.args.task.now w r.net c.requires.under_way e

pub finish-requires-clause-under_way : goal.finish-requires-clause-under_way
finish-requires-clause-under_way c =
    let w = c.args.work.now in
    let r = c.in-Some.rip.now in
    let at = sym c.last.ensures.value ∙ ap option_copied c.in-Some.is in
    let read = subst (λ (xs : List PointRip). slice_get xs (length xs - 1) ≡ Some r) c.deref.ensures.value at in
    let e = last_some w.rips.items r read in
    last_turn c.args.task.now w r.net c.requires.under_way e

pub returns-in-None-clause-served : goal.returns-in-None-clause-served
returns-in-None-clause-served c =
    let w = c.args.work.now in
    let r = c.in-Some.rip.now in
    let at = sym c.last.ensures.value ∙ ap option_copied c.in-Some.is in
    let read = subst (λ (xs : List PointRip). slice_get xs (length xs - 1) ≡ Some r) c.deref.ensures.value at in
    let e = last_some w.rips.items r read in
    let new = c.finish.new.work in
    served_by (problem_of c.args.task.now) (tree_of new.router) (last_stuck new.rips.items) r.net (ap last_stuck c.in_ok-point.ensures.rips ∙ e) (let h = c.in_ok-point.ensures.whole in rw c.in-None.is at h)
