use Rattle.std.proofs.lemmas.Result.{IfOk-weaker}
use Rattle.boom_choose.proofs.Seeing.{of_constant, again, last}
use Rattle.boom_choose.proofs.dag.+visit.Goals as goal

pub returns-in_default-branch : goal.returns-in_default-branch
returns-in_default-branch t c =
    of_constant c.args.diagrams.now c.args.at c.args.seen.now.keys c.requires.seen c.in_default-branch.ensures.none

pub returns-then-is_seen : goal.returns-then-is_seen
returns-then-is_seen t c = again c.args.diagrams.now c.args.at c.args.seen.now.keys c.requires.seen (c.is_seen.ensures c.if-is_seen.true)

pub returns : goal.returns
returns t c =
    let b = c.in_Some-branch.branch in
    IfOk-weaker c.note.result _ _ (λ _ n. last c.args.diagrams.now c.args.at b.low b.high b.variable c.args.seen.now.keys c.visit.new.seen.keys c.visit-2.new.seen.keys c.note.new.seen.keys
    c.requires.node c.in_Some-branch.ensures.split c.in_Some-branch.ensures.branch c.in_ok-visit.ensures c.in_ok-visit-2.ensures n) c.note.ensures
