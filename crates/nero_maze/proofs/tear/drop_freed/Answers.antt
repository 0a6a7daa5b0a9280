use Rattle.std.proofs.Common.{ℕ, ◌≡◌, arith, refl, subst, ◌∙◌}
use Rattle.nero_maze.specs.declared.frontier.Marked.{Marked}
use Rattle.nero_maze.specs.Ripping.{is_linked}
use Rattle.nero_maze.proofs.Shortening.{Sifts, sifts_begin, sifts_on, sifts_end}
use Rattle.nero_maze.proofs.tear.drop_freed.Goals as goal

pub loop-at-init : goal.loop-at-init
loop-at-init c = record { sifts = sifts_begin (is_linked c.args.room.now) c.args.log.now c.requires.kept; held = refl }

pub loop-at-preserved : goal.loop-at-preserved
loop-at-preserved c =
    let inv = c.loop-at.invariant in
    record {
      sifts = sifts_on (is_linked c.args.room.now) c.args.log.now c.loop-at.log c.sift-count.new.log c.loop-at.at c.loop-at.count c.sift-count.result c.requires.kept
          c.loop-at-test.true inv.sifts c.sift-count.ensures;
      held = c.sift-count.ensures.held ∙ inv.held;
    }

pub returns : goal.returns
returns c =
    let log = c.loop-at.log in
    let after : Marked = record { order = log.order; marks = log.marks; count = c.loop-at.count } in
    let all : c.loop-at.at ≡ c.args.log.now.count = (let a = c.loop-at-test.false in let d = c.loop-at.auto.at-end in omega arith) in
    sifts_end (is_linked c.args.room.now) c.args.log.now log c.loop-at.count c.requires.kept
    (subst (λ (n : ℕ). Sifts (is_linked c.args.room.now) c.args.log.now log n c.loop-at.count) all c.loop-at.invariant.sifts) after refl refl refl
