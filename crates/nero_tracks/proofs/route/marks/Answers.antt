use Rattle.std.proofs.Common.{ℕ, List, take, get_or, true, sym, subst}
use Rattle.std.specs.Prelude.{slice_set}
use Rattle.std.proofs.lemmas.List.{take_more}
use Rattle.nero_tracks.specs.Tracks.{AreMarks}
use Rattle.nero_tracks.proofs.Marked.{marks_step}
use Rattle.nero_tracks.proofs.route.marks.Goals as goal

pub loop-class-preserved : goal.loop-class-preserved
loop-class-preserved c =
    let classes = c.args.classes.now in let k = c.loop-class.class-index in
    subst (λ (cs : List ℕ). AreMarks cs c.args.count (slice_set c.loop-class.marks.items (get_or classes k 0) true)) (sym (take_more classes k 0 c.loop-class-test.true))
    (marks_step (take k classes) (get_or classes k 0) c.args.count c.loop-class.marks.items c.loop-class.invariant (c.requires k 0 c.loop-class-test.true))
