use Rattle.std.proofs.Common.{◌++◌, List, Bool, sym, ap, subst, ◌∙◌}
use Rattle.fsm_io.specs.Pieces.{AreMarked, mark_each}
use Rattle.source_checks.specs.Drivers.{target_names}
use Rattle.fsm_io.proofs.Marks.{marked_more}
use Rattle.fsm_io.proofs.drivers.mark_target.Goals as goal

pub returns : goal.returns
returns c = λ names m.
    let known = c.args.numbers.now in
    subst (λ (marks : List Bool). AreMarked known (names ++ target_names known c.args.target.now) marks)
    (sym (c.mark_all.ensures ∙ ap (mark_each c.args.marks.now.items) (c.deref.ensures.value ∙ c.in_ok-places.ensures)))
    (marked_more known names c.args.marks.now.items (target_names known c.args.target.now) m)
