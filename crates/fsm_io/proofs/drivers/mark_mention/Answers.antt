use Rattle.std.proofs.Common.{List, ◌++◌, sym, ap, subst}
use Rattle.std.specs.Prelude.{OnOk}
use Rattle.vlsi_base.specs.declared.name.Name.{Name}
use Rattle.fsm_io.specs.declared.mentions.Mention.{Mention as Held}
use Rattle.fsm_io.specs.Drivers.{names_at}
use Rattle.fsm_io.specs.Pieces.{AreMarked, mention_of}
use Rattle.fsm_io.proofs.drivers.mark_mention.Goals as goal

pub returns-in-Assignment : goal.returns-in-Assignment
returns-in-Assignment c =
    let known = c.args.numbers.now in
    subst (λ (ks : List Name). OnOk c.mark_target.result ((names : List Name) → AreMarked known names c.args.marks.now.items → AreMarked known (names ++ ks) c.mark_target.new.marks.items))
    (ap (λ (x : Held). names_at known (mention_of x)) (sym c.in-Assignment.is)) c.mark_target.ensures
