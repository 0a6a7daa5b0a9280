use Rattle.std.proofs.Common.{get_or, rules}
use Rattle.std.proofs.lemmas.Bool.{eqb-true, eq-eqb, false≢true}
use Rattle.druc_rules.proofs.Excused.{tied_so, number_so, tied_owned}
use Rattle.druc_rules.proofs.excuses.are_tied.Goals as goal

pub returns-then-are_drawn : goal.returns-then-are_drawn
returns-then-are_drawn c = (
  λ h. absurd (false≢true h),
  λ t. absurd
      (tied_owned c.args.layout.now.shapes.now c.args.first c.args.second c.index-layout-first.result c.index-layout-second.result c.requires.first c.requires.second
      t (c.are_drawn.ensures.0 (search (rules, c.if-are_drawn.true)))),
)

pub returns : goal.returns
returns c =
    let all = c.args.layout.now.shapes.now in
    let numbers = c.args.layout.now.numbers.now in (
      λ h. tied_so all c.args.first c.args.second c.index-layout-first.result c.index-layout-second.result c.requires.first c.requires.second
          numbers c.requires.known.joined (λ n. absurd (search (rules, c.if-are_drawn.false, c.are_drawn.ensures.1 n)))
          (eqb-true (get_or numbers c.args.first 0) (get_or numbers c.args.second 0) h),
      λ t. eq-eqb (get_or numbers c.args.first 0) (get_or numbers c.args.second 0)
          (number_so all c.args.first c.args.second c.index-layout-first.result c.index-layout-second.result c.requires.first c.requires.second
          numbers c.requires.known.joined t),
    )
