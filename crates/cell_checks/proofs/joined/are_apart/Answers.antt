use Rattle.std.proofs.Common.{rules, arith}
use Rattle.cell_model.proofs.KindLemmas.{told, denied}
use Rattle.cell_checks.specs.Shapes.{AreApart}
use Rattle.cell_checks.proofs.Loops.{pairs_before, one_more_pair}
use Rattle.cell_checks.proofs.joined.are_apart.Goals as goal

pub returns-then-not-is_apart_from : goal.returns-then-not-is_apart_from
returns-then-not-is_apart_from c = (
  λ h. absurd (search (rules, h)),
  λ all. absurd (denied c.is_apart_from.result c.is_apart_from.ensures (search rules)
      (pairs_before (AreApart c.args.shapes.now) c.args.names.now c.loop-i.i c.index-names-i.result (omega arith) c.index-names-i.is all)),
)

pub loop-i-preserved : goal.loop-i-preserved
loop-i-preserved c =
    one_more_pair (AreApart c.args.shapes.now) c.args.names.now c.loop-i.i c.index-names-i.result c.loop-i.invariant (omega arith) c.index-names-i.is
    (told c.is_apart_from.result c.is_apart_from.ensures (search rules))
