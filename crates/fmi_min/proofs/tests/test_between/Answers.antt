use Rattle.std.proofs.Common.{ℕ, List, sym, subst}
use Rattle.fmi_min.specs.Tests.{TellsApart}
use Rattle.fmi_min.proofs.tests.test_between.Goals as goal

pub returns : goal.returns
returns c =
    subst (λ (test : List ℕ). TellsApart c.args.by.now.rows.now c.args.by.now.levels.now c.args.pair.0 c.args.pair.1 test) (sym c.new.ensures)
    (record { tells = c.in_ok-numbers.ensures.tells; few = c.in_ok-numbers.ensures.few })
