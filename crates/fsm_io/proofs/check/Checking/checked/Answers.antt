use Rattle.std.proofs.Common.{sym, ◌∙◌}
use Rattle.fsm_io.specs.Pieces.{tree_of, roles_of}
use Rattle.fsm_io.proofs.Whole.{refused_early}
use Rattle.fsm_io.proofs.check.Checking.checked.Goals as goal

pub returns-in-Some-clause-refused : goal.returns-in-Some-clause-refused
returns-in-Some-clause-refused c =
    refused_early (tree_of c.args.self.now) (roles_of c.args.self.now) c.in-Some.e (sym c.in-Some.is ∙ c.in_ok-found.ensures)
