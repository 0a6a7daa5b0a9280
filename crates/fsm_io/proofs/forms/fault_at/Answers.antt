use Rattle.std.proofs.Common.{sym, ap, ◌∙◌}
use Rattle.source_checks.specs.Lines.{first_line}
use Rattle.fsm_io.specs.declared.mentions.Mention.{Mention as Held}
use Rattle.fsm_io.specs.Unsupported.{forms_at}
use Rattle.fsm_io.specs.Pieces.{mention_of, named_of}
use Rattle.fsm_io.proofs.forms.fault_at.Goals as goal

pub returns-in-Condition : goal.returns-in-Condition
returns-in-Condition c =
    c.read_fault-in-Condition.ensures ∙ ap (λ (x : Held). first_line (forms_at c.args.table.now (named_of c.args.roles) (mention_of x))) (sym c.in-Condition.is)
