use Rattle.std.proofs.Common.{map, ap, ◌∙◌}
use Rattle.std.specs.Option.{option_copied}
use Rattle.source_bits.specs.Driven.{stored_view}
use Rattle.source_bits.proofs.DrivenBits.{no_storage}
use Rattle.source_bits.proofs.driven.stored_bits.Goals as goal

pub returns-in-None : goal.returns-in-None
returns-in-None c =
    ap (map stored_view) c.new.ensures.items ∙ no_storage c.args.numbers.now (option_copied c.args.clock) c.args.statements.now (ap (λ o. option_copied o) c.in-None.is)
