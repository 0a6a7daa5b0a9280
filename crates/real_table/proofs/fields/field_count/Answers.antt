use Rattle.std.proofs.Common.{◌+◌, ◌∙◌, ap}
use Rattle.real_table.proofs.Cutting.{count_fields}
use Rattle.real_table.proofs.fields.field_count.Goals as goal

pub returns : goal.returns
returns c = ap (λ n. 1 + n) c.blanks.ensures.count ∙ count_fields c.args.line.now
