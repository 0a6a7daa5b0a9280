use Rattle.std.proofs.Common.{◌∙◌, ap, length, ◌+◌}
use Rattle.ap_io.proofs.Cutting.{count_fields}
use Rattle.ap_io.proofs.fields.Fields.count.Goals as goal

pub returns : goal.returns
returns c = ap (λ n. 1 + n) c.commas.ensures.count ∙ count_fields c.self.inside.text.now ∙ ap length c.self.view_is
