use Rattle.std.proofs.Common.{ap, ◌∙◌, cond, true}
use Rattle.source_checks.specs.Marks.{has, is_key}
use Rattle.source_checks.proofs.Marking.{is_eq-key_cmp, either_way}
use Rattle.source_checks.proofs.marks.mark.Goals as goal

pub returns : goal.returns
returns c = λ q.
    c.in_ok-insert.ensures.updates.0 q ∙ ap (λ b. cond b true (has c.args.marks.now q)) (is_eq-key_cmp (c.args.place, c.args.code) q) ∙ either_way (is_key (c.args.place, c.args.code) q) (has c.args.marks.now q)
