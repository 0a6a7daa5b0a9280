use Rattle.std.proofs.Common.{◌∙◌, rules}
use Rattle.real_table.proofs.Entries.{metal_entry, space_entry, label_entry}
use Rattle.real_table.proofs.lines.read_name.Goals as goal

pub returns-in-Some-clause-some : goal.returns-in-Some-clause-some
returns-in-Some-clause-some c = metal_entry c.args.line.now c.in-Some.metal c.in_ok-real.real _ (c.in_ok-real.ensures ∙ c.field.ensures) c.in-Some.ensures.some

pub returns-in-Some-space_gap-clause-some : goal.returns-in-Some-space_gap-clause-some
returns-in-Some-space_gap-clause-some c =
    space_entry c.args.line.now c.in-Some-space_gap.gap c.in_ok-real-2.real _ (c.in_ok-real-2.ensures ∙ c.field-in-Some-space_gap.ensures) c.in-Some-space_gap.ensures.some

pub returns-clause-some : goal.returns-clause-some
returns-clause-some c =
    label_entry c.args.line.now c.in_ok-layer.layer c.in_ok-real-3.real _ _ (c.in_ok-layer.ensures ∙ c.field-2.ensures) (c.in_ok-real-3.ensures ∙ c.field-3.ensures)
    (c.is_label.ensures.0 (search (rules, c.if-not-is_label.false)))
