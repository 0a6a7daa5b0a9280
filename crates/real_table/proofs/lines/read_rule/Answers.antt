use Rattle.real_table.proofs.Entries.{segment_entry, contact_entry}
use Rattle.real_table.proofs.lines.read_rule.Goals as goal

pub returns-in-Some-clause-some : goal.returns-in-Some-clause-some
returns-in-Some-clause-some c = segment_entry c.args.line.now c.in_ok-rule.field-0 c.in-Some.rule c.in-Some.is c.in_ok-rule.ensures.some

pub returns-clause-some : goal.returns-clause-some
returns-clause-some c = contact_entry c.args.line.now c.contact_rule.result c.contact_rule.ensures.some
