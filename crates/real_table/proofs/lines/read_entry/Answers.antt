use Rattle.std.proofs.Common.{Option, refl, rules, sym, subst, IsNone}
use Rattle.real_table.specs.declared.table.Rule.{Rule}
use Rattle.real_table.specs.declared.table.Entry.{Entry}
use Rattle.real_table.specs.Lines.{gds, remark}
use Rattle.real_table.proofs.Entries.{no_entry}
use Rattle.real_table.proofs.lines.read_entry.Goals as goal

pub returns-then-is_gds-clause-some : goal.returns-then-is_gds-clause-some
returns-then-is_gds-clause-some c = gds (c.is_gds.ensures.0 (search (rules, c.if-is_gds.true)))

pub returns-then-is_remark-clause-some : goal.returns-then-is_remark-clause-some
returns-then-is_remark-clause-some c = remark (c.is_remark.ensures.0 (search (rules, c.if-is_remark.true)))

pub returns-clause-none : goal.returns-clause-none
returns-clause-none c = λ e entry h.
    let no_rule : IsNone c.in_ok-rule.field-0 = subst (λ (o : Option Rule). IsNone o) (sym c.in_default.is) refl in
    let no_name : IsNone c.in_ok-entry.field-0 = subst (λ (o : Option Entry). IsNone o) (sym c.in_default-2.is) refl in
    no_entry c.args.line.now (c.in_ok-rule.ensures.no_segment no_rule) (c.in_ok-rule.ensures.no_contact no_rule) (c.in_ok-entry.ensures.no_metal no_name)
    (c.in_ok-entry.ensures.no_space no_name) (c.in_ok-entry.ensures.no_label no_name)
    (λ k. absurd (search (rules, c.if-is_gds.false, c.is_gds.ensures.1 k)))
    (λ k. absurd (search (rules, c.if-is_remark.false, c.is_remark.ensures.1 k)))
    entry h
