use Rattle.std.proofs.Common.{rules, ◌≡◌, Some, None, IfOk, sym, subst}
use Rattle.tool_words.specs.View.{texts_view, entry_view}
use Rattle.tool_words.proofs.Readings.{spells, misspells}
use Rattle.tool_words.proofs.command.read_asked.Goals as goal

pub returns-in_err-values-clause-usage : goal.returns-in_err-values-clause-usage
returns-in_err-values-clause-usage g c usage =
    misspells (entry_view c.args.entry) g.C.FromValues.asked c.args.words.now (texts_view c.as_slice.result.now) (search rules) (c.in_err-values.ensures.usage (search rules))

pub returns-clause-ok : goal.returns-clause-ok
returns-clause-ok g c =
    subst (λ o. IfOk c.from_values.result (λ k. o ≡ Some k))
    (sym
    (spells (entry_view c.args.entry) g.C.FromValues.asked c.args.words.now (texts_view c.as_slice.result.now) c.in_ok-values.values (search rules) c.in_ok-texts.ensures.utf8
    c.in_ok-values.ensures.fine c.in_ok-values.ensures.ok))
    c.from_values.ensures.ok

pub returns-clause-usage : goal.returns-clause-usage
returns-clause-usage g c usage =
    subst (λ o. o ≡ None)
    (sym
    (spells (entry_view c.args.entry) g.C.FromValues.asked c.args.words.now (texts_view c.as_slice.result.now) c.in_ok-values.values (search rules) c.in_ok-texts.ensures.utf8
    c.in_ok-values.ensures.fine c.in_ok-values.ensures.ok))
    (c.from_values.ensures.usage usage)
