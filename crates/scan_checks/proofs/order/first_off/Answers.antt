use Rattle.std.proofs.Common.{◌∙◌, ℕ, List, sym}
use Rattle.vlsi_base.specs.Member.{In}
use Rattle.loon_wiring.proofs.Cells.{first_met, none_met}
use Rattle.scan_checks.proofs.Firsts.{none_more, found_in, none_in, surely_in}
use Rattle.scan_checks.proofs.order.first_off.Goals as goal

pub returns-in-None-clause-found : goal.returns-in-None-clause-found
returns-in-None-clause-found c =
    first_met (λ (t : List ℕ). In t c.args.roll.now → ⊥) c.args.texts.now c.loop-text.text-index c.text-item.result c.loop-text-test.true c.text-item.is
    (none_in c.args.roll.now c.text-item.result (sym c.place.ensures ∙ c.in-None.is)) c.loop-text.invariant

pub loop-text-preserved : goal.loop-text-preserved
loop-text-preserved c =
    none_more (λ (t : List ℕ). In t c.args.roll.now → ⊥) c.args.texts.now c.loop-text.text-index c.text-item.result c.loop-text-test.true c.text-item.is
    (λ off. off (found_in c.args.roll.now c.text-item.result _ (sym c.place.ensures ∙ c.in-Some.is))) c.loop-text.invariant

pub returns-clause-none : goal.returns-clause-none
returns-clause-none c = λ is text h.
    surely_in c.args.roll.now text (none_met (λ (t : List ℕ). In t c.args.roll.now → ⊥) c.args.texts.now c.loop-text.text-index c.loop-text-test.false c.loop-text.invariant text h)
