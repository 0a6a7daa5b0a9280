use Rattle.std.proofs.Common.{◌≡◌, ℕ, ◌<◌, sym, subst, arith}
use Rattle.truth_tab.specs.Table.{row_bit}
use Rattle.truth_tab.proofs.Patterns.{Agrees, pattern_0, pattern_1, pattern_2, pattern_3, pattern_4, pattern_5}
use Rattle.truth_tab.proofs.rows.pattern.Goals as goal

pub returns-in-0 : goal.returns-in-0
returns-in-0 c = subst (Agrees 12297829382473034410) (sym c.in-0.is) pattern_0

pub returns-in-1 : goal.returns-in-1
returns-in-1 c = subst (Agrees 14757395258967641292) (sym c.in-1.is) pattern_1

pub returns-in-2 : goal.returns-in-2
returns-in-2 c = subst (Agrees 17361641481138401520) (sym c.in-2.is) pattern_2

pub returns-in-3 : goal.returns-in-3
returns-in-3 c = subst (Agrees 18374966859414961920) (sym c.in-3.is) pattern_3

pub returns-in-4 : goal.returns-in-4
returns-in-4 c = subst (Agrees 18446462603027742720) (sym c.in-4.is) pattern_4

pub returns-in_default : goal.returns-in_default
returns-in_default c =
    let last : 5 ≡ c.args.variable = let others = c.in_default in let low = c.requires in omega (arith, others, low) in
    subst (Agrees 18446744069414584320) last pattern_5
