use Rattle.std.proofs.Common.{Bool, Option, IfSome, sym, subst}
use Rattle.bdd_core.specs.declared.operators.Operator.{Operator}
use Rattle.bdd_core.specs.declared.operators.Operator.TheVariants.{Pair}
use Rattle.bdd_core.specs.Decided.{IsDecided}
use Rattle.bdd_core.proofs.Deciding.{by_first, by_second}
use Rattle.bdd_core.proofs.operators.decide.Goals as goal

pub returns-in-Pair-Some-default-default : goal.returns-in-Pair-Some-default-default
returns-in-Pair-Some-default-default c =
    let g = c.in-Pair-Some-default-default.gate in
    let bit = c.in-Pair-Some-default-default.bit in
    let r = c.decided_by.result in
    subst (λ (o : Operator). IfSome r (IsDecided o c.args.x c.args.y c.args.z)) (sym c.in-Pair-Some-default-default.is-0)
    (subst (λ (x : Option Bool). IfSome r (IsDecided (Pair g) x c.args.y c.args.z)) (sym c.in-Pair-Some-default-default.is-1)
    (by_first g bit c.args.y c.args.z r c.decided_by.ensures))

pub returns-in-Pair-None-Some-default : goal.returns-in-Pair-None-Some-default
returns-in-Pair-None-Some-default c =
    let g = c.in-Pair-None-Some-default.gate in
    let bit = c.in-Pair-None-Some-default.bit in
    let r = c.decided_by-in-Pair-None-Some-default.result in
    subst (λ (o : Operator). IfSome r (IsDecided o c.args.x c.args.y c.args.z)) (sym c.in-Pair-None-Some-default.is-0)
    (subst (λ (y : Option Bool). IfSome r (IsDecided (Pair g) c.args.x y c.args.z)) (sym c.in-Pair-None-Some-default.is-2)
    (by_second g bit c.args.x c.args.z r c.decided_by-in-Pair-None-Some-default.ensures))
