use Rattle.std.proofs.Common.{Bor, Option, sym, subst, arith}
use Rattle.std.specs.Prelude.{IfNone}
use Rattle.vlsi_base.specs.declared.name.Name.{Name}
use Rattle.machine_core.specs.Machine.{Machine}
use Rattle.proof_joint.specs.Naming.{AgreeByName, HaveSameNames}
use Rattle.proof_joint.specs.Clock.{as_compared}
use Rattle.proof_joint.proofs.Comparable.{fewer, names_agree}
use Rattle.proof_cmp.proofs.proving.prove.Goals as goal

pub as_compared-requires : goal.as_compared-requires
as_compared-requires c =
    let more = fewer c.args.a.now c.name.ensures.checked in
    let few = c.requires.first in
    omega (arith, more, few)

pub as_compared-requires-2 : goal.as_compared-requires-2
as_compared-requires-2 c =
    let more = fewer c.args.b.now c.name-2.ensures.checked in
    let few = c.requires.second in
    omega (arith, more, few)

pub compare-requires-clause-names : goal.compare-requires-clause-names
compare-requires-clause-names c =
    let a = c.args.a.now in
    let b = c.args.b.now in
    let agree : AgreeByName a b = subst (λ (o : Option (Bor Name)). IfNone o (AgreeByName a b)) c.in_default.is c.in_ok-name.ensures.none in
    subst (λ (m : Machine). HaveSameNames c.made_or_given.result.now m) (sym c.made_or_given-2.ensures)
    (subst (λ (m : Machine). HaveSameNames m (as_compared b)) (sym c.made_or_given.ensures) (names_agree a b agree))
