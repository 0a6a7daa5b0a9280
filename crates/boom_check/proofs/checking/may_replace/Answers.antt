use Rattle.std.proofs.Common.{arith}
use Rattle.boom_check.proofs.Accepting.{same_names, few_names, acceptable, where_equal}
use Rattle.boom_check.proofs.checking.may_replace.Goals as goal

pub have_same_roots-requires-clause-names : goal.have_same_roots-requires-clause-names
have_same_roots-requires-clause-names c = same_names c.args.m.now c.args.o.now c.requires.assembled

pub have_same_roots-requires-clause-second : goal.have_same_roots-requires-clause-second
have_same_roots-requires-clause-second c =
    let long = few_names c.args.m.now c.args.o.now c.name.ensures.checked c.requires.assembled in
    let few = c.requires.few in
    omega (arith, long, few)

pub returns : goal.returns
returns c =
    let few = c.requires.few in
    where_equal c.have_same_roots.result c.have_same_roots.ensures
    (λ equal. acceptable c.args.m.now c.args.o.now c.args.most c.machine_size-2.result c.machine_size.result c.inner_weight.result c.name.ensures.checked c.name-2.ensures.checked
    c.requires.assembled equal (omega (arith, few)) c.machine_size-2.ensures c.machine_size.ensures c.if-machine_size.false c.inner_weight.ensures c.if-inner_weight-most.false)
