use Rattle.std.proofs.Common.{◌<◌, length, sym, subst, arith}
use Rattle.machine_roots.specs.Listing.{AreRoots}
use Rattle.proof_cmp.proofs.Comparing.{as_long, listed_over}
use Rattle.boom_check.proofs.Comparing.{equal_next, all_equal}
use Rattle.boom_check.proofs.checking.have_same_roots.Goals as goal

pub index-requires : goal.index-requires
index-requires c =
    let ra : AreRoots c.args.m.now c.deref-first-items.result.now = subst (AreRoots c.args.m.now) (sym c.deref-first-items.ensures.value) c.in_ok-firsts.ensures in
    let long = as_long c.args.m.now c.args.o.now c.requires.names c.deref-first-items.result.now c.in_ok-seconds.seconds.items ra c.in_ok-seconds.ensures in
    omega (arith, c.loop-k-test.true, long)

pub is_one_function-requires-clause-first : goal.is_one_function-requires-clause-first
is_one_function-requires-clause-first c =
    let ra : AreRoots c.args.m.now c.deref-first-items.result.now = subst (AreRoots c.args.m.now) (sym c.deref-first-items.ensures.value) c.in_ok-firsts.ensures in
    record {
      checked = c.name.ensures.checked;
      over = listed_over c.args.m.now c.name.ensures.checked c.deref-first-items.result.now ra c.loop-k.k c.first-item.result c.loop-k-test.true c.first-item.is;
      few = c.requires.first;
    }

pub is_one_function-requires-clause-second : goal.is_one_function-requires-clause-second
is_one_function-requires-clause-second c =
    let ra : AreRoots c.args.m.now c.deref-first-items.result.now = subst (AreRoots c.args.m.now) (sym c.deref-first-items.ensures.value) c.in_ok-firsts.ensures in
    let long = as_long c.args.m.now c.args.o.now c.requires.names c.deref-first-items.result.now c.in_ok-seconds.seconds.items ra c.in_ok-seconds.ensures in
    let inside : c.loop-k.k < length c.in_ok-seconds.seconds.items = omega (arith, c.loop-k-test.true, long) in
    record {
      checked = c.name-2.ensures.checked;
      over = listed_over c.args.o.now c.name-2.ensures.checked c.in_ok-seconds.seconds.items c.in_ok-seconds.ensures c.loop-k.k c.index.result.now inside c.index.ensures;
      few = c.requires.second;
    }

pub loop-k-preserved : goal.loop-k-preserved
loop-k-preserved c =
    let ra : AreRoots c.args.m.now c.deref-first-items.result.now = subst (AreRoots c.args.m.now) (sym c.deref-first-items.ensures.value) c.in_ok-firsts.ensures in
    equal_next c.args.m.now c.args.o.now c.requires.names c.deref-first-items.result.now c.in_ok-seconds.seconds.items ra c.in_ok-seconds.ensures c.args.budget c.loop-k.k
    c.first-item.result c.index.result.now c.loop-k-test.true c.first-item.is c.index.ensures c.loop-k.invariant (c.in_ok-is_one_function.ensures.within c.if-not-branch.false)
    (c.in_ok-is_one_function.ensures.function c.if-not-branch.false)

pub returns : goal.returns
returns c =
    let ra : AreRoots c.args.m.now c.deref-first-items.result.now = subst (AreRoots c.args.m.now) (sym c.deref-first-items.ensures.value) c.in_ok-firsts.ensures in
    λ same. all_equal c.args.m.now c.args.o.now c.requires.names c.deref-first-items.result.now c.in_ok-seconds.seconds.items ra c.in_ok-seconds.ensures c.args.budget c.loop-k.k
    c.loop-k-test.false c.loop-k.invariant
