use Rattle.std.proofs.Common.{inl, inr, List, length, sym, subst, ap, Some, arith}
use Rattle.boom_muxes.specs.declared.mux.Mux.{Mux}
use Rattle.boom_muxes.specs.Building.{MayBeBuilt, IsBuilt}
use Rattle.boom_opt.proofs.Finishing.{may_be_built, few_built, smaller, kept_result, kept_within_result}
use Rattle.boom_opt.proofs.optimising.smaller.Goals as goal

pub returns-then-made : goal.returns-then-made
returns-then-made c = kept_result c.args.m.now c.args.made.now c.kept.result c.requires.checked c.requires.made (inl c.if-made.true) c.kept.ensures

pub returns-then-made-2 : goal.returns-then-made-2
returns-then-made-2 c = kept_result c.args.m.now c.args.made.now c.kept-then-made-2.result c.requires.checked c.requires.made (inr c.if-made-2.true) c.kept-then-made-2.ensures

pub build-requires-clause-parts : goal.build-requires-clause-parts
build-requires-clause-parts c =
    subst (λ (xs : List Mux). MayBeBuilt c.args.m.now xs (Some c.args.made.now.plan)) (sym c.as_slice.ensures.keys) (may_be_built c.args.m.now c.args.made.now c.requires.checked c.requires.made c.if-made.false)

pub build-requires-clause-few : goal.build-requires-clause-few
build-requires-clause-few c =
    let new = few_built c.args.m.now c.args.made.now c.requires.made c.if-made-2.false in
    let keys = ap (λ (xs : List Mux). length xs) c.as_slice.ensures.keys in
    let few = c.requires.few in
    omega (arith, new, keys, few)

pub returns-then-branch : goal.returns-then-branch
returns-then-branch c =
    let few = c.requires.few in
    kept_within_result c.args.m.now c.kept-then-branch.result c.inner_weight.result c.most_inner.result c.requires.checked (omega (arith, few)) c.inner_weight.ensures
    c.if-inner_weight-most_inner.true c.most_inner.ensures c.kept-then-branch.ensures

pub returns : goal.returns
returns c =
    smaller c.args.m.now c.args.made.now c.in_ok-second.second c.requires.checked c.requires.made c.if-made.false c.if-made-2.false
    (subst (λ (xs : List Mux). IsBuilt c.args.m.now xs (Some c.args.made.now.plan) c.in_ok-second.second) c.as_slice.ensures.keys c.in_ok-second.ensures)
