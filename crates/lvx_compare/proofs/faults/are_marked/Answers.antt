use Rattle.std.proofs.Common.{◌≡◌, ◌<◌, ◌∙◌, List, length, sym, ap, subst, arith}
use Rattle.vlsi_base.specs.declared.name.Name.{Name}
use Rattle.lvx_compare.proofs.faults.are_marked.Goals as goal

pub returns-then-not-mark_at : goal.returns-then-not-mark_at
returns-then-not-mark_at c = (c.loop-k.k, subst (λ (ps : List Name). c.loop-k.k < length ps) c.as_slice-k-end.ensures c.loop-k-test.true, sym c.mark_at.ensures ∙ c.if-not-mark_at.true)

pub returns : goal.returns
returns c =
    let many : length c.as_slice-k-end.result.now ≡ length c.args.node.now.pins = ap length c.as_slice-k-end.ensures in
    λ j l. c.loop-k.invariant j (omega (arith, l, many, c.loop-k-test.false))
