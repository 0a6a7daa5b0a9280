use Rattle.std.proofs.Common.{inl, inr, ◌∙◌, arith}
use Rattle.std.proofs.lemmas.Bool.{cases_lt}
use Rattle.cell_match.specs.Places.{times}
use Rattle.boog_tight.proofs.Counting.{gate_read}
use Rattle.boog_tight.proofs.pass.fused_at.Goals as goal

pub fuse-requires-clause-inner : goal.fuse-requires-clause-inner
fuse-requires-clause-inner c =
    let at = gate_read c.args.gates.now c.args.leaf c.index-gates-leaf.result c.requires.within c.index-gates-leaf.is ∙ c.in-Some.is in
    (c.args.leaf, c.requires.inner c.in-Some.inner at)

pub fuse-requires-clause-other : goal.fuse-requires-clause-other
fuse-requires-clause-other c =
    let at = gate_read c.args.gates.now c.args.leaf c.index-gates-leaf.result c.requires.within c.index-gates-leaf.is ∙ c.in-Some.is in
    let gate = c.requires.inner c.in-Some.inner at in
    elim (cases_lt 0 (times c.args.leaf c.in-Some.inner.leaves.items)) [
      | inl some ↦ let e = gate.earlier c.args.leaf some in absurd (omega arith)
      | inr none ↦ omega arith
    ]
