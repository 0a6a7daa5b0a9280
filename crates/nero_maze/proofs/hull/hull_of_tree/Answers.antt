use Rattle.std.proofs.Common.{◌≤◌, length, inl, inr, arith}
use Rattle.std.proofs.lemmas.Bool.{cases_eq, cases_lt}
use Rattle.std.proofs.lemmas.List.{get_or_past}
use Rattle.nero_maze.proofs.hull.hull_of_tree.Goals as goal

pub loop-node-preserved : goal.loop-node-preserved
loop-node-preserved c = λ v lt own. elim (cases_eq v c.loop-node.node) [
  | inl e ↦ rw e (c.with_own-hull.ensures.holds (rw e at own))
  | inr ne ↦ c.with_own-hull.ensures.kept v (c.loop-node.invariant v (omega arith) own)
]

pub returns : goal.returns
returns c = λ v own. elim (cases_lt v c.loop-node.node) [
  | inl lt ↦ c.loop-node.invariant v lt own
  | inr past ↦ (
      let e = c.requires.room.owners in
      let e2 = c.requires.room.links in
      let far : length c.args.room.now.links.items ≤ v = omega arith in
      absurd (own.0 (get_or_past c.args.room.now.links.items v 0 far)))
]
