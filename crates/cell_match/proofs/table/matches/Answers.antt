use Rattle.std.proofs.Common.{◌+◌, ℕ, nat_eq, sym, subst, arith}
use Rattle.std.specs.HashMap.{get}
use Rattle.cell_match.specs.Matches.{AreMatches}
use Rattle.cell_match.proofs.Filling.{FilledTo, filled_to_more, filled_to_skipped}
use Rattle.cell_match.proofs.table.matches.Goals as goal
use Rattle.cell_match.proofs.table.matches.Goals.{then-cells-k+in_ok-fill, else-cells-k}

pub fill-requires-clause-found : goal.fill-requires-clause-found
fill-requires-clause-found c =
    subst (λ (n : ℕ). AreMatches c.args.cells.now n (λ q. get nat_eq c.loop-k.map q)) (sym c.if-cells-k.true) c.loop-k.invariant.found

pub loop-k-preserved : goal.loop-k-preserved
loop-k-preserved c =
    let cells = c.args.cells.now in
    let n = c.args.inputs in
    elim c.if-cells-k.branch [
      | then-cells-k+in_ok-fill w ↦
          subst (λ m. FilledTo cells n (c.loop-k.k + 1) (λ q. get nat_eq m q)) (sym w.map-is)
          (filled_to_more cells n c.loop-k.k (λ q. get nat_eq c.loop-k.map q) (λ q. get nat_eq w.fill.new.map q) w.if-cells-k.true c.loop-k.invariant
          (subst (λ (j : ℕ). AreMatches cells j (λ q. get nat_eq w.fill.new.map q)) w.if-cells-k.true w.in_ok-fill.ensures.found) w.in_ok-fill.ensures.grows w.in_ok-fill.ensures.every)
      | else-cells-k w ↦
          subst (λ m. FilledTo cells n (c.loop-k.k + 1) (λ q. get nat_eq m q)) (sym w.map-is)
          (filled_to_skipped cells n c.loop-k.k (λ q. get nat_eq c.loop-k.map q) w.if-cells-k.false c.loop-k.invariant)
    ]

pub returns : goal.returns
returns c = record {
  found = c.loop-k.invariant.found;
  every = λ word k order fits one. c.loop-k.invariant.every word k order (let t = one.there in let over = c.loop-k-test.false in omega (arith, t, over)) fits one;
  first = c.loop-k.invariant.first;
}
