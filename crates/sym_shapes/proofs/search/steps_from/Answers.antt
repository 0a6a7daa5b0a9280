use Rattle.std.proofs.Common.{◌≡◌, ◌<◌, ◌≤◌, ℕ, List, length, inl, inr, sym, ap, ◌∙◌, subst, arith}
use Rattle.std.proofs.lemmas.Bool.{cases_lt}
use Rattle.sym_shapes.specs.declared.search.Step.{Step}
use Rattle.sym_shapes.specs.Search.{step, Spread, IsSeen}
use Rattle.sym_shapes.proofs.Searches.{all_reached}
use Rattle.sym_shapes.proofs.search.steps_from.Goals as goal

pub loop-at-init : goal.loop-at-init
loop-at-init c = record {
  places = c.in_ok-search.ensures.count;
  goal = c.in_ok-search.ensures.goal;
  search = c.in_ok-search.ensures.search c.args.links.now;
  low = omega arith;
  spread = λ k low end has. absurd (omega (arith, low));
}

pub spread-requires-clause-ends : goal.spread-requires-clause-ends
spread-requires-clause-ends c = λ i j has. let low = c.requires.ends i j has in omega (arith, low, c.loop-at.invariant.places)

pub loop-at-preserved : goal.loop-at-preserved
loop-at-preserved c =
    let inv = c.loop-at.invariant in
    let steps : List Step = c.loop-at.search.steps.items in
    let spread = c.in_ok-spread.ensures in
    let links = c.args.links.now in
    let before : c.loop-at.at < length steps = omega (arith, c.loop-at-test.true, c.len.ensures) in
    record {
      places = sym spread.on.places ∙ inv.places;
      goal = ap (λ (s : Step). s.place) (spread.on.kept 0 inv.search.some) ∙ inv.goal;
      search = spread.search;
      low = omega (arith, before, spread.on.many);
      spread = λ k upto. elim (cases_lt k c.loop-at.at) [
        | inl lt ↦ rw (spread.on.kept k (omega (arith, lt, before))) (λ end has. spread.on.marked end (inv.spread k lt end has))
        | inr ge ↦
            let e : c.loop-at.at ≡ k = omega (arith, upto, ge) in
            subst (λ (x : ℕ). Spread links c.spread.new.self.seen.items (step c.spread.new.self.steps.items x).place) e (rw (spread.on.kept c.loop-at.at before) spread.spread)
      ];
    }

pub returns-clause-all : goal.returns-clause-all
returns-clause-all c = λ place leads.
    let inv = c.loop-at.invariant in
    let steps : List Step = c.loop-at.search.steps.items in
    let all : length steps ≤ c.loop-at.at = omega (arith, c.loop-at-test.false, c.len.ensures) in
    let first : IsSeen c.loop-at.search.seen.items c.args.goal = subst (λ (x : ℕ). IsSeen c.loop-at.search.seen.items x) inv.goal (inv.search.told 0 inv.search.some) in
    inv.search.found place (all_reached c.args.links.now steps c.loop-at.search.seen.items inv.search (λ k low. inv.spread k (omega (arith, low, all))) first leads)
