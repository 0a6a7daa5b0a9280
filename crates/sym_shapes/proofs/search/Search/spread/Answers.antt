use Rattle.std.proofs.Common.{◌≡◌, ℕ, List, sym, ap, ◌∙◌, subst, arith}
use Rattle.sym_shapes.specs.declared.forest.Link.{Link}
use Rattle.sym_shapes.specs.declared.search.Step.{Step}
use Rattle.sym_shapes.specs.Search.{step, Spread}
use Rattle.sym_shapes.proofs.Searches.{ends_at, has_link, on_then, read_step, spread_next, spread_whole}
use Rattle.sym_shapes.proofs.search.Search.spread.Goals as goal

pub reach-requires-clause-within : goal.reach-requires-clause-within
reach-requires-clause-within c =
    let low = ends_at c.args.links.now _ c.loop-k.k c.requires.ends c.loop-k-test.true in
    omega (arith, low, c.loop-k.invariant.on.places)

pub loop-k-preserved : goal.loop-k-preserved
loop-k-preserved c =
    let links : List Link = c.args.links.now in
    let steps : List Step = c.args.self.now.steps.items in
    let k : ℕ = c.loop-k.k in
    let inv = c.loop-k.invariant in
    let reached = c.in_ok-reach.ensures in
    let read : step steps c.args.at ≡ c.index.result.now = read_step steps c.args.at c.index.result.now c.requires.at c.index.ensures in
    let place_is : c.index.result.now.place ≡ (step c.loop-k.self.steps.items c.args.at).place =
    ap (λ (s : Step). s.place) (sym (inv.on.kept c.args.at c.requires.at ∙ read)) in
    record {
      on = on_then inv.on reached.on;
      search = reached.search links (has_link links k _ c.loop-k-test.true (c.if-links-k.true ∙ place_is)) inv.search;
      spreading = spread_next links c.loop-k.self.seen.items c.reach.new.self.seen.items _ k c.loop-k-test.true reached.on.marked reached.seen inv.spreading;
    }

pub returns-else-links-k-clause-spread : goal.returns-else-links-k-clause-spread
returns-else-links-k-clause-spread c =
    let links : List Link = c.args.links.now in
    let steps : List Step = c.args.self.now.steps.items in
    let read : step steps c.args.at ≡ c.index.result.now = read_step steps c.args.at c.index.result.now c.requires.at c.index.ensures in
    subst (λ (x : ℕ). Spread links c.loop-k.self.seen.items x) (ap (λ (s : Step). s.place) (sym read))
    (spread_whole links c.loop-k.self.seen.items _ c.loop-k.k c.requires.ordered c.loop-k.invariant.spreading (λ low. c.if-links-k.false))

pub returns-after-loop-k-clause-spread : goal.returns-after-loop-k-clause-spread
returns-after-loop-k-clause-spread c =
    let links : List Link = c.args.links.now in
    let steps : List Step = c.args.self.now.steps.items in
    let read : step steps c.args.at ≡ c.index.result.now = read_step steps c.args.at c.index.result.now c.requires.at c.index.ensures in
    subst (λ (x : ℕ). Spread links c.loop-k.self.seen.items x) (ap (λ (s : Step). s.place) (sym read))
    (spread_whole links c.loop-k.self.seen.items _ c.loop-k.k c.requires.ordered c.loop-k.invariant.spreading (λ low. absurd (omega (arith, low, c.loop-k-test.false))))
