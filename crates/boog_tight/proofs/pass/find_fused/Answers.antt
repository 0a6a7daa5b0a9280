use Rattle.std.proofs.Common.{◌≡◌, ℕ, ◌<◌, List, Some, get_or, arith, ap, sym, subst, ◌∙◌, slice_index}
use Rattle.cell_match.specs.declared.gate.Gate.{Gate}
use Rattle.cell_match.specs.Places.{times}
use Rattle.boog_tight.specs.Cover.{gate_at}
use Rattle.cell_match.specs.Computes.{Computes}
use Rattle.cell_match.proofs.Numbers.{times_some, times_place}
use Rattle.boog_tight.proofs.Counting.{gate_read, same_some}
use Rattle.boog_tight.proofs.pass.find_fused.Goals as goal

pub fused_at-requires-clause-within : goal.fused_at-requires-clause-within
fused_at-requires-clause-within c =
    let at_j = gate_read c.args.gates.now c.args.j c.index-gates-j.result c.requires.within c.index-gates-j.is ∙ c.in-Some.is in
    let gate = c.requires.cover.gate c.args.j c.in-Some.outer at_j in
    let low = c.loop-leaf-test.true in
    let items = c.as_slice-leaf-items.result.now in
    let reads = subst (λ (xs : List ℕ). 0 < times (get_or items c.loop-leaf.leaf-index 0) xs) c.as_slice-leaf-items.ensures.value (times_some items c.loop-leaf.leaf-index low) in
    let before = gate.earlier (get_or items c.loop-leaf.leaf-index 0) reads in
    let within = c.requires.within in
    omega (arith, before, within)

pub fused_at-requires-clause-inner : goal.fused_at-requires-clause-inner
fused_at-requires-clause-inner c = λ h e. c.requires.cover.gate _ h e

pub returns-in-Some-fused_at-clause-some : goal.returns-in-Some-fused_at-clause-some
returns-in-Some-fused_at-clause-some c =
    let at_j = gate_read c.args.gates.now c.args.j c.index-gates-j.result c.requires.within c.index-gates-j.is ∙ c.in-Some.is in
    let low = c.loop-leaf-test.true in
    let items = c.as_slice-leaf-items.result.now in
    let reads = subst (λ (xs : List ℕ). 0 < times (get_or items c.loop-leaf.leaf-index 0) xs) c.as_slice-leaf-items.ensures.value (times_some items c.loop-leaf.leaf-index low) in
    let found = c.in-Some-fused_at.ensures.some in
    record { first = found.0; second = c.in-Some.outer; at_inner = found.1; at_j = at_j; reads = reads; alone = found.2; computes = found.3 }

pub returns-after-loop-leaf-clause-none : goal.returns-after-loop-leaf-clause-none
returns-after-loop-leaf-clause-none c = λ a h g k order at_a at_g reads alone computes.
    let at_j = gate_read c.args.gates.now c.args.j c.index-gates-j.result c.requires.within c.index-gates-j.is ∙ c.in-Some.is in
    let same : g ≡ c.in-Some.outer = same_some _ _ _ at_g at_j in
    let items = c.as_slice-leaf-items.result.now in
    let here = subst (λ (xs : List ℕ). 0 < times a xs) (ap (λ (x : Gate). x.leaves.items) same ∙ sym c.as_slice-leaf-items.ensures.value) reads in
    let place = times_place a items here in
    let over = c.loop-leaf-test.false in
    let low = place.1 in
    let is_a = place.2 in
    c.loop-leaf.invariant place.0 (omega (arith, over, low)) h k order
    (subst (λ (n : ℕ). gate_at c.args.gates.now n ≡ Some h) (sym is_a) at_a)
    (subst (λ (n : ℕ). slice_index c.args.counts.now n ≡ 1) (sym is_a) alone)
    (subst (λ (n : ℕ). Computes c.args.cells.now k order h c.in-Some.outer n) (sym is_a)
    (subst (λ (x : Gate). Computes c.args.cells.now k order h x a) same computes))

pub fused_at-requires-clause-there : goal.fused_at-requires-clause-there
fused_at-requires-clause-there c =
    let low = c.loop-leaf-test.true in
    let items = c.as_slice-leaf-items.result.now in
    subst (λ (xs : List ℕ). 0 < times (get_or items c.loop-leaf.leaf-index 0) xs) c.as_slice-leaf-items.ensures.value (times_some items c.loop-leaf.leaf-index low)
