use Rattle.std.proofs.Common.{◌≡◌, ◌<◌, ℕ, map, length, slice_index, slice_index_or, slice_set, sym, ap, arith, subst}
use Rattle.std.proofs.lemmas.List.{get_or-map, length-map}
use Rattle.source_bits.specs.declared.driven.DrivenBit.{DrivenBit}
use Rattle.vlsi_model.proofs.NodeLemmas.{nodes_more}
use Rattle.vlsi_model.proofs.nodes.nodes.Goals as goal

pub loop-k-preserved : goal.loop-k-preserved
loop-k-preserved c =
    let bit = λ (d : DrivenBit). d.bit in
    let driven = c.args.driven.now in
    let k = c.loop-k.k in
    let here : slice_index (map bit driven) k ≡ (slice_index_or driven k c.index-driven-k.result).bit = get_or-map bit driven k c.index-driven-k.result 0 c.loop-k-test.true in
    let count : length (map bit driven) ≡ length driven = length-map driven bit in
    let low = c.requires.inside k c.index-driven-k.result c.loop-k-test.true in
    nodes_more (map bit driven) c.loop-k.nodes.items _ c.args.total k c.requires.different (omega (arith, count, c.loop-k-test.true)) (subst (λ (b : ℕ). b < c.args.total) (sym here) low)
    (ap (λ (b : ℕ). slice_set c.loop-k.nodes.items b k) (sym here)) c.loop-k.invariant
