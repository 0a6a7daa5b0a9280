use Rattle.std.proofs.Common.{ℕ, List, slice_index, ap, refl, ◌∙◌, arith}
use Rattle.bool_expr.specs.Expression.{bit}
use Rattle.net_theory.proofs.Basics.{number_once}
use Rattle.cell_match.specs.declared.cut.Cut.{Cut}
use Rattle.boog_cuts.proofs.Growing.{is_number}
use Rattle.boog_tree.specs.Sums.{inner_sum}
use Rattle.boog_tree.proofs.Keeping.{kept_old, kept_set}
use Rattle.boog_tree.proofs.enough.improve.Goals as goal

pub returns-then-sum-old : goal.returns-then-sum-old
returns-then-sum-old c =
    let cuts = c.args.cuts.now in
    let inner = bit c.args.inner.now in
    let b = slice_index c.args.bounds.now in
    let has = c.requires.alike in
    let here = is_number cuts c.args.at c.index-cuts-at.result c.requires.there c.index-cuts-at.is in
    let same = ap (λ (d : Cut 6). inner_sum inner b d.leaves.items) (number_once cuts c.args.at has.0 c.index-cuts-at.result has.1 here) in
    let old = c.sum-old.ensures ∙ ap (λ (l : List ℕ). inner_sum inner b l) c.as_slice.ensures.value in
    let read = ap (λ (d : Cut 6). inner_sum inner b d.leaves.items) c.index-cuts-at.is in
    let new = c.sum.ensures ∙ ap (λ (l : List ℕ). inner_sum inner b l) c.as_slice-2.ensures.value in
    kept_set inner b cuts c.args.at c.args.cut has _ refl (omega (arith, same, old, new, read, c.if-sum-old.true))

pub returns-else-sum-old : goal.returns-else-sum-old
returns-else-sum-old c =
    let cuts = c.args.cuts.now in
    let inner = bit c.args.inner.now in
    let b = slice_index c.args.bounds.now in
    let has = c.requires.alike in
    let here = is_number cuts c.args.at c.index-cuts-at.result c.requires.there c.index-cuts-at.is in
    let same = ap (λ (d : Cut 6). inner_sum inner b d.leaves.items) (number_once cuts c.args.at has.0 c.index-cuts-at.result has.1 here) in
    let old = c.sum-old.ensures ∙ ap (λ (l : List ℕ). inner_sum inner b l) c.as_slice.ensures.value in
    let read = ap (λ (d : Cut 6). inner_sum inner b d.leaves.items) c.index-cuts-at.is in
    let new = c.sum.ensures ∙ ap (λ (l : List ℕ). inner_sum inner b l) c.as_slice-2.ensures.value in
    kept_old inner b cuts c.args.at c.args.cut has (omega (arith, same, old, new, read, c.if-sum-old.false))
