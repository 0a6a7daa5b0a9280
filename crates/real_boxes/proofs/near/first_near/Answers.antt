use Rattle.std.proofs.Common.{◌≡◌, ◌∙◌, ◌<◌, List, length, sym, ap, arith}
use Rattle.std.specs.Vec.{vec_len}
use Rattle.std.proofs.lemmas.Bool.{eqb-true, eqb-false}
use Rattle.sym_shapes.specs.Shape.{Shape}
use Rattle.sym_near.specs.declared.near.Pair.{Pair}
use Rattle.sym_near.specs.Related.{shape_at}
use Rattle.sym_near.proofs.Sweeps.{at_any}
use Rattle.s2r_cif.proofs.Firsts.{pair_at}
use Rattle.real_boxes.specs.Refused.{on_layer}
use Rattle.real_boxes.proofs.Closest.{few_on, first_related, first_near, none_near}
use Rattle.real_boxes.proofs.near.first_near.Goals as goal

pub near_pairs-requires : goal.near_pairs-requires
near_pairs-requires c = few_on c.args.boxes.now c.args.layer c.deref.result.now (c.deref.ensures.value ∙ c.in_ok-shapes.ensures) c.requires

pub returns-then-is_empty : goal.returns-then-is_empty
returns-then-is_empty c =
    let near = c.in_ok-pairs.pairs.near in
    let none : vec_len near ≡ 0 = eqb-true (vec_len near) 0 (sym c.is_empty.ensures ∙ c.if-is_empty.true) in
    let short : length near.items ≡ 0 = omega (arith, none) in
    none_near (on_layer c.args.layer c.args.boxes.now) c.args.gap c.deref.result.now (c.deref.ensures.value ∙ c.in_ok-shapes.ensures) near.items c.in_ok-pairs.ensures.near short

pub rects_of-requires-clause-first : goal.rects_of-requires-clause-first
rects_of-requires-clause-first c =
    let near = c.in_ok-pairs.pairs.near in
    let some = eqb-false (vec_len near) 0 (sym c.is_empty.ensures ∙ c.if-is_empty.false) in
    let there : 0 < length near.items = omega (arith, some) in
    let at : c.index.result.now ≡ pair_at near.items 0 = c.index.ensures ∙ at_any near.items 0 c.index.result.now (record { first = 0; second = 0 }) there in
    let one : c.index.result.now.first ≡ (pair_at near.items 0).first = ap (λ (p : Pair). p.first) at in
    let same : length c.deref-2.result.now ≡ length c.deref.result.now = ap (λ (ss : List Shape). length ss) (c.deref-2.ensures.value ∙ sym c.deref.ensures.value) in
    let low =
    (first_related (on_layer c.args.layer c.args.boxes.now) c.args.gap c.deref.result.now (c.deref.ensures.value ∙ c.in_ok-shapes.ensures) near.items c.in_ok-pairs.ensures.near there).first in
    omega (arith, low, one, same)

pub rects_of-requires-clause-second : goal.rects_of-requires-clause-second
rects_of-requires-clause-second c =
    let near = c.in_ok-pairs.pairs.near in
    let some = eqb-false (vec_len near) 0 (sym c.is_empty.ensures ∙ c.if-is_empty.false) in
    let there : 0 < length near.items = omega (arith, some) in
    let at : c.index.result.now ≡ pair_at near.items 0 = c.index.ensures ∙ at_any near.items 0 c.index.result.now (record { first = 0; second = 0 }) there in
    let other : c.index.result.now.second ≡ (pair_at near.items 0).second = ap (λ (p : Pair). p.second) at in
    let same : length c.deref-2.result.now ≡ length c.deref.result.now = ap (λ (ss : List Shape). length ss) (c.deref-2.ensures.value ∙ sym c.deref.ensures.value) in
    let low =
    (first_related (on_layer c.args.layer c.args.boxes.now) c.args.gap c.deref.result.now (c.deref.ensures.value ∙ c.in_ok-shapes.ensures) near.items c.in_ok-pairs.ensures.near there).second in
    omega (arith, low, other, same)

pub returns : goal.returns
returns c =
    let near = c.in_ok-pairs.pairs.near in
    let some = eqb-false (vec_len near) 0 (sym c.is_empty.ensures ∙ c.if-is_empty.false) in
    let there : 0 < length near.items = omega (arith, some) in
    let at : c.index.result.now ≡ pair_at near.items 0 = c.index.ensures ∙ at_any near.items 0 c.index.result.now (record { first = 0; second = 0 }) there in
    let same : c.deref-2.result.now ≡ c.deref.result.now = c.deref-2.ensures.value ∙ sym c.deref.ensures.value in
    first_near (on_layer c.args.layer c.args.boxes.now) c.args.gap c.deref.result.now (c.deref.ensures.value ∙ c.in_ok-shapes.ensures) near.items c.in_ok-pairs.ensures.near there
    c.rects_of.result.0 c.rects_of.result.1
    (c.rects_of.ensures.one ∙ ap (λ (ss : List Shape). (shape_at ss c.index.result.now.first).rect) same ∙ ap (λ (p : Pair). (shape_at c.deref.result.now p.first).rect) at)
    (c.rects_of.ensures.other ∙ ap (λ (ss : List Shape). (shape_at ss c.index.result.now.second).rect) same ∙ ap (λ (p : Pair). (shape_at c.deref.result.now p.second).rect) at)
