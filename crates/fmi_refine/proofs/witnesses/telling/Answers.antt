use Rattle.std.proofs.Common.{◌<◌, ◌-◌, [], ◌∷◌, ℕ, List, length, length-append, sym, ap, ◌∙◌, subst, arith}
use Rattle.fmi_refine.specs.declared.round.Move.{Move}
use Rattle.fmi_refine.specs.Rows.{move_in, move_at}
use Rattle.fmi_refine.specs.Refined.{level, Tells}
use Rattle.fmi_refine.proofs.Leading.{Leads, leads_on, leads_end, classes_read, in_row, move_read, some_apart, next_apart}
use Rattle.fmi_refine.proofs.witnesses.telling.Goals as goal

pub unreachable-requires : goal.unreachable-requires
unreachable-requires c =
    let i = c.loop-level.invariant in
    let k = c.loop-level.level in
    let some = c.loop-level-test.true in
    let high = i.low in
    let low : k - 1 < length c.args.by.now.levels.now = omega (arith, high) in
    let read = classes_read c.args.by.now.levels.now (k - 1) c.index-levels-level.result c.as_slice-classes.result.now low c.as_slice-classes.ensures in
    let one = sym c.class_at.ensures ∙ c.if-class_at.true ∙ c.class_at-in-loop-level.ensures in
    some_apart c.args.by.now.rows.now c.args.by.now.levels.now k c.loop-level.first c.loop-level.second c.as_slice-classes.result.now c.requires.levels some i.low
    i.first i.second i.apart read one c.in_default.ensures.none

pub bounds-as_slice-v : goal.bounds-as_slice-v
bounds-as_slice-v c =
    in_row c.args.by.now.rows.now c.loop-level.first c.in-Some.v c.as_slice.result.now c.index-rows-first.result c.requires.rows c.loop-level.invariant.first
    c.in-Some.ensures.some.0 (c.as_slice.ensures ∙ c.index-rows-first.is)

pub bounds-as_slice-v-then-class_at : goal.bounds-as_slice-v-then-class_at
bounds-as_slice-v-then-class_at c =
    in_row c.args.by.now.rows.now c.loop-level.second c.in-Some.v c.as_slice-then-class_at.result.now c.index-rows-second.result c.requires.rows
    c.loop-level.invariant.second c.in-Some.ensures.some.0 (c.as_slice-then-class_at.ensures ∙ c.index-rows-second.is)

pub returns-then-a-b-clause-tells : goal.returns-then-a-b-clause-tells
returns-then-a-b-clause-tells c =
    let rows = c.args.by.now.rows.now in
    let i = c.loop-level.invariant in
    let a = c.loop-level.first in
    let b = c.loop-level.second in
    let v = c.in-Some.v in
    let known = c.in-Some.ensures.some.0 in
    let is_x = move_read rows a v c.as_slice.result.now c.index-rows-first.result i.first (c.as_slice.ensures ∙ c.index-rows-first.is) in
    let is_y = move_read rows b v c.as_slice-then-class_at.result.now c.index-rows-second.result i.second
    (c.as_slice-then-class_at.ensures ∙ c.index-rows-second.is) in
    let end = leads_end rows c.args.s c.args.t c.loop-level.made.items a b v i.leads known
    (λ same. c.if-a-b.true (ap (λ (z : Move). z.outs) is_x ∙ same ∙ sym (ap (λ (z : Move). z.outs) is_y))) in
    subst (λ (vs : List ℕ). Tells rows c.args.s c.args.t vs) (sym c.in_ok-push.ensures.items) end

pub loop-level-preserved-then-class_at : goal.loop-level-preserved-then-class_at
loop-level-preserved-then-class_at c =
    let rows = c.args.by.now.rows.now in
    let levels = c.args.by.now.levels.now in
    let i = c.loop-level.invariant in
    let a = c.loop-level.first in
    let b = c.loop-level.second in
    let k = c.loop-level.level in
    let v = c.in-Some.v in
    let x = move_in c.as_slice.result.now v in
    let y = move_in c.as_slice-then-class_at.result.now v in
    let known = c.in-Some.ensures.some.0 in
    let is_x = move_read rows a v c.as_slice.result.now c.index-rows-first.result i.first (c.as_slice.ensures ∙ c.index-rows-first.is) in
    let is_y = move_read rows b v c.as_slice-then-class_at.result.now c.index-rows-second.result i.second
    (c.as_slice-then-class_at.ensures ∙ c.index-rows-second.is) in
    let some = c.loop-level-test.true in
    let high = i.low in
    let few = i.few in
    let low : k - 1 < length levels = omega (arith, high) in
    let read = classes_read levels (k - 1) c.index-levels-level.result c.as_slice-classes.result.now low c.as_slice-classes.ensures in
    let made = c.in_ok-push.ensures.items in
    let size = ap length made ∙ length-append c.loop-level.made.items (v ∷ []) in
    let next_a = ap (λ (z : Move). z.next) is_x in
    let next_b = ap (λ (z : Move). z.next) is_y in
    let on = leads_on rows c.args.s c.args.t c.loop-level.made.items a b v i.leads known in
    record {
      first = subst (λ (n : ℕ). n < length rows) (sym next_a) (c.requires.rows.known a v i.first known);
      second = subst (λ (n : ℕ). n < length rows) (sym next_b) (c.requires.rows.known b v i.second known);
      low = low;
      apart = next_apart c.as_slice-classes.result.now (level levels (k - 1)).state_of (move_at rows a v) (move_at rows b v) x y is_x is_y read c.if-a-b.false
          c.in-Some.ensures.some.1;
      leads = subst (λ (n : ℕ). Leads rows c.args.s c.args.t c.push.new.self.items n y.next) (sym next_a)
          (subst (λ (n : ℕ). Leads rows c.args.s c.args.t c.push.new.self.items (move_at rows a v).next n) (sym next_b)
          (subst (λ (vs : List ℕ). Leads rows c.args.s c.args.t vs (move_at rows a v).next (move_at rows b v).next) (sym made) on));
      few = omega (arith, few, some, size);
    }
