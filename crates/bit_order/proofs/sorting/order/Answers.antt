use Rattle.std.proofs.Common.{◌≢◌, ℕ, ◌<◌, inl, inr, List, length, arith, sym, subst}
use Rattle.std.proofs.lemmas.Bool.{cases_eq}
use Rattle.bit_order.specs.declared.walk.Mark.TheVariants as mark
use Rattle.bit_order.specs.Order.{IsSortedOrder}
use Rattle.bit_order.specs.Walk.{mark_of}
use Rattle.bit_order.proofs.Turning.{lists, lists_length, begins, all_sorted}
use Rattle.bit_order.proofs.sorting.order.Goals as goal

pub follow-requires-clause-walk : goal.follow-requires-clause-walk
follow-requires-clause-walk c =
    let low : c.loop-root.root < length (lists c.args.reads.now) = omega (arith, lists_length c.args.reads.now) in
    (begins (lists c.args.reads.now) c.loop-root.walk c.begin.new.self c.loop-root.root c.loop-root.invariant.walk c.loop-root.invariant.idle low c.in_ok-begin.ensures).walk

pub loop-root-preserved : goal.loop-root-preserved
loop-root-preserved c =
    let low : c.loop-root.root < length (lists c.args.reads.now) = omega (arith, lists_length c.args.reads.now) in
    let begun = begins (lists c.args.reads.now) c.loop-root.walk c.begin.new.self c.loop-root.root c.loop-root.invariant.walk c.loop-root.invariant.idle low c.in_ok-begin.ensures in
    let followed = rw c.in-None.is at c.in_ok-follow.ensures in
    record {
      walk = followed.walk;
      idle = followed.ended;
      met = λ node below. elim (cases_eq node c.loop-root.root) [
        | inl same ↦
            let P : ℕ → Type 0 = λ k. mark_of c.begin.new.self.marks.items k ≢ mark.New in
            followed.keeps node (subst P (sym same) begun.met)
        | inr apart ↦ followed.keeps node (begun.keeps node (c.loop-root.invariant.met node (omega arith)))
      ];
    }

pub returns : goal.returns
returns c =
    let P : List ℕ → Type 0 = λ xs. IsSortedOrder (lists c.args.reads.now) xs in
    subst P (sym c.into_sorted.ensures)
    (all_sorted (lists c.args.reads.now) c.loop-root.walk c.loop-root.invariant.walk c.loop-root.invariant.idle
    (λ node low. c.loop-root.invariant.met node (omega (arith, lists_length c.args.reads.now))))
