use Rattle.std.proofs.Common.{ℕ, List, [], ◌∷◌, take, get_or, sym, subst, arith}
use Rattle.cell_match.proofs.Numbers.{times_some}
use Rattle.boog_cuts.proofs.Whole.{take_one_more, read_number}
use Rattle.boog_tree.specs.Counted.{IsRaised}
use Rattle.boog_tree.proofs.Counting.{raised_both}
use Rattle.boog_tree.proofs.inner.raise_all.Goals as goal

pub raise-requires : goal.raise-requires
raise-requires c =
    let long = c.loop-number.invariant.long in
    let inside = c.requires (get_or c.args.numbers.now c.loop-number.number-index 0) (times_some c.args.numbers.now c.loop-number.number-index c.loop-number-test.true) in
    omega (arith, long, inside)

pub loop-number-preserved : goal.loop-number-preserved
loop-number-preserved c =
    let ns = c.args.numbers.now in
    let i = c.loop-number.number-index in
    subst (λ (l : List ℕ). IsRaised c.args.uses.now l c.raise.new.uses) (sym (take_one_more ns i (get_or ns i 0) (read_number ns i 0 c.loop-number-test.true)))
    (raised_both c.args.uses.now c.loop-number.uses c.raise.new.uses (take i ns) (get_or ns i 0 ∷ []) c.loop-number.invariant c.raise.ensures)
