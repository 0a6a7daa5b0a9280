use Rattle.std.proofs.Common.{◌≡◌, ◌-◌, ◌/◌, ◌++◌, length, take, drop, ◌∙◌, arith}
use Rattle.std.proofs.lemmas.List.{length-take, length-drop}
use Rattle.source_bits.proofs.Halves.{joined_halves, one_bit, front_is}
use Rattle.source_bits.proofs.vectors.+all_within.Goals as goal

pub returns-then-count-gt1-clause-rest : goal.returns-then-count-gt1-clause-rest
returns-then-count-gt1-clause-rest t c = λ before last is count.
    let n = c.args.count in
    let k = n - n / 2 in
    let mid = c.in_ok-right.ensures.rest (before ++ take k last) (drop k last) (front_is c.args.bits.now.items before last k is) (omega (arith, length-drop k last)) in
    c.in_ok-left.ensures.rest before (take k last) mid (omega (arith, length-take k last))

pub returns-then-count-gt1-clause-value : goal.returns-then-count-gt1-clause-value
returns-then-count-gt1-clause-value t c = λ before last is count bound within.
    let n = c.args.count in
    let k = n - n / 2 in
    let front = front_is c.args.bits.now.items before last k is in
    let back : length (drop k last) ≡ n / 2 = omega (arith, length-drop k last) in
    let first : length (take k last) ≡ n - n / 2 = omega (arith, length-take k last) in
    let mid = c.in_ok-right.ensures.rest (before ++ take k last) (drop k last) front back in
    c.in_ok-both.ensures ∙ joined_halves last n bound _ _ c.if-count-gt1.true count within
    (c.in_ok-left.ensures.value before (take k last) mid first)
    (c.in_ok-right.ensures.value (before ++ take k last) (drop k last) front back)

pub returns-in-Some-clause-value : goal.returns-in-Some-clause-value
returns-in-Some-clause-value t c = λ before last is count bound within.
    one_bit c.args.bits.now.items before c.pop.new.self.items c.in-Some.bit c.args.count bound last c.in-Some.ensures.items is count c.if-count-eq1.true
