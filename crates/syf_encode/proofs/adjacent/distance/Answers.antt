use Rattle.std.proofs.Common.{bit_xor, sym, ◌∙◌, arith}
use Rattle.std.proofs.lemmas.Nat.{xor_of_32, ones-le}
use Rattle.syf_encode.proofs.Apart.{ones_apart}
use Rattle.syf_encode.proofs.adjacent.distance.Goals as goal

pub returns-clause-value : goal.returns-clause-value
returns-clause-value c = λ w a b. c.from.ensures ∙ sym (ones_apart w c.args.a c.args.b a b)

pub returns-clause-few : goal.returns-clause-few
returns-clause-few c =
    let below = ones-le 32 (bit_xor c.args.a c.args.b) (xor_of_32 c.args.a c.args.b c.ranges.a.fits c.ranges.b.fits) in
    omega arith
