use Rattle.std.proofs.Common.{◌≡◌, length, ap, ◌∙◌, arith}
use Rattle.text_names.specs.Free.{is_free, candidate}
use Rattle.text_names.proofs.Enough.{last_is_free}
use Rattle.text_names.proofs.free.first_free.Goals as goal

pub returns : goal.returns
returns c =
    let n = length c.args.taken.now in
    let e : c.loop-number.number ≡ n = let a = c.loop-number-test.false in let b = c.loop-number.auto.number-end in omega arith in
    let is : c.loop-number.text ≡ candidate c.args.stem.now n = c.loop-number.invariant.is ∙ ap (candidate c.args.stem.now) e in
    record {
      place = n;
      is = is;
      free = ap (is_free c.args.taken.now) is ∙ last_is_free c.args.stem.now c.args.taken.now c.requires (λ k l. c.loop-number.invariant.earlier k (omega arith));
      earlier = λ k l. c.loop-number.invariant.earlier k (omega arith);
    }
