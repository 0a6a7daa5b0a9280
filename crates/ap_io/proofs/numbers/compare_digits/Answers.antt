use Rattle.ap_io.proofs.Digits.{in_order, all_of}
use Rattle.ap_io.proofs.numbers.compare_digits.Goals as goal

pub returns : goal.returns
returns c = rw (c.then.ensures, c.cmp.ensures, c.cmp-2.ensures, c.significant-a.ensures, c.significant-b.ensures) (in_order c.args.a.now c.args.b.now (all_of c.args.a.now c.requires.first) (all_of c.args.b.now c.requires.second))
