use Rattle.std.proofs.Common.{◌≤◌, arith, length}
use Rattle.tool_words.proofs.Numerals.{within}
use Rattle.tool_words.proofs.values.number_within.Goals as goal

pub returns : goal.returns
returns c =
    let short : length c.args.text.now ≤ 10 = omega arith in
    let low : c.args.least ≤ c.in_ok-n.n = omega arith in
    let high : c.in_ok-n.n ≤ c.args.most = omega arith in
    within c.args.least c.args.most c.in_ok-n.n c.args.text.now c.in_ok-n.ensures.read.0 short c.in_ok-n.ensures.read.1 low high
