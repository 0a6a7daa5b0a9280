use Rattle.syf_run.proofs.Printed.{digit_put}
use Rattle.syf_run.proofs.lines.code_text.Goals as goal

pub loop-bit-preserved : goal.loop-bit-preserved
loop-bit-preserved c =
    digit_put c.args.out.now c.loop-bit.out c.append-in-loop-bit.new.self c.loop-bit.yielded c.in-Some.bit c.bit_digit.result c.loop-bit.invariant
    c.bit_digit.ensures c.in_ok-append.ensures.ok
