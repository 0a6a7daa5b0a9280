use Rattle.std.proofs.Common.{rules, map}
use Rattle.bool_expr.specs.View.{view}
use Rattle.source_bits.proofs.Leaves.{pushed_digit}
use Rattle.source_bits.proofs.formulas.+push_digit.Goals as goal

pub returns : goal.returns
returns t c =
    pushed_digit (map view c.args.bits.now.items) c.push_digit.new.bits.items c.push.new.self.items _ c.args.count c.args.value c.in_ok-push.ensures.items (search rules) c.in_ok-push_digit.ensures (search rules)
