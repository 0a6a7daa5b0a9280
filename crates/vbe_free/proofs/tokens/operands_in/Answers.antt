use Rattle.vbe_free.proofs.Operands.{more}
use Rattle.vbe_free.specs.Tokens.{free_operands}
use Rattle.std.proofs.Common.{false}
use Rattle.vbe_free.proofs.tokens.operands_in.Goals as goal

pub loop-rest-preserved : goal.loop-rest-preserved
loop-rest-preserved c =
    more c.loop-rest.begins c.takes_free-is_free.result c.loop-rest.rest.now c.behind_next-rest.result.now c.begins_behind-begins.result c.loop-rest.made.items c.push_next.new.made.items
    (free_operands false c.args.tokens.now) c.takes_free-is_free.ensures c.begins_behind-begins.ensures c.behind_next-rest.ensures c.in_ok-push_next.ensures c.loop-rest.invariant
