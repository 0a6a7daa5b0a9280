use Rattle.std.proofs.lemmas.Result.{on_ok_weaker}
use Rattle.std.proofs.Common.{true}
use Rattle.bool_expr.specs.Expression.{constant}
use Rattle.vbe_print.specs.Written.{block_head_layout, block_end}
use Rattle.vbe_print.proofs.Texts.{put_two}
use Rattle.vbe_print.proofs.writer.empty_block.Goals as goal

pub returns : goal.returns
returns c =
    on_ok_weaker c.append.result
    (λ e. put_two (block_head_layout c.args.speller.now.names.now c.args.clock.now 0 (constant true)) block_end c.args.out.now c.begin_block.new.out c.append.new.self c.in_ok-begin_block.ensures e)
    c.append.ensures.ok
