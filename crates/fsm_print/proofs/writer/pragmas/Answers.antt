use Rattle.std.proofs.Common.{codes}
use Rattle.std.proofs.lemmas.Result.{on_ok_weaker}
use Rattle.fsm_print.specs.Written.{pragma_line}
use Rattle.fsm_print.proofs.Texts.{put_parts}
use Rattle.fsm_print.proofs.writer.pragmas.Goals as goal

pub returns : goal.returns
returns c =
    on_ok_weaker c.pragma-3.result
    (λ e. put_parts (pragma_line (codes "current_state") c.args.words.now.current) (pragma_line (codes "next_state") c.args.words.now.next) (pragma_line (codes "clock") c.args.clock.now)
    c.args.out.now c.pragma.new.out c.pragma-2.new.out c.pragma-3.new.out c.in_ok-pragma.ensures c.in_ok-pragma-2.ensures e)
    c.pragma-3.ensures
