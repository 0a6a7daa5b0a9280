use Rattle.std.proofs.Common.{◌++◌}
use Rattle.std.proofs.lemmas.Result.{on_ok_weaker}
use Rattle.vhdl_token.specs.declared.keyword.Keyword.TheVariants as word
use Rattle.vbe_print.proofs.Texts.{put_two}
use Rattle.fsm_code.specs.View.{body_view}
use Rattle.fsm_print.specs.Layout.{ending, body_layout}
use Rattle.fsm_print.specs.Written.{process_layout}
use Rattle.fsm_print.proofs.writer.step.Goals as goal

pub returns : goal.returns
returns c =
    let b = body_layout c.args.writer.now.words.now (body_view c.args.body.now) in
    let z = c.append-2.new.self in
    on_ok_weaker c.append-2.result
    (λ e. put_two process_layout (b ++ ending word.Process) c.args.out.now c.append.new.self z c.in_ok-append.ensures.ok
    (put_two b (ending word.Process) c.append.new.self c.body.new.out z c.in_ok-body.ensures e))
    c.append-2.ensures.ok
