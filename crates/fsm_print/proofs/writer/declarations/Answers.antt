use Rattle.std.proofs.Common.{◌++◌}
use Rattle.std.proofs.lemmas.Result.{on_ok_weaker}
use Rattle.vbe_print.proofs.Texts.{put_two}
use Rattle.fsm_print.specs.Written.{head_layout, type_layout, signals_layout, begin_layout}
use Rattle.fsm_print.proofs.writer.declarations.Goals as goal

pub returns : goal.returns
returns c =
    let w = c.args.words.now in
    let head = head_layout c.args.entity.now in
    let kind = type_layout w in
    let signals = signals_layout w in
    let z = c.append.new.self in
    on_ok_weaker c.append.result
    (λ e. put_two head (kind ++ (signals ++ begin_layout)) c.args.out.now c.head.new.out z c.in_ok-head.ensures
    (put_two kind (signals ++ begin_layout) c.head.new.out c.state_type.new.out z c.in_ok-state_type.ensures
    (put_two signals begin_layout c.state_type.new.out c.signals.new.out z c.in_ok-signals.ensures e)))
    c.append.ensures.ok
