use Rattle.std.proofs.Common.{◌++◌, List, [], ◌∷◌}
use Rattle.std.proofs.lemmas.Result.{on_ok_weaker}
use Rattle.vhdl_token.specs.declared.keyword.Keyword.TheVariants as word
use Rattle.spell_theory.specs.Layout.{Written, gap}
use Rattle.vhdl_print.specs.Outline.{a_word}
use Rattle.vbe_print.proofs.Texts.{put_two}
use Rattle.fsm_print.specs.Layout.{ending, then_layout}
use Rattle.fsm_print.specs.Written.{process_layout, rise_layout, load_layout}
use Rattle.fsm_print.proofs.writer.clock.Goals as goal

pub returns : goal.returns
returns c =
    let head : List Written = process_layout ++ (a_word word.If ∷ gap ∷ []) in
    let rise = rise_layout c.args.clock.now in
    let load = load_layout c.args.words.now in
    let ends : List Written = ending word.If ++ ending word.Process in
    let z = c.append-3.new.self in
    on_ok_weaker c.append-3.result
    (λ e. put_two head (rise ++ (then_layout ++ (load ++ ends))) c.args.out.now c.append.new.self z c.in_ok-append.ensures.ok
    (put_two rise (then_layout ++ (load ++ ends)) c.append.new.self c.rise.new.out z c.in_ok-rise.ensures
    (put_two then_layout (load ++ ends) c.rise.new.out c.append-2.new.self z c.in_ok-append-2.ensures.ok
    (put_two load ends c.append-2.new.self c.load.new.out z c.in_ok-load.ensures e))))
    c.append-3.ensures.ok
