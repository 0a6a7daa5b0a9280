use Rattle.std.proofs.Common.{◌++◌, List, [], ◌∷◌}
use Rattle.std.proofs.lemmas.Result.{on_ok_weaker}
use Rattle.vhdl_token.specs.declared.keyword.Keyword.TheVariants as word
use Rattle.vhdl_token.specs.declared.token.Sign.TheVariants as sign
use Rattle.spell_theory.specs.Layout.{Written, gap}
use Rattle.vhdl_print.specs.Outline.{a_word, a_sign, a_name}
use Rattle.vbe_print.proofs.Texts.{put_two, put_name}
use Rattle.fsm_print.specs.Layout.{comma, separated, end_of_line}
use Rattle.fsm_print.specs.Written.{texts_of}
use Rattle.fsm_print.proofs.Texts.{put_states}
use Rattle.fsm_print.proofs.writer.state_type.Goals as goal

pub returns : goal.returns
returns c =
    let t = c.args.words.now.type_name in
    let front : List Written = gap ∷ a_word word.Is ∷ gap ∷ a_sign sign.LeftParen ∷ [] in
    let end : List Written = a_sign sign.RightParen ∷ end_of_line in
    let a = c.append.new.self in
    let b = c.append-3.new.self in
    let z = c.append-4.new.self in
    on_ok_weaker c.append-4.result
    (λ e. put_two (a_word word.Type ∷ gap ∷ []) (a_name t ∷ front ++ (separated comma (texts_of c.args.words.now.states) ++ end)) c.args.out.now a z c.in_ok-append.ensures.ok
    (put_two (a_name t ∷ front) (separated comma (texts_of c.args.words.now.states) ++ end) a b z (put_name t front a c.as_bytes.result.now c.append-2.new.self b c.as_bytes.ensures c.in_ok-append-2.ensures.ok c.in_ok-append-3.ensures.ok)
    (put_states c.args.words.now.states c.as_slice.result.now end b c.state_names.new.out z c.as_slice.ensures c.in_ok-state_names.ensures e)))
    c.append-4.ensures.ok
