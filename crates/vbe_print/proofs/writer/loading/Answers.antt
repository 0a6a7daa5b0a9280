use Rattle.std.proofs.Common.{◌++◌, List, [], ◌∷◌}
use Rattle.std.proofs.lemmas.Result.{on_ok_weaker}
use Rattle.bool_expr.specs.View.{view}
use Rattle.vhdl_token.specs.declared.keyword.Keyword.TheVariants as word
use Rattle.vhdl_token.specs.declared.token.Sign.TheVariants as sign
use Rattle.spell_theory.specs.Layout.{Written, gap, turn}
use Rattle.vhdl_print.specs.Outline.{a_word, a_sign}
use Rattle.vst_print.specs.Structure.{name_layout}
use Rattle.vbe_print.specs.Expressions.{value_layout}
use Rattle.vbe_print.proofs.Texts.{put_two}
use Rattle.vbe_print.proofs.writer.loading.Goals as goal

pub returns : goal.returns
returns c =
    let n = name_layout c.args.register.now.name in
    let a : List Written = gap ∷ a_sign sign.Assign ∷ gap ∷ a_word word.Guarded ∷ gap ∷ [] in
    let v = value_layout c.args.speller.now.names.now (view c.args.register.now.next) in
    let end : List Written = a_sign sign.Semicolon ∷ turn ∷ [] in
    let z = c.append-3.new.self in
    on_ok_weaker c.append-3.result
    (λ e. put_two (gap ∷ gap ∷ []) (n ++ (a ++ (v ++ end))) c.args.out.now c.append.new.self z c.in_ok-append.ensures.ok
    (put_two n (a ++ (v ++ end)) c.append.new.self c.spell_name.new.out z c.in_ok-spell_name.ensures
    (put_two a (v ++ end) c.spell_name.new.out c.append-2.new.self z c.in_ok-append-2.ensures.ok
    (put_two v end c.append-2.new.self c.value.new.out z c.in_ok-value.ensures e))))
    c.append-3.ensures.ok
