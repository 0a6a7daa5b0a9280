use Rattle.std.proofs.Common.{List, [], ◌∷◌, ◌++◌}
use Rattle.std.proofs.lemmas.Result.{on_ok_weaker}
use Rattle.vhdl_token.specs.declared.keyword.Keyword.TheVariants as word
use Rattle.vhdl_token.specs.declared.token.Sign.TheVariants as sign
use Rattle.spell_theory.specs.Layout.{Written, gap, turn}
use Rattle.vhdl_print.specs.Outline.{a_word, a_name, a_sign}
use Rattle.vst_print.specs.Groups.{bounds_of}
use Rattle.vbe_print.specs.Written.{register_type}
use Rattle.vbe_print.proofs.Texts.{put_two, put_name}
use Rattle.vbe_print.proofs.registers.group.Goals as goal

pub returns : goal.returns
returns c =
    let t = c.args.first.now.text in
    let colon : List Written = gap ∷ a_sign sign.Colon ∷ gap ∷ [] in
    let kind = register_type (bounds_of c.args.first.now.bit c.args.last.now.bit) in
    let end : List Written = a_sign sign.Semicolon ∷ turn ∷ [] in
    let o = c.args.out.now in
    let a = c.append.new.self in
    let b = c.append-3.new.self in
    let z = c.append-4.new.self in
    on_ok_weaker c.append-4.result
    (λ e. put_two (a_word word.Signal ∷ gap ∷ []) (a_name t ∷ colon ++ (kind ++ end)) o a z c.in_ok-append.ensures.ok
    (put_two (a_name t ∷ colon) (kind ++ end) a b z (put_name t colon a c.as_bytes.result.now c.append-2.new.self b c.as_bytes.ensures c.in_ok-append-2.ensures.ok c.in_ok-append-3.ensures.ok)
    (put_two kind end b c.kind.new.out z c.in_ok-kind.ensures e)))
    c.append-4.ensures.ok
