use Rattle.std.proofs.Common.{List, [], ◌∷◌}
use Rattle.std.proofs.lemmas.Result.{on_ok_weaker}
use Rattle.vhdl_token.specs.declared.keyword.Keyword.TheVariants as word
use Rattle.spell_theory.specs.Layout.{Written, gap, turn}
use Rattle.vhdl_print.specs.Outline.{a_word, a_name}
use Rattle.vbe_print.specs.Written.{architecture_name}
use Rattle.vbe_print.proofs.Texts.{put_two, put_name}
use Rattle.vbe_print.proofs.writer.head.Goals as goal

pub returns : goal.returns
returns c =
    let t = c.args.entity.now in
    let front : List Written = turn ∷ a_word word.Architecture ∷ gap ∷ a_name architecture_name ∷ gap ∷ a_word word.Of ∷ gap ∷ [] in
    let back : List Written = gap ∷ a_word word.Is ∷ turn ∷ [] in
    let a = c.append.new.self in
    let z = c.append-3.new.self in
    on_ok_weaker c.append-3.result
    (λ e. put_two front (a_name t ∷ back) c.args.out.now a z c.in_ok-append.ensures.ok
    (put_name t back a c.as_bytes.result.now c.append-2.new.self z c.as_bytes.ensures c.in_ok-append-2.ensures.ok e))
    c.append-3.ensures.ok
