use Rattle.std.proofs.Common.{◌≡◌, ◌∙◌, ◌++◌, ℕ, List, [], ◌∷◌, sym, ap, append_assoc}
use Rattle.std.proofs.lemmas.Result.{on_ok_weaker}
use Rattle.bool_expr.specs.View.{view}
use Rattle.vhdl_token.specs.declared.keyword.Keyword.TheVariants as word
use Rattle.vhdl_token.specs.declared.token.Sign.TheVariants as sign
use Rattle.spell_theory.specs.Layout.{Written, gap, turn, text_of}
use Rattle.vhdl_print.specs.Outline.{a_word, a_sign, a_name}
use Rattle.vbe_print.specs.Written.{label, rise_layout, condition_layout, guard_end}
use Rattle.vbe_print.proofs.Texts.{put_two, put_label}
use Rattle.vbe_print.proofs.writer.begin_block.Goals as goal

pub returns : goal.returns
returns c =
    let behind : List Written = gap ∷ a_sign sign.Colon ∷ gap ∷ a_word word.Block ∷ gap ∷ [] in
    let head : List Written = a_name (label c.args.number) ∷ behind in
    let r = rise_layout c.args.clock.now.text in
    let k = condition_layout c.args.speller.now.names.now (view c.args.enable.now) in
    let begun : List Written = a_word word.Begin ∷ turn ∷ [] in
    let o = c.args.out.now in
    let x = c.append-2.new.self in
    let z = c.append-3.new.self in
    let first : x ≡ o ++ text_of head = put_label c.args.number behind o c.append.new.self c.push_number.new.out x c.in_ok-append.ensures.ok c.in_ok-push_number.ensures c.in_ok-append-2.ensures.ok in
    let rise : c.rise.new.out ≡ x ++ text_of r = c.in_ok-rise.ensures ∙ ap (λ (t : List ℕ). x ++ text_of (rise_layout t)) c.as_bytes.ensures in
    on_ok_weaker c.append-3.result
    (λ e. put_two head (r ++ (k ++ (guard_end ++ begun))) o x z first
    (put_two r (k ++ (guard_end ++ begun)) x c.rise.new.out z rise (put_two k (guard_end ++ begun) c.rise.new.out c.condition.new.out z c.in_ok-condition.ensures e))
    ∙ ap (λ (ws : List Written). o ++ text_of (head ++ (r ++ ws))) (sym (append_assoc k guard_end begun)))
    c.append-3.ensures.ok
