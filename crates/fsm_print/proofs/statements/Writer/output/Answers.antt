use Rattle.std.proofs.Common.{◌++◌, List, [], ◌∷◌}
use Rattle.std.proofs.lemmas.Result.{on_ok_weaker}
use Rattle.bool_expr.specs.View.{view}
use Rattle.vhdl_token.specs.declared.token.Sign.TheVariants as sign
use Rattle.spell_theory.specs.Layout.{Written, gap}
use Rattle.vhdl_print.specs.Outline.{a_sign}
use Rattle.vst_print.specs.Structure.{name_layout}
use Rattle.vbe_print.specs.Expressions.{expression_layout}
use Rattle.vbe_print.proofs.Texts.{put_two}
use Rattle.fsm_print.specs.Layout.{end_of_line}
use Rattle.fsm_print.proofs.statements.Writer.output.Goals as goal

pub returns : goal.returns
returns c =
    let n = name_layout c.args.target.now in
    let a : List Written = gap ∷ a_sign sign.Assign ∷ gap ∷ [] in
    let v = expression_layout c.args.self.now.words.now.vars (view c.args.value.now) in
    let z = c.append-2.new.self in
    on_ok_weaker c.append-2.result
    (λ e. put_two n (a ++ (v ++ end_of_line)) c.args.out.now c.spell_name.new.out z c.in_ok-spell_name.ensures
    (put_two a (v ++ end_of_line) c.spell_name.new.out c.append.new.self z c.in_ok-append.ensures.ok
    (put_two v end_of_line c.append.new.self c.expression.new.out z c.in_ok-expression.ensures e)))
    c.append-2.ensures.ok
