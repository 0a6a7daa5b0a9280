use Rattle.std.proofs.Common.{◌+◌, ◌++◌, [], ◌∷◌, arith}
use Rattle.std.proofs.lemmas.Result.{on_ok_weaker}
use Rattle.bool_expr.specs.View.{view}
use Rattle.vhdl_token.specs.declared.token.Sign.TheVariants as sign
use Rattle.spell_theory.specs.Layout.{text_of}
use Rattle.vhdl_print.specs.Outline.{a_sign}
use Rattle.vbe_print.specs.Expressions.{join, laid, expression_layout}
use Rattle.vbe_print.specs.Pieces.{weight}
use Rattle.vbe_print.proofs.Operands.{left_last, left_next}
use Rattle.vbe_print.proofs.Texts.{put_two, choice_put}
use Rattle.vbe_print.proofs.expressions.Speller.+whole.Goals as goal

pub choice-returns : goal.choice-returns
choice-returns t c =
    on_ok_weaker c.append-4.result
    (λ e. choice_put c.args.self.now.names.now (view c.args.condition.now) (view c.args.first.now) (view c.args.second.now) c.args.out.now
    c.append.new.self c.joined.new.out c.append-2.new.self c.primary.new.out c.append-3.new.self c.operand.new.out c.append-4.new.self
    c.in_ok-append.ensures.ok c.in_ok-joined.ensures c.in_ok-append-2.ensures.ok c.in_ok-primary.ensures c.in_ok-append-3.ensures.ok c.in_ok-operand.ensures e)
    c.append-4.ensures.ok

pub enclosed-returns : goal.enclosed-returns
enclosed-returns t c =
    let x = expression_layout c.args.self.now.names.now (view c.args.e.now) in
    on_ok_weaker c.append-2.result
    (λ e. put_two (a_sign sign.LeftParen ∷ []) (x ++ (a_sign sign.RightParen ∷ [])) c.args.out.now c.append.new.self c.append-2.new.self c.in_ok-append.ensures.ok
    (put_two x (a_sign sign.RightParen ∷ []) c.append.new.self c.whole.new.out c.append-2.new.self c.in_ok-whole.ensures e))
    c.append-2.ensures.ok

pub joined-operand-requires : goal.joined-operand-requires
joined-operand-requires t c =
    let names = c.args.self.now.names.now in
    let l = left_last names c.args.gate (weight (view c.args.left.now) + weight (view c.args.right.now)) c.loop-other.others.items c.pop.new.self.items c.in-Some.other c.loop-other.out
    (c.args.out.now ++ text_of (join c.args.gate (laid names (view c.args.left.now)) (laid names (view c.args.right.now))).text)
    c.in-Some.ensures.items c.loop-other.invariant in
    (omega (arith, l.2, c.decreases), l.1)

pub joined-loop-other-preserved : goal.joined-loop-other-preserved
joined-loop-other-preserved t c =
    let names = c.args.self.now.names.now in
    left_next names c.args.gate (weight (view c.args.left.now) + weight (view c.args.right.now)) c.loop-other.others.items c.pop.new.self.items c.in-Some.other c.loop-other.out c.gate_word.new.out c.operand.new.out
    (c.args.out.now ++ text_of (join c.args.gate (laid names (view c.args.left.now)) (laid names (view c.args.right.now))).text)
    c.in-Some.ensures.items c.in_ok-gate_word.ensures c.in_ok-operand.ensures c.loop-other.invariant
