use Rattle.std.proofs.Common.{◌≡◌, ◌++◌, ◌∙◌, length, rules, sym, ap, subst}
use Rattle.bool_expr.specs.Expression.{Expression, choice, IsOver}
use Rattle.bool_expr.specs.View.{view}
use Rattle.spell_theory.specs.Layout.{text_of}
use Rattle.vbe_print.specs.Expressions.{value_layout}
use Rattle.vbe_print.proofs.Texts.{value_next}
use Rattle.vbe_print.proofs.expressions.Speller.value.Goals as goal

pub loop-rest-preserved : goal.loop-rest-preserved
loop-rest-preserved c =
    let names = c.args.self.now.names.now in
    let x = view c.deref-in-Choice.result.now in
    let a = view c.deref.result.now in
    let b = view c.deref-rest.result.now in
    let is : view c.loop-rest.rest.now ≡ choice x a b = search rules in
    let over : IsOver (choice x a b) (length names) = subst (λ (e : Expression). IsOver e (length names)) is c.loop-rest.invariant.over in
    record {
      over = over.1.1;
      same =
          value_next names x a b c.loop-rest.out c.whole.new.out c.append.new.self c.whole-in-Choice.new.out c.append-in-Choice.new.self (c.args.out.now ++ text_of (value_layout names (view c.args.e.now)))
          c.in_ok-whole.ensures c.in_ok-append.ensures.ok c.in_ok-whole-2.ensures c.in_ok-append-2.ensures.ok
          (ap (λ (e : Expression). c.loop-rest.out ++ text_of (value_layout names e)) (sym is) ∙ c.loop-rest.invariant.same);
    }
