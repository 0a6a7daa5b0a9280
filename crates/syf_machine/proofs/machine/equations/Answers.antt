use Rattle.std.proofs.Common.{◌≡◌, length, map, get_or, sym, ap, subst, ◌∙◌, arith}
use Rattle.std.proofs.lemmas.Iterator.Adapters.{YieldsList-from_vec}
use Rattle.std.proofs.lemmas.Iterator.Consumers.{YieldsList-turn}
use Rattle.vlsi_base.specs.declared.name.Name.{Name}
use Rattle.machine_core.specs.View.{equation_view}
use Rattle.syf_machine.proofs.Made.{named_none, equation_more}
use Rattle.syf_machine.proofs.machine.equations.Goals as goal

pub loop-expr-init : goal.loop-expr-init
loop-expr-init c = record {
  each = ap (λ es. length es) c.new-equations.ensures.items;
  same = ap (map equation_view) c.new-equations.ensures.items ∙ sym (named_none c.args.names.now);
}

pub loop-expr-preserved : goal.loop-expr-preserved
loop-expr-preserved c =
    let names = c.args.names.now in
    let made = c.loop-expr.yielded in
    let place : c.len.result ≡ length c.loop-expr.yielded = omega (arith, c.len.ensures, c.loop-expr.equations.ok.0, c.loop-expr.invariant.each) in
    let given = c.into_iter-expr-iterator.ensures.into_iter_gives in
    let turn = YieldsList-turn (YieldsList-from_vec {s = c.into_iter-expr-iterator.result} c.args.made.items given.0 (given.1 ∙ c.args.made.ok.0)) c.loop-expr.yielded c.loop-expr.expr-iterator
    c.loop-expr.yielded_by c.next.result c.next.new.self c.in-Some.expr c.in-Some.is c.next.ensures.steps in
    let is : c.in_ok-name.name ≡ get_or c.args.names.now (length c.loop-expr.yielded) c.in_ok-name.name =
    subst (λ (n : Name). n ≡ get_or c.args.names.now (length c.loop-expr.yielded) n) (sym c.in_ok-name.ensures)
    (c.index-names-len.is ∙ ap (λ i. get_or c.args.names.now i c.index-names-len.result) place) in
    let more = equation_more names c.loop-expr.equations.items c.push.new.self.items made c.in-Some.expr c.in_ok-name.name c.loop-expr.invariant.each c.loop-expr.invariant.same
    (omega (arith, turn.0, c.requires)) is c.in_ok-push.ensures.items in
    record { each = more.each; same = more.same }
