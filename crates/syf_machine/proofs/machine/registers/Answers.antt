use Rattle.std.proofs.Common.{◌≡◌, length, map, ap, ◌∙◌, arith}
use Rattle.std.proofs.lemmas.Iterator.Adapters.{YieldsList-from_vec}
use Rattle.std.proofs.lemmas.Iterator.Consumers.{YieldsList-turn}
use Rattle.bool_expr.specs.View.{view}
use Rattle.machine_core.specs.View.{register_view}
use Rattle.syf_machine.proofs.Targeted.{register_at, register_more}
use Rattle.syf_machine.proofs.machine.registers.Goals as goal

pub loop-next-init : goal.loop-next-init
loop-next-init c = record {
  each = ap (λ rs. length rs) c.new-registers.ensures.items;
  same = ap (map register_view) c.new-registers.ensures.items;
}

pub overflow_cast-name : goal.overflow_cast-name
overflow_cast-name c =
    let given = c.into_iter-next-iterator.ensures.into_iter_gives in
    let turn = YieldsList-turn (YieldsList-from_vec {s = c.into_iter-next-iterator.result} c.args.values.items given.0 (given.1 ∙ c.args.values.ok.0)) c.loop-next.yielded c.loop-next.next-iterator
    c.loop-next.yielded_by c.next.result c.next.new.self c.in-Some.next c.in-Some.is c.next.ensures.steps in
    omega (arith, turn.0, c.requires, c.len.ensures, c.loop-next.registers.ok.0, c.loop-next.invariant.each)

pub loop-next-preserved : goal.loop-next-preserved
loop-next-preserved c =
    let text = c.args.text.now in
    let e = c.in-Some.next in
    let place : c.len.result ≡ length c.loop-next.yielded = omega (arith, c.len.ensures, c.loop-next.registers.ok.0, c.loop-next.invariant.each) in
    let more = register_more text c.loop-next.registers.items c.push.new.self.items c.loop-next.yielded e _ c.in_ok-push.ensures.items
    (ap (λ t. register_at t c.len.result (view e)) c.in_ok-copy.ensures ∙ ap (λ k. register_at text k (view e)) place)
    (record { each = c.loop-next.invariant.each; same = c.loop-next.invariant.same }) in
    record { each = more.each; same = more.same }
