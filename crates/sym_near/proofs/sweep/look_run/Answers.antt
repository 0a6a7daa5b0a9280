use Rattle.std.proofs.Common.{◌≡◌, ◌<◌, ℕ, length, subst, arith}
use Rattle.sym_near.specs.Sweep.{SeesRun}
use Rattle.sym_near.proofs.Sweeps.{gains_none, gains_then, sees_next, sees_whole}
use Rattle.sym_near.proofs.sweep.look_run.Goals as goal

pub put-requires-clause-first : goal.put-requires-clause-first
put-requires-clause-first c = c.requires.places c.args.p _ c.requires.p_within

pub put-requires-clause-second : goal.put-requires-clause-second
put-requires-clause-second c =
    let low : c.loop-q.q < length c.args.entries.now = omega (arith, c.loop-q-test.true, c.run_end-end.ensures.within) in
    c.requires.places c.loop-q.q _ low

pub put-requires-in-loop-q-clause-first : goal.put-requires-in-loop-q-clause-first
put-requires-in-loop-q-clause-first c =
    let low : c.loop-q.q < length c.args.entries.now = omega (arith, c.loop-q-test.true, c.run_end-end.ensures.within) in
    c.requires.places c.loop-q.q _ low

pub put-requires-in-loop-q-clause-second : goal.put-requires-in-loop-q-clause-second
put-requires-in-loop-q-clause-second c = c.requires.places c.args.p _ c.requires.p_within

pub loop-q-init : goal.loop-q-init
loop-q-init c = record {
  gains = gains_none c.args.shapes.now c.args.search.relation c.args.search.beside c.args.pairs.now.items;
  from = omega arith;
  run = λ q after low looks. absurd (c.run_start-start.ensures.skips q after low looks);
}

pub loop-q-preserved : goal.loop-q-preserved
loop-q-preserved c =
    let all = c.args.shapes.now in
    let r = c.args.search.relation in
    let beside = c.args.search.beside in
    let olds = c.loop-q.pairs.items in
    let mids = c.put.new.pairs.items in
    let news = c.put-in-loop-q.new.pairs.items in
    let f = c.in_ok-put.ensures.gains in
    let g = c.in_ok-put-2.ensures.gains in
    record {
      gains = gains_then all r beside c.args.pairs.now.items olds news c.loop-q.invariant.gains (gains_then all r beside olds mids news f g);
      from = let f = c.loop-q.invariant.from in omega (arith, f);
      run = sees_next all r beside c.args.entries.now olds mids news c.args.p c.loop-q.q f g c.loop-q.invariant.run c.in_ok-put.ensures.has c.in_ok-put-2.ensures.has;
    }

pub returns-clause-sees : goal.returns-clause-sees
returns-clause-sees c =
    let e : c.loop-q.q ≡ c.run_end-end.result = omega (arith, c.loop-q-test.false, c.loop-q.auto.q-end, c.run_end-end.ensures.from) in
    let after : c.args.p < c.run_end-end.result = omega (arith, c.run_start-start.ensures.after, c.run_end-end.ensures.from) in
    sees_whole c.args.shapes.now c.args.search.relation c.args.search.beside c.args.entries.now c.loop-q.pairs.items c.args.p c.run_end-end.result
    (subst (λ (n : ℕ). SeesRun c.args.shapes.now c.args.search.relation c.args.search.beside c.args.entries.now c.loop-q.pairs.items c.args.p n) e c.loop-q.invariant.run)
    after c.run_end-end.ensures.last
