use Rattle.std.proofs.Common.{◌≡◌, ℕ, length, subst, arith}
use Rattle.sym_near.specs.Sweep.{SeesRuns}
use Rattle.sym_near.proofs.Sweeps.{gains_none, gains_then, sees_more}
use Rattle.sym_near.proofs.sweep.look_all.Goals as goal

pub loop-p-init : goal.loop-p-init
loop-p-init c = record { gains = gains_none c.args.shapes.now c.args.search.relation c.args.search.beside c.args.pairs.now.items; runs = λ p low. absurd (omega (arith, low)) }

pub loop-p-preserved : goal.loop-p-preserved
loop-p-preserved c =
    let all = c.args.shapes.now in
    let r = c.args.search.relation in
    let run = c.in_ok-look_run.ensures in
    record {
      gains = gains_then all r c.args.search.beside c.args.pairs.now.items c.loop-p.pairs.items c.look_run.new.pairs.items c.loop-p.invariant.gains run.gains;
      runs = sees_more all r c.args.search.beside c.args.entries.now c.loop-p.pairs.items c.look_run.new.pairs.items c.loop-p.p run.gains c.loop-p.invariant.runs run.sees;
    }

pub returns-clause-sees : goal.returns-clause-sees
returns-clause-sees c =
    let e : c.loop-p.p ≡ length c.args.entries.now = omega (arith, c.loop-p-test.false, c.loop-p.auto.p-end) in
    subst (λ (n : ℕ). SeesRuns c.args.shapes.now c.args.search.relation c.args.search.beside c.args.entries.now c.loop-p.pairs.items n) e c.loop-p.invariant.runs
