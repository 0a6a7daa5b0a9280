use Rattle.std.proofs.Common.{◌≡◌, ◌∙◌, ℕ, length, inl, inr, sym, subst, arith}
use Rattle.std.proofs.lemmas.Bool.{cases_lt}
use Rattle.sym_shapes.specs.Sweep.{CoversFrom, CoversRuns}
use Rattle.sym_shapes.proofs.Joins.{grows_then}
use Rattle.sym_shapes.proofs.sweep.join_runs.Goals as goal

pub loop-p-preserved : goal.loop-p-preserved
loop-p-preserved c =
    let inv = c.loop-p.invariant in
    let run = c.in_ok-join_run.ensures in
    record {
      count = sym run.grows.many ∙ inv.count;
      grows = grows_then inv.grows run.grows;
      runs = λ p low q e d after within in_run t. elim (cases_lt p c.loop-p.p) [
        | inl lt ↦ run.grows.kept _ _ (inv.runs p lt q e d after within in_run t)
        | inr ge ↦
            let same : c.loop-p.p ≡ p = omega (arith, low, ge) in
            subst (λ (x : ℕ). CoversFrom c.args.shapes.now c.args.entries.now c.join_run.new.forest.groups x) same run.covers q e d after within in_run t
      ];
    }

pub returns-clause-covers : goal.returns-clause-covers
returns-clause-covers c =
    let end : c.loop-p.p ≡ length c.args.entries.now = omega (arith, c.loop-p-test.false, c.loop-p.auto.p-end) in
    subst (λ (n : ℕ). CoversRuns c.args.shapes.now c.args.entries.now c.loop-p.forest.groups n) end c.loop-p.invariant.runs
