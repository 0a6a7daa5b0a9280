use Rattle.std.proofs.Common.{◌≡◌, ℕ, length, map, sym, subst, arith}
use Rattle.std.specs.List.{slice_index_or}
use Rattle.std.proofs.lemmas.List.{take_all}
use Rattle.vlsi_base.specs.declared.name.Name.{Name}
use Rattle.proof_joint.specs.Apart.{IsLeastApart}
use Rattle.proof_joint.proofs.Least.{both_at, first_longer, second_longer}
use Rattle.proof_joint.proofs.Roles.{now_at, nows_long, strictly, next_same}
use Rattle.proof_joint.proofs.naming.least_apart.Goals as goal

pub returns-then-k-ys-clause-some : goal.returns-then-k-ys-clause-some
returns-then-k-ys-clause-some c =
    first_longer (map (λ n. n.now) c.args.xs.now) (map (λ n. n.now) c.args.ys.now) c.requires.xs c.requires.ys c.loop-k.k c.loop-k.invariant.1 c.index-xs-k.result.now
    (omega (arith, c.loop-k-test.true, nows_long c.args.xs.now))
    (take_all c.loop-k.k (map (λ n. n.now) c.args.ys.now) (omega (arith, c.if-k-ys.true, nows_long c.args.ys.now)))
    (now_at c.args.xs.now c.loop-k.k c.index-xs-k.result c.index-xs-k.is)

pub returns-then-not-is_same-clause-some : goal.returns-then-not-is_same-clause-some
returns-then-not-is_same-clause-some c =
    let less = strictly c.loop-k.k (length c.args.ys.now) c.loop-k.invariant.0 c.if-k-ys.false in
    subst (λ (n : Name). IsLeastApart (map (λ n. n.now) c.args.xs.now) (map (λ n. n.now) c.args.ys.now) n) (sym c.lesser.ensures)
    (both_at (map (λ n. n.now) c.args.xs.now) (map (λ n. n.now) c.args.ys.now) c.requires.xs c.requires.ys c.loop-k.k c.loop-k.invariant.1 c.index-xs-k.result.now c.index-ys-k.result.now
    (omega (arith, c.loop-k-test.true, nows_long c.args.xs.now)) (omega (arith, less, nows_long c.args.ys.now))
    (now_at c.args.xs.now c.loop-k.k c.index-xs-k.result c.index-xs-k.is) (now_at c.args.ys.now c.loop-k.k c.index-ys-k.result c.index-ys-k.is)
    (λ e. absurd (let t = c.is_same.ensures.1 e in let f = c.if-not-is_same.true in cc (t, f))))

pub loop-k-preserved : goal.loop-k-preserved
loop-k-preserved c =
    let less = strictly c.loop-k.k (length c.args.ys.now) c.loop-k.invariant.0 c.if-k-ys.false in (
      omega (arith, less),
      next_same (map (λ n. n.now) c.args.xs.now) (map (λ n. n.now) c.args.ys.now) c.loop-k.k c.index-xs-k.result.now c.index-ys-k.result.now
          (omega (arith, c.loop-k-test.true, nows_long c.args.xs.now)) (omega (arith, less, nows_long c.args.ys.now))
          (now_at c.args.xs.now c.loop-k.k c.index-xs-k.result c.index-xs-k.is) (now_at c.args.ys.now c.loop-k.k c.index-ys-k.result c.index-ys-k.is)
          (c.is_same.ensures.0 c.if-not-is_same.false) c.loop-k.invariant.1,
    )

pub returns-then-xs-ys-clause-some : goal.returns-then-xs-ys-clause-some
returns-then-xs-ys-clause-some c =
    let end : c.loop-k.k ≡ length c.args.xs.now = omega (arith, c.loop-k-test.false, c.loop-k.auto.k-end) in
    let is = subst (λ (k : ℕ). c.index-ys-xs.result ≡ slice_index_or c.args.ys.now k c.index-ys-xs.result) (sym end) c.index-ys-xs.is in
    second_longer (map (λ n. n.now) c.args.xs.now) (map (λ n. n.now) c.args.ys.now) c.requires.xs c.requires.ys c.loop-k.k c.loop-k.invariant.1 c.index-ys-xs.result.now
    (omega (arith, end, c.if-xs-ys.true, nows_long c.args.ys.now))
    (take_all c.loop-k.k (map (λ n. n.now) c.args.xs.now) (omega (arith, end, nows_long c.args.xs.now)))
    (now_at c.args.ys.now c.loop-k.k c.index-ys-xs.result is)
